-- Different codes have different keys.
use Rattle.std.specs.Prelude.{◌≡◌, refl, ℕ, map, ℤ, pos, negsuc, Bool, true, false, T, List, [], ◌∷◌}
use Rattle.std.proofs.Common.{sym, ◌∙◌, ap, subst, arith}
use Rattle.std.specs.List.{list_all}
use Rattle.std.proofs.lemmas.Bool.{false≢true}
use Rattle.list_laws.proofs.Booleans.{and_first, and_second}
use Rattle.agg_evaluation.specs.Cost.{key_bytes}
use Rattle.shard_columns.specs.Values.{Words}
use Rattle.terms_agg.specs.Codes.{code_words, content_in, is_code, key_at, key_of}
use Rattle.terms_agg.specs.Prepared.{IsReady}
use Rattle.filters_agg.specs.declared.prepared_filters.PreparedFilters.{PreparedFilters}
use Rattle.date_agg.proofs.Coding.{keys-apart as periods-apart}
use Rattle.histogram_agg.proofs.Coding.{keys-apart}
use Rattle.terms_agg.specs.declared.content.Content.{Content}
use Rattle.terms_agg.specs.declared.content.Content.TheVariants as content
use Rattle.terms_agg.specs.declared.prepared.PreparedTerms.{PreparedTerms}
use Rattle.terms_agg.proofs.Coding.{codes-apart}
use Rattle.agg_model.specs.declared.aggregation.Kind.{Kind}
use Rattle.agg_model.specs.declared.key.Key.{Key}
use Rattle.agg_model.specs.declared.key.Key.TheOpen.{Key-F}
use Rattle.agg_model.specs.declared.key.Key.TheVariants as key
use Rattle.agg_evaluation.specs.Folds.{fold_key}
use Rattle.agg_evaluation.proofs.Computing.{computing}
use Rattle.shard_columns.specs.Columns.{Columns}
use Rattle.growing_tree.specs.Codes.{code_key, fixed_key, key_where, no_key}
use Rattle.growing_tree.specs.Readiness.{IsKindReady}
use Rattle.growing_tree.specs.declared.ready.ReadyKind.{ReadyKind}
use Rattle.growing_tree.specs.declared.ready.ReadyKind.TheVariants.{Single, Metric, Terms, Filters, Histogram, DateHistogram, Composite}

-- the number that a key shows
number_at : Key-F ℤ → ℤ
number_at (Key-F.Fixed n) = pos n
number_at (Key-F.Many (k ∷ pos n ∷ [])) = pos n
number_at (Key-F.Many (k ∷ pos n ∷ j ∷ ns)) = negsuc n
number_at _ = pos 0

is_list_at : Key-F Bool → Bool
is_list_at (Key-F.Many ks) = true
is_list_at _ = false

is_list : Key → Bool
is_list = fold_key is_list_at

no_key-own : (c d : ℤ) (k j : Key) → no_key c k ≡ no_key d j → c ≡ d
unfolding computing number_at
no_key-own (pos m) (pos n) k j e = ap (fold_key number_at) e
no_key-own (pos m) (negsuc n) k j e = ap (fold_key number_at) e
no_key-own (negsuc m) (pos n) k j e = ap (fold_key number_at) e
no_key-own (negsuc m) (negsuc n) k j e = ap (fold_key number_at) e

fixed-own : (c d : ℤ) → fixed_key c ≡ fixed_key d → c ≡ d
unfolding computing number_at is_list is_list_at
fixed-own (pos m) (pos n) e = ap (fold_key number_at) e
fixed-own (pos m) (negsuc n) e = absurd (subst (λ k. T (is_list k)) (sym e) tt)
fixed-own (negsuc m) (pos n) e = absurd (subst (λ k. T (is_list k)) e tt)
fixed-own (negsuc m) (negsuc n) e = no_key-own (negsuc m) (negsuc n) (key.Fixed 0) (key.Fixed 0) e

-- the keys of terms are no lists
not-list : (c : Content) (ws : Words) (code : ℤ) → is_list (key_at c ws code) ≡ false
unfolding computing is_list is_list_at
not-list content.Wholes ws code = refl
not-list content.Flags ws code = refl
not-list content.Words ws code = refl

a-list : (code : ℤ) (k : Key) → is_list (no_key code k) ≡ true
unfolding computing is_list is_list_at
a-list (pos n) k = refl
a-list (negsuc n) k = refl

terms-own : (shard : Columns) (k : Kind) (p : PreparedTerms) → IsReady shard k p → (c d : ℤ) → code_key shard (Terms p) c ≡ code_key shard (Terms p) d → c ≡ d
terms-own shard k p h c d = by_cases (is_code shard p c) (is_code shard p d) refl refl
  where
    list-of : (code : ℤ) → is_list (key_of shard p code) ≡ false
    list-of code = not-list (content_in shard p.field) (code_words shard p) code

    by_cases : (a b : Bool) → is_code shard p c ≡ a → is_code shard p d ≡ b → key_where a c (key_of shard p c) ≡ key_where b d (key_of shard p d) → c ≡ d
    by_cases true true e f same = codes-apart (content_in shard p.field) p.field shard.rows p.other h.ready.other c d e f same
    by_cases true false e f same = absurd (false≢true (sym (list-of c) ∙ ap is_list same ∙ a-list d (key_of shard p d)))
    by_cases false true e f same = absurd (false≢true (sym (list-of d) ∙ ap is_list (sym same) ∙ a-list c (key_of shard p c)))
    by_cases false false e f same = no_key-own c d (key_of shard p c) (key_of shard p d) same

pub codes-own : (shard : Columns) (k : Kind) (r : ReadyKind) → IsKindReady shard k r → (c d : ℤ) → code_key shard r c ≡ code_key shard r d → c ≡ d
codes-own shard k Single h c d e = fixed-own c d e
codes-own shard k Metric h c d e = fixed-own c d e
codes-own shard k (Terms p) h c d e = terms-own shard k p h c d e
codes-own shard k (Filters p) h c d e = fixed-own c d e
codes-own shard k (Histogram p) h c d e = keys-apart p c d e
codes-own shard k (DateHistogram p) h c d e = periods-apart p c d e
codes-own shard k Composite h c d e = fixed-own c d e

-- the bytes of keys that no row has
no-bytes : (code : ℤ) (k : Key) → key_bytes (no_key code k) ≡ key_bytes k
unfolding computing
no-bytes (pos n) k = omega arith
no-bytes (negsuc n) k = omega arith

pub fixed-bytes : (code : ℤ) → key_bytes (fixed_key code) ≡ 0
unfolding computing
fixed-bytes (pos n) = refl
fixed-bytes (negsuc n) = no-bytes (negsuc n) (key.Fixed 0)

pub where-bytes : (b : Bool) (code : ℤ) (k : Key) → key_bytes (key_where b code k) ≡ key_bytes k
where-bytes true code k = refl
where-bytes false code k = no-bytes code k

-- the keys of codes
pub where-codes : (shard : Columns) (p : PreparedTerms) (cs : List ℤ) → list_all (is_code shard p) cs ≡ true → map (code_key shard (Terms p)) cs ≡ map (key_of shard p) cs
where-codes shard p [] h = refl
where-codes shard p (c ∷ cs) h = λ i. key_where (and_first (is_code shard p c) _ h i) c (key_of shard p c) ∷ where-codes shard p cs (and_second (is_code shard p c) _ h) i

pub filter-codes : (shard : Columns) (p : PreparedFilters) (ns : List ℕ) → map (code_key shard (Filters p)) (map pos ns) ≡ map key.Fixed ns
filter-codes shard p [] = refl
filter-codes shard p (n ∷ ns) = ap (λ ks. key.Fixed n ∷ ks) (filter-codes shard p ns)
