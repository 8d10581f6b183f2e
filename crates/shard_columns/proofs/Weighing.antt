-- What the weight of rows bounds.
use Rattle.std.proofs.Common.{◌≡◌, refl, ℕ, ◌+◌, ◌<◌, ◌≤◌, zero, suc, true, false, Bool, cond, eqb, List, [], ◌∷◌, ◌++◌, Some, length, get_or, map, find, flat_map, unwrap_or, option_map, sym, ◌∙◌, ap, arith}
use Rattle.std.specs.Prelude.{sum, sum_by}
use Rattle.std.specs.declared.cmp.Ordering.{Ordering}
use Rattle.std.specs.declared.cmp.Ordering.TheVariants.{Less, Equal, Greater}
use Rattle.std.specs.Ordering.{nat_cmp, match_ordering}
use Rattle.std.specs.List.{range_with_len}
use Rattle.std.specs.Cmp.Lexicographic.{slice_cmp}
use Rattle.std.proofs.lemmas.Grind.{flat_map-append}
use Rattle.std.proofs.lemmas.Bool.Decides.{nat_tests}
use Rattle.std.proofs.lemmas.List.Sums.{sum-map, sum_by-cons, sum_by-append}
use Rattle.std.proofs.lemmas.Map.Lookups.{exact_bytes}
use Rattle.agg_model.specs.declared.row.Scalar.{Scalar}
use Rattle.agg_model.specs.declared.row.Scalar.TheVariants as scalar
use Rattle.agg_model.specs.declared.row.FieldValues.{FieldValues}
use Rattle.agg_evaluation.specs.Ceiling.{greatest_of}
use Rattle.agg_evaluation.specs.Rows.{PlacedRow, values_of, row_of}
use Rattle.list_laws.specs.Sorting.{ascending, insert_once}
use Rattle.shard_columns.specs.Dictionary.{all_words, words_of, longest_word}
use Rattle.agg_evaluation.specs.ColumnBytes.{value_count, dictionary_bytes}
use Rattle.shard_columns.specs.Values.{Words, word_in, words_in}
use Rattle.agg_evaluation.specs.RowsWeight.{row_weight, rows_weight}
use Rattle.agg_model.specs.Weight.{scalar_weight, field_weight}
use Rattle.shard_columns.proofs.Dictionaries.{found_values, sum-cons, dictionary_bytes-words}
use Rattle.shard_columns.proofs.Counting.{more}

abbrev one_more : List ℕ → ℕ
one_more w = 1 + length w

-- a word weighs its bytes and one
abbrev pub words_weight : Words → ℕ
words_weight ws = sum_by one_more ws

words_weight-append : (vs ws : Words) → words_weight (vs ++ ws) ≡ words_weight vs + words_weight ws
words_weight-append vs ws = sum_by-append one_more vs ws

values-at_least : (vs : List Scalar) → length vs ≤ sum_by scalar_weight vs
values-at_least [] = omega arith
values-at_least (scalar.Whole n ∷ vs) = omega (arith, sum_by-cons scalar_weight (scalar.Whole n) vs, values-at_least vs)
values-at_least (scalar.Flag b ∷ vs) = omega (arith, sum_by-cons scalar_weight (scalar.Flag b) vs, values-at_least vs)
values-at_least (scalar.Word w ∷ vs) = omega (arith, sum_by-cons scalar_weight (scalar.Word w) vs, values-at_least vs)

words_in-light : (vs : List Scalar) → words_weight (words_in vs) ≤ sum_by scalar_weight vs
words_in-light [] = omega arith
words_in-light (scalar.Whole n ∷ vs) = omega (arith, sum_by-cons scalar_weight (scalar.Whole n) vs, words_in-light vs)
words_in-light (scalar.Flag b ∷ vs) = omega (arith, sum_by-cons scalar_weight (scalar.Flag b) vs, words_in-light vs)
words_in-light (scalar.Word w ∷ vs) = omega (arith, sum_by-cons scalar_weight (scalar.Word w) vs, sum_by-cons one_more w (words_in vs), words_in-light vs)

found-light : (f : ℕ) (vs : List FieldValues) → sum_by scalar_weight (found_values f vs) ≤ sum_by field_weight vs
found-light f [] = omega arith
found-light f (v ∷ vs) = pick (eqb v.field f) (found-light f vs)
  where
    pick : (b : Bool) → sum_by scalar_weight (found_values f vs) ≤ sum_by field_weight vs →
        sum_by scalar_weight (unwrap_or (option_map (λ (v : FieldValues). v.values) (cond b (Some v) (find (λ (v : FieldValues). eqb v.field f) vs))) []) ≤ sum_by field_weight (v ∷ vs)
    pick true rest = omega (arith, sum_by-cons field_weight v vs)
    pick false rest = omega (arith, rest, sum_by-cons field_weight v vs)

row-light : (f : ℕ) (r : PlacedRow) → sum_by scalar_weight (values_of f r) ≤ row_weight r
row-light f r = omega (arith, found-light f r.values)

pub rows-light : (rows : List PlacedRow) → length rows ≤ rows_weight rows
rows-light [] = omega arith
rows-light (r ∷ rs) = omega (arith, rows-light rs, sum_by-cons row_weight r rs)

pub values-light : (f : ℕ) (rows : List PlacedRow) (n : ℕ) → length (values_of f (row_of rows n)) ≤ rows_weight rows
values-light f [] n = omega arith
values-light f (r ∷ rs) zero = omega (arith, values-at_least (values_of f r), row-light f r, sum_by-cons row_weight r rs)
values-light f (r ∷ rs) (suc n) = omega (arith, values-light f rs n, sum_by-cons row_weight r rs)

count-at_most : (vs : List FieldValues) → sum (map (λ v. length v.values) vs) ≤ sum_by field_weight vs
count-at_most [] = omega arith
count-at_most (v ∷ vs) = omega (arith, sum-cons (length v.values) (map (λ v. length v.values) vs), sum_by-cons field_weight v vs, values-at_least v.values, count-at_most vs)

pub counts-light : (rows : List PlacedRow) → sum (map value_count rows) ≤ rows_weight rows
counts-light [] = omega arith
counts-light (r ∷ rs) = omega (arith, sum-cons (value_count r) (map value_count rs), sum_by-cons row_weight r rs, count-at_most r.values, counts-light rs)

all-light : (f : ℕ) (rows : List PlacedRow) → words_weight (all_words f rows) ≤ rows_weight rows
all-light f [] = omega arith
all-light f (r ∷ rs) =
    let here = words_in-light (values_of f r) in
    let parts : words_weight (all_words f (r ∷ rs)) ≡ words_weight (words_in (values_of f r)) + words_weight (all_words f rs) =
    ap words_weight (flat_map-append word_in (values_of f r) (flat_map (values_of f) rs)) ∙ words_weight-append (words_in (values_of f r)) (all_words f rs) in
    omega (arith, parts, here, row-light f r, all-light f rs, sum_by-cons row_weight r rs)

insert-light : (w : List ℕ) (ws : Words) → words_weight (insert_once (slice_cmp nat_cmp) w ws) ≤ words_weight (w ∷ ws)
insert-light w [] = omega arith
insert-light w (v ∷ vs) = pick (slice_cmp nat_cmp w v) (insert-light w vs)
  where
    pick : (o : Ordering) → words_weight (insert_once (slice_cmp nat_cmp) w vs) ≤ words_weight (w ∷ vs) → words_weight (match_ordering o (w ∷ v ∷ vs) (v ∷ vs) (v ∷ insert_once (slice_cmp nat_cmp) w vs)) ≤ words_weight (w ∷ v ∷ vs)
    pick Less rest = omega arith
    pick Equal rest = omega (arith, sum_by-cons one_more w (v ∷ vs))
    pick Greater rest = omega (arith, rest, sum_by-cons one_more w (v ∷ vs), sum_by-cons one_more w vs, sum_by-cons one_more v vs, sum_by-cons one_more v (insert_once (slice_cmp nat_cmp) w vs))

ascending-light : (ws : Words) → words_weight (ascending (slice_cmp nat_cmp) ws) ≤ words_weight ws
ascending-light [] = omega arith
ascending-light (w ∷ ws) =
    omega (arith, insert-light w (ascending (slice_cmp nat_cmp) ws), sum_by-cons one_more w (ascending (slice_cmp nat_cmp) ws), sum_by-cons one_more w ws, ascending-light ws)

pub words-light : (f : ℕ) (rows : List PlacedRow) → words_weight (words_of f rows) ≤ rows_weight rows
words-light f rows = omega (arith, ascending-light (all_words f rows), all-light f rows)

pub length-words : (ws : Words) → length ws ≤ words_weight ws
length-words [] = omega arith
length-words (w ∷ ws) = omega (arith, length-words ws, sum_by-cons one_more w ws)

pub bytes-words : (ws : Words) → sum_by length ws ≤ words_weight ws
bytes-words [] = omega arith
bytes-words (w ∷ ws) = omega (arith, bytes-words ws, sum_by-cons one_more w ws, sum_by-cons length w ws)

-- the longest of distinct words is the longest of all

more-swap : (a b r : ℕ) → more a (more b r) ≡ more b (more a r)
more-swap a b r = grind (arith, nat_tests)

more-same : (a r : ℕ) → more a (more a r) ≡ more a r
more-same a r = grind (arith, nat_tests)

insert-longest : (w : List ℕ) (ws : Words) → greatest_of (map length (insert_once (slice_cmp nat_cmp) w ws)) ≡ greatest_of (map length (w ∷ ws))
insert-longest w [] = refl
insert-longest w (v ∷ vs) = pick (slice_cmp nat_cmp w v) refl (insert-longest w vs)
  where
    pick : (o : Ordering) → slice_cmp nat_cmp w v ≡ o → greatest_of (map length (insert_once (slice_cmp nat_cmp) w vs)) ≡ greatest_of (map length (w ∷ vs)) →
        greatest_of (map length (match_ordering o (w ∷ v ∷ vs) (v ∷ vs) (v ∷ insert_once (slice_cmp nat_cmp) w vs))) ≡ greatest_of (map length (w ∷ v ∷ vs))
    pick Less e rest = refl
    pick Equal e rest = sym (more-same (length v) (greatest_of (map length vs))) ∙ ap (λ (u : List ℕ). more (length u) (more (length v) (greatest_of (map length vs)))) (sym (exact_bytes w v e))
    pick Greater e rest = ap (more (length v)) rest ∙ more-swap (length v) (length w) (greatest_of (map length vs))

ascending-longest : (ws : Words) → greatest_of (map length (ascending (slice_cmp nat_cmp) ws)) ≡ greatest_of (map length ws)
ascending-longest [] = refl
ascending-longest (w ∷ ws) = insert-longest w (ascending (slice_cmp nat_cmp) ws) ∙ ap (more (length w)) (ascending-longest ws)

pub longest-words : (f : ℕ) (rows : List PlacedRow) → greatest_of (map length (words_of f rows)) ≡ longest_word f rows
longest-words f rows = ascending-longest (all_words f rows)

-- the bytes of all dictionaries, by the fields
by-place : (g : ℕ → Words) (xs : List Words) (a : ℕ) → ((k : ℕ) → k < length xs → get_or xs k [] ≡ g (a + k)) → sum_by (λ ws. sum_by length ws) xs ≡ sum_by (λ f. sum_by length (g f)) (range_with_len a (length xs))
by-place g [] a same = refl
by-place g (x ∷ xs) a same =
    let here : x ≡ g a = same 0 (omega arith) ∙ ap g (let e : a + 0 ≡ a = omega arith in e) in
    let rest = by-place g xs (a + 1) (λ k below. same (suc k) (omega arith) ∙ ap g (let e : a + suc k ≡ a + 1 + k = omega arith in e)) in
    sum_by-cons (λ (ws : Words). sum_by length ws) x xs ∙ ((λ i. sum_by length (here i) + rest i) ∙ sym (sum_by-cons (λ (f : ℕ). sum_by length (g f)) a (range_with_len (a + 1) (length xs))))

same-sums : (f g : ℕ → ℕ) (xs : List ℕ) → ((x : ℕ) → f x ≡ g x) → sum_by f xs ≡ sum_by g xs
same-sums f g [] same = refl
same-sums f g (x ∷ xs) same = sum_by-cons f x xs ∙ ((λ i. same x i + same-sums f g xs same i) ∙ sym (sum_by-cons g x xs))

pub dictionaries-bytes : (rows : List PlacedRow) (words : List Words) (fields : ℕ) → length words ≡ fields → ((f : ℕ) → get_or words f [] ≡ words_of f rows) →
    sum_by (λ ws. sum_by length ws) words ≡ sum (map (dictionary_bytes rows) (range_with_len 0 fields))
dictionaries-bytes rows words fields size same =
    by-place (λ f. words_of f rows) words 0 (λ k below. same k ∙ ap (λ (f : ℕ). words_of f rows) (let e : k ≡ 0 + k = omega arith in e))
    ∙ (ap (λ (n : ℕ). sum_by (λ f. sum_by length (words_of f rows)) (range_with_len 0 n)) size
    ∙ (same-sums (λ f. sum_by length (words_of f rows)) (dictionary_bytes rows) (range_with_len 0 fields) (λ f. sym (dictionary_bytes-words f rows ∙ sum-map length (words_of f rows)))
    ∙ sym (sum-map (dictionary_bytes rows) (range_with_len 0 fields))))
