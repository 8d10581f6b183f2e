-- The order of a composite aggregation's keys, made exact, and its page in that order.
use Rattle.std.specs.Prelude.{◌≡◌, refl, ℕ, Bool, true, false, T, List, [], ◌∷◌, length, Option, take, filter}
use Rattle.std.specs.Option.{option_map_or}
use Rattle.std.specs.declared.cmp.Ordering.{Ordering}
use Rattle.std.specs.declared.cmp.Ordering.TheVariants.{Less, Equal, Greater}
use Rattle.std.specs.Ordering.{is_gt, is_lt, ordering_then}
use Rattle.std.specs.Cmp.{IsTotalOrder, tied_itself}
use Rattle.std.proofs.Common.{sym, ◌∙◌, ap, subst, arith}
use Rattle.std.proofs.lemmas.Bool.{false≢true, eqb-true}
use Rattle.std.proofs.lemmas.Cmp.{on_total, then_total}
use Rattle.agg_model.specs.declared.aggregation.CompositeSource.{CompositeSource}
use Rattle.agg_model.specs.declared.key.Key.{Key, out-Key, roll-Key, roll-out-Key}
use Rattle.agg_model.specs.declared.key.Key.TheOpen.{Key-F}
use Rattle.agg_model.specs.declared.key.Key.TheVariants.{Many}
use Rattle.agg_evaluation.specs.KeyOrder.{directed, key_cmp}
use Rattle.agg_evaluation.specs.Orders.{composite_cmp}
use Rattle.agg_evaluation.specs.Shard.{page}
use Rattle.list_laws.specs.Sorting.{sorted}
use Rattle.agg_evaluation.proofs.Computing.{computing}
use Rattle.agg_evaluation.proofs.KeyCompare.{key_cmp_total}
use Rattle.agg_evaluation.proofs.KeyExact.{exact_keys}
use Rattle.bucket_order.specs.Composites.{any_parts_cmp, key_parts}
use Rattle.agg_evaluation.specs.CompositeKeys.{has_parts, is_composite_of}
use Rattle.bucket_order.proofs.CompositeLaws.{any_parts_total, same_composites}
use Rattle.growth_laws.proofs.Pages.{Has}
use Rattle.growth_laws.proofs.Ordered.{Distinct, front, sorted-agree, sorted-distinct}

-- part by part, and then as keys
abbrev pub exact_cmp : List CompositeSource → Key → Key → Ordering
exact_cmp sources j k = ordering_then (any_parts_cmp sources (key_parts j) (key_parts k)) (key_cmp j k)

-- this order is total
pub exact_cmp_total : (sources : List CompositeSource) → IsTotalOrder (exact_cmp sources)
exact_cmp_total sources = then_total (on_total key_parts (any_parts_total sources)) key_cmp_total

-- a comparison in a direction, and another where it is equal: both are
parts_equal : (d : Bool) (o p : Ordering) → ordering_then (directed d o) p ≡ Equal → (o ≡ Equal) × (p ≡ Equal)
parts_equal true Less p e = absurd (subst (λ o. T (is_gt o)) e tt)
parts_equal true Equal p e = (refl, e)
parts_equal true Greater p e = absurd (subst (λ o. T (is_lt o)) e tt)
parts_equal false Less p e = absurd (subst (λ o. T (is_lt o)) e tt)
parts_equal false Equal p e = (refl, e)
parts_equal false Greater p e = absurd (subst (λ o. T (is_gt o)) e tt)

-- keys that compare alike in it are one
pub exact_cmp_exact : (sources : List CompositeSource) (j k : Key) → exact_cmp sources j k ≡ Equal → j ≡ k
exact_cmp_exact sources j k e = exact_keys j k (parts_equal false (any_parts_cmp sources (key_parts j) (key_parts k)) (key_cmp j k) e).1

-- parts that compare alike are the same
parts-exact : (sources : List CompositeSource) (js ks : List Key) → length js ≡ length sources → length ks ≡ length sources → any_parts_cmp sources js ks ≡ Equal → js ≡ ks
parts-exact [] [] [] e f h = refl
parts-exact [] (j ∷ js) ks e f h = absurd (omega arith)
parts-exact [] [] (k ∷ ks) e f h = absurd (omega arith)
parts-exact (s ∷ ss) [] ks e f h = absurd (omega arith)
parts-exact (s ∷ ss) (j ∷ js) [] e f h = absurd (omega arith)
parts-exact (s ∷ ss) (j ∷ js) (k ∷ ks) e f h =
    let parts = parts_equal s.descending (key_cmp j k) (any_parts_cmp ss js ks) h in
    λ i. exact_keys j k parts.0 i ∷ parts-exact ss js ks (omega arith) (omega arith) parts.1 i

-- a composite key is made of its parts
made-Many : (n : ℕ) (k : Key) → is_composite_of n k ≡ true → (Many (key_parts k) ≡ k) × (length (key_parts k) ≡ n)
unfolding computing
made-Many n k e = by (out-Key k) refl
  where
    by : (o : Key-F Key) → out-Key k ≡ o → (Many (key_parts k) ≡ k) × (length (key_parts k) ≡ n)
    by Key-F.Null f = absurd (false≢true (sym (ap (has_parts n) f) ∙ e))
    by (Key-F.Whole m) f = absurd (false≢true (sym (ap (has_parts n) f) ∙ e))
    by (Key-F.Flag b) f = absurd (false≢true (sym (ap (has_parts n) f) ∙ e))
    by (Key-F.Word w) f = absurd (false≢true (sym (ap (has_parts n) f) ∙ e))
    by (Key-F.Fixed m) f = absurd (false≢true (sym (ap (has_parts n) f) ∙ e))
    by (Key-F.Many ks) f =
        let parts : key_parts k ≡ ks = ap Rattle.agg_evaluation.specs.CompositeKeys.key_parts_at f in
        (ap Many parts ∙ ap roll-Key (sym f) ∙ roll-out-Key k, ap length parts ∙ eqb-true _ _ (sym (ap (has_parts n) f) ∙ e))

module _ (sources : List CompositeSource) where
  -- on keys with a part for each source the exact order is the stated one
  pub same-order : (j k : Key) → is_composite_of (length sources) j ≡ true → is_composite_of (length sources) k ≡ true → exact_cmp sources j k ≡ composite_cmp sources j k
  same-order j k e f =
      settled (any_parts_cmp sources (key_parts j) (key_parts k)) (λ h.
      let made_j = made-Many (length sources) j e in
      let made_k = made-Many (length sources) k f in
      let same = parts-exact sources (key_parts j) (key_parts k) made_j.1 made_k.1 h in
      ap (λ i. key_cmp i k) (sym made_j.0 ∙ ap Many same ∙ made_k.0) ∙ tied_itself key_cmp_total k)
      ∙ same_composites sources j k e f
    where
      settled : (o : Ordering) → (o ≡ Equal → key_cmp j k ≡ Equal) → ordering_then o (key_cmp j k) ≡ o
      settled Less h = refl
      settled Equal h = h refl
      settled Greater h = refl

  -- the key stands in the list
  abbrev pub In : Key → List Key → Type 0
  In = Has (exact_cmp sources) (exact_cmp_total sources)

  -- the keys beyond `after`
  abbrev pub beyond : Option Key → Key → Bool
  beyond after k = option_map_or (λ a. is_gt (composite_cmp sources k a)) after true

  -- the page of distinct keys with a part for each source
  pub page-front : (size : ℕ) (after : Option Key) (ks : List Key) → ((k : Key) → In k ks → is_composite_of (length sources) k ≡ true) → Distinct (exact_cmp sources) (exact_cmp_total sources) (exact_cmp_exact sources) ks
      → page sources size after ks ≡ sorted key_cmp (front (exact_cmp sources) (exact_cmp_total sources) (exact_cmp_exact sources) (beyond after) size ks)
  page-front size after ks composite distinct =
      ap (λ xs. sorted key_cmp (take size (filter (beyond after) xs)))
      (sym (sorted-agree (exact_cmp sources) (composite_cmp sources) (exact_cmp_total sources) ks (λ j k h g. same-order j k (composite j h) (composite k g)))
      ∙ sorted-distinct (exact_cmp sources) (exact_cmp_total sources) (exact_cmp_exact sources) ks distinct)
