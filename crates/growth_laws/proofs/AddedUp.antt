-- Metrics, paths and matched roots of two lists.
use Rattle.std.specs.Prelude.{◌≡◌, refl, ℕ, zero, suc, ◌+◌, ◌*◌, ℤ, pos, ◌+ℤ◌, Bool, true, false, cond, ◌++◌, List, [], ◌∷◌, filter, filter_map, flat_map, if◌then◌else◌, length, map, Option, None, Some, option_to_list, slice_get, sum_by, unwrap_or}
use Rattle.std.specs.Int.{int_max, int_min}
use Rattle.std.specs.List.{cons_option, range_with_len, reduce}
use Rattle.std.proofs.Common.{sym, ◌∙◌, ap, add-one, arith, length-append}
use Rattle.std.proofs.lemmas.Int.{ints}
use Rattle.std.proofs.lemmas.List.Sums.{sum_by-append, sum_by-cons, sum-map}
use Rattle.agg_model.specs.declared.aggregation.Kind.{Kind}
use Rattle.agg_model.specs.declared.mapping.FieldKind.{FieldKind}
use Rattle.agg_model.specs.declared.partial.Metric.{Metric}
use Rattle.agg_model.specs.declared.query.Query.{Query}
use Rattle.agg_model.specs.declared.row.Scalar.{Scalar}
use Rattle.agg_evaluation.specs.Ceiling.{Reached, counted_from, handed_on, path_count}
use Rattle.agg_evaluation.specs.Groups.{under}
use Rattle.agg_evaluation.specs.Keys.{keys}
use Rattle.agg_evaluation.specs.Matching.{matched_roots, matches}
use Rattle.agg_evaluation.specs.Rows.{PlacedRow, roots}
use Rattle.agg_evaluation.specs.Shard.{int_sum, integer_of, metric_of}
use Rattle.agg_evaluation.specs.Whole.{metric_sum}
use Rattle.agg_evaluation.proofs.MetricLaws.{int_sum-append, join, max_assoc, min_assoc, reduce-append}
use Rattle.list_laws.proofs.Lists.{filter_map-append, flat_map-append, map-append}

-- two counts, summed up
two-counts : (a b : Metric) → sum_by (λ m. m.count) (a ∷ b ∷ []) ≡ a.count + b.count
two-counts a b = let first = sum_by-cons (λ (m : Metric). m.count) a (b ∷ []) in let second = sum_by-cons (λ (m : Metric). m.count) b [] in omega arith

-- two results as one are reduced as a list of them
join-two : (f : ℤ → ℤ → ℤ) (assoc : (a b c : ℤ) → f (f a b) c ≡ f a (f b c)) (x y : Option ℤ) → join f assoc x y ≡ reduce f (cons_option x (cons_option y []))
join-two f assoc None None = refl
join-two f assoc None (Some b) = refl
join-two f assoc (Some a) None = refl
join-two f assoc (Some a) (Some b) = refl

-- the metric of two lists of values
pub metrics-add : (xs ys : List Scalar) → metric_of (xs ++ ys) ≡ metric_sum (metric_of xs ∷ metric_of ys ∷ [])
metrics-add xs ys =
    let numbers = filter_map-append integer_of xs ys in
    let m = filter_map integer_of xs in
    let n = filter_map integer_of ys in
    let total : int_sum (m ++ n) ≡ int_sum m +ℤ (int_sum n +ℤ pos 0) = (let e = int_sum-append m n in omega (arith, ints)) in
    λ i. record {
      count = (length-append xs ys ∙ sym (two-counts (metric_of xs) (metric_of ys))) i;
      sum = (ap int_sum numbers ∙ total) i;
      least = (ap (reduce int_min) numbers ∙ reduce-append int_min min_assoc m n ∙ join-two int_min min_assoc (reduce int_min m) (reduce int_min n)) i;
      greatest = (ap (reduce int_max) numbers ∙ reduce-append int_max max_assoc m n ∙ join-two int_max max_assoc (reduce int_max m) (reduce int_max n)) i;
    }

module _ (kinds : List FieldKind) (all : List PlacedRow) (k : Kind) where
  -- rows that are handed on come list by list
  pub handed-add : (xs ys : List Reached) → handed_on kinds all k (xs ++ ys) ≡ handed_on kinds all k xs ++ handed_on kinds all k ys
  handed-add xs ys =
      ap (map (λ (r : Reached). (r.0, r.1 * length (keys all k r.0)))) (flat_map-append (λ (r : Reached). map (λ row. (row, r.1)) (under all (r.0 ∷ []) k (r.0 ∷ []))) xs ys)
      ∙ map-append (λ (r : Reached). (r.0, r.1 * length (keys all k r.0))) (counted_from kinds all k xs) (counted_from kinds all k ys)

  -- and so do their paths
  pub paths-add : (xs ys : List Reached) → path_count (handed_on kinds all k (xs ++ ys)) ≡ path_count (handed_on kinds all k xs) + path_count (handed_on kinds all k ys)
  paths-add xs ys =
      ap path_count (handed-add xs ys) ∙ sum-map (λ (r : Reached). r.1) (handed_on kinds all k xs ++ handed_on kinds all k ys)
      ∙ sum_by-append (λ (r : Reached). r.1) (handed_on kinds all k xs) (handed_on kinds all k ys)
      ∙ (λ i. sym (sum-map (λ (r : Reached). r.1) (handed_on kinds all k xs)) i + sym (sum-map (λ (r : Reached). r.1) (handed_on kinds all k ys)) i)

-- from the next place on
shifted : {A : Type 0} (g : ℕ → List A) (a k : ℕ) → flat_map g (range_with_len (a + 1) k) ≡ flat_map (λ i. g (suc i)) (range_with_len a k)
shifted g a zero = refl
shifted g a (suc k) = λ i. ap g (add-one a) i ++ shifted g (a + 1) k i

-- the items that pass are, place by place, those whose bit is true
set-bits : {A : Type 0} (p : A → Bool) (xs : List A)
    → filter p xs ≡ flat_map (λ i. if unwrap_or (slice_get (map p xs) i) false then option_to_list (slice_get xs i) else []) (range_with_len 0 (length xs))
set-bits p [] = refl
set-bits p (x ∷ xs) =
    elim (p x) as (λ b. cond b (x ∷ filter p xs) (filter p xs) ≡ (if b then x ∷ [] else []) ++ flat_map (λ i. if unwrap_or (slice_get (map p xs) i) false then option_to_list (slice_get xs i) else []) (range_with_len 0 (length xs))) [
      | true ↦ ap (λ ys. x ∷ ys) (set-bits p xs)
      | false ↦ set-bits p xs
    ]
    ∙ ap (λ ys. (if p x then x ∷ [] else []) ++ ys) (sym (shifted (λ i. if unwrap_or (slice_get (map p (x ∷ xs)) i) false then option_to_list (slice_get (x ∷ xs) i) else []) 0 (length xs)))

-- the matched roots
pub matched-bits : (all : List PlacedRow) (query : Query) (bits : List Bool) → bits ≡ map (matches all query) (roots all)
    → matched_roots all query ≡ flat_map (λ i. if unwrap_or (slice_get bits i) false then option_to_list (slice_get (roots all) i) else []) (range_with_len 0 (length (roots all)))
matched-bits all query bits e =
    set-bits (matches all query) (roots all)
    ∙ ap (λ bs. flat_map (λ i. if unwrap_or (slice_get bs i) false then option_to_list (slice_get (roots all) i) else []) (range_with_len 0 (length (roots all)))) (sym e)
