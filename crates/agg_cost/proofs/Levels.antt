-- The bound of an aggregation, one level at a time, over numbers that stop at 64 bits.
use Rattle.std.proofs.Common.{◌≡◌, refl, ℕ, ◌+◌, ◌*◌, List, map, sym, ◌∙◌, ap}
use Rattle.std.specs.Prelude.{sum_by}
use Rattle.std.proofs.lemmas.List.Sums.{sum-map}
use Rattle.list_laws.proofs.Lists.{sum_by-map}
use Rattle.agg_model.specs.declared.mapping.FieldKind.{FieldKind}
use Rattle.agg_model.specs.declared.aggregation.Agg.{Agg, out-Agg}
use Rattle.agg_model.specs.declared.aggregation.Kind.{Kind}
use Rattle.agg_evaluation.specs.Rows.{PlacedRow}
use Rattle.agg_evaluation.specs.Whole.{Shape, by_key, from_start, a_number, shape_of}
use Rattle.agg_evaluation.specs.Ceiling.{Reached, path_count, handed_on, bucket_bound, key_bound, node_bound, node_bound_at}
use Rattle.agg_evaluation.proofs.AggFolds.{fold_agg-level}
use Rattle.agg_cost.proofs.RowBound.{bound_parts}
use Rattle.agg_cost.specs.Capped.{capped, Alike}
use Rattle.agg_cost.specs.Paths.{over_paths, AreAlike}
use Rattle.agg_cost.proofs.Capping.{alike-add, alike-mul, alike-sum}
use Rattle.agg_cost.proofs.Splitting.{bound-splits, path_count-over}

pub alike-count : (rs qs : List Reached) → AreAlike rs qs → Alike (path_count rs) (path_count qs)
alike-count rs qs e = ap capped (path_count-over rs) ∙ (e (λ r. 1) ∙ ap capped (sym (path_count-over qs)))

module _ (kinds : List FieldKind) (all : List PlacedRow) where
  pub alike-bound : (a : Agg) (m n : ℕ) (rs qs : List Reached) → Alike m n → AreAlike rs qs → Alike (node_bound kinds all a m rs) (node_bound kinds all a n qs)
  alike-bound a m n rs qs nodes paths =
      let parts = bound_parts kinds all a in
      ap capped (bound-splits kinds all a m rs)
      ∙ (alike-add (m * parts.empty) (n * parts.empty) (over_paths parts.of_row rs) (over_paths parts.of_row qs) (alike-mul m n parts.empty parts.empty nodes refl) (paths parts.of_row)
      ∙ ap capped (sym (bound-splits kinds all a n qs)))

  pub alike-buckets : (k : Kind) (shape : Shape) (nodes p q : ℕ) → Alike p q → Alike (bucket_bound kinds all k shape nodes p) (bucket_bound kinds all k shape nodes q)
  alike-buckets k by_key nodes p q e = e
  alike-buckets k from_start nodes p q e = refl
  alike-buckets k a_number nodes p q e = refl

  -- one level: the nodes, their buckets, and what the children have
  pub bound-level : (a : Agg) (nodes : ℕ) (rs : List Reached) →
      let k = (out-Agg a).kind in
      let handed = handed_on kinds all k rs in
      let buckets = bucket_bound kinds all k (shape_of k) nodes (path_count handed) in
      node_bound kinds all a nodes rs ≡ (nodes * 512 + buckets * (128 + key_bound kinds all k)) + sum_by (λ c. node_bound kinds all c buckets handed) (out-Agg a).children
  bound-level a nodes rs =
      let k = (out-Agg a).kind in
      let handed = handed_on kinds all k rs in
      let buckets = bucket_bound kinds all k (shape_of k) nodes (path_count handed) in
      ap (λ (bound : ℕ → List Reached → ℕ). bound nodes rs) (fold_agg-level (node_bound_at kinds all) a)
      ∙ ap (λ (n : ℕ). (nodes * 512 + buckets * (128 + key_bound kinds all k)) + n)
      (sum-map (λ (child : ℕ → List Reached → ℕ). child buckets handed) (map (node_bound kinds all) (out-Agg a).children)
      ∙ sum_by-map (λ (child : ℕ → List Reached → ℕ). child buckets handed) (node_bound kinds all) (out-Agg a).children)

  -- from the paths and the buckets that were counted
  pub bound-counted : (a : Agg) (nodes : ℕ) (rs : List Reached) (handed : List Reached) (buckets : ℕ) (bytes : ℕ) →
      let k = (out-Agg a).kind in
      AreAlike handed (handed_on kinds all k rs) → Alike buckets (bucket_bound kinds all k (shape_of k) nodes (path_count handed))
      → Alike bytes (nodes * 512 + buckets * (128 + key_bound kinds all k))
      → Alike (bytes + sum_by (λ c. node_bound kinds all c buckets handed) (out-Agg a).children) (node_bound kinds all a nodes rs)
  bound-counted a nodes rs handed buckets bytes paths counted own =
      let k = (out-Agg a).kind in
      let exact = handed_on kinds all k rs in
      let most = bucket_bound kinds all k (shape_of k) nodes (path_count exact) in
      let bucket = 128 + key_bound kinds all k in
      let same : Alike buckets most = counted ∙ alike-buckets k (shape_of k) nodes (path_count handed) (path_count exact) (alike-count handed exact paths) in
      alike-add bytes (nodes * 512 + most * bucket) (sum_by (λ c. node_bound kinds all c buckets handed) (out-Agg a).children) (sum_by (λ c. node_bound kinds all c most exact) (out-Agg a).children)
      (own ∙ alike-add (nodes * 512) (nodes * 512) (buckets * bucket) (most * bucket) refl (alike-mul buckets most bucket bucket same refl))
      (alike-sum (λ c. node_bound kinds all c buckets handed) (λ c. node_bound kinds all c most exact) (out-Agg a).children (λ c. alike-bound c buckets most handed exact same paths))
      ∙ ap capped (sym (bound-level a nodes rs))
