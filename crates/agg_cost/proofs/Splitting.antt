-- The bound of an aggregation is that of its empty nodes and of each path to a row.
use Rattle.std.proofs.Common.{◌≡◌, refl, ℕ, ◌+◌, ◌*◌, List, [], ◌∷◌, map, length, sym, ◌∙◌, ap, arith, mul_assoc}
use Rattle.std.specs.Prelude.{sum, sum_by}
use Rattle.std.proofs.lemmas.List.Sums.{sum_by-cons}
use Rattle.list_laws.proofs.Lists.{sum_by-map}
use Rattle.list_laws.proofs.Sums.{sum_by-plus}
use Rattle.agg_model.specs.declared.mapping.FieldKind.{FieldKind}
use Rattle.agg_model.specs.declared.aggregation.Kind.{Kind}
use Rattle.agg_model.specs.declared.aggregation.Agg.{Agg, Agg', Row_of-Agg, end_of-Agg, more_of-Agg}
use Rattle.agg_evaluation.specs.Folds.{fold_aggs}
use Rattle.agg_evaluation.specs.Rows.{PlacedRow}
use Rattle.agg_evaluation.specs.Keys.{keys}
use Rattle.agg_evaluation.specs.Groups.{under}
use Rattle.agg_evaluation.specs.Shard.{fixed_keys}
use Rattle.agg_evaluation.specs.Whole.{Shape, by_key, from_start, a_number, shape_of}
use Rattle.agg_evaluation.specs.Ceiling.{Reached, path_count, counted_from, handed_on, bucket_bound, key_bound, node_bound, node_bound_at}
use Rattle.evaluation_laws.proofs.CoverLaws.{over_paths-counted}
use Rattle.agg_cost.specs.Paths.{over_paths}
use Rattle.agg_cost.proofs.RowBound.{BoundParts, started_bytes, path_bytes, bucket_bytes, bound_parts, bound_parts_at}

abbrev Bound : Type 0
Bound = ℕ → List Reached → ℕ

-- paths of which each has the same bytes, and some of its own
with_each : (n : ℕ) (f : PlacedRow → ℕ) (rs : List Reached) → over_paths (λ r. n + f r) rs ≡ path_count rs * n + over_paths f rs
with_each n f [] = omega arith
with_each n f (r ∷ rs) =
    let whole = sum_by-cons (λ (r : Reached). r.1 * (n + f r.0)) r rs in
    let part = sum_by-cons (λ (r : Reached). r.1 * f r.0) r rs in
    let counts = sum_by-cons (λ (n : ℕ). n) r.1 (map (λ (r : Reached). r.1) rs) in
    let rest = with_each n f rs in
    let paths : path_count (r ∷ rs) * n ≡ r.1 * n + path_count rs * n = ap (λ (m : ℕ). m * n) counts ∙ omega arith in
    omega arith

-- two amounts of each path
of_both : (f g : PlacedRow → ℕ) (rs : List Reached) → over_paths (λ r. f r + g r) rs ≡ over_paths f rs + over_paths g rs
of_both f g rs = (λ i. sum_by (λ (r : Reached). parts r.1 (f r.0) (g r.0) i) rs) ∙ sum_by-plus (λ (r : Reached). r.1 * f r.0) (λ (r : Reached). r.1 * g r.0) rs
  where
    parts : (a b c : ℕ) → a * (b + c) ≡ a * b + a * c
    parts a b c = omega arith

none_of_each : (rs : List Reached) → over_paths (λ r. 0) rs ≡ 0
none_of_each [] = refl
none_of_each (r ∷ rs) = let whole = sum_by-cons (λ (r : Reached). r.1 * 0) r rs in let rest = none_of_each rs in omega arith

-- the number of paths
pub path_count-over : (rs : List Reached) → path_count rs ≡ over_paths (λ r. 1) rs
path_count-over [] = refl
path_count-over (r ∷ rs) =
    let counts = sum_by-cons (λ (n : ℕ). n) r.1 (map (λ (r : Reached). r.1) rs) in
    let whole = sum_by-cons (λ (r : Reached). r.1 * 1) r rs in
    let rest = path_count-over rs in
    omega arith

module _ (kinds : List FieldKind) (all : List PlacedRow) where
  -- what is counted of the paths that are handed on
  pub over_handed : (k : Kind) (f : PlacedRow → ℕ) (rs : List Reached)
      → over_paths f (handed_on kinds all k rs) ≡ over_paths (λ r. sum_by (λ inner. length (keys all k inner) * f inner) (under all (r ∷ []) k (r ∷ []))) rs
  over_handed k f rs =
      sum_by-map (λ (r : Reached). r.1 * f r.0) (λ (r : Reached). (r.0, r.1 * length (keys all k r.0))) (counted_from kinds all k rs)
      ∙ ((λ i. sum_by (λ (r : Reached). mul_assoc r.1 (length (keys all k r.0)) (f r.0) i) (counted_from kinds all k rs))
      ∙ over_paths-counted all kinds k (λ inner. length (keys all k inner) * f inner) rs)

  abbrev Split : Bound → BoundParts → Type 0
  Split bound parts = (nodes : ℕ) (rs : List Reached) → bound nodes rs ≡ nodes * parts.empty + over_paths parts.of_row rs

  by_shape : (k : Kind) (shape : Shape) (nodes paths below under_paths : ℕ) →
      (nodes * 512 + bucket_bound kinds all k shape nodes paths * (128 + key_bound kinds all k)) + (bucket_bound kinds all k shape nodes paths * below + under_paths)
      ≡ nodes * (512 + started_bytes k shape ((128 + key_bound kinds all k) + below)) + (paths * path_bytes shape ((128 + key_bound kinds all k) + below) + under_paths)
  by_shape k by_key nodes paths below under_paths = omega arith
  by_shape k from_start nodes paths below under_paths = let deeper = mul_assoc nodes (length (fixed_keys k)) ((128 + key_bound kinds all k) + below) in omega arith
  by_shape k a_number nodes paths below under_paths = omega arith

  mutual
    -- so many nodes over these paths
    pub bound-splits : (a : Agg) → Split (node_bound kinds all a) (bound_parts kinds all a)
    bound-splits (Agg' name k n children) nodes rs =
        let parts = fold_aggs (bound_parts_at kinds all) children in
        let handed = handed_on kinds all k rs in
        let paths = path_count handed in
        let buckets = bucket_bound kinds all k (shape_of k) nodes paths in
        let below = sum (map (λ c. c.empty) parts) in
        let inner = λ (r : PlacedRow). sum (map (λ c. c.of_row r) parts) in
        let path = path_bytes (shape_of k) (bucket_bytes kinds all k parts) in
        let children_are = children-split children buckets handed in
        let shapes = by_shape k (shape_of k) nodes paths below (over_paths inner handed) in
        let each = sym (over_handed k (λ r. path + inner r) rs) ∙ with_each path inner handed in
        omega arith

    children-split : {n : _} (children : Row_of-Agg n) (nodes : ℕ) (rs : List Reached) →
        sum (map (λ bound. bound nodes rs) (fold_aggs (node_bound_at kinds all) children))
        ≡ nodes * sum (map (λ c. c.empty) (fold_aggs (bound_parts_at kinds all) children)) + over_paths (λ r. sum (map (λ c. c.of_row r) (fold_aggs (bound_parts_at kinds all) children))) rs
    children-split end_of-Agg nodes rs = let none = none_of_each rs in omega arith
    children-split (more_of-Agg a rest) nodes rs =
        let here = bound-splits a nodes rs in
        let there = children-split rest nodes rs in
        let parts = fold_aggs (bound_parts_at kinds all) rest in
        let bounds = sum_by-cons (λ (n : ℕ). n) (node_bound kinds all a nodes rs) (map (λ (bound : Bound). bound nodes rs) (fold_aggs (node_bound_at kinds all) rest)) in
        let empties = sum_by-cons (λ (n : ℕ). n) (bound_parts kinds all a).empty (map (λ (c : BoundParts). c.empty) parts) in
        let own = (bound_parts kinds all a).of_row in
        let others = λ (r : PlacedRow). sum (map (λ (c : BoundParts). c.of_row r) parts) in
        let both = (λ i. over_paths (λ (r : PlacedRow). sum_by-cons (λ (n : ℕ). n) (own r) (map (λ (c : BoundParts). c.of_row r) parts) i) rs) ∙ of_both own others rs in
        let product = ap (λ (m : ℕ). nodes * m) empties in
        omega arith
