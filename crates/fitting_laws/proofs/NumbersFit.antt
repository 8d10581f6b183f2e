-- A tree whose greatest number is below 2^32, and whose greatest sum is below 2^127, has numbers that fit.
use Rattle.std.specs.Prelude.{◌≡◌, refl, ℕ, ◌^◌, ◌<◌, Bool, T, List, [], ◌∷◌, map, nat_lt}
use Rattle.std.specs.List.{list_all}
use Rattle.std.proofs.Common.{sym, subst, arith}
use Rattle.std.proofs.lemmas.Bool.Decides.{nat_tests}
use Rattle.agg_model.specs.declared.aggregation.Agg.{Agg, Agg', Row_of-Agg, end_of-Agg, more_of-Agg}
use Rattle.agg_model.specs.declared.aggregation.Kind.{Kind}
use Rattle.agg_model.specs.declared.partial.Bucket.{Bucket}
use Rattle.agg_model.specs.declared.partial.Metric.{Metric}
use Rattle.agg_model.specs.declared.partial.Node.{Node, out-Node}
use Rattle.agg_model.specs.declared.partial.Node.TheOpen.{Node-F}
use Rattle.agg_evaluation.specs.Folds.{fold_aggs}
use Rattle.agg_evaluation.specs.Orders.{bucket_key}
use Rattle.agg_evaluation.specs.Shard.{fixed_keys}
use Rattle.agg_evaluation.specs.Trees.{is_ascending, are_same_keys, pass_each, have_children, is_tree_at, is_tree_of, fits_u64, bucket_fits, node_fits_at, node_fits}
use Rattle.agg_evaluation.specs.Whole.{parts, parts_at, shape_of, Shape, by_key, from_start, a_number}
use Rattle.agg_evaluation.proofs.NodeFolds.{fold_bucket, fold_node-Fixed, fold_node-Keyed, fold_node-Number}
use Rattle.agg_evaluation.proofs.NodeForms.{made-Keyed, made-Fixed, made-Number}
use Rattle.list_laws.proofs.Booleans.{and_left, and_right, both, holds}
use Rattle.fitting_laws.proofs.Reach.{most, most_each, bucket_reach, parts_reach, reach}
use Rattle.fitting_laws.proofs.Sizes.{size, size_in_i128}

-- the numbers of metrics that are bounded
abbrev pub counted : Metric → ℕ
counted m = m.count

abbrev pub summed : Metric → ℕ
summed m = size m.sum

abbrev Fits : (Node → Bool) → (Node → ℕ) → (Node → ℕ) → Type 0
Fits t f g = (n : Node) → T (t n) → f n < 2 ^ 32 → g n < 2 ^ 127 → T (node_fits n)

abbrev EachFits : List (Node → Bool) → List (Node → ℕ) → List (Node → ℕ) → Type 0
EachFits [] [] [] = Unit {0}
EachFits (t ∷ ts) (f ∷ fs) (g ∷ gs) = Fits t f g × EachFits ts fs gs
EachFits _ _ _ = ⊥

u64 : (n : ℕ) → n < 2 ^ 32 → T (fits_u64 n)
u64 n h = grind (arith, nat_tests, h)

module _ (ts : List (Node → Bool)) (fs gs : List (Node → ℕ)) (laws : EachFits ts fs gs) where
  buckets_fit : (bs : List Bucket) → T (have_children ts bs) → most (bucket_reach fs) bs < 2 ^ 32 → most (bucket_reach gs) bs < 2 ^ 127 → T (list_all (λ fits. fits) (map (fold_bucket node_fits_at bucket_fits) bs))
  buckets_fit [] h low sums = tt
  buckets_fit (b ∷ bs) h low sums =
      both _ _ (both _ _ (both _ _ (u64 b.count (omega (arith, low))) (u64 b.covered (omega (arith, low)))) (children ts fs gs laws b.children (and_left _ _ h) (omega (arith, low)) (omega (arith, sums))))
      (buckets_fit bs (and_right _ _ h) (omega (arith, low)) (omega (arith, sums)))
    where
      children : (ts : List (Node → Bool)) (fs gs : List (Node → ℕ)) → EachFits ts fs gs → (ns : List Node) → T (pass_each ts ns) → most_each fs ns < 2 ^ 32 → most_each gs ns < 2 ^ 127 → T (list_all (λ fits. fits) (map node_fits ns))
      children [] [] [] laws [] h low sums = tt
      children [] [] [] laws (n ∷ ns) h low sums = absurd h
      children [] [] (g ∷ gs) laws ns h low sums = absurd laws
      children [] (f ∷ fs) gs laws ns h low sums = absurd laws
      children (t ∷ ts) [] gs laws ns h low sums = absurd laws
      children (t ∷ ts) (f ∷ fs) [] laws ns h low sums = absurd laws
      children (t ∷ ts) (f ∷ fs) (g ∷ gs) laws [] h low sums = absurd h
      children (t ∷ ts) (f ∷ fs) (g ∷ gs) laws (n ∷ ns) h low sums =
          both _ _ (laws.0 n (and_left _ _ h) (omega (arith, low)) (omega (arith, sums))) (children ts fs gs laws.1 ns (and_right _ _ h) (omega (arith, low)) (omega (arith, sums)))

  fits_at : (k : Kind) (shape : Shape) (x : Node) (n : Node-F Node Bucket) → out-Node x ≡ n → T (is_tree_at ts (fixed_keys k) shape n)
      → parts_reach counted fs k (parts_at n) < 2 ^ 32 → parts_reach summed gs k (parts_at n) < 2 ^ 127 → T (node_fits x)
  fits_at k by_key x (Node-F.Keyed bs error full cut) e h low sums =
      let children = and_right (is_ascending (map bucket_key bs)) (have_children ts bs) h in
      let small : full < 2 ^ 32 = omega (arith, low) in
      let few : T (nat_lt full (2 ^ 32)) = grind (arith, nat_tests, small) in
      subst (λ x. T (node_fits x)) (made-Keyed x bs error full cut e) (subst T (sym (fold_node-Keyed node_fits_at bucket_fits bs error full cut))
      (both _ _ (both _ _ (both _ _ (u64 error (omega (arith, low))) few) (u64 cut (omega (arith, low)))) (buckets_fit bs children (omega (arith, low)) (omega (arith, sums)))))
  fits_at k by_key x (Node-F.Fixed bs) e h low sums = absurd h
  fits_at k by_key x (Node-F.Number m) e h low sums = absurd h
  fits_at k from_start x (Node-F.Fixed bs) e h low sums =
      let children = and_right (are_same_keys (map bucket_key bs) (fixed_keys k)) (have_children ts bs) h in
      subst (λ x. T (node_fits x)) (made-Fixed x bs e) (subst T (sym (fold_node-Fixed node_fits_at bucket_fits bs)) (buckets_fit bs children (omega (arith, low)) (omega (arith, sums))))
  fits_at k from_start x (Node-F.Keyed bs error full cut) e h low sums = absurd h
  fits_at k from_start x (Node-F.Number m) e h low sums = absurd h
  fits_at k a_number x (Node-F.Number m) e h low sums =
      subst (λ x. T (node_fits x)) (made-Number x m e) (subst T (sym (fold_node-Number node_fits_at bucket_fits m)) (both _ _ (u64 m.count (omega (arith, low))) (holds _ (size_in_i128 m.sum (omega (arith, sums))))))
  fits_at k a_number x (Node-F.Keyed bs error full cut) e h low sums = absurd h
  fits_at k a_number x (Node-F.Fixed bs) e h low sums = absurd h

mutual
  pub tree_fits : (a : Agg) → Fits (is_tree_of a) (reach counted a) (reach summed a)
  tree_fits (Agg' name k n children) x h low sums = fits_at _ _ _ (each_fits children) k (shape_of k) x (out-Node x) refl h low sums

  each_fits : {n : _} (children : Row_of-Agg n) → EachFits (fold_aggs (λ a n. is_tree_at a.children (fixed_keys a.kind) (shape_of a.kind) (out-Node n)) children)
      (fold_aggs (λ a n. parts_reach counted a.children a.kind (parts n)) children) (fold_aggs (λ a n. parts_reach summed a.children a.kind (parts n)) children)
  each_fits end_of-Agg = tt
  each_fits (more_of-Agg a rest) = (tree_fits a, each_fits rest)
