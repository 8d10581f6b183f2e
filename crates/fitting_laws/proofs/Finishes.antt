-- A tree that owns its keys and covers, and whose numbers are below 2^32, can be finished.
use Rattle.std.specs.Prelude.{ℕ, ◌+◌, ◌^◌, ◌<◌, Bool, true, cond, ◌&&◌, T, List, [], ◌∷◌, map, sum_by, nat_lt}
use Rattle.std.proofs.Common.{arith}
use Rattle.std.proofs.lemmas.Bool.Decides.{nat_tests}
use Rattle.agg_model.specs.declared.aggregation.Agg.{Agg, Agg', Row_of-Agg, end_of-Agg, more_of-Agg}
use Rattle.agg_model.specs.declared.aggregation.Kind.{Kind}
use Rattle.agg_model.specs.declared.aggregation.Kind.TheVariants as kind
use Rattle.agg_model.specs.declared.partial.Bucket.{Bucket}
use Rattle.agg_model.specs.declared.partial.Node.{Node, out-Node}
use Rattle.agg_model.specs.declared.partial.Node.TheOpen.{Node-F}
use Rattle.agg_evaluation.specs.Finishable.{fits_at, is_finishable_at, is_finishable}
use Rattle.agg_evaluation.specs.Folds.{fold_aggs}
use Rattle.agg_evaluation.specs.Orders.{bucket_key, bucket_count}
use Rattle.agg_evaluation.specs.Shard.{fixed_keys, is_terms}
use Rattle.agg_evaluation.specs.Trees.{is_ascending, are_same_keys, pass_each, have_children, is_tree_at, is_tree_of}
use Rattle.agg_evaluation.specs.Whole.{Parts, parts, parts_at, shape_of, Shape, by_key, from_start, a_number}
use Rattle.list_laws.proofs.Booleans.{and_left, and_right, both}
use Rattle.fitting_laws.proofs.NumbersFit.{counted}
use Rattle.fitting_laws.proofs.Owns.{made_keys, are_covered, owns_parts, owns}
use Rattle.fitting_laws.proofs.Reach.{most, most_each, bucket_reach, parts_reach, reach}

-- trees that pass both tests and are small pass the third
abbrev Finishes : (Node → Bool) → (Node → Bool) → (Node → ℕ) → (Node → Bool) → Type 0
Finishes t o f p = (n : Node) → T (t n) → T (o n) → f n < 2 ^ 32 → T (p n)

abbrev EachFinishes : List (Node → Bool) → List (Node → Bool) → List (Node → ℕ) → List (Node → Bool) → Type 0
EachFinishes [] [] [] [] = Unit {0}
EachFinishes (t ∷ ts) (o ∷ os) (f ∷ fs) (p ∷ ps) = Finishes t o f p × EachFinishes ts os fs ps
EachFinishes _ _ _ _ = ⊥

children_finish : (ts os : List (Node → Bool)) (fs : List (Node → ℕ)) (ps : List (Node → Bool)) → EachFinishes ts os fs ps → (ns : List Node) → T (pass_each ts ns) → T (pass_each os ns) → most_each fs ns < 2 ^ 32 → T (pass_each ps ns)
children_finish [] [] [] [] laws [] h g low = tt
children_finish [] [] [] [] laws (n ∷ ns) h g low = absurd h
children_finish [] [] [] (p ∷ ps) laws ns h g low = absurd laws
children_finish [] [] (f ∷ fs) ps laws ns h g low = absurd laws
children_finish [] (o ∷ os) fs ps laws ns h g low = absurd laws
children_finish (t ∷ ts) [] fs ps laws ns h g low = absurd laws
children_finish (t ∷ ts) (o ∷ os) [] ps laws ns h g low = absurd laws
children_finish (t ∷ ts) (o ∷ os) (f ∷ fs) [] laws ns h g low = absurd laws
children_finish (t ∷ ts) (o ∷ os) (f ∷ fs) (p ∷ ps) laws [] h g low = absurd h
children_finish (t ∷ ts) (o ∷ os) (f ∷ fs) (p ∷ ps) laws (n ∷ ns) h g low =
    both _ _ (laws.0 n (and_left _ _ h) (and_left _ _ g) (omega (arith, low))) (children_finish ts os fs ps laws.1 ns (and_right _ _ h) (and_right _ _ g) (omega (arith, low)))

module _ (ts os : List (Node → Bool)) (fs : List (Node → ℕ)) (ps : List (Node → Bool)) (laws : EachFinishes ts os fs ps) where
  buckets_finish : (bs : List Bucket) → T (have_children ts bs) → T (have_children os bs) → most (bucket_reach fs) bs < 2 ^ 32 → T (have_children ps bs)
  buckets_finish [] h g low = tt
  buckets_finish (b ∷ bs) h g low =
      both _ _ (children_finish ts os fs ps laws b.children (and_left _ _ h) (and_left _ _ g) (omega (arith, low))) (buckets_finish bs (and_right _ _ h) (and_right _ _ g) (omega (arith, low)))

  tree_finishes : (k : Kind) (shape : Shape) (n : Node-F Node Bucket) → T (is_tree_at ts (fixed_keys k) shape n) → T (have_children os (parts_at n).buckets) → most (bucket_reach fs) (parts_at n).buckets < 2 ^ 32
      → T (is_tree_at ps (fixed_keys k) shape n)
  tree_finishes k by_key (Node-F.Keyed bs error full cut) h g low =
      both (is_ascending (map bucket_key bs)) (have_children ps bs) (and_left (is_ascending (map bucket_key bs)) (have_children ts bs) h) (buckets_finish bs (and_right (is_ascending (map bucket_key bs)) (have_children ts bs) h) g low)
  tree_finishes k by_key (Node-F.Fixed bs) h g low = absurd h
  tree_finishes k by_key (Node-F.Number m) h g low = absurd h
  tree_finishes k from_start (Node-F.Fixed bs) h g low =
      both (are_same_keys (map bucket_key bs) (fixed_keys k)) (have_children ps bs) (and_left (are_same_keys (map bucket_key bs) (fixed_keys k)) (have_children ts bs) h) (buckets_finish bs (and_right (are_same_keys (map bucket_key bs) (fixed_keys k)) (have_children ts bs) h) g low)
  tree_finishes k from_start (Node-F.Keyed bs error full cut) h g low = absurd h
  tree_finishes k from_start (Node-F.Number m) h g low = absurd h
  tree_finishes k a_number (Node-F.Number m) h g low = tt
  tree_finishes k a_number (Node-F.Keyed bs error full cut) h g low = absurd h
  tree_finishes k a_number (Node-F.Fixed bs) h g low = absurd h

  -- what is asked beyond the form, kind by kind
  parts_finish : (k : Kind) (p : Parts) → T (made_keys k p.buckets) → T (cond (is_terms k) (are_covered p.error p.buckets) true) → parts_reach counted fs k p < 2 ^ 32 → T (fits_at k p)
  parts_finish (kind.Terms a b c d n f g h i) p made covered low =
      let sum : p.cut + sum_by bucket_count p.buckets < 2 ^ 64 = omega (arith, low) in
      let error : p.error < 2 ^ 63 = omega (arith, low) in
      let first : T (nat_lt (p.cut + sum_by bucket_count p.buckets) (2 ^ 64)) = grind (arith, nat_tests, sum) in
      let second : T (nat_lt p.error (2 ^ 63)) = grind (arith, nat_tests, error) in
      both _ _ first (both _ _ second covered)
  parts_finish (kind.Histogram a b c d n f g h i) p made covered low = made
  parts_finish (kind.DateHistogram a b c d n f g h i) p made covered low = made
  parts_finish (kind.Composite a b c) p made covered low = made
  parts_finish (kind.Filters a b c) p made covered low = tt
  parts_finish (kind.Filter a) p made covered low = tt
  parts_finish (kind.Missing a) p made covered low = tt
  parts_finish kind.Global p made covered low = tt
  parts_finish (kind.Nested a) p made covered low = tt
  parts_finish (kind.ReverseNested a) p made covered low = tt
  parts_finish (kind.Sum a b) p made covered low = tt
  parts_finish (kind.Min a b) p made covered low = tt
  parts_finish (kind.Max a b) p made covered low = tt
  parts_finish (kind.Avg a b) p made covered low = tt
  parts_finish (kind.ValueCount a b) p made covered low = tt

  node_finishes : (k : Kind) (x : Node) → T (is_tree_at ts (fixed_keys k) (shape_of k) (out-Node x)) → T (owns_parts os k (parts x)) → parts_reach counted fs k (parts x) < 2 ^ 32 → T (is_finishable_at ps k x)
  node_finishes k x h own low =
      let p = parts x in
      let more = and_right (made_keys k p.buckets) (cond (is_terms k) (are_covered p.error p.buckets) true && have_children os p.buckets) own in
      let children = and_right (cond (is_terms k) (are_covered p.error p.buckets) true) (have_children os p.buckets) more in
      both _ _ (tree_finishes k (shape_of k) (out-Node x) h children (omega (arith, low)))
      (parts_finish k p (and_left (made_keys k p.buckets) (cond (is_terms k) (are_covered p.error p.buckets) true && have_children os p.buckets) own) (and_left (cond (is_terms k) (are_covered p.error p.buckets) true) (have_children os p.buckets) more) low)

mutual
  pub finishes : (a : Agg) → Finishes (is_tree_of a) (owns a) (reach counted a) (is_finishable a)
  finishes (Agg' name k n children) x h own low = node_finishes _ _ _ _ (each_finishes children) k x h own low

  each_finishes : {n : _} (children : Row_of-Agg n) → EachFinishes (fold_aggs (λ a n. is_tree_at a.children (fixed_keys a.kind) (shape_of a.kind) (out-Node n)) children)
      (fold_aggs (λ a n. owns_parts a.children a.kind (parts n)) children) (fold_aggs (λ a n. parts_reach counted a.children a.kind (parts n)) children) (fold_aggs (λ a n. is_finishable_at a.children a.kind n) children)
  each_finishes end_of-Agg = tt
  each_finishes (more_of-Agg a rest) = (finishes a, each_finishes rest)
