-- What a tree of a shard has beyond its form: keys such as its aggregation makes, and terms covered by no more than its error.
-- The whole of such trees has it too.
use Rattle.std.specs.Prelude.{◌≡◌, refl, ℕ, suc, ◌+◌, ◌≤◌, Bool, true, false, cond, ◌&&◌, T, List, [], ◌∷◌, ◌++◌, map, flat_map, sum_by, drop, length, nat_le}
use Rattle.std.specs.List.{list_all, enumerate_from}
use Rattle.std.proofs.Common.{sym, ap, subst, arith}
use Rattle.std.proofs.lemmas.Bool.Decides.{nat_tests}
use Rattle.agg_model.specs.Options.{Options, options_of}
use Rattle.agg_model.specs.declared.aggregation.Agg.{Agg, Agg', Row_of-Agg, end_of-Agg, more_of-Agg}
use Rattle.agg_model.specs.declared.aggregation.Kind.{Kind}
use Rattle.agg_model.specs.declared.aggregation.Kind.TheVariants as kind
use Rattle.agg_model.specs.declared.key.Key.{Key}
use Rattle.agg_model.specs.declared.partial.Bucket.{Bucket}
use Rattle.agg_model.specs.declared.partial.Node.{Node, out-Node}
use Rattle.agg_evaluation.specs.CompositeKeys.{is_composite_of}
use Rattle.agg_evaluation.specs.Finishable.{is_histogram_key}
use Rattle.agg_evaluation.specs.Folds.{fold_agg, fold_aggs}
use Rattle.agg_evaluation.specs.Keys.{distinct_keys}
use Rattle.agg_evaluation.specs.Orders.{bucket_key}
use Rattle.agg_evaluation.specs.Shard.{fixed_keys, is_terms}
use Rattle.agg_evaluation.specs.Trees.{pass_each, have_children, is_tree_at, is_tree_of}
use Rattle.agg_evaluation.specs.Whole.{Parts, parts, parts_at, children_at, whole_bucket, whole_by, whole_node, shape_of, by_key, from_start, a_number, metric_sum}
use Rattle.agg_evaluation.proofs.KeyParts.{with_key-all}
use Rattle.agg_evaluation.proofs.NodeForms.{out-Keyed, out-Fixed, out-Number}
use Rattle.agg_evaluation.proofs.WholeLaws.{Union, tree_buckets, with_key}
use Rattle.list_laws.proofs.Booleans.{and_left, and_right, both}
use Rattle.list_laws.proofs.Occurrences.{all-map}
use Rattle.fitting_laws.proofs.BucketKeys.{distinct_all}
use Rattle.fitting_laws.proofs.Reach.{most}
use Rattle.fitting_laws.proofs.ReachUnions.{AreLevels, levels_of, all_children, AreBelow, once_each, column}

-- a key such as the aggregation makes
abbrev pub is_made_key : Kind → Key → Bool
is_made_key k key = elim (options_of k) [
  | Options.Histogram h ↦ is_histogram_key h.spacing h.hard key
  | Options.Composite sources size after ↦ is_composite_of (length sources) key
  | _ ↦ true
]

abbrev pub made_keys : Kind → List Bucket → Bool
made_keys k bs = list_all (λ b. is_made_key k (bucket_key b)) bs

-- no term is covered by more than the error
abbrev pub are_covered : ℕ → List Bucket → Bool
are_covered error bs = list_all (λ b. nat_le b.covered error) bs

abbrev pub owns_parts : List (Node → Bool) → Kind → Parts → Bool
owns_parts tests k p = made_keys k p.buckets && (cond (is_terms k) (are_covered p.error p.buckets) true && have_children tests p.buckets)

abbrev pub owns : Agg → Node → Bool
owns = fold_agg (λ a n. owns_parts a.children a.kind (parts n))

-- a union that keeps it
abbrev Keeps : Union → (Node → Bool) → (Node → Bool) → Type 0
Keeps w t o = (xs : List Node) → T (list_all t xs) → T (list_all o xs) → T (o (w xs))

abbrev EachKeeps : List Union → List (Node → Bool) → List (Node → Bool) → Type 0
EachKeeps [] [] [] = Unit {0}
EachKeeps (w ∷ ws) (t ∷ ts) (o ∷ os) = Keeps w t o × EachKeeps ws ts os
EachKeeps _ _ _ = ⊥

nothing : Node → ℕ
nothing n = 0

children_keep : (m : ℕ) (ws : List Union) (ts os : List (Node → Bool)) → EachKeeps ws ts os → (bs : List Bucket) → T (list_all (λ b. pass_each ts (drop m b.children)) bs) → T (list_all (λ b. pass_each os (drop m b.children)) bs)
    → T (pass_each os (map (λ c. c.1 (children_at bs c.0)) (enumerate_from m ws)))
children_keep m [] [] [] h bs trees own = tt
children_keep m [] [] (o ∷ os) h bs trees own = absurd h
children_keep m [] (t ∷ ts) os h bs trees own = absurd h
children_keep m (w ∷ ws) [] os h bs trees own = absurd h
children_keep m (w ∷ ws) (t ∷ ts) [] h bs trees own = absurd h
children_keep m (w ∷ ws) (t ∷ ts) (o ∷ os) h bs trees own =
    let first = column t ts nothing [] m bs trees in
    let second = column o os nothing [] m bs own in
    let next : suc m ≡ m + 1 = omega arith in
    both _ _ (h.0 (children_at bs m) first.pass second.pass)
    (children_keep (m + 1) ws ts os h.1 bs (subst (λ n. T (list_all (λ b. pass_each ts (drop n b.children)) bs)) next first.rest) (subst (λ n. T (list_all (λ b. pass_each os (drop n b.children)) bs)) next second.rest))

-- what all trees of a list own
record AllOwn (os : List (Node → Bool)) (k : Kind) (xs : List Node) : Type 0 where
  keys : T (list_all (is_made_key k) (map bucket_key (tree_buckets xs)))
  children : T (have_children os (tree_buckets xs))

all_own : (os : List (Node → Bool)) (k : Kind) (xs : List Node) → T (list_all (λ x. owns_parts os k (parts x)) xs) → AllOwn os k xs
all_own os k [] h = record { keys = tt; children = tt }
all_own os k (x ∷ xs) h =
    let first : T (owns_parts os k (parts x)) = and_left (owns_parts os k (parts x)) (list_all (λ x. owns_parts os k (parts x)) xs) h in
    let more = and_right (made_keys k (parts x).buckets) (cond (is_terms k) (are_covered (parts x).error (parts x).buckets) true && have_children os (parts x).buckets) first in
    let rest = all_own os k xs (and_right (owns_parts os k (parts x)) (list_all (λ x. owns_parts os k (parts x)) xs) h) in
    (record {
      keys = keys_of (parts x).buckets (tree_buckets xs) (and_left (made_keys k (parts x).buckets) (cond (is_terms k) (are_covered (parts x).error (parts x).buckets) true && have_children os (parts x).buckets) first) rest.keys;
      children = children_of (parts x).buckets (tree_buckets xs) (and_right (cond (is_terms k) (are_covered (parts x).error (parts x).buckets) true) (have_children os (parts x).buckets) more) rest.children;
    })
  where
    keys_of : (bs cs : List Bucket) → T (made_keys k bs) → T (list_all (is_made_key k) (map bucket_key cs)) → T (list_all (is_made_key k) (map bucket_key (bs ++ cs)))
    keys_of [] cs h g = g
    keys_of (b ∷ bs) cs h g = both (is_made_key k (bucket_key b)) _ (and_left (is_made_key k (bucket_key b)) (made_keys k bs) h) (keys_of bs cs (and_right (is_made_key k (bucket_key b)) (made_keys k bs) h) g)

    children_of : (bs cs : List Bucket) → T (have_children os bs) → T (have_children os cs) → T (have_children os (bs ++ cs))
    children_of [] cs h g = g
    children_of (b ∷ bs) cs h g = both _ _ (and_left _ _ h) (children_of bs cs (and_right _ _ h) g)

module _ (ws : List Union) (ts os : List (Node → Bool)) (laws : EachKeeps ws ts os) (k : Kind) where
  -- buckets of some keys, where all keys are made by the aggregation
  united_own : (xs : List Node) → AreLevels ts xs → AllOwn os k xs → (error : ℕ) (ks : List Key) → T (list_all (is_made_key k) ks)
      → T (cond (is_terms k) (are_covered error (map (whole_bucket ws (tree_buckets xs)) ks)) true) → T (made_keys k (map (whole_bucket ws (tree_buckets xs)) ks) && (cond (is_terms k) (are_covered error (map (whole_bucket ws (tree_buckets xs)) ks)) true && have_children os (map (whole_bucket ws (tree_buckets xs)) ks)))
  united_own xs levels own error ks made covered =
      let bs = tree_buckets xs in
      both (made_keys k (map (whole_bucket ws bs) ks)) _ (keys ks made) (both (cond (is_terms k) (are_covered error (map (whole_bucket ws bs) ks)) true) _ covered
      (all-map (λ b. pass_each os b.children) (whole_bucket ws bs) ks (λ q. children_keep 0 ws ts os laws (with_key q bs)
      (with_key-all (λ b. pass_each ts b.children) q bs (all_children ts xs levels)) (with_key-all (λ b. pass_each os b.children) q bs own.children))))
    where
      keys : (ks : List Key) → T (list_all (is_made_key k) ks) → T (made_keys k (map (whole_bucket ws (tree_buckets xs)) ks))
      keys [] h = tt
      keys (q ∷ ks) h = both (is_made_key k q) _ (and_left (is_made_key k q) (list_all (is_made_key k) ks) h) (keys ks (and_right (is_made_key k q) (list_all (is_made_key k) ks) h))

  -- of each tree one bucket has the key at most, and it is covered by no more than the tree's error
  covered_below : (q : Key) (xs : List Node) → is_terms k ≡ true → T (list_all (λ x. owns_parts os k (parts x)) xs) → AreBelow (λ b. b.covered) q (λ x. (parts x).error) xs
  covered_below q [] e h = tt
  covered_below q (x ∷ xs) e h =
      let first : T (owns_parts os k (parts x)) = and_left (owns_parts os k (parts x)) (list_all (λ x. owns_parts os k (parts x)) xs) h in
      let more = and_right (made_keys k (parts x).buckets) (cond (is_terms k) (are_covered (parts x).error (parts x).buckets) true && have_children os (parts x).buckets) first in
      let covered = and_left (cond (is_terms k) (are_covered (parts x).error (parts x).buckets) true) (have_children os (parts x).buckets) more in (
        most_covered (parts x).error (parts x).buckets (subst (λ b. T (cond b (are_covered (parts x).error (parts x).buckets) true)) e covered),
        covered_below q xs e (and_right (owns_parts os k (parts x)) (list_all (λ x. owns_parts os k (parts x)) xs) h),
      )
    where
      most_covered : (error : ℕ) (bs : List Bucket) → T (are_covered error bs) → most (λ (b : Bucket). b.covered) bs ≤ error
      most_covered error [] h = omega arith
      most_covered error (b ∷ bs) h =
          let here : T (nat_le b.covered error) = and_left (nat_le b.covered error) (are_covered error bs) h in
          let rest = most_covered error bs (and_right (nat_le b.covered error) (are_covered error bs) h) in
          let low : b.covered ≤ error = grind (arith, nat_tests, here) in
          omega (arith, low, rest)

  united_covered : (xs : List Node) → AreLevels ts xs → T (list_all (λ x. owns_parts os k (parts x)) xs) → (ks : List Key) → T (cond (is_terms k) (are_covered (sum_by (λ t. (parts t).error) xs) (map (whole_bucket ws (tree_buckets xs)) ks)) true)
  united_covered xs levels own ks =
      elim (is_terms k) as (λ b. is_terms k ≡ b → T (cond b (are_covered (sum_by (λ t. (parts t).error) xs) (map (whole_bucket ws (tree_buckets xs)) ks)) true)) [
        | true ↦ λ e. all-map (λ b. nat_le b.covered (sum_by (λ t. (parts t).error) xs)) (whole_bucket ws (tree_buckets xs)) ks (λ q.
            let low = once_each (λ b. b.covered) q ts (λ x. (parts x).error) xs (covered_below q xs e own) levels in
            grind (arith, nat_tests, low))
        | false ↦ λ e. tt
      ] refl

  keyed_keeps : Keeps (whole_by ws k by_key) (λ x. is_tree_at ts (fixed_keys k) by_key (out-Node x)) (λ x. owns_parts os k (parts x))
  keyed_keeps xs trees own =
      let bs = tree_buckets xs in
      let ks = distinct_keys (map bucket_key bs) in
      let levels = levels_of ts k by_key xs trees in
      let all = all_own os k xs own in
      subst (λ p. T (owns_parts os k p)) (sym (ap parts_at (out-Keyed (map (whole_bucket ws bs) ks) (sum_by (λ t. (parts t).error) xs) (sum_by (λ t. (parts t).full) xs) (sum_by (λ t. (parts t).cut) xs))))
      (united_own xs levels all (sum_by (λ t. (parts t).error) xs) ks (distinct_all (is_made_key k) (map bucket_key bs) all.keys) (united_covered xs levels own ks))

  started_keeps : is_terms k ≡ false → ((key : Key) → T (is_made_key k key)) → Keeps (whole_by ws k from_start) (λ x. is_tree_at ts (fixed_keys k) from_start (out-Node x)) (λ x. owns_parts os k (parts x))
  started_keeps plain free xs trees own =
      let bs = tree_buckets xs in
      let ks = fixed_keys k in
      let levels = levels_of ts k from_start xs trees in
      let all = all_own os k xs own in
      subst (λ p. T (owns_parts os k p)) (sym (ap parts_at (out-Fixed (map (whole_bucket ws bs) ks))))
      (united_own xs levels all 0 ks (every ks) (subst (λ b. T (cond b (are_covered 0 (map (whole_bucket ws bs) ks)) true)) (sym plain) tt))
    where
      every : (ks : List Key) → T (list_all (is_made_key k) ks)
      every [] = tt
      every (q ∷ ks) = both (is_made_key k q) _ (free q) (every ks)

  number_keeps : is_terms k ≡ false → Keeps (whole_by ws k a_number) (λ x. is_tree_at ts (fixed_keys k) a_number (out-Node x)) (λ x. owns_parts os k (parts x))
  number_keeps plain xs trees own =
      subst (λ p. T (owns_parts os k p)) (sym (ap parts_at (out-Number (metric_sum (flat_map (λ t. (parts t).metrics) xs)))))
      (subst (λ b. T (cond b (are_covered 0 []) true && true)) (sym plain) tt)

kind_keeps : (ws : List Union) (ts os : List (Node → Bool)) → EachKeeps ws ts os → (k : Kind) → Keeps (whole_by ws k (shape_of k)) (λ x. is_tree_at ts (fixed_keys k) (shape_of k) (out-Node x)) (λ x. owns_parts os k (parts x))
kind_keeps ws ts os laws (kind.Terms a b c d n f g h i) = keyed_keeps ws ts os laws (kind.Terms a b c d n f g h i)
kind_keeps ws ts os laws (kind.Histogram a b c d n f g h i) = keyed_keeps ws ts os laws (kind.Histogram a b c d n f g h i)
kind_keeps ws ts os laws (kind.DateHistogram a b c d n f g h i) = keyed_keeps ws ts os laws (kind.DateHistogram a b c d n f g h i)
kind_keeps ws ts os laws (kind.Composite a b c) = keyed_keeps ws ts os laws (kind.Composite a b c)
kind_keeps ws ts os laws (kind.Filters a b c) = started_keeps ws ts os laws (kind.Filters a b c) refl (λ key. tt)
kind_keeps ws ts os laws (kind.Filter a) = started_keeps ws ts os laws (kind.Filter a) refl (λ key. tt)
kind_keeps ws ts os laws (kind.Missing a) = started_keeps ws ts os laws (kind.Missing a) refl (λ key. tt)
kind_keeps ws ts os laws kind.Global = started_keeps ws ts os laws kind.Global refl (λ key. tt)
kind_keeps ws ts os laws (kind.Nested a) = started_keeps ws ts os laws (kind.Nested a) refl (λ key. tt)
kind_keeps ws ts os laws (kind.ReverseNested a) = started_keeps ws ts os laws (kind.ReverseNested a) refl (λ key. tt)
kind_keeps ws ts os laws (kind.Sum a b) = number_keeps ws ts os laws (kind.Sum a b) refl
kind_keeps ws ts os laws (kind.Min a b) = number_keeps ws ts os laws (kind.Min a b) refl
kind_keeps ws ts os laws (kind.Max a b) = number_keeps ws ts os laws (kind.Max a b) refl
kind_keeps ws ts os laws (kind.Avg a b) = number_keeps ws ts os laws (kind.Avg a b) refl
kind_keeps ws ts os laws (kind.ValueCount a b) = number_keeps ws ts os laws (kind.ValueCount a b) refl

mutual
  pub whole_keeps : (a : Agg) → Keeps (whole_node a) (is_tree_of a) (owns a)
  whole_keeps (Agg' name k n children) = kind_keeps _ _ _ (each_keeps children) k

  each_keeps : {n : _} (children : Row_of-Agg n) → EachKeeps (fold_aggs (λ a. whole_by a.children a.kind (shape_of a.kind)) children)
      (fold_aggs (λ a n. is_tree_at a.children (fixed_keys a.kind) (shape_of a.kind) (out-Node n)) children) (fold_aggs (λ a n. owns_parts a.children a.kind (parts n)) children)
  each_keeps end_of-Agg = tt
  each_keeps (more_of-Agg a rest) = (whole_keeps a, each_keeps rest)
