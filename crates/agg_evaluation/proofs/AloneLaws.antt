-- The whole of no tree is the empty tree, the whole of one tree is that tree, and each whole is a tree.
use Rattle.std.specs.Prelude.{◌≡◌, refl, ℕ, suc, ◌+◌, Bool, cond, T, List, [], ◌∷◌, ◌++◌, map, sum_by, Option, Some, None, slice_get, ℤ}
use Rattle.std.specs.List.{enumerate_from, cons_option, reduce}
use Rattle.std.specs.Int.{int_min, int_max}
use Rattle.std.specs.Ordering.{is_eq, ordering_reverse}
use Rattle.std.specs.FinMap.{slice_cmp-IsAntisymmetric}
use Rattle.std.proofs.Common.{sym, ◌∙◌, ap, subst, arith}
use Rattle.std.proofs.lemmas.Int.{ints}
use Rattle.agg_model.specs.declared.key.Key.{Key}
use Rattle.agg_model.specs.declared.partial.Bucket.{Bucket}
use Rattle.agg_model.specs.declared.partial.Metric.{Metric}
use Rattle.agg_model.specs.declared.partial.Node.{Node, out-Node}
use Rattle.agg_model.specs.declared.partial.Node.TheOpen.{Node-F}
use Rattle.agg_model.specs.declared.partial.Node.TheVariants.{Keyed, Fixed, Number}
use Rattle.agg_model.specs.declared.aggregation.Agg.{Agg, Agg', Row_of-Agg, end_of-Agg, more_of-Agg}
use Rattle.agg_model.specs.declared.aggregation.Kind.{Kind}
use Rattle.agg_evaluation.specs.Folds.{fold_aggs}
use Rattle.agg_evaluation.specs.Keys.{distinct_keys}
use Rattle.agg_evaluation.specs.Orders.{bucket_key, bucket_count}
use Rattle.agg_evaluation.specs.Shard.{fixed_keys, int_sum}
use Rattle.agg_evaluation.specs.Trees.{is_ascending, are_same_keys, pass_each, have_children, is_tree_at, is_tree_of}
use Rattle.agg_evaluation.specs.Whole.{Parts, parts, parts_at, children_at, whole_bucket, whole_by, whole_node, empty_by, empty_node, shape_of, Shape, by_key, from_start, a_number, metric_sum}
use Rattle.agg_evaluation.proofs.KeyExact.{exact_keys}
use Rattle.agg_evaluation.proofs.KeyCompare.{key_cmp_total}
use Rattle.agg_evaluation.proofs.KeyLists.{key_eq-self, is_below, ascending-distinct_keys, distinct_keys-ascending}
use Rattle.list_laws.proofs.Booleans.{and_left, and_right, both}
use Rattle.list_laws.proofs.Orders.{less_is, equal_is}
use Rattle.list_laws.proofs.Lists.{append-nil, map-map}
use Rattle.agg_evaluation.proofs.NodeForms.{out-Keyed, out-Fixed, out-Number, made-Keyed, made-Fixed, made-Number}
use Rattle.list_laws.proofs.Occurrences.{all-map}
use Rattle.agg_evaluation.proofs.TreeLaws.{same-self}
use Rattle.agg_evaluation.proofs.UnionLaws.{keys-whole, ascending-fixed_keys}
use Rattle.agg_evaluation.proofs.WholeLaws.{Union, tree_buckets, with_key}

-- each union with the tree that it gives of no tree
abbrev Empties : List Union → List Node → Type 0
Empties [] [] = Unit {0}
Empties (w ∷ ws) (e ∷ es) = (w [] ≡ e) × Empties ws es
Empties _ _ = ⊥

empty-children : (m : ℕ) (ws : List Union) (es : List Node) → Empties ws es → map (λ c. c.1 (children_at [] c.0)) (enumerate_from m ws) ≡ es
empty-children m [] [] h = refl
empty-children m [] (e ∷ es) h = absurd h
empty-children m (w ∷ ws) [] h = absurd h
empty-children m (w ∷ ws) (e ∷ es) h = λ i. h.0 i ∷ empty-children (m + 1) ws es h.1 i

whole-empty : (ws : List Union) (es : List Node) → Empties ws es → (k : Kind) (shape : Shape) → whole_by ws k shape [] ≡ empty_by es (fixed_keys k) shape
whole-empty ws es h k by_key = refl
whole-empty ws es h k from_start = λ i. Fixed (map (λ key. record { key = key; count = 0; covered = 0; children = empty-children 0 ws es h i }) (fixed_keys k))
whole-empty ws es h k a_number = refl

mutual
  pub whole_node-empty : (a : Agg) → whole_node a [] ≡ empty_node a
  whole_node-empty (Agg' name k n children) = whole-empty _ _ (each-empty children) k (shape_of k)

  each-empty : {n : _} (children : Row_of-Agg n) → Empties (fold_aggs (λ a. whole_by a.children a.kind (shape_of a.kind)) children) (fold_aggs (λ a. empty_by a.children (fixed_keys a.kind) (shape_of a.kind)) children)
  each-empty end_of-Agg = tt
  each-empty (more_of-Agg a rest) = (whole_node-empty a, each-empty rest)

-- each union with the test of its trees: what it gives passes
abbrev Passes : List Union → List (Node → Bool) → Type 0
Passes [] [] = Unit {0}
Passes (w ∷ ws) (t ∷ ts) = ((xs : List Node) → T (t (w xs))) × Passes ws ts
Passes _ _ = ⊥

children-pass : (m : ℕ) (ws : List Union) (ts : List (Node → Bool)) → Passes ws ts → (bs : List Bucket) → T (pass_each ts (map (λ c. c.1 (children_at bs c.0)) (enumerate_from m ws)))
children-pass m [] [] h bs = tt
children-pass m [] (t ∷ ts) h bs = absurd h
children-pass m (w ∷ ws) [] h bs = absurd h
children-pass m (w ∷ ws) (t ∷ ts) h bs = both _ _ (h.0 _) (children-pass (m + 1) ws ts h.1 bs)

whole-passes : (ws : List Union) (ts : List (Node → Bool)) → Passes ws ts → (k : Kind) (shape : Shape) (xs : List Node) → T (is_tree_at ts (fixed_keys k) shape (out-Node (whole_by ws k shape xs)))
whole-passes ws ts h k by_key xs =
    let bs = tree_buckets xs in
    let ks = distinct_keys (map bucket_key bs) in
    subst (λ n. T (is_tree_at ts (fixed_keys k) by_key n)) (sym (out-Keyed _ _ _ _))
    (both _ _ (subst (λ ks. T (is_ascending ks)) (sym (keys-whole ws bs ks)) (ascending-distinct_keys (map bucket_key bs)))
    (all-map (λ b. pass_each ts b.children) (whole_bucket ws bs) ks (λ q. children-pass 0 ws ts h (with_key q bs))))
whole-passes ws ts h k from_start xs =
    let bs = tree_buckets xs in
    subst (λ n. T (is_tree_at ts (fixed_keys k) from_start n)) (sym (out-Fixed _))
    (both _ _ (subst (λ ks. T (are_same_keys ks (fixed_keys k))) (sym (keys-whole ws bs (fixed_keys k))) (same-self (fixed_keys k)))
    (all-map (λ b. pass_each ts b.children) (whole_bucket ws bs) (fixed_keys k) (λ q. children-pass 0 ws ts h (with_key q bs))))
whole-passes ws ts h k a_number xs = subst (λ n. T (is_tree_at ts (fixed_keys k) a_number n)) (sym (out-Number _)) tt

mutual
  pub whole_node-is_tree : (a : Agg) (xs : List Node) → T (is_tree_of a (whole_node a xs))
  whole_node-is_tree (Agg' name k n children) xs = whole-passes _ _ (each-passes children) k (shape_of k) xs

  each-passes : {n : _} (children : Row_of-Agg n) → Passes (fold_aggs (λ a. whole_by a.children a.kind (shape_of a.kind)) children) (fold_aggs (λ a n. is_tree_at a.children (fixed_keys a.kind) (shape_of a.kind) (out-Node n)) children)
  each-passes end_of-Agg = tt
  each-passes (more_of-Agg a rest) = (whole_node-is_tree a, each-passes rest)

-- each union with the test of its trees: a tree that passes is its own union
abbrev Alone : List Union → List (Node → Bool) → Type 0
Alone [] [] = Unit {0}
Alone (w ∷ ws) (t ∷ ts) = ((x : Node) → T (t x) → w (x ∷ []) ≡ x) × Alone ws ts
Alone _ _ = ⊥

-- the children of one bucket, from the m-th on
children-alone : (b : Bucket) (m : ℕ) (ws : List Union) (ts : List (Node → Bool)) (ns : List Node) → Alone ws ts → T (pass_each ts ns) → ((j : ℕ) → slice_get b.children (m + j) ≡ slice_get ns j)
    → map (λ c. c.1 (children_at (b ∷ []) c.0)) (enumerate_from m ws) ≡ ns
children-alone b m [] [] [] h g at = refl
children-alone b m [] [] (n ∷ ns) h g at = absurd g
children-alone b m [] (t ∷ ts) ns h g at = absurd h
children-alone b m (w ∷ ws) [] ns h g at = absurd h
children-alone b m (w ∷ ws) (t ∷ ts) [] h g at = absurd g
children-alone b m (w ∷ ws) (t ∷ ts) (n ∷ ns) h g at =
    let here : slice_get b.children m ≡ Some n = ap (slice_get b.children) (let e : m ≡ m + 0 = omega arith in e) ∙ at 0 in
    let first = ap (λ o. w (cons_option o [])) here ∙ h.0 n (and_left _ _ g) in
    let rest = children-alone b (m + 1) ws ts ns h.1 (and_right _ _ g) (λ j. ap (slice_get b.children) (let e : (m + 1) + j ≡ m + suc j = omega arith in e) ∙ at (suc j)) in
    λ i. first i ∷ rest i

-- in ascending order a bucket's key finds it alone
with_key-below : (q : Key) (bs : List Bucket) → T (is_below q (map bucket_key bs)) → with_key q bs ≡ []
with_key-below q [] h = refl
with_key-below q (b ∷ bs) h = ap (λ r. cond (is_eq r) (b ∷ with_key q bs) (with_key q bs)) (less_is _ (and_left _ _ h)) ∙ with_key-below q bs (and_right _ _ h)

module _ {C : Type 0} (f : Bucket → List Bucket → C) where
  past : (b : Bucket) (bs cs : List Bucket) → T (is_below (bucket_key b) (map bucket_key cs)) → map (λ c. f c (with_key (bucket_key c) (b ∷ bs))) cs ≡ map (λ c. f c (with_key (bucket_key c) bs)) cs
  past b bs [] h = refl
  past b bs (c ∷ cs) h =
      let greater = key_cmp_total.antisymm (bucket_key c) (bucket_key b) ∙ ap ordering_reverse (less_is _ (and_left _ _ h)) in
      let rest = past b bs cs (and_right _ _ h) in
      λ i. f c (cond (is_eq (greater i)) (b ∷ with_key (bucket_key c) bs) (with_key (bucket_key c) bs)) ∷ rest i

  each-found : (bs : List Bucket) → T (is_ascending (map bucket_key bs)) → map (λ b. f b (with_key (bucket_key b) bs)) bs ≡ map (λ b. f b (b ∷ [])) bs
  each-found [] h = refl
  each-found (b ∷ bs) h =
      let here = ap (λ t. cond t (b ∷ with_key (bucket_key b) bs) (with_key (bucket_key b) bs)) (key_eq-self (bucket_key b)) ∙ ap (λ cs. b ∷ cs) (with_key-below (bucket_key b) bs (and_left _ _ h)) in
      let rest = past b bs bs (and_left _ _ h) ∙ each-found bs (and_right _ _ h) in
      λ i. f b (here i) ∷ rest i

module _ (ws : List Union) (ts : List (Node → Bool)) (alone : Alone ws ts) where
  -- the bucket of a key over the buckets that have it
  united : Key → List Bucket → Bucket
  united q same = record { key = q; count = sum_by bucket_count same; covered = sum_by (λ b. b.covered) same; children = map (λ c. c.1 (children_at same c.0)) (enumerate_from 0 ws) }

  bucket-alone : (b : Bucket) → T (pass_each ts b.children) → united (bucket_key b) (b ∷ []) ≡ b
  unfolding united
  bucket-alone b h =
      let counts : sum_by bucket_count (b ∷ []) ≡ b.count = omega arith in
      let covers : sum_by (λ b. b.covered) (b ∷ []) ≡ b.covered = omega arith in
      let children = children-alone b 0 ws ts b.children alone h (λ j. ap (slice_get b.children) (let e : 0 + j ≡ j = omega arith in e)) in
      λ i. (record { key = b.key; count = counts i; covered = covers i; children = children i })

  each-alone : (bs : List Bucket) → T (have_children ts bs) → map (λ b. united (bucket_key b) (b ∷ [])) bs ≡ bs
  each-alone [] h = refl
  each-alone (b ∷ bs) h = λ i. bucket-alone b (and_left _ _ h) i ∷ each-alone bs (and_right _ _ h) i

  buckets-alone : (bs : List Bucket) → T (is_ascending (map bucket_key bs)) → T (have_children ts bs) → map (whole_bucket ws (bs ++ [])) (map bucket_key bs) ≡ bs
  unfolding united
  buckets-alone bs up h =
      ap (λ cs. map (whole_bucket ws cs) (map bucket_key bs)) (append-nil bs)
      ∙ map-map (whole_bucket ws bs) bucket_key bs
      ∙ each-found (λ b same. united (bucket_key b) same) bs up
      ∙ each-alone bs h

  by_key-alone : (k : Kind) (x : Node) (n : Node-F Node Bucket) → out-Node x ≡ n → T (is_tree_at ts (fixed_keys k) by_key n) → whole_by ws k by_key (x ∷ []) ≡ x
  by_key-alone k x (Node-F.Keyed bs error full cut) e h =
      let have : parts x ≡ record { buckets = bs; error = error; full = full; cut = cut; metrics = [] } = ap parts_at e in
      let up = and_left (is_ascending (map bucket_key bs)) (have_children ts bs) h in
      let buckets = ap (λ p. map (whole_bucket ws (p.buckets ++ [])) (distinct_keys (map bucket_key (p.buckets ++ [])))) have
      ∙ ap (λ cs. map (whole_bucket ws (bs ++ [])) (distinct_keys (map bucket_key cs))) (append-nil bs)
      ∙ ap (map (whole_bucket ws (bs ++ []))) (distinct_keys-ascending (map bucket_key bs) up)
      ∙ buckets-alone bs up (and_right (is_ascending (map bucket_key bs)) (have_children ts bs) h) in
      let single = λ (f : Parts → ℕ) (n : ℕ) (is : f (parts x) ≡ n). let e : sum_by (λ t. f (parts t)) (x ∷ []) ≡ n = omega arith in e in
      (λ i. Keyed (buckets i) (single (λ p. p.error) error (ap (λ p. p.error) have) i) (single (λ p. p.full) full (ap (λ p. p.full) have) i) (single (λ p. p.cut) cut (ap (λ p. p.cut) have) i))
      ∙ made-Keyed x bs error full cut e
  by_key-alone k x (Node-F.Fixed bs) e h = absurd h
  by_key-alone k x (Node-F.Number m) e h = absurd h

  from_start-alone : (k : Kind) (x : Node) (n : Node-F Node Bucket) → out-Node x ≡ n → T (is_tree_at ts (fixed_keys k) from_start n) → whole_by ws k from_start (x ∷ []) ≡ x
  from_start-alone k x (Node-F.Fixed bs) e h =
      let keys_are : map bucket_key bs ≡ fixed_keys k = slice_cmp-IsAntisymmetric exact_keys (map bucket_key bs) (fixed_keys k) (equal_is _ (and_left (are_same_keys (map bucket_key bs) (fixed_keys k)) (have_children ts bs) h)) in
      let up = subst (λ ks. T (is_ascending ks)) (sym keys_are) (ascending-fixed_keys k) in
      ap (λ p. Fixed (map (whole_bucket ws (p.buckets ++ [])) (fixed_keys k))) (ap parts_at e)
      ∙ ap (λ ks. Fixed (map (whole_bucket ws (bs ++ [])) ks)) (sym keys_are)
      ∙ ap Fixed (buckets-alone bs up (and_right (are_same_keys (map bucket_key bs) (fixed_keys k)) (have_children ts bs) h))
      ∙ made-Fixed x bs e
  from_start-alone k x (Node-F.Keyed bs error full cut) e h = absurd h
  from_start-alone k x (Node-F.Number m) e h = absurd h

  a_number-alone : (k : Kind) (x : Node) (n : Node-F Node Bucket) → out-Node x ≡ n → T (is_tree_at ts (fixed_keys k) a_number n) → whole_by ws k a_number (x ∷ []) ≡ x
  a_number-alone k x (Node-F.Number m) e h =
      ap (λ p. Number (metric_sum (p.metrics ++ []))) (ap parts_at e) ∙ ap Number (metric-alone m) ∙ made-Number x m e
    where
      option-alone : (f : ℤ → ℤ → ℤ) (o : Option ℤ) → reduce f (cons_option o []) ≡ o
      option-alone f None = refl
      option-alone f (Some n) = refl

      metric-alone : (m : Metric) → metric_sum (m ∷ []) ≡ m
      metric-alone m =
          let count : sum_by (λ m. m.count) (m ∷ []) ≡ m.count = omega arith in
          let total : int_sum (m.sum ∷ []) ≡ m.sum = omega (arith, ints) in
          λ i. (record { count = count i; sum = total i; least = option-alone int_min m.least i; greatest = option-alone int_max m.greatest i })
  a_number-alone k x (Node-F.Fixed bs) e h = absurd h
  a_number-alone k x (Node-F.Keyed bs error full cut) e h = absurd h

  by-alone : (k : Kind) (shape : Shape) (x : Node) → T (is_tree_at ts (fixed_keys k) shape (out-Node x)) → whole_by ws k shape (x ∷ []) ≡ x
  by-alone k by_key x h = by_key-alone k x (out-Node x) refl h
  by-alone k from_start x h = from_start-alone k x (out-Node x) refl h
  by-alone k a_number x h = a_number-alone k x (out-Node x) refl h

mutual
  pub whole_node-alone : (a : Agg) (x : Node) → T (is_tree_of a x) → whole_node a (x ∷ []) ≡ x
  whole_node-alone (Agg' name k n children) x h = by-alone _ _ (each-alone_of children) k (shape_of k) x h

  each-alone_of : {n : _} (children : Row_of-Agg n) → Alone (fold_aggs (λ a. whole_by a.children a.kind (shape_of a.kind)) children) (fold_aggs (λ a n. is_tree_at a.children (fixed_keys a.kind) (shape_of a.kind) (out-Node n)) children)
  each-alone_of end_of-Agg = tt
  each-alone_of (more_of-Agg a rest) = (whole_node-alone a, each-alone_of rest)
