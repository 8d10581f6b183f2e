-- The whole costs at most what its trees cost together.
use Rattle.std.specs.Prelude.{◌≡◌, refl, ℕ, zero, suc, ◌+◌, ◌*◌, ◌<◌, ◌≤◌, Bool, true, false, cond, ◌||◌, T, List, [], ◌∷◌, ◌++◌, map, flat_map, sum, sum_by, length, drop, Some, slice_get}
use Rattle.std.specs.List.{enumerate_from, list_all, cons_option}
use Rattle.std.proofs.Common.{sym, ◌∙◌, ap, subst, arith}
use Rattle.std.proofs.lemmas.List.Sums.{sum_by-cons, sum_by-append, sum-map}
use Rattle.agg_model.specs.declared.key.Key.{Key}
use Rattle.agg_model.specs.declared.partial.Bucket.{Bucket}
use Rattle.agg_model.specs.declared.partial.Metric.{Metric}
use Rattle.agg_model.specs.declared.partial.Node.{Node, out-Node}
use Rattle.agg_model.specs.declared.partial.Node.TheOpen.{Node-F}
use Rattle.agg_model.specs.declared.partial.Node.TheVariants.{Keyed, Fixed, Number}
use Rattle.agg_model.specs.declared.aggregation.Agg.{Agg, Agg', Row_of-Agg, end_of-Agg, more_of-Agg}
use Rattle.agg_model.specs.declared.aggregation.Kind.{Kind}
use Rattle.agg_evaluation.specs.Folds.{fold_aggs}
use Rattle.agg_evaluation.specs.KeyOrder.{key_eq, has_key}
use Rattle.agg_evaluation.specs.Keys.{distinct_keys}
use Rattle.agg_evaluation.specs.Orders.{bucket_key}
use Rattle.agg_evaluation.specs.Shard.{fixed_keys}
use Rattle.agg_evaluation.specs.Cost.{key_bytes, bucket_cost, node_cost_at, node_cost}
use Rattle.agg_evaluation.specs.Trees.{is_ascending, are_same_keys, pass_each, have_children, is_tree_at, is_tree_of}
use Rattle.agg_evaluation.specs.Whole.{parts, parts_at, children_at, whole_bucket, whole_by, whole_node, shape_of, Shape, by_key, from_start, a_number, metric_sum}
use Rattle.agg_evaluation.proofs.KeyLists.{key_eq-exact, key_eq-self, is_below, below-absent, ascending-distinct_keys, has_key-distinct_keys, key_eq-sym}
use Rattle.list_laws.proofs.Booleans.{and_left, and_right, both, holds}
use Rattle.list_laws.proofs.Orders.{equal_is}
use Rattle.agg_evaluation.proofs.NodeFolds.{fold_bucket, fold_node-Fixed, fold_node-Keyed, fold_node-Number}
use Rattle.agg_evaluation.proofs.NodeForms.{made-Keyed, made-Fixed, made-Number}
use Rattle.std.specs.FinMap.{slice_cmp-IsAntisymmetric}
use Rattle.agg_evaluation.proofs.KeyExact.{exact_keys}
use Rattle.list_laws.proofs.Lists.{map-append}
use Rattle.agg_evaluation.proofs.UnionLaws.{ascending-fixed_keys, has_key-append}
use Rattle.agg_evaluation.proofs.WholeLaws.{Union, tree_buckets, with_key}
use Rattle.agg_evaluation.proofs.KeyParts.{part, parts-at_most, with_key-all, with_key-some}

-- the bytes of a bucket with all below it
abbrev pub bytes : Bucket → ℕ
bytes b = 128 + key_bytes b.key + sum_by node_cost b.children

bytes-folded : (bs : List Bucket) → sum (map (fold_bucket node_cost_at bucket_cost) bs) ≡ sum_by bytes bs
bytes-folded bs = sum-map (fold_bucket node_cost_at bucket_cost) bs ∙ (λ i. sum_by (λ b. 128 + key_bytes b.key + sum-map node_cost b.children i) bs)

pub cost-Keyed : (bs : List Bucket) (error full cut : ℕ) → node_cost (Keyed bs error full cut) ≡ 512 + sum_by bytes bs
cost-Keyed bs error full cut = fold_node-Keyed node_cost_at bucket_cost bs error full cut ∙ ap (λ n. 512 + n) (bytes-folded bs)

pub cost-Fixed : (bs : List Bucket) → node_cost (Fixed bs) ≡ 512 + sum_by bytes bs
cost-Fixed bs = fold_node-Fixed node_cost_at bucket_cost bs ∙ ap (λ n. 512 + n) (bytes-folded bs)

pub cost-Number : (m : Metric) → node_cost (Number m) ≡ 512
cost-Number m = fold_node-Number node_cost_at bucket_cost m

-- a test of the first of the rest of a list
abbrev Heads : (Node → Bool) → List (Node → Bool) → ℕ → List Node → Type 0
Heads t ts m ns = (n : Node) × (slice_get ns m ≡ Some n) × T (t n) × T (pass_each ts (drop (suc m) ns)) × (sum_by node_cost (drop m ns) ≡ node_cost n + sum_by node_cost (drop (suc m) ns))

heads : (t : Node → Bool) (ts : List (Node → Bool)) (m : ℕ) (ns : List Node) → T (pass_each (t ∷ ts) (drop m ns)) → Heads t ts m ns
heads t ts zero [] h = absurd h
heads t ts zero (n ∷ ns) h = (n, refl, and_left _ _ h, and_right _ _ h, sum_by-cons node_cost n ns)
heads t ts (suc m) [] h = absurd h
heads t ts (suc m) (n ∷ ns) h = heads t ts m ns h

-- the m-th children of buckets, and what is behind them
record Column (t : Node → Bool) (ts : List (Node → Bool)) (m : ℕ) (bs : List Bucket) : Type 0 where
  pass : T (list_all t (children_at bs m))
  full : length (children_at bs m) ≡ length bs
  rest : T (list_all (λ b. pass_each ts (drop (suc m) b.children)) bs)
  costs : sum_by (λ b. sum_by node_cost (drop m b.children)) bs ≡ sum_by node_cost (children_at bs m) + sum_by (λ b. sum_by node_cost (drop (suc m) b.children)) bs

column : (t : Node → Bool) (ts : List (Node → Bool)) (m : ℕ) (bs : List Bucket) → T (list_all (λ b. pass_each (t ∷ ts) (drop m b.children)) bs) → Column t ts m bs
column t ts m [] h = record { pass = tt; full = refl; rest = tt; costs = refl }
column t ts m (b ∷ bs) h =
    let first = heads t ts m b.children (and_left _ _ h) in
    let later = column t ts m bs (and_right _ _ h) in
    let here : children_at (b ∷ bs) m ≡ first.0 ∷ children_at bs m = ap (λ o. cons_option o (children_at bs m)) first.1 in
    (record {
      pass = subst (λ ns. T (list_all t ns)) (sym here) (both _ _ first.2 later.pass);
      full = ap length here ∙ ap suc later.full;
      rest = both _ _ first.3 later.rest;
      costs =
          let before = sum_by-cons (λ b. sum_by node_cost (drop m b.children)) b bs in
          let behind = sum_by-cons (λ b. sum_by node_cost (drop (suc m) b.children)) b bs in
          let there : sum_by node_cost (children_at (b ∷ bs) m) ≡ node_cost first.0 + sum_by node_cost (children_at bs m) = ap (sum_by node_cost) here ∙ sum_by-cons node_cost first.0 (children_at bs m) in
          let own = first.4 in
          let all = later.costs in
          omega arith;
    })

-- a union that costs at most what its trees do
abbrev pub Saves : Union → (Node → Bool) → Type 0
Saves w t = (xs : List Node) → 0 < length xs → T (list_all t xs) → node_cost (w xs) ≤ sum_by node_cost xs

abbrev pub EachSaves : List Union → List (Node → Bool) → Type 0
EachSaves [] [] = Unit {0}
EachSaves (w ∷ ws) (t ∷ ts) = Saves w t × EachSaves ws ts
EachSaves _ _ = ⊥

pub children-save : (m : ℕ) (ws : List Union) (ts : List (Node → Bool)) → EachSaves ws ts → (bs : List Bucket) → 0 < length bs → T (list_all (λ b. pass_each ts (drop m b.children)) bs)
    → sum_by node_cost (map (λ c. c.1 (children_at bs c.0)) (enumerate_from m ws)) ≤ sum_by (λ b. sum_by node_cost (drop m b.children)) bs
children-save m [] [] h bs some pass = omega arith
children-save m [] (t ∷ ts) h bs some pass = absurd h
children-save m (w ∷ ws) [] h bs some pass = absurd h
children-save m (w ∷ ws) (t ∷ ts) h bs some pass =
    let col = column t ts m bs pass in
    let one = h.0 (children_at bs m) (let full = col.full in omega arith) col.pass in
    let next : m + 1 ≡ suc m = omega arith in
    let rest : sum_by node_cost (map (λ c. c.1 (children_at bs c.0)) (enumerate_from (m + 1) ws)) ≤ sum_by (λ b. sum_by node_cost (drop (m + 1) b.children)) bs
    = children-save (m + 1) ws ts h.1 bs some (subst (λ n. T (list_all (λ b. pass_each ts (drop n b.children)) bs)) (sym next) col.rest) in
    let rest' = subst (λ n. sum_by node_cost (map (λ c. c.1 (children_at bs c.0)) (enumerate_from (m + 1) ws)) ≤ sum_by (λ b. sum_by node_cost (drop n b.children)) bs) next rest in
    let both = sum_by-cons node_cost (w (children_at bs m)) (map (λ c. c.1 (children_at bs c.0)) (enumerate_from (m + 1) ws)) in
    let costs = col.costs in
    omega arith

-- the bytes of buckets of one key: of the key for each, and of the children
with_key-bytes : (q : Key) (bs : List Bucket) → sum_by bytes (with_key q bs) ≡ length (with_key q bs) * (128 + key_bytes q) + sum_by (λ b. sum_by node_cost b.children) (with_key q bs)
with_key-bytes q [] = omega arith
with_key-bytes q (b ∷ bs) =
    elim (key_eq q (bucket_key b)) as (λ c. key_eq q (bucket_key b) ≡ c → sum_by bytes (cond c (b ∷ with_key q bs) (with_key q bs))
    ≡ length (cond c (b ∷ with_key q bs) (with_key q bs)) * (128 + key_bytes q) + sum_by (λ b. sum_by node_cost b.children) (cond c (b ∷ with_key q bs) (with_key q bs))) [
      | true ↦ λ e.
          let same : key_bytes (bucket_key b) ≡ key_bytes q = ap key_bytes (sym (key_eq-exact q (bucket_key b) (holds _ e))) in
          let cons = sum_by-cons bytes b (with_key q bs) in
          let behind = sum_by-cons (λ b. sum_by node_cost b.children) b (with_key q bs) in
          let rest = with_key-bytes q bs in
          let product : suc (length (with_key q bs)) * (128 + key_bytes q) ≡ (128 + key_bytes q) + length (with_key q bs) * (128 + key_bytes q) = omega arith in
          omega arith
      | false ↦ λ e. with_key-bytes q bs
    ] refl

at_least_one : (n m : ℕ) → 0 < n → m ≤ n * m
at_least_one zero m h = absurd (omega arith)
at_least_one (suc n) m h = let product : suc n * m ≡ m + n * m = omega arith in omega arith

module _ (ws : List Union) (ts : List (Node → Bool)) (laws : EachSaves ws ts) where
  bucket-saves : (bs : List Bucket) (q : Key) → T (have_children ts bs) → has_key q (map bucket_key bs) ≡ true → bytes (whole_bucket ws bs q) ≤ sum_by bytes (with_key q bs)
  bucket-saves bs q h e =
      let same = with_key q bs in
      let some = with_key-some q bs e in
      let children = children-save 0 ws ts laws same some (with_key-all (λ b. pass_each ts b.children) q bs h) in
      let all = with_key-bytes q bs in
      let one = at_least_one (length same) (128 + key_bytes q) some in
      omega arith

  -- the buckets of keys that stand in some bucket
  buckets-save : (bs : List Bucket) (ks : List Key) → T (have_children ts bs) → ((q : Key) → has_key q ks ≡ true → has_key q (map bucket_key bs) ≡ true) → sum_by bytes (map (whole_bucket ws bs) ks) ≤ sum_by (part bytes bs) ks
  buckets-save bs [] h there = omega arith
  buckets-save bs (k ∷ ks) h there =
      let made = sum_by-cons bytes (whole_bucket ws bs k) (map (whole_bucket ws bs) ks) in
      let given = sum_by-cons (part bytes bs) k ks in
      let first = bucket-saves bs k h (there k (ap (λ b. b || has_key k ks) (key_eq-self k))) in
      let rest = buckets-save bs ks h (λ q e. there q (later (key_eq q k) (has_key q ks) e)) in
      omega arith
    where
      later : (b c : Bool) → c ≡ true → (b || c) ≡ true
      later true c e = refl
      later false c e = e

-- what a tree of buckets costs
abbrev TreeOfBuckets : (Node → Bool) → List (Node → Bool) → Type 0
TreeOfBuckets t ts = (x : Node) → T (t x) → (node_cost x ≡ 512 + sum_by bytes (parts x).buckets) × T (have_children ts (parts x).buckets)

all-append : {A : Type 0} (p : A → Bool) (xs ys : List A) → T (list_all p xs) → T (list_all p ys) → T (list_all p (xs ++ ys))
all-append p [] ys h g = g
all-append p (x ∷ xs) ys h g = both _ _ (and_left _ _ h) (all-append p xs ys (and_right _ _ h) g)

trees-cost : (t : Node → Bool) (ts : List (Node → Bool)) → TreeOfBuckets t ts → (xs : List Node) → T (list_all t xs) → (length xs * 512 + sum_by bytes (tree_buckets xs) ≡ sum_by node_cost xs) × T (have_children ts (tree_buckets xs))
trees-cost t ts tree [] h = (refl, tt)
trees-cost t ts tree (x ∷ xs) h =
    let first = tree x (and_left _ _ h) in
    let rest = trees-cost t ts tree xs (and_right _ _ h) in
    let here = first.0 in
    let later = rest.0 in
    let costs = sum_by-cons node_cost x xs in
    let buckets = sum_by-append bytes (parts x).buckets (tree_buckets xs) in
    let product : suc (length xs) * 512 ≡ 512 + length xs * 512 = omega arith in
    (omega arith, all-append (λ b. pass_each ts b.children) (parts x).buckets (tree_buckets xs) first.1 rest.1)

module _ (ws : List Union) (ts : List (Node → Bool)) (laws : EachSaves ws ts) (k : Kind) where
  keyed-tree : TreeOfBuckets (λ x. is_tree_at ts (fixed_keys k) by_key (out-Node x)) ts
  keyed-tree x h = at x (out-Node x) refl h
    where
      at : (x : Node) (n : Node-F Node Bucket) → out-Node x ≡ n → T (is_tree_at ts (fixed_keys k) by_key n) → (node_cost x ≡ 512 + sum_by bytes (parts x).buckets) × T (have_children ts (parts x).buckets)
      at x (Node-F.Keyed bs error full cut) e h =
          let have : (parts x).buckets ≡ bs = ap (λ n. (parts_at n).buckets) e in (
            sym (ap node_cost (made-Keyed x bs error full cut e)) ∙ cost-Keyed bs error full cut ∙ ap (λ bs. 512 + sum_by bytes bs) (sym have),
            subst (λ bs. T (have_children ts bs)) (sym have) (and_right (is_ascending (map bucket_key bs)) (have_children ts bs) h),
          )
      at x (Node-F.Fixed bs) e h = absurd h
      at x (Node-F.Number m) e h = absurd h

  by_key-saves : Saves (whole_by ws k by_key) (λ x. is_tree_at ts (fixed_keys k) by_key (out-Node x))
  by_key-saves xs some h =
      let bs = tree_buckets xs in
      let ks = distinct_keys (map bucket_key bs) in
      let trees = trees-cost _ ts keyed-tree xs h in
      let whole : node_cost (whole_by ws k by_key xs) ≡ 512 + sum_by bytes (map (whole_bucket ws bs) ks) = cost-Keyed (map (whole_bucket ws bs) ks) (sum_by (λ t. (parts t).error) xs) (sum_by (λ t. (parts t).full) xs) (sum_by (λ t. (parts t).cut) xs) in
      let made = buckets-save ws ts laws bs ks trees.1 (λ q e. sym (has_key-distinct_keys q (map bucket_key bs)) ∙ e) in
      let apart = parts-at_most bytes bs ks (ascending-distinct_keys (map bucket_key bs)) in
      let costs = trees.0 in
      let one = at_least_one (length xs) 512 some in
      omega arith

  -- a tree with buckets from the start, and its keys
  started-tree : (x : Node) → T (is_tree_at ts (fixed_keys k) from_start (out-Node x)) → (node_cost x ≡ 512 + sum_by bytes (parts x).buckets) × T (have_children ts (parts x).buckets) × (map bucket_key (parts x).buckets ≡ fixed_keys k)
  started-tree x h = at x (out-Node x) refl h
    where
      at : (x : Node) (n : Node-F Node Bucket) → out-Node x ≡ n → T (is_tree_at ts (fixed_keys k) from_start n) → (node_cost x ≡ 512 + sum_by bytes (parts x).buckets) × T (have_children ts (parts x).buckets) × (map bucket_key (parts x).buckets ≡ fixed_keys k)
      at x (Node-F.Fixed bs) e h =
          let have : (parts x).buckets ≡ bs = ap (λ n. (parts_at n).buckets) e in (
            sym (ap node_cost (made-Fixed x bs e)) ∙ cost-Fixed bs ∙ ap (λ bs. 512 + sum_by bytes bs) (sym have),
            subst (λ bs. T (have_children ts bs)) (sym have) (and_right (are_same_keys (map bucket_key bs) (fixed_keys k)) (have_children ts bs) h),
            ap (map bucket_key) have ∙ slice_cmp-IsAntisymmetric exact_keys (map bucket_key bs) (fixed_keys k) (equal_is _ (and_left (are_same_keys (map bucket_key bs) (fixed_keys k)) (have_children ts bs) h)),
          )
      at x (Node-F.Keyed bs error full cut) e h = absurd h
      at x (Node-F.Number m) e h = absurd h

  -- one tree has all keys from the start
  keys-there : (xs : List Node) → 0 < length xs → T (list_all (λ x. is_tree_at ts (fixed_keys k) from_start (out-Node x)) xs) → (q : Key) → has_key q (fixed_keys k) ≡ true → has_key q (map bucket_key (tree_buckets xs)) ≡ true
  keys-there [] some h q e = absurd (omega arith)
  keys-there (x ∷ xs) some h q e =
      let tree = started-tree x (and_left _ _ h) in
      ap (has_key q) (map-append bucket_key (parts x).buckets (tree_buckets xs)) ∙ has_key-append q (map bucket_key (parts x).buckets) (map bucket_key (tree_buckets xs))
      ∙ ap (λ ks. has_key q ks || has_key q (map bucket_key (tree_buckets xs))) tree.2 ∙ ap (λ b. b || has_key q (map bucket_key (tree_buckets xs))) e

  from_start-saves : Saves (whole_by ws k from_start) (λ x. is_tree_at ts (fixed_keys k) from_start (out-Node x))
  from_start-saves xs some h =
      let bs = tree_buckets xs in
      let trees = trees-cost _ ts (λ x h. let tree = started-tree x h in (tree.0, tree.1)) xs h in
      let whole : node_cost (whole_by ws k from_start xs) ≡ 512 + sum_by bytes (map (whole_bucket ws bs) (fixed_keys k)) = cost-Fixed (map (whole_bucket ws bs) (fixed_keys k)) in
      let made = buckets-save ws ts laws bs (fixed_keys k) trees.1 (keys-there xs some h) in
      let apart = parts-at_most bytes bs (fixed_keys k) (ascending-fixed_keys k) in
      let costs = trees.0 in
      let one = at_least_one (length xs) 512 some in
      omega arith

  number-cost : (x : Node) (n : Node-F Node Bucket) → out-Node x ≡ n → T (is_tree_at ts (fixed_keys k) a_number n) → node_cost x ≡ 512
  number-cost x (Node-F.Number m) e h = sym (ap node_cost (made-Number x m e)) ∙ cost-Number m
  number-cost x (Node-F.Keyed bs error full cut) e h = absurd h
  number-cost x (Node-F.Fixed bs) e h = absurd h

  a_number-saves : Saves (whole_by ws k a_number) (λ x. is_tree_at ts (fixed_keys k) a_number (out-Node x))
  a_number-saves [] some h = absurd (omega arith)
  a_number-saves (x ∷ xs) some h =
      let first = number-cost x (out-Node x) refl (and_left _ _ h) in
      let costs = sum_by-cons node_cost x xs in
      let whole : node_cost (whole_by ws k a_number (x ∷ xs)) ≡ 512 = cost-Number (metric_sum (flat_map (λ t. (parts t).metrics) (x ∷ xs))) in
      omega arith

  saves-by : (shape : Shape) → Saves (whole_by ws k shape) (λ x. is_tree_at ts (fixed_keys k) shape (out-Node x))
  saves-by by_key = by_key-saves
  saves-by from_start = from_start-saves
  saves-by a_number = a_number-saves

mutual
  pub whole_node-saves : (a : Agg) → Saves (whole_node a) (is_tree_of a)
  whole_node-saves (Agg' name k n children) = saves-by _ _ (each-saves children) k (shape_of k)

  each-saves : {n : _} (children : Row_of-Agg n) → EachSaves (fold_aggs (λ a. whole_by a.children a.kind (shape_of a.kind)) children) (fold_aggs (λ a n. is_tree_at a.children (fixed_keys a.kind) (shape_of a.kind) (out-Node n)) children)
  each-saves end_of-Agg = tt
  each-saves (more_of-Agg a rest) = (whole_node-saves a, each-saves rest)
