-- No number of a whole is above the sum of the greatest numbers of its trees.
use Rattle.std.specs.Prelude.{◌≡◌, refl, ℕ, zero, suc, ◌+◌, ◌≤◌, max, Bool, true, false, cond, T, List, [], ◌∷◌, ◌++◌, map, flat_map, sum_by, drop, Some, slice_get}
use Rattle.std.specs.List.{list_all, enumerate_from, cons_option}
use Rattle.std.proofs.Common.{sym, ◌∙◌, ap, subst, arith}
use Rattle.std.proofs.lemmas.List.Sums.{sum_by-cons, sum_by-append}
use Rattle.agg_model.specs.declared.key.Key.{Key}
use Rattle.agg_model.specs.declared.partial.Bucket.{Bucket}
use Rattle.agg_model.specs.declared.partial.Metric.{Metric}
use Rattle.agg_model.specs.declared.partial.Node.{Node, out-Node}
use Rattle.agg_model.specs.declared.partial.Node.TheOpen.{Node-F}
use Rattle.agg_model.specs.declared.aggregation.Agg.{Agg, Agg', Row_of-Agg, end_of-Agg, more_of-Agg}
use Rattle.agg_model.specs.declared.aggregation.Kind.{Kind}
use Rattle.agg_evaluation.specs.Folds.{fold_aggs}
use Rattle.agg_evaluation.specs.KeyOrder.{key_eq}
use Rattle.agg_evaluation.specs.Keys.{distinct_keys}
use Rattle.agg_evaluation.specs.Orders.{bucket_key, bucket_count}
use Rattle.agg_evaluation.specs.Shard.{fixed_keys, is_terms}
use Rattle.agg_evaluation.specs.Trees.{is_ascending, are_same_keys, pass_each, have_children, is_tree_at, is_tree_of}
use Rattle.agg_evaluation.specs.Whole.{Parts, parts, parts_at, children_at, whole_bucket, whole_by, whole_node, shape_of, Shape, by_key, from_start, a_number, metric_sum}
use Rattle.std.specs.FinMap.{slice_cmp-IsAntisymmetric}
use Rattle.agg_evaluation.proofs.KeyExact.{exact_keys}
use Rattle.agg_evaluation.proofs.KeyLists.{key_eq-exact, is_below, below-absent, ascending-distinct_keys}
use Rattle.agg_evaluation.proofs.KeyParts.{parts-at_most, with_key-all}
use Rattle.agg_evaluation.proofs.NodeForms.{out-Keyed, out-Fixed, out-Number}
use Rattle.agg_evaluation.proofs.UnionLaws.{ascending-fixed_keys, without_key}
use Rattle.agg_evaluation.proofs.WholeLaws.{Union, tree_buckets, with_key}
use Rattle.list_laws.proofs.Booleans.{and_left, and_right, both, holds}
use Rattle.list_laws.proofs.Lists.{filter-append, sum_by-flat_map, sum_by-map}
use Rattle.list_laws.proofs.Orders.{equal_is}
use Rattle.list_laws.proofs.Sums.{sum_by-at_most}
use Rattle.fitting_laws.proofs.Reach.{most, most_each, most_map, returned, bucket_reach, parts_reach, reach}

-- what the parts of a tree say
pub record Level (ts : List (Node → Bool)) (p : Parts) : Type 0 where
  pub up : T (is_ascending (map bucket_key p.buckets))
  pub children : T (have_children ts p.buckets)
  pub single : (f : Metric → ℕ) → sum_by f p.metrics ≤ most f p.metrics

pub level_of : (ts : List (Node → Bool)) (k : Kind) (shape : Shape) (n : Node-F Node Bucket) → T (is_tree_at ts (fixed_keys k) shape n) → Level ts (parts_at n)
level_of ts k by_key (Node-F.Keyed bs e f c) h = record { up = and_left (is_ascending (map bucket_key bs)) (have_children ts bs) h; children = and_right (is_ascending (map bucket_key bs)) (have_children ts bs) h; single = λ f. omega arith }
level_of ts k by_key (Node-F.Fixed bs) h = absurd h
level_of ts k by_key (Node-F.Number m) h = absurd h
level_of ts k from_start (Node-F.Fixed bs) h =
    let are : map bucket_key bs ≡ fixed_keys k = slice_cmp-IsAntisymmetric exact_keys (map bucket_key bs) (fixed_keys k) (equal_is _ (and_left (are_same_keys (map bucket_key bs) (fixed_keys k)) (have_children ts bs) h)) in
    record { up = subst (λ ks. T (is_ascending ks)) (sym are) (ascending-fixed_keys k); children = and_right (are_same_keys (map bucket_key bs) (fixed_keys k)) (have_children ts bs) h; single = λ f. omega arith }
level_of ts k from_start (Node-F.Keyed bs e f c) h = absurd h
level_of ts k from_start (Node-F.Number m) h = absurd h
level_of ts k a_number (Node-F.Number m) h = record { up = tt; children = tt; single = λ f. let cons = sum_by-cons f m [] in omega (arith, cons) }
level_of ts k a_number (Node-F.Keyed bs e f c) h = absurd h
level_of ts k a_number (Node-F.Fixed bs) h = absurd h

-- trees, each with its level
abbrev pub AreLevels : List (Node → Bool) → List Node → Type 0
AreLevels ts [] = Unit {0}
AreLevels ts (x ∷ xs) = Level ts (parts x) × AreLevels ts xs

pub levels_of : (ts : List (Node → Bool)) (k : Kind) (shape : Shape) (xs : List Node) → T (list_all (λ n. is_tree_at ts (fixed_keys k) shape (out-Node n)) xs) → AreLevels ts xs
levels_of ts k shape [] h = tt
levels_of ts k shape (x ∷ xs) h = (level_of ts k shape (out-Node x) (and_left _ _ h), levels_of ts k shape xs (and_right _ _ h))

-- all buckets of trees have trees of the children
pub all_children : (ts : List (Node → Bool)) (xs : List Node) → AreLevels ts xs → T (have_children ts (tree_buckets xs))
all_children ts [] h = tt
all_children ts (x ∷ xs) h = append-all (parts x).buckets (tree_buckets xs) h.0.children (all_children ts xs h.1)
  where
    append-all : (bs cs : List Bucket) → T (have_children ts bs) → T (have_children ts cs) → T (have_children ts (bs ++ cs))
    append-all [] cs h g = g
    append-all (b ∷ bs) cs h g = both _ _ (and_left _ _ h) (append-all bs cs (and_right _ _ h) g)

-- of each tree one bucket has the key at most
module _ (f : Bucket → ℕ) (q : Key) where
  once : (bs : List Bucket) → T (is_ascending (map bucket_key bs)) → sum_by f (with_key q bs) ≤ most f bs
  once [] h = omega arith
  once (b ∷ bs) h =
      elim (key_eq q (bucket_key b)) as (λ c. key_eq q (bucket_key b) ≡ c → sum_by f (cond c (b ∷ with_key q bs) (with_key q bs)) ≤ max (f b) (most f bs)) [
        | true ↦ λ e.
            let below = subst (λ j. T (is_below j (map bucket_key bs))) (sym (key_eq-exact q (bucket_key b) (holds _ e))) (and_left _ _ h) in
            let none = ap (sum_by f) (without_key q bs (below-absent q (map bucket_key bs) below)) in
            let cons = sum_by-cons f b (with_key q bs) in
            omega (arith, none, cons)
        | false ↦ λ e. let rest = once bs (and_right _ _ h) in omega (arith, rest)
      ] refl

  -- trees whose buckets are each at most what the tree is
  abbrev pub AreBelow : (Node → ℕ) → List Node → Type 0
  AreBelow g [] = Unit {0}
  AreBelow g (x ∷ xs) = (most f (parts x).buckets ≤ g x) × AreBelow g xs

  pub all_below : (g : Node → ℕ) → ((x : Node) → most f (parts x).buckets ≤ g x) → (xs : List Node) → AreBelow g xs
  all_below g below [] = tt
  all_below g below (x ∷ xs) = (below x, all_below g below xs)

  pub once_each : (ts : List (Node → Bool)) (g : Node → ℕ) (xs : List Node) → AreBelow g xs → AreLevels ts xs → sum_by f (with_key q (tree_buckets xs)) ≤ sum_by g xs
  once_each ts g [] below h = omega arith
  once_each ts g (x ∷ xs) below h =
      let split = ap (sum_by f) (filter-append (λ b. key_eq q (bucket_key b)) (parts x).buckets (tree_buckets xs)) in
      let added = sum_by-append f (with_key q (parts x).buckets) (with_key q (tree_buckets xs)) in
      let first = once (parts x).buckets h.0.up in
      let bound = below.0 in
      let cons = sum_by-cons g x xs in
      let rest = once_each ts g xs below.1 h.1 in
      omega (arith, split, added, first, bound, cons, rest)

-- the first of the rest of a list of children
abbrev Heads : (Node → Bool) → List (Node → Bool) → (Node → ℕ) → List (Node → ℕ) → ℕ → List Node → Type 0
Heads t ts f fs m ns = (n : Node) × (slice_get ns m ≡ Some n) × T (t n) × T (pass_each ts (drop (suc m) ns)) × (most_each (f ∷ fs) (drop m ns) ≡ max (f n) (most_each fs (drop (suc m) ns)))

heads : (t : Node → Bool) (ts : List (Node → Bool)) (f : Node → ℕ) (fs : List (Node → ℕ)) (m : ℕ) (ns : List Node) → T (pass_each (t ∷ ts) (drop m ns)) → Heads t ts f fs m ns
heads t ts f fs zero [] h = absurd h
heads t ts f fs zero (n ∷ ns) h = (n, refl, and_left _ _ h, and_right _ _ h, refl)
heads t ts f fs (suc m) [] h = absurd h
heads t ts f fs (suc m) (n ∷ ns) h = heads t ts f fs m ns h

-- the m-th children of buckets, and what is behind them
pub record Column (t : Node → Bool) (ts : List (Node → Bool)) (f : Node → ℕ) (fs : List (Node → ℕ)) (m : ℕ) (bs : List Bucket) : Type 0 where
  pub pass : T (list_all t (children_at bs m))
  pub rest : T (list_all (λ b. pass_each ts (drop (suc m) b.children)) bs)
  here : sum_by f (children_at bs m) ≤ sum_by (λ b. most_each (f ∷ fs) (drop m b.children)) bs
  behind : sum_by (λ b. most_each fs (drop (suc m) b.children)) bs ≤ sum_by (λ b. most_each (f ∷ fs) (drop m b.children)) bs

pub column : (t : Node → Bool) (ts : List (Node → Bool)) (f : Node → ℕ) (fs : List (Node → ℕ)) (m : ℕ) (bs : List Bucket) → T (list_all (λ b. pass_each (t ∷ ts) (drop m b.children)) bs) → Column t ts f fs m bs
column t ts f fs m [] h = record { pass = tt; rest = tt; here = omega arith; behind = omega arith }
column t ts f fs m (b ∷ bs) h =
    let first = heads t ts f fs m b.children (and_left _ _ h) in
    let later = column t ts f fs m bs (and_right _ _ h) in
    let is : children_at (b ∷ bs) m ≡ first.0 ∷ children_at bs m = ap (λ o. cons_option o (children_at bs m)) first.1 in
    let whole = sum_by-cons (λ b. most_each (f ∷ fs) (drop m b.children)) b bs in
    let left = sum_by-cons (λ b. most_each fs (drop (suc m) b.children)) b bs in
    let there : sum_by f (children_at (b ∷ bs) m) ≡ f first.0 + sum_by f (children_at bs m) = ap (sum_by f) is ∙ sum_by-cons f first.0 (children_at bs m) in
    let own = first.4 in
    let one = later.here in
    let two = later.behind in
    (record {
      pass = subst (λ ns. T (list_all t ns)) (sym is) (both _ _ first.2 later.pass);
      rest = both _ _ first.3 later.rest;
      here = omega (arith, whole, there, own, one);
      behind = omega (arith, whole, left, own, two);
    })

-- a union whose numbers are no more than its trees' together
abbrev pub Adds : Union → (Node → Bool) → (Node → ℕ) → Type 0
Adds w t f = (xs : List Node) → T (list_all t xs) → f (w xs) ≤ sum_by f xs

abbrev pub EachAdds : List Union → List (Node → Bool) → List (Node → ℕ) → Type 0
EachAdds [] [] [] = Unit {0}
EachAdds (w ∷ ws) (t ∷ ts) (f ∷ fs) = Adds w t f × EachAdds ws ts fs
EachAdds _ _ _ = ⊥

children_add : (m : ℕ) (ws : List Union) (ts : List (Node → Bool)) (fs : List (Node → ℕ)) → EachAdds ws ts fs → (bs : List Bucket) → T (list_all (λ b. pass_each ts (drop m b.children)) bs)
    → most_each fs (map (λ c. c.1 (children_at bs c.0)) (enumerate_from m ws)) ≤ sum_by (λ b. most_each fs (drop m b.children)) bs
children_add m [] [] [] h bs pass = omega arith
children_add m [] [] (f ∷ fs) h bs pass = absurd h
children_add m [] (t ∷ ts) fs h bs pass = absurd h
children_add m (w ∷ ws) [] fs h bs pass = absurd h
children_add m (w ∷ ws) (t ∷ ts) [] h bs pass = absurd h
children_add m (w ∷ ws) (t ∷ ts) (f ∷ fs) h bs pass =
    let col = column t ts f fs m bs pass in
    let next : m + 1 ≡ suc m = omega arith in
    let one = h.0 (children_at bs m) col.pass in
    let rest : most_each fs (map (λ c. c.1 (children_at bs c.0)) (enumerate_from (m + 1) ws)) ≤ sum_by (λ b. most_each fs (drop (m + 1) b.children)) bs
    = children_add (m + 1) ws ts fs h.1 bs (subst (λ n. T (list_all (λ b. pass_each ts (drop n b.children)) bs)) (sym next) col.rest) in
    let rest' = subst (λ n. most_each fs (map (λ c. c.1 (children_at bs c.0)) (enumerate_from (m + 1) ws)) ≤ sum_by (λ b. most_each fs (drop n b.children)) bs) next rest in
    let here = col.here in
    let behind = col.behind in
    omega (arith, one, rest', here, behind)

-- numbers that metrics add up
abbrev pub AddsUp : (Metric → ℕ) → Type 0
AddsUp number = (ms : List Metric) → number (metric_sum ms) ≤ sum_by number ms

module _ (number : Metric → ℕ) (adds_up : AddsUp number) (ws : List Union) (ts : List (Node → Bool)) (fs : List (Node → ℕ)) (laws : EachAdds ws ts fs) where
  bucket_adds : (bs : List Bucket) (q : Key) → T (have_children ts bs) → bucket_reach fs (whole_bucket ws bs q) ≤ sum_by (bucket_reach fs) (with_key q bs)
  bucket_adds bs q h =
      let same = with_key q bs in
      let counts = sum_by-at_most bucket_count (bucket_reach fs) same (λ b. omega arith) in
      let covers = sum_by-at_most (λ b. b.covered) (bucket_reach fs) same (λ b. omega arith) in
      let below = sum_by-at_most (λ b. most_each fs b.children) (bucket_reach fs) same (λ b. omega arith) in
      let children = children_add 0 ws ts fs laws same (with_key-all (λ b. pass_each ts b.children) q bs h) in
      omega (arith, counts, covers, below, children)

  module _ (k : Kind) where
    abbrev own : Node → ℕ
    own x = parts_reach number fs k (parts x)

    -- a whole bucket
    buckets_add : (xs : List Node) → AreLevels ts xs → (ks : List Key) → most (bucket_reach fs) (map (whole_bucket ws (tree_buckets xs)) ks) ≤ sum_by own xs
    buckets_add xs h ks = most_map (bucket_reach fs) (sum_by own xs) (whole_bucket ws (tree_buckets xs)) ks (λ q.
        let one = bucket_adds (tree_buckets xs) q (all_children ts xs h) in
        let apart = once_each (bucket_reach fs) q ts own xs (all_below (bucket_reach fs) q own (λ x. omega arith) xs) h in
        omega (arith, one, apart))

    returned_add : (xs : List Node) (ks : List Key) → T (is_ascending ks) → (b : Bool)
        → cond b (sum_by bucket_count (map (whole_bucket ws (tree_buckets xs)) ks)) 0 ≤ sum_by (λ x. cond b (sum_by bucket_count (parts x).buckets) 0) xs
    returned_add xs ks up true =
        let made = sum_by-map bucket_count (whole_bucket ws (tree_buckets xs)) ks in
        let apart = parts-at_most bucket_count (tree_buckets xs) ks up in
        let all = sum_by-flat_map bucket_count (λ x. (parts x).buckets) xs in
        omega (arith, made, apart, all)
    returned_add xs ks up false = omega arith

    keyed_adds : (xs : List Node) → AreLevels ts xs → own (whole_by ws k by_key xs) ≤ sum_by own xs
    keyed_adds xs h =
        let bs = tree_buckets xs in
        let ks = distinct_keys (map bucket_key bs) in
        let made = ap parts_at (out-Keyed (map (whole_bucket ws bs) ks) (sum_by (λ t. (parts t).error) xs) (sum_by (λ t. (parts t).full) xs) (sum_by (λ t. (parts t).cut) xs)) in
        let form = ap (parts_reach number fs k) made in
        let errors = sum_by-at_most (λ t. (parts t).error) own xs (λ x. omega arith) in
        let full = sum_by-at_most (λ t. (parts t).full) own xs (λ x. omega arith) in
        let cut = sum_by-at_most (λ t. (parts t).cut + returned k (parts t).buckets) own xs (λ x. omega arith) in
        let split = plus xs in
        let kept = returned_add xs ks (ascending-distinct_keys (map bucket_key bs)) (is_terms k) in
        let buckets = buckets_add xs h ks in
        let all : parts_reach number fs k (record { buckets = map (whole_bucket ws bs) ks; error = sum_by (λ t. (parts t).error) xs; full = sum_by (λ t. (parts t).full) xs; cut = sum_by (λ t. (parts t).cut) xs; metrics = [] }) ≤ sum_by own xs
        = omega (arith, errors, full, cut, split, kept, buckets) in
        subst (λ (n : ℕ). n ≤ sum_by own xs) (sym form) all
      where
        plus : (xs : List Node) → sum_by (λ t. (parts t).cut + returned k (parts t).buckets) xs ≡ sum_by (λ t. (parts t).cut) xs + sum_by (λ x. returned k (parts x).buckets) xs
        plus [] = refl
        plus (x ∷ xs) =
            let a = sum_by-cons (λ t. (parts t).cut + returned k (parts t).buckets) x xs in
            let b = sum_by-cons (λ t. (parts t).cut) x xs in
            let c = sum_by-cons (λ x. returned k (parts x).buckets) x xs in
            let rest = plus xs in
            omega (arith, a, b, c, rest)

    started_adds : (xs : List Node) → AreLevels ts xs → own (whole_by ws k from_start xs) ≤ sum_by own xs
    started_adds xs h =
        let bs = tree_buckets xs in
        let form = ap (parts_reach number fs k) (ap parts_at (out-Fixed (map (whole_bucket ws bs) (fixed_keys k)))) in
        let buckets = buckets_add xs h (fixed_keys k) in
        let kept = returned_add xs (fixed_keys k) (ascending-fixed_keys k) (is_terms k) in
        let returns = sum_by-at_most (λ x. returned k (parts x).buckets) own xs (λ x. omega arith) in
        let all : parts_reach number fs k (record { buckets = map (whole_bucket ws bs) (fixed_keys k); error = 0; full = 0; cut = 0; metrics = [] }) ≤ sum_by own xs = omega (arith, buckets, kept, returns) in
        subst (λ (n : ℕ). n ≤ sum_by own xs) (sym form) all

    numbers_add : (xs : List Node) → AreLevels ts xs → own (whole_by ws k a_number xs) ≤ sum_by own xs
    numbers_add xs h =
        let ms = flat_map (λ t. (parts t).metrics) xs in
        let form = ap (parts_reach number fs k) (ap parts_at (out-Number (metric_sum ms))) in
        let up = adds_up ms in
        let split = sum_by-flat_map number (λ t. (parts t).metrics) xs in
        let each = each_number xs h in
        let none : returned k [] ≡ 0 = elim (is_terms k) as (λ b. cond b (sum_by bucket_count []) 0 ≡ 0) [ true ↦ refl | false ↦ refl ] in
        let all : parts_reach number fs k (record { buckets = []; error = 0; full = 0; cut = 0; metrics = metric_sum ms ∷ [] }) ≤ sum_by own xs = omega (arith, up, split, each, none) in
        subst (λ (n : ℕ). n ≤ sum_by own xs) (sym form) all
      where
        each_number : (xs : List Node) → AreLevels ts xs → sum_by (λ t. sum_by number (parts t).metrics) xs ≤ sum_by own xs
        each_number [] h = omega arith
        each_number (x ∷ xs) h =
            let one = h.0.single number in
            let a = sum_by-cons (λ t. sum_by number (parts t).metrics) x xs in
            let b = sum_by-cons own x xs in
            let rest = each_number xs h.1 in
            omega (arith, one, a, b, rest)

    shape_adds : (shape : Shape) → Adds (whole_by ws k shape) (λ x. is_tree_at ts (fixed_keys k) shape (out-Node x)) own
    shape_adds by_key xs h = keyed_adds xs (levels_of ts k by_key xs h)
    shape_adds from_start xs h = started_adds xs (levels_of ts k from_start xs h)
    shape_adds a_number xs h = numbers_add xs (levels_of ts k a_number xs h)

module _ (number : Metric → ℕ) (adds_up : AddsUp number) where
  mutual
    pub whole_adds : (a : Agg) → Adds (whole_node a) (is_tree_of a) (reach number a)
    whole_adds (Agg' name k n children) = shape_adds number adds_up _ _ _ (each_adds children) k (shape_of k)

    each_adds : {n : _} (children : Row_of-Agg n) → EachAdds (fold_aggs (λ a. whole_by a.children a.kind (shape_of a.kind)) children)
        (fold_aggs (λ a n. is_tree_at a.children (fixed_keys a.kind) (shape_of a.kind) (out-Node n)) children) (fold_aggs (λ a n. parts_reach number a.children a.kind (parts n)) children)
    each_adds end_of-Agg = tt
    each_adds (more_of-Agg a rest) = (whole_adds a, each_adds rest)
