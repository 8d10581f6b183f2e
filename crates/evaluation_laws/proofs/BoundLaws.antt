-- What nodes cost that are collected of some groups of rows is at most the bound of the aggregation over the paths that cover them.
use Rattle.std.specs.Prelude.{◌≡◌, refl, ℕ, suc, ◌+◌, ◌*◌, ◌≤◌, Bool, true, false, not, ◌&&◌, T, List, [], ◌∷◌, map, filter, flat_map, take, sum, sum_by, length, if◌then◌else◌, Option, None, unwrap_or, ◌==◌, ◌-◌}
use Rattle.std.specs.List.{list_all, list_any, last_or}
use Rattle.std.specs.Option.{option_map_or}
use Rattle.std.specs.Ordering.{is_gt}
use Rattle.std.proofs.Common.{sym, ◌∙◌, ap, subst, arith, mul_assoc, mul-le-mul_right}
use Rattle.std.proofs.lemmas.List.{length-map}
use Rattle.std.proofs.Math.Nat.{add-mul}
use Rattle.std.proofs.lemmas.List.Sums.{sum_by-cons}
use Rattle.std.proofs.lemmas.List.Concat.{length-flat_map}
use Rattle.agg_model.specs.declared.key.Key.{Key}
use Rattle.agg_model.specs.declared.key.Key.TheVariants as key
use Rattle.agg_model.specs.declared.mapping.FieldKind.{FieldKind}
use Rattle.agg_model.specs.declared.partial.Bucket.{Bucket}
use Rattle.agg_model.specs.declared.partial.Node.{Node}
use Rattle.agg_model.specs.declared.partial.Node.TheVariants.{Keyed, Fixed}
use Rattle.agg_model.specs.declared.aggregation.Agg.{Agg, Agg', Row_of-Agg, end_of-Agg, more_of-Agg}
use Rattle.agg_model.specs.declared.aggregation.CompositeSource.{CompositeSource}
use Rattle.agg_model.specs.declared.aggregation.Order.{Order}
use Rattle.agg_model.specs.declared.aggregation.Kind.{Kind}
use Rattle.agg_model.specs.declared.aggregation.Kind.TheVariants as kind
use Rattle.agg_evaluation.specs.Folds.{fold_aggs}
use Rattle.agg_evaluation.specs.KeyOrder.{key_cmp, has_key}
use Rattle.list_laws.specs.Sorting.{sorted}
use Rattle.agg_evaluation.specs.Rows.{PlacedRow, is_within, beneath}
use Rattle.agg_evaluation.specs.Keys.{keys, values_or}
use Rattle.agg_evaluation.specs.Groups.{under, group, all_keys, total_key_count}
use Rattle.agg_evaluation.specs.Orders.{bucket_key, bucket_count, bucket_cmp, composite_cmp}
use Rattle.agg_evaluation.specs.Shard.{Collector, metric_of, fixed_keys, page, trimmed_node, with_covered, bucket_of, node_of, collector_of, collected_node}
use Rattle.agg_evaluation.specs.Whole.{shape_of, by_key}
use Rattle.agg_evaluation.specs.Cost.{key_bytes, node_cost}
use Rattle.agg_evaluation.specs.Trace.{is_global}
use Rattle.agg_evaluation.specs.Trees.{is_ascending}
use Rattle.agg_evaluation.specs.Placement.{is_placed, is_placed_at}
use Rattle.agg_evaluation.specs.Ceiling.{Reached, path_count, counted_from, bucket_bound, key_bound, node_bound, node_bound_at}
use Rattle.agg_evaluation.proofs.KeyLists.{ascending-distinct_keys}
use Rattle.list_laws.proofs.Booleans.{and_left, and_right}
use Rattle.evaluation_laws.proofs.CostLaws.{bytes, cost-Keyed, cost-Fixed, cost-Number}
use Rattle.list_laws.proofs.Lists.{sum_by-flat_map, sum_by-map}
use Rattle.list_laws.proofs.Sums.{sum_by-filter, sum_by-take, sum_by-sorted, sum_by-at_most, sum_by-plus, sum_by-zero}
use Rattle.agg_evaluation.proofs.UnionLaws.{ascending-fixed_keys}
use Rattle.evaluation_laws.proofs.KeyBounds.{Each, each-filter, each-map, each-flat_map, each-then, each-all, Short, Known, known-all, short-keys}
use Rattle.evaluation_laws.proofs.CoverLaws.{Covers, over_paths, handed, counted-covers, groups-cover, path_count-handed, distinct-at_most}

abbrev pub Bound : Type 0
Bound = ℕ → List Reached → ℕ

sum_by-with : {A : Type 0} (n : ℕ) (f : A → ℕ) (xs : List A) → sum_by (λ x. n + f x) xs ≡ length xs * n + sum_by f xs
sum_by-with n f [] = omega arith
sum_by-with n f (x ∷ xs) =
    let whole = sum_by-cons (λ x. n + f x) x xs in
    let part = sum_by-cons f x xs in
    let rest = sum_by-with n f xs in
    let product : suc (length xs) * n ≡ n + length xs * n = omega arith in
    omega arith

sum_by-each : {A : Type 0} (f g : A → ℕ) (xs : List A) → Each (λ x. f x ≤ g x) xs → sum_by f xs ≤ sum_by g xs
sum_by-each f g [] h = omega arith
sum_by-each f g (x ∷ xs) h =
    let here = sum_by-cons f x xs in
    let there = sum_by-cons g x xs in
    let first = h.0 in
    let rest = sum_by-each f g xs h.1 in
    omega arith

length-ones : {A : Type 0} (xs : List A) → sum_by (λ x. 1) xs ≡ length xs
length-ones [] = refl
length-ones (x ∷ xs) = let whole = sum_by-cons (λ x. 1) x xs in let rest = length-ones xs in omega arith

mul_more : (a b c : ℕ) → a ≤ b → a * c ≤ b * c
mul_more a b c h = mul-le-mul_right c h

module _ (kinds : List FieldKind) (all : List PlacedRow) where
  abbrev pub Bounded : (List PlacedRow → Node) → Bound → Type 0
  Bounded collect bound = (m : ℕ) (gs : List (List PlacedRow)) (rs : List Reached) → length gs ≤ m → Covers gs rs → Each (λ g. Each (Known all) g) gs → sum_by (λ g. node_cost (collect g)) gs ≤ bound m rs

  abbrev pub EachBounded : List Collector → List Bound → Type 0
  EachBounded [] [] = Unit {0}
  EachBounded (c ∷ cs) (b ∷ bs) = Bounded c.collect b × EachBounded cs bs
  EachBounded _ _ = ⊥

  children-bounded : (cs : List Collector) (bounds : List Bound) → EachBounded cs bounds → (m : ℕ) (gs : List (List PlacedRow)) (rs : List Reached) → length gs ≤ m → Covers gs rs → Each (λ g. Each (Known all) g) gs
      → sum_by (λ g. sum_by (λ c. node_cost (c.collect g)) cs) gs ≤ sum (map (λ b. b m rs) bounds)
  children-bounded [] [] h m gs rs few covers known = let none = sum_by-zero gs in omega arith
  children-bounded [] (b ∷ bs) h m gs rs few covers known = absurd h
  children-bounded (c ∷ cs) [] h m gs rs few covers known = absurd h
  children-bounded (c ∷ cs) (b ∷ bs) h m gs rs few covers known =
      let split : sum_by (λ g. sum_by (λ c. node_cost (c.collect g)) (c ∷ cs)) gs ≡ sum_by (λ g. node_cost (c.collect g) + sum_by (λ c. node_cost (c.collect g)) cs) gs
      = (λ i. sum_by (λ g. sum_by-cons (λ c. node_cost (c.collect g)) c cs i) gs) in
      let both = sum_by-plus (λ g. node_cost (c.collect g)) (λ g. sum_by (λ c. node_cost (c.collect g)) cs) gs in
      let first = h.0 m gs rs few covers known in
      let rest = children-bounded cs bs h.1 m gs rs few covers known in
      let bounds = sum_by-cons (λ n. n) (b m rs) (map (λ b. b m rs) bs) in
      omega arith

  module _ (trims : Bool) (root_rows : List PlacedRow) (cs : List Collector) (bounds : List Bound) (bounded : EachBounded cs bounds) where
    abbrev made : Kind → List PlacedRow → Key → Bucket
    made k rows q = bucket_of trims all root_rows k cs rows q

    abbrev groups : Kind → (List PlacedRow → List Key) → List (List PlacedRow) → List (List PlacedRow)
    groups k keys_of hs = flat_map (λ rows. map (group all k rows) (keys_of rows)) hs

    bytes-made : (k : Kind) (rows : List PlacedRow) (q : Key) → bytes (made k rows q) ≡ (128 + key_bytes q) + sum_by (λ c. node_cost (c.collect (group all k rows q))) cs
    bytes-made k rows q = ap (λ n. 128 + key_bytes q + n) (sum_by-map node_cost (λ c. c.collect (group all k rows q)) cs)

    known-groups : (k : Kind) (keys_of : List PlacedRow → List Key) (hs : List (List PlacedRow)) → Each (λ g. Each (Known all) g) hs → Each (λ g. Each (Known all) g) (groups k keys_of hs)
    known-groups k keys_of hs known =
        each-flat_map (λ g. Each (Known all) g) (λ rows. map (group all k rows) (keys_of rows)) hs (each-then _ _ (λ rows h.
        each-map (λ g. Each (Known all) g) (group all k rows) (keys_of rows) (each-all _ (λ q. each-filter (Known all) (λ row. has_key q (keys all k row)) rows h) (keys_of rows))) hs known)

    -- the buckets of groups: their keys, and all below them
    buckets-bounded : (k : Kind) (keys_of : List PlacedRow → List Key) → ((rows : List PlacedRow) → T (is_ascending (keys_of rows))) → (hs : List (List PlacedRow)) (rs : List Reached) → Covers hs rs → Each (λ g. Each (Known all) g) hs
        → (m : ℕ) → length (groups k keys_of hs) ≤ m
        → sum_by (λ rows. sum_by (λ q. bytes (made k rows q)) (keys_of rows)) hs ≤ sum_by (λ rows. sum_by (λ q. 128 + key_bytes q) (keys_of rows)) hs + sum (map (λ b. b m (handed all k rs)) bounds)
    buckets-bounded k keys_of up hs rs covers known m few =
        let own = λ (q : Key). 128 + key_bytes q in
        let below = λ (rows : List PlacedRow) (q : Key). sum_by (λ c. node_cost (c.collect (group all k rows q))) cs in
        let shown : sum_by (λ rows. sum_by (λ q. bytes (made k rows q)) (keys_of rows)) hs ≡ sum_by (λ rows. sum_by (λ q. own q + below rows q) (keys_of rows)) hs
        = (λ i. sum_by (λ rows. sum_by (λ q. bytes-made k rows q i) (keys_of rows)) hs) in
        let inner : sum_by (λ rows. sum_by (λ q. own q + below rows q) (keys_of rows)) hs ≡ sum_by (λ rows. sum_by own (keys_of rows) + sum_by (below rows) (keys_of rows)) hs
        = (λ i. sum_by (λ rows. sum_by-plus own (below rows) (keys_of rows) i) hs) in
        let outer = sum_by-plus (λ rows. sum_by own (keys_of rows)) (λ rows. sum_by (below rows) (keys_of rows)) hs in
        let listed : sum_by (λ g. sum_by (λ c. node_cost (c.collect g)) cs) (groups k keys_of hs) ≡ sum_by (λ rows. sum_by (below rows) (keys_of rows)) hs
        = sum_by-flat_map (λ g. sum_by (λ c. node_cost (c.collect g)) cs) (λ rows. map (group all k rows) (keys_of rows)) hs
        ∙ (λ i. sum_by (λ rows. sum_by-map (λ g. sum_by (λ c. node_cost (c.collect g)) cs) (group all k rows) (keys_of rows) i) hs) in
        let children = children-bounded cs bounds bounded m (groups k keys_of hs) (handed all k rs) few (groups-cover all k keys_of up hs rs covers) (known-groups k keys_of hs known) in
        omega arith

    -- the keys of groups, where buckets come by key
    keyed-groups : (k : Kind) (hs : List (List PlacedRow)) (rs : List Reached) → Covers hs rs → length (groups k (all_keys all k) hs) ≤ path_count (handed all k rs)
    keyed-groups k hs rs covers =
        let counted = length-flat_map (λ rows. map (group all k rows) (all_keys all k rows)) hs in
        let each : sum_by (λ rows. length (map (group all k rows) (all_keys all k rows))) hs ≡ sum_by (λ rows. sum_by (λ q. 1) (all_keys all k rows)) hs
        = (λ i. sum_by (λ rows. (length-map (all_keys all k rows) (group all k rows) ∙ sym (length-ones (all_keys all k rows))) i) hs) in
        let distinct = sum_by-at_most (λ rows. sum_by (λ q. 1) (all_keys all k rows)) (λ rows. sum_by (λ r. length (keys all k r)) rows) hs (λ rows.
        let fewer = distinct-at_most (λ q. 1) (flat_map (keys all k) rows) in
        let flat = sum_by-flat_map (λ q. 1) (keys all k) rows in
        let ones : sum_by (λ r. sum_by (λ q. 1) (keys all k r)) rows ≡ sum_by (λ r. length (keys all k r)) rows = (λ i. sum_by (λ r. length-ones (keys all k r) i) rows) in
        omega arith) in
        let here = covers (λ r. length (keys all k r)) in
        let paths = path_count-handed all k rs in
        omega arith

    keyed-bytes : (k : Kind) → shape_of k ≡ by_key → (hs : List (List PlacedRow)) (rs : List Reached) → Covers hs rs → Each (λ g. Each (Known all) g) hs
        → sum_by (λ rows. sum_by (λ q. 128 + key_bytes q) (all_keys all k rows)) hs ≤ path_count (handed all k rs) * (128 + key_bound kinds all k)
    keyed-bytes k shape hs rs covers known =
        let own = λ (q : Key). 128 + key_bytes q in
        let most = 128 + key_bound kinds all k in
        let distinct = sum_by-at_most (λ rows. sum_by own (all_keys all k rows)) (λ rows. sum_by (λ r. sum_by own (keys all k r)) rows) hs (λ rows.
        let fewer = distinct-at_most own (flat_map (keys all k) rows) in
        let flat = sum_by-flat_map own (keys all k) rows in
        omega arith) in
        let short = sum_by-each (λ rows. sum_by (λ r. sum_by own (keys all k r)) rows) (λ rows. sum_by (λ r. length (keys all k r) * most) rows) hs (each-then _ _ (λ rows h.
        sum_by-each (λ r. sum_by own (keys all k r)) (λ r. length (keys all k r) * most) rows (each-then _ _ (λ r g.
        row-bytes most (keys all k r) (each-then _ _ (λ q s. omega arith) (keys all k r) (short-keys kinds all k shape r g))) rows h)) hs known) in
        let here = covers (λ r. length (keys all k r) * most) in
        let scaled : over_paths (λ r. length (keys all k r) * most) rs ≡ over_paths (λ r. length (keys all k r)) rs * most = scale most (λ r. length (keys all k r)) rs in
        let paths = ap (λ n. n * most) (path_count-handed all k rs) in
        omega arith
      where
        row-bytes : (most : ℕ) (ks : List Key) → Each (λ q. 128 + key_bytes q ≤ most) ks → sum_by (λ q. 128 + key_bytes q) ks ≤ length ks * most
        row-bytes most [] h = omega arith
        row-bytes most (q ∷ ks) h =
            let whole = sum_by-cons (λ q. 128 + key_bytes q) q ks in
            let first = h.0 in
            let rest = row-bytes most ks h.1 in
            let product : suc (length ks) * most ≡ most + length ks * most = omega arith in
            omega arith

        scale : (most : ℕ) (f : PlacedRow → ℕ) (rs : List Reached) → over_paths (λ r. f r * most) rs ≡ over_paths f rs * most
        scale most f [] = omega arith
        scale most f (r ∷ rs) =
            let whole = sum_by-cons (λ (r : Reached). r.1 * (f r.0 * most)) r rs in
            let part = sum_by-cons (λ (r : Reached). r.1 * f r.0) r rs in
            let rest = scale most f rs in
            let first = mul_assoc r.1 (f r.0) most in
            whole ∙ (λ i. sym first i + rest i) ∙ sym (add-mul (r.1 * f r.0) (over_paths f rs) most) ∙ ap (λ n. n * most) (sym part)

    -- nodes whose buckets come by key
    keyed-bounded : (k : Kind) → shape_of k ≡ by_key → ((rows : List PlacedRow) → node_cost (node_of trims all root_rows cs k rows) ≤ 512 + sum_by (λ q. bytes (made k rows q)) (all_keys all k rows))
        → (m : ℕ) (hs : List (List PlacedRow)) (rs : List Reached) → length hs ≤ m → Covers hs rs → Each (λ g. Each (Known all) g) hs
        → sum_by (λ rows. node_cost (node_of trims all root_rows cs k rows)) hs ≤ m * 512 + path_count (handed all k rs) * (128 + key_bound kinds all k) + sum (map (λ b. b (path_count (handed all k rs)) (handed all k rs)) bounds)
    keyed-bounded k shape cost m hs rs few covers known =
        let each = sum_by-at_most (λ rows. node_cost (node_of trims all root_rows cs k rows)) (λ rows. 512 + sum_by (λ q. bytes (made k rows q)) (all_keys all k rows)) hs cost in
        let apart = sum_by-with 512 (λ rows. sum_by (λ q. bytes (made k rows q)) (all_keys all k rows)) hs in
        let buckets = buckets-bounded k (all_keys all k) (λ rows. ascending-distinct_keys (flat_map (keys all k) rows)) hs rs covers known (path_count (handed all k rs)) (keyed-groups k hs rs covers) in
        let own = keyed-bytes k shape hs rs covers known in
        let nodes = mul_more (length hs) m 512 few in
        omega arith

    -- nodes whose buckets exist from the start
    started-bounded : (k : Kind) (ks : List Key) → T (is_ascending ks) → Each (Short 0) ks → (m : ℕ) (hs : List (List PlacedRow)) (rs : List Reached) → length hs ≤ m → Covers hs rs → Each (λ g. Each (Known all) g) hs
        → sum_by (λ rows. node_cost (Fixed (map (made k rows) ks))) hs ≤ m * 512 + (m * length ks) * (128 + 0) + sum (map (λ b. b (m * length ks) (handed all k rs)) bounds)
    started-bounded k ks up short m hs rs few covers known =
        let costs : sum_by (λ rows. node_cost (Fixed (map (made k rows) ks))) hs ≡ sum_by (λ rows. 512 + sum_by (λ q. bytes (made k rows q)) ks) hs
        = (λ i. sum_by (λ rows. (cost-Fixed (map (made k rows) ks) ∙ ap (λ n. 512 + n) (sum_by-map bytes (made k rows) ks)) i) hs) in
        let apart = sum_by-with 512 (λ rows. sum_by (λ q. bytes (made k rows q)) ks) hs in
        let many : length (groups k (λ rows. ks) hs) ≡ length hs * length ks = length-flat_map (λ rows. map (group all k rows) ks) hs ∙ (λ i. sum_by (λ rows. length-map ks (group all k rows) i) hs) ∙ constant (length ks) hs in
        let most = mul_more (length hs) m (length ks) few in
        let buckets = buckets-bounded k (λ rows. ks) (λ rows. up) hs rs covers known (m * length ks) (omega arith) in
        let own : sum_by (λ rows. sum_by (λ q. 128 + key_bytes q) ks) hs ≡ length hs * sum_by (λ q. 128 + key_bytes q) ks = constant (sum_by (λ q. 128 + key_bytes q) ks) hs in
        let each = no_bytes ks short in
        let grouped : length hs * sum_by (λ q. 128 + key_bytes q) ks ≡ (length hs * length ks) * 128 = ap (λ n. length hs * n) each ∙ sym (mul_assoc (length hs) (length ks) 128) in
        let nodes = mul_more (length hs) m 512 few in
        let keyed = mul_more (length hs * length ks) (m * length ks) 128 most in
        let zero : (m * length ks) * (128 + 0) ≡ (m * length ks) * 128 = ap (λ n. (m * length ks) * n) (let e : 128 + 0 ≡ 128 = omega arith in e) in
        omega arith
      where
        constant : {A : Type 0} (n : ℕ) (xs : List A) → sum_by (λ x. n) xs ≡ length xs * n
        constant n [] = omega arith
        constant n (x ∷ xs) =
            let whole = sum_by-cons (λ x. n) x xs in
            let rest = constant n xs in
            let product : suc (length xs) * n ≡ n + length xs * n = omega arith in
            omega arith

        no_bytes : (ks : List Key) → Each (Short 0) ks → sum_by (λ q. 128 + key_bytes q) ks ≡ length ks * 128
        no_bytes [] h = omega arith
        no_bytes (q ∷ ks) h =
            let whole = sum_by-cons (λ q. 128 + key_bytes q) q ks in
            let first = h.0 in
            let rest = no_bytes ks h.1 in
            let product : suc (length ks) * 128 ≡ 128 + length ks * 128 = omega arith in
            omega arith

    cost-buckets : (k : Kind) (rows : List PlacedRow) (ks : List Key) → node_cost (Keyed (map (made k rows) ks) 0 0 0) ≡ 512 + sum_by (λ q. bytes (made k rows q)) ks
    cost-buckets k rows ks = cost-Keyed (map (made k rows) ks) 0 0 0 ∙ ap (λ n. 512 + n) (sum_by-map bytes (made k rows) ks)

    kept-cost : (k : Kind) (rows : List PlacedRow) (ks : List Key) (e : ℕ) (kept : List Bucket) (f c n : ℕ) → sum_by bytes kept ≤ sum_by (λ q. bytes (made k rows q)) ks
        → node_cost (Keyed (sorted (λ a b. key_cmp (bucket_key a) (bucket_key b)) (map (with_covered e) kept)) f c n) ≤ 512 + sum_by (λ q. bytes (made k rows q)) ks
    kept-cost k rows ks e kept f c n h =
        let cost = cost-Keyed (sorted (λ a b. key_cmp (bucket_key a) (bucket_key b)) (map (with_covered e) kept)) f c n in
        let put = sum_by-sorted bytes (λ a b. key_cmp (bucket_key a) (bucket_key b)) (map (with_covered e) kept) in
        let same = sum_by-map bytes (with_covered e) kept in
        omega arith

    cost-trimmed : (k : Kind) (rows : List PlacedRow) (ks : List Key) (sub : List Kind) (size : ℕ) (order : List Order) (n : ℕ) → node_cost (trimmed_node sub size order n (map (made k rows) ks)) ≤ 512 + sum_by (λ q. bytes (made k rows q)) ks
    cost-trimmed k rows ks sub size order n =
        let kept = take size (sorted (bucket_cmp sub order) (map (made k rows) ks)) in
        let is_full = length kept == size in
        let error = if is_full then unwrap_or (last_or None (map bucket_count kept)) 0 else 0 in
        kept-cost k rows ks error kept error (if is_full then 1 else 0) (n - sum_by bucket_count kept)
        (let cut = sum_by-take bytes size (sorted (bucket_cmp sub order) (map (made k rows) ks)) in
        let ordered = sum_by-sorted bytes (bucket_cmp sub order) (map (made k rows) ks) in
        let listed = sum_by-map bytes (made k rows) ks in
        omega arith)

    cost-page : (k : Kind) (rows : List PlacedRow) (sources : List CompositeSource) (size : ℕ) (after : Option Key) (ks : List Key)
        → node_cost (Keyed (map (made k rows) (page sources size after ks)) 0 0 0) ≤ 512 + sum_by (λ q. bytes (made k rows q)) ks
    cost-page k rows sources size after ks =
        let f = λ (q : Key). bytes (made k rows q) in
        let order = composite_cmp sources in
        let beyond = λ (q : Key). option_map_or (λ a. is_gt (order q a)) after true in
        let cost = cost-buckets k rows (page sources size after ks) in
        let put = sum_by-sorted f key_cmp (take size (filter beyond (sorted order ks))) in
        let cut = sum_by-take f size (filter beyond (sorted order ks)) in
        let kept = sum_by-filter f beyond (sorted order ks) in
        let ordered = sum_by-sorted f order ks in
        omega arith

    number-bounded : (k : Kind) → ((rows : List PlacedRow) → node_cost (node_of trims all root_rows cs k rows) ≡ 512) → (m : ℕ) (hs : List (List PlacedRow)) (rest : ℕ) → length hs ≤ m
        → sum_by (λ rows. node_cost (node_of trims all root_rows cs k rows)) hs ≤ m * 512 + 0 * (128 + 0) + rest
    number-bounded k cost m hs rest few =
        let costs : sum_by (λ rows. node_cost (node_of trims all root_rows cs k rows)) hs ≡ sum_by (λ rows. 512 + 0) hs = (λ i. sum_by (λ rows. (cost rows ∙ (let e : 512 ≡ 512 + 0 = omega arith in e)) i) hs) in
        let apart = sum_by-with 512 (λ rows. 0) hs in
        let none = sum_by-zero hs in
        let nodes = mul_more (length hs) m 512 few in
        omega arith

    -- the nodes of one aggregation, over the rows that it counts
    pub counted-bounded : (k : Kind) (m : ℕ) (hs : List (List PlacedRow)) (rs : List Reached) → length hs ≤ m → Covers hs rs → Each (λ g. Each (Known all) g) hs
        → sum_by (λ rows. node_cost (node_of trims all root_rows cs k rows)) hs
        ≤ m * 512 + bucket_bound kinds all k (shape_of k) m (path_count (handed all k rs)) * (128 + key_bound kinds all k)
        + sum (map (λ b. b (bucket_bound kinds all k (shape_of k) m (path_count (handed all k rs))) (handed all k rs)) bounds)
    counted-bounded (kind.Terms field size shard_size min_doc_count order include exclude missing show_error) m hs rs few covers known =
        let k = kind.Terms field size shard_size min_doc_count order include exclude missing show_error in
        keyed-bounded k refl (λ rows.
        elim trims as (λ b. node_cost (if b then trimmed_node (map (λ c. c.kind) cs) shard_size order (total_key_count all k rows) (map (made k rows) (all_keys all k rows)) else Keyed (map (made k rows) (all_keys all k rows)) 0 0 0)
        ≤ 512 + sum_by (λ q. bytes (made k rows q)) (all_keys all k rows)) [
          | true ↦ cost-trimmed k rows (all_keys all k rows) (map (λ c. c.kind) cs) shard_size order (total_key_count all k rows)
          | false ↦ let cost = cost-buckets k rows (all_keys all k rows) in omega arith
        ]) m hs rs few covers known
    counted-bounded (kind.Histogram field interval offset min_doc_count extended hard keyed order missing) m hs rs few covers known =
        let k = kind.Histogram field interval offset min_doc_count extended hard keyed order missing in
        keyed-bounded k refl (λ rows. let cost = cost-buckets k rows (all_keys all k rows) in omega arith) m hs rs few covers known
    counted-bounded (kind.DateHistogram field period zone min_doc_count extended hard keyed order missing) m hs rs few covers known =
        let k = kind.DateHistogram field period zone min_doc_count extended hard keyed order missing in
        keyed-bounded k refl (λ rows. let cost = cost-buckets k rows (all_keys all k rows) in omega arith) m hs rs few covers known
    counted-bounded (kind.Composite sources size after) m hs rs few covers known =
        let k = kind.Composite sources size after in
        keyed-bounded k refl (λ rows. cost-page k rows sources size after (all_keys all k rows)) m hs rs few covers known
    counted-bounded (kind.Filters names filters other) m hs rs few covers known =
        let k = kind.Filters names filters other in
        started-bounded k (fixed_keys k) (ascending-fixed_keys k) (each-map (Short 0) key.Fixed _ (each-all _ (λ n. let e : 0 ≤ 0 = omega arith in e) _)) m hs rs few covers known
    counted-bounded (kind.Filter query) m hs rs few covers known = started-bounded (kind.Filter query) (key.Fixed 0 ∷ []) tt ((let e : 0 ≤ 0 = omega arith in e), tt) m hs rs few covers known
    counted-bounded (kind.Missing field) m hs rs few covers known = started-bounded (kind.Missing field) (key.Fixed 0 ∷ []) tt ((let e : 0 ≤ 0 = omega arith in e), tt) m hs rs few covers known
    counted-bounded kind.Global m hs rs few covers known = started-bounded kind.Global (key.Fixed 0 ∷ []) tt ((let e : 0 ≤ 0 = omega arith in e), tt) m hs rs few covers known
    counted-bounded (kind.Nested context) m hs rs few covers known = started-bounded (kind.Nested context) (key.Fixed 0 ∷ []) tt ((let e : 0 ≤ 0 = omega arith in e), tt) m hs rs few covers known
    counted-bounded (kind.ReverseNested context) m hs rs few covers known = started-bounded (kind.ReverseNested context) (key.Fixed 0 ∷ []) tt ((let e : 0 ≤ 0 = omega arith in e), tt) m hs rs few covers known
    counted-bounded (kind.Sum field missing) m hs rs few covers known = number-bounded (kind.Sum field missing) (λ rows. cost-Number (metric_of (flat_map (values_or field missing) rows))) m hs _ few
    counted-bounded (kind.Min field missing) m hs rs few covers known = number-bounded (kind.Min field missing) (λ rows. cost-Number (metric_of (flat_map (values_or field missing) rows))) m hs _ few
    counted-bounded (kind.Max field missing) m hs rs few covers known = number-bounded (kind.Max field missing) (λ rows. cost-Number (metric_of (flat_map (values_or field missing) rows))) m hs _ few
    counted-bounded (kind.Avg field missing) m hs rs few covers known = number-bounded (kind.Avg field missing) (λ rows. cost-Number (metric_of (flat_map (values_or field missing) rows))) m hs _ few
    counted-bounded (kind.ValueCount field missing) m hs rs few covers known = number-bounded (kind.ValueCount field missing) (λ rows. cost-Number (metric_of (flat_map (values_or field missing) rows))) m hs _ few

  known-under : (roots : List PlacedRow) (k : Kind) → is_global k ≡ false → (rows : List PlacedRow) → Each (Known all) rows → Each (Known all) (under all roots k rows)
  known-under roots (kind.Nested context) e rows h = each-flat_map (Known all) (beneath all context) rows (each-all _ (λ outer. each-filter (Known all) (λ r. (r.context == context) && is_within r outer) all (known-all all)) rows)
  known-under roots (kind.ReverseNested context) e rows h = each-filter (Known all) (λ r. (r.context == context) && list_any (λ i. is_within i r) rows) all (known-all all)
  known-under roots kind.Global e rows h = absurd (subst T e tt)
  known-under roots (kind.Terms field size shard_size min_doc_count order include exclude missing show_error) e rows h = h
  known-under roots (kind.Histogram field interval offset min_doc_count extended hard keyed order missing) e rows h = h
  known-under roots (kind.DateHistogram field period zone min_doc_count extended hard keyed order missing) e rows h = h
  known-under roots (kind.Filters names filters other) e rows h = h
  known-under roots (kind.Filter query) e rows h = h
  known-under roots (kind.Missing field) e rows h = h
  known-under roots (kind.Composite sources size after) e rows h = h
  known-under roots (kind.Sum field missing) e rows h = h
  known-under roots (kind.Min field missing) e rows h = h
  known-under roots (kind.Max field missing) e rows h = h
  known-under roots (kind.Avg field missing) e rows h = h
  known-under roots (kind.ValueCount field missing) e rows h = h

  pub global-under : (k : Kind) → is_global k ≡ true → (roots rows : List PlacedRow) → under all roots k rows ≡ roots
  global-under kind.Global e roots rows = refl
  global-under (kind.Nested context) e roots rows = absurd (subst T (sym e) tt)
  global-under (kind.ReverseNested context) e roots rows = absurd (subst T (sym e) tt)
  global-under (kind.Terms field size shard_size min_doc_count order include exclude missing show_error) e roots rows = absurd (subst T (sym e) tt)
  global-under (kind.Histogram field interval offset min_doc_count extended hard keyed order missing) e roots rows = absurd (subst T (sym e) tt)
  global-under (kind.DateHistogram field period zone min_doc_count extended hard keyed order missing) e roots rows = absurd (subst T (sym e) tt)
  global-under (kind.Filters names filters other) e roots rows = absurd (subst T (sym e) tt)
  global-under (kind.Filter query) e roots rows = absurd (subst T (sym e) tt)
  global-under (kind.Missing field) e roots rows = absurd (subst T (sym e) tt)
  global-under (kind.Composite sources size after) e roots rows = absurd (subst T (sym e) tt)
  global-under (kind.Sum field missing) e roots rows = absurd (subst T (sym e) tt)
  global-under (kind.Min field missing) e roots rows = absurd (subst T (sym e) tt)
  global-under (kind.Max field missing) e roots rows = absurd (subst T (sym e) tt)
  global-under (kind.Avg field missing) e roots rows = absurd (subst T (sym e) tt)
  global-under (kind.ValueCount field missing) e roots rows = absurd (subst T (sym e) tt)

  not_false : (b : Bool) → T (not b) → b ≡ false
  not_false true h = absurd h
  not_false false h = refl

  module _ (trims : Bool) (root_rows : List PlacedRow) where
    mutual
      pub collected-bounded : (a : Agg) → T (is_placed a false) → Bounded (collected_node trims all root_rows a) (node_bound kinds all a)
      collected-bounded (Agg' name k n children) h m gs rs few covers known =
          let local = not_false (is_global k) (and_left (not (is_global k)) _ h) in
          let hs = map (under all root_rows k) gs in
          let listed = sum_by-map (λ rows. node_cost (node_of trims all root_rows (fold_aggs (collector_of trims all root_rows) children) k rows)) (under all root_rows k) gs in
          let few_counted : length hs ≤ m = (let same = length-map gs (under all root_rows k) in omega arith) in
          let known_counted = each-map (λ g. Each (Known all) g) (under all root_rows k) gs (each-then _ _ (known-under root_rows k local) gs known) in
          let counted = counted-bounded trims root_rows (fold_aggs (collector_of trims all root_rows) children) _ (each-bounded children (and_right (not (is_global k)) _ h)) k m hs (counted_from kinds all k rs) few_counted (counted-covers all kinds root_rows k local gs rs covers) known_counted in
          omega arith

      pub each-bounded : {n : _} (children : Row_of-Agg n) → T (list_all {X = Bool → Bool} (λ child. child false) (fold_aggs is_placed_at children))
          → EachBounded (fold_aggs (collector_of trims all root_rows) children) (fold_aggs (node_bound_at kinds all) children)
      each-bounded end_of-Agg h = tt
      each-bounded (more_of-Agg a rest) h = (collected-bounded a (and_left _ _ h), each-bounded rest (and_right _ _ h))
