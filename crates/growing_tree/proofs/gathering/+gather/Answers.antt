use Rattle.std.proofs.Common.{⊎_elim, refl, sym, ◌∙◌, ap, subst, arith, rules, ◌≡◌, ◌<◌, ◌≤◌, ◌+◌, ◌-◌, ℕ, ℤ, List, [], length, map, sum_by, get_or, w64, to_z, of_z, pos}
use Rattle.std.specs.Prelude.{◌==◌, slice_get, flat_map}
use Rattle.std.specs.List.{IsDistinct}
use Rattle.std.specs.Ordering.{int_eq}
use Rattle.std.proofs.lemmas.Bool.{false≢true}
use Rattle.std.proofs.lemmas.Int.{to_z-of_z}
use Rattle.std.proofs.lemmas.List.{append-nil, length-map}
use Rattle.std.proofs.lemmas.Option.{slice_get-get_or}
use Rattle.agg_model.specs.declared.aggregation.Agg.{out-Agg}
use Rattle.agg_evaluation.specs.Cost.{key_bytes, node_cost}
use Rattle.agg_evaluation.specs.Groups.{group, under}
use Rattle.agg_evaluation.specs.Rows.{row_of, beneath}
use Rattle.evaluation_laws.proofs.CostLaws.{bytes}
use Rattle.growth_laws.specs.Gathering.{counted, gathered_buckets, gatherer_of, put_rows}
use Rattle.growing_tree.specs.Codes.{code_key, fixed_key}
use Rattle.growing_tree.specs.Decoded.{decoded}
use Rattle.growing_tree.specs.Gathered.{decoders, gatherers, key_at, rows_at, shown_children, shown_fixed, shown_keyed, shown_level}
use Rattle.growing_tree.specs.Readiness.{IsKindReady}
use Rattle.growing_tree.specs.Shown.{put_all}
use Rattle.growing_tree.specs.declared.ready.Ready.{out-Ready}
use Rattle.growing_tree.proofs.AggSizes.{children_less, item-most}
use Rattle.growing_tree.proofs.Children.{child-more, child-cost, take-full}
use Rattle.growing_tree.proofs.Codes.{codes-own}
use Rattle.growing_tree.proofs.Ascents.{level-up}
use Rattle.growing_tree.proofs.Counting.{groups-more, handed-as, keyed-counted, keyed-keeps, level-cost, metric-cost, metric-counted, nothing-there, one-item, single-counted}
use Rattle.growing_tree.proofs.Finals.{groups-are, groups-within, many-rows, one-row}
use Rattle.growing_tree.proofs.Levels.{children-ready, level-ready, counted-none, empties-are, gathered-is}
use Rattle.growing_tree.proofs.Putting.{number-bytes, put-number}
use Rattle.growing_tree.proofs.Steps.{found-buckets, found-cost, added-buckets, added-cost, item-at, mapped-at, one-more-code}
use Rattle.growing_tree.proofs.gathering.+gather.Goals as goal

pub gather_children-gather_child-requires : goal.gather_children-gather_child-requires
gather_children-gather_child-requires t c =
    let place = c.loop-place.place in
    let a = c.index-as_slice-place.result in
    let r = c.index-as_slice-place-in-loop-place.result in
    let below : place < length c.args.aggs.now = omega (arith, c.loop-place-test.true, c.len-place-end.ensures) in
    let within : place < length c.args.ready.now = omega (arith, c.if-place-len.false, c.len.ensures) in
    let a_get = c.index-as_slice-place.is ∙ ap (λ xs. get_or xs place a) c.as_slice.ensures in
    let r_get = c.index-as_slice-place-in-loop-place.is ∙ ap (λ xs. get_or xs place r) c.as_slice-in-loop-place.ensures in
    let less = item-most c.args.aggs.now place a below a_get in (
      omega (arith, c.decreases, less),
      (
        c.requires.ready place a r (item-at c.args.aggs.now place a below a_get) (item-at c.args.ready.now place r within r_get),
        (c.requires.built, (c.requires.apart, c.requires.in_range)),
      ),
    )

pub put_coded-gather_bucket-requires : goal.put_coded-gather_bucket-requires
put_coded-gather_bucket-requires t c =
    (omega (arith, c.decreases, children_less c.args.agg.now), (children-ready c.args.shard.now c.args.agg.now c.args.ready.now c.requires.ready, (c.requires.built, (c.requires.apart, c.requires.in_range))))

pub put_coded-gather_bucket-requires-in-Added : goal.put_coded-gather_bucket-requires-in-Added
put_coded-gather_bucket-requires-in-Added t c =
    (omega (arith, c.decreases, children_less c.args.agg.now), (children-ready c.args.shard.now c.args.agg.now c.args.ready.now c.requires.ready, (c.requires.built, (c.requires.apart, c.requires.in_range))))

pub put_fixed-gather_bucket-requires : goal.put_fixed-gather_bucket-requires
put_fixed-gather_bucket-requires t c =
    (omega (arith, c.decreases, children_less c.args.agg.now), (children-ready c.args.shard.now c.args.agg.now c.args.ready.now c.requires.ready, (c.requires.built, (c.requires.apart, c.requires.in_range))))

pub count-returns-then-is_empty-clause-tree : goal.count-returns-then-is_empty-clause-tree
count-returns-then-is_empty-clause-tree t c =
    let none = nothing-there c.args.rows.now (sym c.is_empty.ensures ∙ c.if-is_empty.true) in
    let n = decoded c.args.shard.now c.args.ready.now c.args.tree.now in
    sym (ap (λ rs. counted c.args.shard.now.rows c.args.agg.now (map (row_of c.args.shard.now.rows) rs) n) none ∙ counted-none c.args.shard.now.rows c.args.agg.now n)

pub gather_children-loop-place-preserved : goal.gather_children-loop-place-preserved
gather_children-loop-place-preserved t c =
    let shard = c.args.shard.now in
    let place = c.loop-place.place in
    let children = c.loop-place.children.items in
    let a = c.index-as_slice-place.result in
    let r = c.index-as_slice-place-in-loop-place.result in
    let ds = decoders shard c.args.ready.now in
    let gs = gatherers shard c.args.aggs.now in
    let below : place < length c.args.aggs.now = omega (arith, c.loop-place-test.true, c.len-place-end.ensures) in
    let within : place < length c.args.ready.now = omega (arith, c.if-place-len.false, c.len.ensures) in
    let there : place < length children = omega (arith, c.if-place-len-2.false, c.len-in-loop-place.ensures, c.loop-place.children.ok) in
    let g_is = mapped-at (gatherer_of shard.rows) c.args.aggs.now place a below (c.index-as_slice-place.is ∙ ap (λ xs. get_or xs place a) c.as_slice.ensures) in
    let d_is = mapped-at (decoded shard) c.args.ready.now place r within (c.index-as_slice-place-in-loop-place.is ∙ ap (λ xs. get_or xs place r) c.as_slice-in-loop-place.ensures) in
    let old_is = item-at children place c.index_mut.result.now there c.index_mut.ensures.value in
    let more = child-cost ds children place (decoded shard r) c.index_mut.result.now c.gather_child.new.tree c.in_ok-more.more d_is old_is c.in_ok-more.ensures.cost in
    let before = c.loop-place.invariant.cost in
    let added : c.in_ok-added.added ≡ c.loop-place.added + c.in_ok-more.more = c.in_ok-added.ensures in
    (record {
      trees = child-more ds gs (rows_at shard c.args.rows.now) (shown_children shard c.args.ready.now c.args.children.now.items) children place (decoded shard r) (gatherer_of shard.rows a) c.index_mut.result.now c.gather_child.new.tree d_is g_is old_is
          c.loop-place.invariant.trees c.in_ok-more.ensures.tree;
      cost = omega arith;
    })

pub gather-returns-in-Global-clause-tree : goal.gather-returns-in-Global-clause-tree
gather-returns-in-Global-clause-tree t c =
    let rows = c.args.shard.now.rows in
    let n = decoded c.args.shard.now c.args.ready.now c.args.tree.now in
    let inner = map (row_of rows) c.args.rows.now in
    sym (gathered-is rows c.args.agg.now inner [] n (ap (λ k. under rows [] k inner) c.in-Global.is) ∙ counted-none rows c.args.agg.now n)

pub gather-returns-then-rows-eq1-clause-tree : goal.gather-returns-then-rows-eq1-clause-tree
gather-returns-then-rows-eq1-clause-tree t c =
    let rows = c.args.shard.now.rows in
    let row = get_or c.args.rows.now 0 0 in
    let n = decoded c.args.shard.now c.args.ready.now c.args.tree.now in
    let handed = map (row_of rows) c.args.rows.now in
    let path : (c.in-Nested.context - 1) + 1 ≡ c.in-Nested.context = omega (arith, c.if-context-eq0.false) in
    let one = one-item c.args.rows.now (omega (arith, c.if-rows-eq1.true)) in
    c.in_ok-more-in-Nested.ensures.tree
    ∙ sym (gathered-is rows c.args.agg.now handed (map (row_of rows) c.children-inner.result.now) n
    (ap (λ k. under rows [] k handed) c.in-Nested.is ∙ ap (λ k. flat_map (beneath rows k) handed) (sym path)
    ∙ ap (λ (rs : List ℕ). flat_map (beneath rows ((c.in-Nested.context - 1) + 1)) (map (row_of rows) rs)) one
    ∙ append-nil (beneath rows ((c.in-Nested.context - 1) + 1) (row_of rows row)) ∙ sym c.children-inner.ensures.rows))

pub gather-returns-in_ok-more-in-Nested-2-clause-tree : goal.gather-returns-in_ok-more-in-Nested-2-clause-tree
gather-returns-in_ok-more-in-Nested-2-clause-tree t c =
    let rows = c.args.shard.now.rows in
    let n = decoded c.args.shard.now c.args.ready.now c.args.tree.now in
    let handed = map (row_of rows) c.args.rows.now in
    let path : (c.in-Nested.context - 1) + 1 ≡ c.in-Nested.context = omega (arith, c.if-context-eq0.false) in
    c.in_ok-more-in-Nested-2.ensures.tree
    ∙ ap (λ (rs : List ℕ). counted rows c.args.agg.now (map (row_of rows) rs) n) c.as_slice.ensures
    ∙ sym (gathered-is rows c.args.agg.now handed (map (row_of rows) c.in_ok-inner-in-Nested.inner) n
    (ap (λ k. under rows [] k handed) c.in-Nested.is ∙ ap (λ k. flat_map (beneath rows k) handed) (sym path) ∙ sym c.in_ok-inner-in-Nested.ensures.rows))

pub gather-returns-in_ok-more-in-ReverseNested-clause-tree : goal.gather-returns-in_ok-more-in-ReverseNested-clause-tree
gather-returns-in_ok-more-in-ReverseNested-clause-tree t c =
    let rows = c.args.shard.now.rows in
    let n = decoded c.args.shard.now c.args.ready.now c.args.tree.now in
    let handed = map (row_of rows) c.args.rows.now in
    c.in_ok-more-in-ReverseNested.ensures.tree
    ∙ ap (λ (rs : List ℕ). counted rows c.args.agg.now (map (row_of rows) rs) n) c.as_slice-in-ReverseNested.ensures
    ∙ sym (gathered-is rows c.args.agg.now handed (map (row_of rows) c.in_ok-outer-in-ReverseNested.outer) n
    (ap (λ k. under rows [] k handed) c.in-ReverseNested.is ∙ sym c.in_ok-outer-in-ReverseNested.ensures.rows))

pub put_coded-bucket_bytes-requires : goal.put_coded-bucket_bytes-requires
put_coded-bucket_bytes-requires t c = let h = (level-ready c.args.shard.now c.args.agg.now c.args.ready.now c.requires.ready).kind in record { ready = h }

pub put_coded-returns-in_ok-more-in-Found-clause-buckets : goal.put_coded-returns-in_ok-more-in-Found-clause-buckets
put_coded-returns-in_ok-more-in-Found-clause-buckets t c =
    let shard = c.args.shard.now in
    let a = c.args.agg.now in
    let r = c.args.ready.now in
    let code = c.args.code in
    let same : to_z w64 (of_z w64 code) ≡ code = to_z-of_z w64 code (search rules) in
    let l : c.in-Found.place < length c.args.buckets.now.items = omega (arith, c.if-place-len.false, c.len.ensures, c.args.buckets.now.ok) in
    found-buckets (λ g. g.count) (λ g. g.children.items) (gatherers shard (out-Agg a).children) (rows_at shard c.args.rows.now) (decoders shard (out-Ready r).children) (key_at shard r) code (to_z w64 (of_z w64 code)) same
    c.args.places.now c.find_or_add.new.self c.args.buckets.now.items c.in_ok-found.found c.in_ok-found.ensures.place c.in_ok-found.ensures.distinct
    (codes-own shard (out-Agg a).kind (out-Ready r).kind (level-ready shard a r c.requires.ready).kind) c.in-Found.place c.index_mut.result.now c.gather_bucket.new.bucket c.in-Found.is l c.index_mut.ensures.value (record { count = c.in_ok-more-in-Found.ensures.bucket.count; children = c.in_ok-more-in-Found.ensures.bucket.children })

pub put_coded-returns-in_ok-more-in-Found-clause-cost : goal.put_coded-returns-in_ok-more-in-Found-clause-cost
put_coded-returns-in_ok-more-in-Found-clause-cost t c =
    let shard = c.args.shard.now in
    let a = c.args.agg.now in
    let r = c.args.ready.now in
    let code = c.args.code in
    let same : to_z w64 (of_z w64 code) ≡ code = to_z-of_z w64 code (search rules) in
    let l : c.in-Found.place < length c.args.buckets.now.items = omega (arith, c.if-place-len.false, c.len.ensures, c.args.buckets.now.ok) in
    found-cost (λ g. g.count) (λ g. g.children.items) (gatherers shard (out-Agg a).children) (rows_at shard c.args.rows.now) (decoders shard (out-Ready r).children) (key_at shard r) code (to_z w64 (of_z w64 code)) same
    c.args.places.now c.find_or_add.new.self c.args.buckets.now.items c.in_ok-found.found c.in_ok-found.ensures.place c.in_ok-found.ensures.distinct
    c.in-Found.place c.index_mut.result.now c.gather_bucket.new.bucket c.in_ok-more-in-Found.more c.in-Found.is l c.index_mut.ensures.value c.in_ok-more-in-Found.ensures.cost

pub put_coded-returns-in_ok-added-in-Added-clause-buckets : goal.put_coded-returns-in_ok-added-in-Added-clause-buckets
put_coded-returns-in_ok-added-in-Added-clause-buckets t c =
    let shard = c.args.shard.now in
    let a = c.args.agg.now in
    let r = c.args.ready.now in
    let code = c.args.code in
    let ds = decoders shard (out-Ready r).children in
    let key_of = key_at shard r in
    let same : to_z w64 (of_z w64 code) ≡ code = to_z-of_z w64 code (search rules) in
    let l : c.in-Added.place ≡ length c.args.buckets.now.items = omega (arith, c.if-place-len-2.false, c.len-in-Added.ensures, c.args.buckets.now.ok) in
    ap (shown_keyed shard r c.find_or_add.new.self) c.in_ok-push-in-Added.ensures.items
    ∙ added-buckets (λ g. g.count) (λ g. g.children.items) (gatherers shard (out-Agg a).children) (rows_at shard c.args.rows.now) ds key_of code (to_z w64 (of_z w64 code)) same
    c.args.places.now c.find_or_add.new.self c.args.buckets.now.items c.in_ok-found.found c.in_ok-found.ensures.place c.in_ok-found.ensures.distinct
    (codes-own shard (out-Agg a).kind (out-Ready r).kind (level-ready shard a r c.requires.ready).kind) c.in-Added.place c.in_ok-bucket-in-Added.bucket c.gather_bucket-in-Added.new.bucket c.in-Added.is l
    c.in_ok-bucket-in-Added.ensures.count (c.in_ok-bucket-in-Added.ensures.children shard ∙ empties-are shard.rows (out-Agg a).children) (record { count = c.in_ok-more-in-Added.ensures.bucket.count; children = c.in_ok-more-in-Added.ensures.bucket.children })

pub put_coded-returns-in_ok-added-in-Added-clause-cost : goal.put_coded-returns-in_ok-added-in-Added-clause-cost
put_coded-returns-in_ok-added-in-Added-clause-cost t c =
    let shard = c.args.shard.now in
    let a = c.args.agg.now in
    let r = c.args.ready.now in
    let code = c.args.code in
    let ds = decoders shard (out-Ready r).children in
    let key_of = key_at shard r in
    let same : to_z w64 (of_z w64 code) ≡ code = to_z-of_z w64 code (search rules) in
    let l : c.in-Added.place ≡ length c.args.buckets.now.items = omega (arith, c.if-place-len-2.false, c.len-in-Added.ensures, c.args.buckets.now.ok) in
    let begun : c.in_ok-begun-in-Added.begun ≡ 128 + key_bytes (key_of code) + (out-Ready r).child_bytes = c.in_ok-begun-in-Added.ensures ∙ ap (λ x. 128 + key_bytes (key_of x) + (out-Ready r).child_bytes) same in
    ap (λ bs. sum_by bytes (shown_keyed shard r c.find_or_add.new.self bs)) c.in_ok-push-in-Added.ensures.items
    ∙ added-cost (λ g. g.count) (λ g. g.children.items) (gatherers shard (out-Agg a).children) (rows_at shard c.args.rows.now) ds key_of code (to_z w64 (of_z w64 code)) same
    c.args.places.now c.find_or_add.new.self c.args.buckets.now.items c.in_ok-found.found c.in_ok-found.ensures.place c.in_ok-found.ensures.distinct
    c.in-Added.place c.in_ok-begun-in-Added.begun (out-Ready r).child_bytes c.in_ok-more-in-Added.more c.in_ok-bucket-in-Added.bucket c.gather_bucket-in-Added.new.bucket c.in-Added.is l begun
    ((level-ready shard a r c.requires.ready).child_bytes ∙ ap (sum_by node_cost) (sym (c.in_ok-bucket-in-Added.ensures.children shard))) c.in_ok-more-in-Added.ensures.cost
    ∙ ap (λ n. sum_by bytes (shown_keyed shard r c.args.places.now c.args.buckets.now.items) + n) (sym c.in_ok-added-in-Added.ensures)

pub put_fixed-returns-clause-buckets : goal.put_fixed-returns-clause-buckets
put_fixed-returns-clause-buckets t c =
    let shard = c.args.shard.now in
    let a = c.args.agg.now in
    let r = c.args.ready.now in
    let code = c.args.code in
    let ds = decoders shard (out-Ready r).children in
    let key_of = key_at shard r in
    let gs = gatherers shard (out-Agg a).children in
    let rows = rows_at shard c.args.rows.now in
    let same : to_z w64 (of_z w64 code) ≡ code = to_z-of_z w64 code (search rules) in
    let is : key_of code ≡ fixed_key (pos c.in_ok-place.place) = c.requires.fixed code ∙ ap fixed_key (sym same ∙ c.in_ok-place.ensures) in
    let l : c.in_ok-place.place < length c.args.buckets.now.items = omega (arith, c.if-place-len.false, c.len.ensures, c.args.buckets.now.ok) in
    put-number gs rows ds key_of c.args.buckets.now.items 0 c.in_ok-place.place c.in_ok-place.place c.index_mut.result.now c.gather_bucket.new.bucket (omega arith) (item-at c.args.buckets.now.items c.in_ok-place.place c.index_mut.result.now l c.index_mut.ensures.value) c.in_ok-more.ensures.bucket
    ∙ ap (λ k. put_rows gs rows k (shown_fixed shard r c.args.buckets.now.items)) (sym is)

pub put_fixed-returns-clause-cost : goal.put_fixed-returns-clause-cost
put_fixed-returns-clause-cost t c =
    let shard = c.args.shard.now in
    let a = c.args.agg.now in
    let r = c.args.ready.now in
    let l : c.in_ok-place.place < length c.args.buckets.now.items = omega (arith, c.if-place-len.false, c.len.ensures, c.args.buckets.now.ok) in
    number-bytes (gatherers shard (out-Agg a).children) (rows_at shard c.args.rows.now) (decoders shard (out-Ready r).children) (key_at shard r) c.args.buckets.now.items 0 c.in_ok-place.place
    c.index_mut.result.now c.gather_bucket.new.bucket c.in_ok-more.more (item-at c.args.buckets.now.items c.in_ok-place.place c.index_mut.result.now l c.index_mut.ensures.value) c.in_ok-more.ensures.cost

pub put_codes-loop-place-preserved : goal.put_codes-loop-place-preserved
put_codes-loop-place-preserved t c =
    let shard = c.args.shard.now in
    let r = c.args.ready.now in
    let place = c.loop-place.place in
    let codes = c.args.codes.now in
    let code = get_or codes place (pos 0) in
    let same : to_z w64 (of_z w64 code) ≡ code = to_z-of_z w64 code (search rules) in
    let below : place < length codes = omega (arith, c.loop-place-test.true) in
    let more = c.in_ok-more.ensures.cost in
    let before = c.loop-place.invariant.cost in
    let added : c.in_ok-added.added ≡ c.loop-place.added + c.in_ok-more.more = c.in_ok-added.ensures in
    (record {
      buckets = one-more-code (rows_at shard c.args.rows.now) (gatherers shard (out-Agg c.args.agg.now).children) (key_at shard r) codes place code _
          (shown_level shard r c.args.level.now) (shown_level shard r c.loop-place.level) (shown_level shard r c.put.new.level)
          same (slice_get-get_or codes place (pos 0) below) c.loop-place.invariant.buckets c.in_ok-more.ensures.buckets;
      cost = omega arith;
      form = λ bs. c.in_ok-more.ensures.form bs ∙ c.loop-place.invariant.form bs;
      aligned = λ h. c.in_ok-more.ensures.aligned (c.loop-place.invariant.aligned h);
    })

pub count-take_rows-requires-clause-metric : goal.count-take_rows-requires-clause-metric
count-take_rows-requires-clause-metric t c =
    subst (IsKindReady c.args.shard.now (out-Agg c.args.agg.now).kind) c.in-Metric.is (level-ready c.args.shard.now c.args.agg.now c.args.ready.now c.requires.ready).kind

pub put_groups-loop-place-preserved : goal.put_groups-loop-place-preserved
put_groups-loop-place-preserved t c =
    let shard = c.args.shard.now in
    let r = c.args.ready.now in
    let place = c.loop-place.place in
    let groups = c.args.groups.now.rows.items in
    let codes = c.codes-codes.result.now in
    let key_of = key_at shard r in
    let gs = gatherers shard (out-Agg c.args.agg.now).children in
    let ds = decoders shard (out-Ready r).children in
    let code = get_or codes place (pos 0) in
    let same : to_z w64 (of_z w64 code) ≡ code = to_z-of_z w64 code (search rules) in
    let below : place < length codes = omega (arith, c.loop-place-test.true) in
    let there : place < length groups = omega (arith, c.if-place-len.false, c.len.ensures, c.args.groups.now.rows.ok) in
    let more = c.in_ok-more.ensures.cost in
    let before = c.loop-place.invariant.cost in
    let added : c.in_ok-added.added ≡ c.loop-place.added + c.in_ok-more.more = c.in_ok-added.ensures in
    (record {
      buckets = λ rows_of h.
          groups-more (row_of shard.rows) rows_of gs key_of groups c.args.groups.now.places place c.index.result.now code (to_z w64 (of_z w64 code))
          (shown_level shard r c.args.level.now) (shown_level shard r c.loop-place.level) (shown_level shard r c.put.new.level) same h
          (item-at groups place c.index.result.now there c.index.ensures)
          (ap (λ (cs : List ℤ). slice_get cs place) (sym c.codes-codes.ensures.codes) ∙ slice_get-get_or codes place (pos 0) below)
          (c.loop-place.invariant.buckets rows_of h)
          (c.in_ok-more.ensures.buckets ∙ ap (λ (rs : List ℕ). put_rows gs (map (row_of shard.rows) rs) (key_of (to_z w64 (of_z w64 code))) (shown_level shard r c.loop-place.level)) c.as_slice.ensures);
      cost = omega arith;
      form = λ bs. c.in_ok-more.ensures.form bs ∙ c.loop-place.invariant.form bs;
      aligned = λ h. c.in_ok-more.ensures.aligned (c.loop-place.invariant.aligned h);
    })

pub put_groups-returns-clause-buckets : goal.put_groups-returns-clause-buckets
put_groups-returns-clause-buckets t c = λ rows_of h.
    let shard = c.args.shard.now in
    let r = c.args.ready.now in
    let key_of = key_at shard r in
    let codes = c.args.groups.now.places in
    let many = ap (λ (cs : List ℤ). length cs) c.codes-codes.ensures.codes in
    let all : length (map key_of codes) ≤ c.loop-place.place = omega (arith, length-map codes key_of, many, c.loop-place-test.false) in
    c.loop-place.invariant.buckets rows_of h
    ∙ ap (λ ks. put_all rows_of (gatherers shard (out-Agg c.args.agg.now).children) ks (shown_level shard r c.args.level.now)) (take-full (map key_of codes) c.loop-place.place all)

pub count_keyed-group_rows-requires-clause-ready : goal.count_keyed-group_rows-requires-clause-ready
count_keyed-group_rows-requires-clause-ready t c = (level-ready c.args.shard.now c.args.agg.now c.args.ready.now c.requires.ready).kind

pub count_keyed-put_groups-requires : goal.count_keyed-put_groups-requires
count_keyed-put_groups-requires t c =
    let shard = c.args.shard.now in
    let k = (out-Agg c.args.agg.now).kind in
    let ready = (out-Ready c.args.ready.now).kind in
    let own = codes-own shard k ready (level-ready shard c.args.agg.now c.args.ready.now c.requires.ready).kind in (
      omega (arith, c.decreases),
      (
        c.requires.ready,
        (
          c.requires.built,
          (
            c.requires.apart,
            groups-within shard.rows k c.args.rows.now (code_key shard ready) own c.in_ok-groups.groups.places c.in_ok-groups.groups.rows.items c.in_ok-groups.ensures.groups (λ n. n < length shard.rows) c.requires.in_range,
          ),
        ),
      ),
    )

pub count_keyed-returns-then-rows-eq1-clause-buckets : goal.count_keyed-returns-then-rows-eq1-clause-buckets
count_keyed-returns-then-rows-eq1-clause-buckets t c =
    let shard = c.args.shard.now in
    let k = (out-Agg c.args.agg.now).kind in
    let r = c.args.ready.now in
    let key_of = key_at shard r in
    let gs = gatherers shard (out-Agg c.args.agg.now).children in
    let row_at = row_of shard.rows in
    let rows = c.args.rows.now in
    let row = get_or rows 0 0 in
    let buckets = shown_level shard r c.args.level.now in
    let one = one-item rows (omega (arith, c.if-rows-eq1.true)) in
    c.in_ok-added.ensures.buckets (row_at row) (ap (map row_at) one)
    ∙ one-row shard.rows gs k (row_at row) buckets (keyed-keeps shard k (out-Ready r).kind (level-ready shard c.args.agg.now r c.requires.ready).kind c.requires.keyed)
    ∙ ap (λ rs. gathered_buckets shard.rows gs k (map row_at rs) buckets) (sym one)

pub count_keyed-returns-clause-buckets : goal.count_keyed-returns-clause-buckets
count_keyed-returns-clause-buckets t c =
    let shard = c.args.shard.now in
    let k = (out-Agg c.args.agg.now).kind in
    let r = c.args.ready.now in
    let key_of = key_at shard r in
    let ds = decoders shard (out-Ready r).children in
    let rows = c.args.rows.now in
    let ready = (level-ready shard c.args.agg.now r c.requires.ready).kind in
    let own = codes-own shard k (out-Ready r).kind ready in
    let codes = c.in_ok-groups.groups.places in
    let groups = c.in_ok-groups.groups.rows.items in
    let are = c.in_ok-groups.ensures.groups in
    let distinct : IsDistinct int_eq codes = subst (IsDistinct int_eq) c.drop-2.view_is c.drop-2.invariant.distinct in
    c.in_ok-added-2.ensures.buckets (group shard.rows k (rows_at shard rows)) (groups-are shard.rows k rows key_of own codes groups are)
    ∙ many-rows shard.rows k rows key_of own codes groups are distinct (gatherers shard (out-Agg c.args.agg.now).children) (shown_level shard r c.args.level.now)
    (keyed-keeps shard k (out-Ready r).kind ready c.requires.keyed) (level-up ds key_of own c.args.level.now c.requires.aligned)

pub gather-returns-in_ok-more-in-Terms : goal.gather-returns-in_ok-more-in-Terms
gather-returns-in_ok-more-in-Terms t c =
    let rows = c.args.shard.now.rows in
    let handed = map (row_of rows) c.args.rows.now in
    (record {
      tree = c.in_ok-more-in-Terms.ensures.tree
          ∙ sym (gathered-is rows c.args.agg.now handed handed (decoded c.args.shard.now c.args.ready.now c.args.tree.now)
          (⊎_elim (λ h. handed-as rows handed h.9 refl)
          (⊎_elim (λ h. handed-as rows handed h.9 refl)
          (⊎_elim (λ h. handed-as rows handed h.9 refl)
          (⊎_elim (λ h. handed-as rows handed h.3 refl)
          (⊎_elim (λ h. handed-as rows handed h.1 refl)
          (⊎_elim (λ h. handed-as rows handed h.1 refl)
          (⊎_elim (λ h. handed-as rows handed h.3 refl)
          (⊎_elim (λ h. handed-as rows handed h.2 refl)
          (⊎_elim (λ h. handed-as rows handed h.2 refl)
          (⊎_elim (λ h. handed-as rows handed h.2 refl)
          (⊎_elim (λ h. handed-as rows handed h.2 refl)
          (λ h. handed-as rows handed h.2 refl))))))))))) c.in-Terms.is));
      cost = c.in_ok-more-in-Terms.ensures.cost;
    })

pub count-returns-in_ok-more-in-Single-clause-tree : goal.count-returns-in_ok-more-in-Single-clause-tree
count-returns-in_ok-more-in-Single-clause-tree t c =
    let shard = c.args.shard.now in
    let a = c.args.agg.now in
    let r = c.args.ready.now in
    let rows = rows_at shard c.args.rows.now in
    single-counted shard a r c.args.rows.now c.tree.inside.level c.put_codes.new.level c.in-Single.is (level-ready shard a r c.requires.ready).kind (λ e. false≢true (sym c.if-is_empty.false ∙ c.is_empty.ensures ∙ ap (λ (rs : List ℕ). length rs == 0) e))
    (c.in_ok-more-in-Single.ensures.buckets
    ∙ ap (λ (cs : List ℤ). put_all (λ k. rows) (gatherers shard (out-Agg a).children) (map (key_at shard r) cs) (shown_level shard r c.tree.inside.level)) c.as_slice.ensures)
    c.in_ok-more-in-Single.ensures.form (c.has_buckets.ensures (search rules))
    ∙ ap (λ n. counted shard.rows a rows (decoded shard r n)) c.tree.view_is

pub count-returns-in_ok-more-in-Single-clause-cost : goal.count-returns-in_ok-more-in-Single-clause-cost
count-returns-in_ok-more-in-Single-clause-cost t c =
    let shard = c.args.shard.now in
    let a = c.args.agg.now in
    let r = c.args.ready.now in
    level-cost shard a r c.tree.inside.level c.put_codes.new.level c.in_ok-more-in-Single.more c.in_ok-more-in-Single.ensures.cost ∙ ap (λ n. node_cost (decoded shard r n) + c.in_ok-more-in-Single.more) c.tree.view_is

pub count-returns-in_ok-more-in-Terms-clause-tree : goal.count-returns-in_ok-more-in-Terms-clause-tree
count-returns-in_ok-more-in-Terms-clause-tree t c =
    let shard = c.args.shard.now in
    let a = c.args.agg.now in
    let r = c.args.ready.now in
    let rows = rows_at shard c.args.rows.now in
    keyed-counted shard a r rows c.tree.inside.level c.count_keyed.new.level c.in_ok-more-in-Terms.ensures.buckets c.in_ok-more-in-Terms.ensures.form (c.has_buckets-in-Terms.ensures (search rules))
    ∙ ap (λ n. counted shard.rows a rows (decoded shard r n)) c.tree.view_is

pub count-returns-in_ok-more-in-Terms-clause-cost : goal.count-returns-in_ok-more-in-Terms-clause-cost
count-returns-in_ok-more-in-Terms-clause-cost t c =
    let shard = c.args.shard.now in
    let a = c.args.agg.now in
    let r = c.args.ready.now in
    level-cost shard a r c.tree.inside.level c.count_keyed.new.level c.in_ok-more-in-Terms.more c.in_ok-more-in-Terms.ensures.cost ∙ ap (λ n. node_cost (decoded shard r n) + c.in_ok-more-in-Terms.more) c.tree.view_is

pub count-returns-in_ok-take_rows-in-Metric-clause-tree : goal.count-returns-in_ok-take_rows-in-Metric-clause-tree
count-returns-in_ok-take_rows-in-Metric-clause-tree t c =
    let shard = c.args.shard.now in
    let a = c.args.agg.now in
    let r = c.args.ready.now in
    let rows = rows_at shard c.args.rows.now in
    metric-counted shard a r rows c.tree.inside.level c.take_rows.new.level c.in_ok-take_rows-in-Metric.ensures.values
    ∙ ap (λ n. counted shard.rows a rows (decoded shard r n)) c.tree.view_is

pub count-returns-in_ok-take_rows-in-Metric-clause-cost : goal.count-returns-in_ok-take_rows-in-Metric-clause-cost
count-returns-in_ok-take_rows-in-Metric-clause-cost t c =
    let shard = c.args.shard.now in
    let a = c.args.agg.now in
    let r = c.args.ready.now in
    metric-cost shard a r (rows_at shard c.args.rows.now) c.tree.inside.level c.take_rows.new.level c.in_ok-take_rows-in-Metric.ensures.values ∙ ap (λ n. node_cost (decoded shard r n) + 0) c.tree.view_is

pub gather_child-gather_values-requires-clause-metric : goal.gather_child-gather_values-requires-clause-metric
gather_child-gather_values-requires-clause-metric t c =
    subst (IsKindReady c.args.shard.now (out-Agg c.args.agg.now).kind) c.in-Metric.is (level-ready c.args.shard.now c.args.agg.now c.args.ready.now c.requires.ready).kind

pub put_row-lone_code-requires-clause-ready : goal.put_row-lone_code-requires-clause-ready
put_row-lone_code-requires-clause-ready t c = (level-ready c.args.shard.now c.args.agg.now c.args.ready.now c.requires.ready).kind

pub put_row-row_codes-requires-clause-ready : goal.put_row-row_codes-requires-clause-ready
put_row-row_codes-requires-clause-ready t c = (level-ready c.args.shard.now c.args.agg.now c.args.ready.now c.requires.ready).kind
