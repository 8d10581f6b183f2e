use Rattle.std.proofs.Common.{◌≡◌, refl, ◌+◌, ◌<◌, ◌++◌, ◌∷◌, [], ℕ, List, sym, ◌∙◌, ap, subst, arith, length, map, get_or, sum_by, take}
use Rattle.std.proofs.lemmas.List.{take_all}
use Rattle.std.proofs.lemmas.List.Sums.{sum_by-append, sum_by-cons}
use Rattle.std.proofs.lemmas.Option.{slice_get_read, slice_get_within}
use Rattle.agg_evaluation.specs.Rows.{row_of}
use Rattle.agg_model.specs.declared.aggregation.Agg.{Agg}
use Rattle.agg_model.specs.declared.partial.Node.{Node}
use Rattle.growing_tree.specs.GatheredEach.{after_each, cost_after}
use Rattle.collect_tree.specs.Blocks.{AreChanges}
use Rattle.collect_tree.specs.Phases.{with_one}
use Rattle.collect_tree.proofs.Changes.{changes-add, changes-none, changes-same}
use Rattle.collect_tree.proofs.Counting.{take-next}
use Rattle.collect_tree.proofs.Tops.{node-before, set-nodes, set-ready, so-all, so-none}
use Rattle.collect_tree.proofs.growth.collect_in_all.Goals as goal

-- a sum over one more item
sum-next : (f : Agg → ℕ) (aggs : List Agg) (place : ℕ) (a : Agg) → take (place + 1) aggs ≡ take place aggs ++ a ∷ [] → sum_by f (take (place + 1) aggs) ≡ sum_by f (take place aggs) + f a
sum-next f aggs place a e =
    let whole = ap (sum_by f) e ∙ sum_by-append f (take place aggs) (a ∷ []) in
    let one = sum_by-cons f a [] in
    omega arith

pub collect-requires-clause-ready : goal.collect-requires-clause-ready
collect-requires-clause-ready c =
    let place = c.loop-place.place in
    let aggs = c.args.aggs.now in
    let trees = c.loop-place.trees.items in
    let a = c.index-as_slice-place.result in
    let old = c.index_mut.result.now in
    let many : length trees ≡ length aggs = c.loop-place.invariant.ready.count in
    let below : place < length aggs = omega (arith, c.loop-place-test.true, c.len-place-end.ensures) in
    let within : place < length trees = omega (arith, below, many) in
    let is : a ≡ get_or aggs place a = c.index-as_slice-place.is ∙ ap (λ (xs : List Agg). get_or xs place a) c.as_slice.ensures in
    c.loop-place.invariant.ready.each place a old (slice_get_read aggs (length aggs) place a refl below is) (slice_get_read trees (length trees) place old refl within c.index_mut.ensures.value)

pub collect-requires-clause-few : goal.collect-requires-clause-few
collect-requires-clause-few c =
    let place = c.loop-place.place in
    let aggs = c.args.aggs.now in
    let a = c.index-as_slice-place.result in
    let below : place < length aggs = omega (arith, c.loop-place-test.true, c.len-place-end.ensures) in
    let is : a ≡ get_or aggs place a = c.index-as_slice-place.is ∙ ap (λ (xs : List Agg). get_or xs place a) c.as_slice.ensures in
    λ n there. c.requires.few place a (slice_get_read aggs (length aggs) place a refl below is) n there

pub loop-place-init : goal.loop-place-init
loop-place-init c =
    let rows = c.args.shard.now.rows in
    let roots = map (row_of rows) c.args.rows.now in
    record {
      ready = c.requires.ready;
      nodes = λ before nodes i a top at there. nodes i a top at there ∙ sym (so-none i (after_each (with_one c.args.phase rows a) roots (before a)) (before a));
      changes = λ before nodes. changes-none (λ n. 0) 0 (length c.args.rows.now) c.args.added.now.items c.args.removed.now.items (λ n few. refl);
    }

pub loop-place-preserved : goal.loop-place-preserved
loop-place-preserved c =
    let shard = c.args.shard.now in
    let place = c.loop-place.place in
    let aggs = c.args.aggs.now in
    let trees = c.loop-place.trees.items in
    let a = c.index-as_slice-place.result in
    let old = c.index_mut.result.now in
    let new = c.collect.new.top in
    let roots = map (row_of shard.rows) c.args.rows.now in
    let many : length trees ≡ length aggs = c.loop-place.invariant.ready.count in
    let below : place < length aggs = omega (arith, c.loop-place-test.true, c.len-place-end.ensures) in
    let within : place < length trees = omega (arith, below, many) in
    let is : a ≡ get_or aggs place a = c.index-as_slice-place.is ∙ ap (λ (xs : List Agg). get_or xs place a) c.as_slice.ensures in
    let at = slice_get_read aggs (length aggs) place a refl below is in
    let there = slice_get_read trees (length trees) place old refl within c.index_mut.ensures.value in
    (record {
      ready = set-ready shard aggs trees place a old new within at there c.in_ok-collect.ensures.ready c.loop-place.invariant.ready;
      nodes = λ before nodes.
          let now = c.loop-place.invariant.nodes before nodes in
          let with_block : Agg → Node = λ (b : Agg). after_each (with_one c.args.phase shard.rows b) roots (before b) in
          set-nodes shard aggs trees place a old new within at there with_block before
          (c.in_ok-collect.ensures.node ∙ ap (λ (n : Node). after_each (with_one c.args.phase shard.rows a) roots n) (node-before shard aggs trees place a old new within at there with_block before now)) now;
      changes = λ before nodes.
          let now = c.loop-place.invariant.nodes before nodes in
          let with_block : Agg → Node = λ (b : Agg). after_each (with_one c.args.phase shard.rows b) roots (before b) in
          let was = node-before shard aggs trees place a old new within at there with_block before now in
          let cost_at : ℕ → Agg → ℕ = λ (n : ℕ) (b : Agg). cost_after (with_one c.args.phase shard.rows b) roots (before b) n in
          let here = subst (λ (m : Node). AreChanges (cost_after (with_one c.args.phase shard.rows a) roots m) (length c.args.rows.now) c.loop-place.added.items c.loop-place.removed.items c.collect.new.added.items c.collect.new.removed.items)
          was c.in_ok-collect.ensures.changes in
          changes-same (λ n. sum_by (cost_at n) (take place aggs) + cost_at n a) (λ n. sum_by (cost_at n) (take (place + 1) aggs)) (length c.args.rows.now)
          c.args.added.now.items c.args.removed.now.items c.collect.new.added.items c.collect.new.removed.items
          (λ n few. sum-next (cost_at n) aggs place a (take-next aggs place a at))
          (changes-add (λ n. sum_by (cost_at n) (take place aggs)) (λ n. cost_at n a) (length c.args.rows.now) c.args.added.now.items c.args.removed.now.items c.loop-place.added.items c.loop-place.removed.items
          c.collect.new.added.items c.collect.new.removed.items (c.loop-place.invariant.changes before nodes) here);
    })

pub returns-clause-nodes : goal.returns-clause-nodes
returns-clause-nodes c =
    let all : c.len-place-end.result ≡ length c.args.aggs.now = c.len-place-end.ensures in
    λ before nodes i a top at there.
    c.loop-place.invariant.nodes before nodes i a top at there
    ∙ so-all c.loop-place.place i (after_each (with_one c.args.phase c.args.shard.now.rows a) (map (row_of c.args.shard.now.rows) c.args.rows.now) (before a)) (before a) (let few = slice_get_within c.args.aggs.now i a at in omega (arith, c.loop-place-test.false, all))

pub returns-clause-changes : goal.returns-clause-changes
returns-clause-changes c =
    let aggs = c.args.aggs.now in
    let all : c.len-place-end.result ≡ length aggs = c.len-place-end.ensures in
    let whole : take c.loop-place.place aggs ≡ aggs = take_all c.loop-place.place aggs (omega (arith, c.loop-place-test.false, all)) in
    let roots = map (row_of c.args.shard.now.rows) c.args.rows.now in
    λ before nodes.
    subst (λ (some : List Agg). AreChanges (λ n. sum_by (λ a. cost_after (with_one c.args.phase c.args.shard.now.rows a) roots (before a) n) some) (length c.args.rows.now) c.args.added.now.items c.args.removed.now.items c.loop-place.added.items c.loop-place.removed.items)
    whole (c.loop-place.invariant.changes before nodes)
