use Rattle.std.proofs.Common.{◌<◌, ◌+◌, ◌∙◌, add-one, sym, ap, subst, arith, get_or, length, take, sum_by}
use Rattle.std.specs.Prelude.{slice_get}
use Rattle.std.proofs.Math.ListN.{set}
use Rattle.std.proofs.lemmas.List.{length-map}
use Rattle.agg_evaluation.specs.Cost.{node_cost}
use Rattle.growth_laws.specs.Gathering.{gatherer_of}
use Rattle.growing_tree.specs.Decoded.{decoded}
use Rattle.growing_tree.specs.Gathered.{decoders, gatherers, rows_at, shown_children}
use Rattle.growing_tree.specs.GatheredEach.{AreRises, after_each, cost_after, gathered_one}
use Rattle.growing_tree.specs.SideBySide.{side_by_side, side_cost}
use Rattle.growing_tree.specs.Steady.{AreSteady}
use Rattle.growing_tree.proofs.Children.{decoded-get, decoded-set, take-full}
use Rattle.growing_tree.proofs.Rises.{rises-level}
use Rattle.growing_tree.proofs.Steady.{both-rise, one-more-steady, side-cost, side-kept, side-more, side-none}
use Rattle.growing_tree.proofs.Steps.{item-at, mapped-at}
use Rattle.growing_tree.proofs.beneath_roots.gather_all_simple.Goals as goal

pub loop-place-init : goal.loop-place-init
loop-place-init c =
    let shard = c.args.shard.now in
    let rows = rows_at shard c.args.rows.now in
    let ns = shown_children shard c.args.ready.now c.args.children.now.items in
    record {
      trees = sym (side-none rows ns);
      rises = rises-level (side_cost (take 0 (gatherers shard c.args.aggs.now)) rows ns) (sum_by node_cost ns) (length c.args.rows.now) c.args.added.now.items (λ n few. ap (sum_by node_cost) (side-none (take n rows) ns));
      steady = tt;
    }

pub gather_simple-requires : goal.gather_simple-requires
gather_simple-requires c =
    let place = c.loop-place.place in
    let a = c.index-as_slice-place.result in
    let r = c.index-as_slice-place-in-loop-place.result in
    let below : place < length c.args.aggs.now = omega (arith, c.loop-place-test.true, c.len-place-end.ensures) in
    let within : place < length c.args.ready.now = omega (arith, c.if-place-len.false, c.len.ensures) in
    let a_get = item-at c.args.aggs.now place a below (c.index-as_slice-place.is ∙ ap (λ xs. get_or xs place a) c.as_slice.ensures) in
    let r_get = item-at c.args.ready.now place r within (c.index-as_slice-place-in-loop-place.is ∙ ap (λ xs. get_or xs place r) c.as_slice-in-loop-place.ensures) in
    record {
      ready = c.requires.ready place a r a_get r_get;
      simple = c.requires.simple place a r a_get r_get;
      built = c.requires.built;
      apart = c.requires.apart;
      in_range = c.requires.in_range;
      many = c.loop-place.invariant.rises.many ∙ c.requires.many;
    }

pub loop-place-preserved : goal.loop-place-preserved
loop-place-preserved c =
    let shard = c.args.shard.now in
    let i = c.loop-place.place in
    let children = c.loop-place.children.items in
    let a = c.index-as_slice-place.result in
    let r = c.index-as_slice-place-in-loop-place.result in
    let ds = decoders shard c.args.ready.now in
    let gs = gatherers shard c.args.aggs.now in
    let g = gatherer_of shard.rows a in
    let d = decoded shard r in
    let rows = rows_at shard c.args.rows.now in
    let ns = shown_children shard c.args.ready.now c.args.children.now.items in
    let old = c.index_mut.result.now in
    let new = c.gather_simple.new.tree in
    let below : i < length c.args.aggs.now = omega (arith, c.loop-place-test.true, c.len-place-end.ensures) in
    let within : i < length c.args.ready.now = omega (arith, c.if-place-len.false, c.len.ensures) in
    let there : i < length children = omega (arith, c.if-place-len-2.false, c.len-in-loop-place.ensures, c.loop-place.children.ok) in
    let g_is = mapped-at (gatherer_of shard.rows) c.args.aggs.now i a below (c.index-as_slice-place.is ∙ ap (λ xs. get_or xs i a) c.as_slice.ensures) in
    let d_is = mapped-at (decoded shard) c.args.ready.now i r within (c.index-as_slice-place-in-loop-place.is ∙ ap (λ xs. get_or xs i r) c.as_slice-in-loop-place.ensures) in
    let old_is = item-at children i old there c.index_mut.ensures.value in
    let so_far = c.loop-place.invariant.trees in
    let n_is = sym (side-kept gs rows ns i) ∙ ap (λ xs. slice_get xs i) (sym so_far) ∙ decoded-get ds children i d old d_is old_is in
    record {
      trees = decoded-set ds children i d new d_is ∙ (λ j. set (so_far j) i (c.in_ok-gather_simple.ensures.tree j))
          ∙ sym (side-more gs rows ns i g (d old) g_is n_is) ∙ ap (λ m. after_each (side_by_side (take m gs)) rows ns) (sym (add-one i));
      rises = both-rise (side_cost (take i gs) rows ns) (cost_after (gathered_one shard.rows a) rows (d old)) (side_cost (take (i + 1) gs) rows ns) (node_cost (d old)) (length c.args.rows.now)
          c.args.added.now.items c.loop-place.added.items c.gather_simple.new.added.items
          (λ n. ap (λ m. side_cost (take m gs) rows ns n + node_cost (d old)) (add-one i) ∙ side-cost gs (take n rows) ns i g (d old) g_is n_is)
          c.loop-place.invariant.rises c.in_ok-gather_simple.ensures.rises;
      steady = subst (λ m. AreSteady (take m gs) ns) (sym (add-one i)) (one-more-steady gs ns i g (d old) g_is n_is c.loop-place.invariant.steady c.in_ok-gather_simple.ensures.steady);
    }

pub returns : goal.returns
returns c =
    let shard = c.args.shard.now in
    let rows = rows_at shard c.args.rows.now in
    let ns = shown_children shard c.args.ready.now c.args.children.now.items in
    let many = length-map c.args.aggs.now (gatherer_of shard.rows) in
    let all = take-full (gatherers shard c.args.aggs.now) c.loop-place.place (omega (arith, many, c.loop-place-test.false, c.len-place-end.ensures)) in
    record {
      trees = c.loop-place.invariant.trees ∙ ap (λ hs. after_each (side_by_side hs) rows ns) all;
      rises = subst (λ hs. AreRises (side_cost hs rows ns) (length c.args.rows.now) c.args.added.now.items c.loop-place.added.items) all c.loop-place.invariant.rises;
      steady = subst (λ hs. AreSteady hs ns) all c.loop-place.invariant.steady;
    }
