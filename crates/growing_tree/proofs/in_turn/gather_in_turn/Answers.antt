use Rattle.std.proofs.Common.{sym, ◌∙◌, ap, arith, subst, ◌<◌, ◌+◌, [], ℕ, List, length, map, get_or, refl}
use Rattle.std.specs.Prelude.{All}
use Rattle.std.proofs.lemmas.List.{get_or_read}
use Rattle.std.proofs.lemmas.List.Elements.{All-push}
use Rattle.agg_evaluation.specs.Cost.{node_cost}
use Rattle.agg_evaluation.specs.Rows.{row_of}
use Rattle.growth_laws.specs.Gathering.{gathered}
use Rattle.growing_tree.specs.Decoded.{decoded}
use Rattle.growing_tree.specs.Gathered.{rows_at}
use Rattle.growing_tree.specs.GatheredEach.{cost_after, gathered_one}
use Rattle.growing_tree.proofs.Each.{after-all, one-in-turn}
use Rattle.growing_tree.proofs.Rises.{all-rose, rising-more, rising-none}
use Rattle.growing_tree.proofs.in_turn.gather_in_turn.Goals as goal

pub loop-place-preserved : goal.loop-place-preserved
loop-place-preserved c =
    let shard = c.args.shard.now in
    let a = c.args.agg.now in
    let r = c.args.ready.now in
    let step = gathered_one shard.rows a in
    let row_at = row_of shard.rows in
    let rows = c.args.rows.now in
    let i = c.loop-place.place in
    let old = decoded shard r c.args.tree.now in
    let now = c.loop-place.added.items in
    let more = c.in_ok-more.more in
    let rising = c.loop-place.invariant.rising in
    let below : i < length rows = omega (arith, c.loop-place-test.true) in
    let within : i < length now = (let many = rising.rises.many in omega (arith, many, c.requires.many, below)) in
    let stepped = c.in_ok-more.ensures.tree ∙ ap (λ (rs : List ℕ). gathered shard.rows a (map row_at rs) (decoded shard r c.loop-place.tree)) c.as_slice.ensures in
    let turn = one-in-turn step node_cost row_at rows i more old (decoded shard r c.loop-place.tree) (decoded shard r c.gather.new.tree) below c.loop-place.invariant.tree stepped c.in_ok-more.ensures.cost in
    record {
      tree = turn.0;
      rising = rising-more (cost_after step (rows_at shard rows) old) i more c.in_ok-next.next c.args.added.now.items now rising within turn.1 (c.in_ok-next.ensures ∙ ap (λ (k : ℕ). k + more) (get_or_read now i c.index.result.now within c.index.ensures 0));
    }

pub loop-place-init : goal.loop-place-init
loop-place-init c = record {
  tree = refl;
  rising = rising-none (cost_after (gathered_one c.args.shard.now.rows c.args.agg.now) (rows_at c.args.shard.now c.args.rows.now) (decoded c.args.shard.now c.args.ready.now c.args.tree.now)) c.args.added.now.items;
}

pub gather-requires-clause-in_range : goal.gather-requires-clause-in_range
gather-requires-clause-in_range c =
    let below : c.loop-place.place < length c.args.rows.now = omega (arith, c.loop-place-test.true) in
    let here = c.requires.in_range c.loop-place.place 0 below in
    subst (All (λ n. n < length c.args.shard.now.rows)) (sym c.as_slice.ensures) (All-push (λ n. n < length c.args.shard.now.rows) [] (get_or c.args.rows.now c.loop-place.place 0) (λ k d l. absurd (omega arith)) here)

pub returns-clause-tree : goal.returns-clause-tree
returns-clause-tree c =
    let shard = c.args.shard.now in
    c.loop-place.invariant.tree ∙ after-all (gathered_one shard.rows c.args.agg.now) (row_of shard.rows) c.args.rows.now c.loop-place.place (decoded shard c.args.ready.now c.args.tree.now) (omega (arith, c.loop-place-test.false))

pub returns-clause-rises : goal.returns-clause-rises
returns-clause-rises c =
    let shard = c.args.shard.now in
    all-rose (cost_after (gathered_one shard.rows c.args.agg.now) (rows_at shard c.args.rows.now) (decoded shard c.args.ready.now c.args.tree.now)) c.loop-place.place (length c.args.rows.now) c.args.added.now.items c.loop-place.added.items
    c.loop-place.invariant.rising (omega (arith, c.loop-place-test.false))
