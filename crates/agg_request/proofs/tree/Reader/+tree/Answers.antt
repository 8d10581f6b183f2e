use Rattle.std.proofs.Common.{◌≡◌, ◌-◌, suc, arith, rules}
use Rattle.agg_reading.specs.Request.{aggregations_from}
use Rattle.agg_request.proofs.Items.{one_longer, still_few}
use Rattle.agg_request.proofs.Levels.{stopped, begun}
use Rattle.agg_request.proofs.tree.Reader.+tree.Goals as goal

pub aggregation-returns-then-left-eq0-clause-value : goal.aggregation-returns-then-left-eq0-clause-value
aggregation-returns-then-left-eq0-clause-value t c =
    rw (stopped c.args.left c.args.self.now.mapping.now c.args.top c.args.context c.args.name.now _ c.args.before _ c.then-left-eq0.either) c.refuse.ensures

pub aggregation-returns-clause-value : goal.aggregation-returns-clause-value
aggregation-returns-clause-value t c =
    let left : c.args.left ≡ suc (c.args.left - 1) = omega arith in
    rw (begun c.args.left (c.args.left - 1) c.args.self.now.mapping.now c.args.top c.args.context c.args.name.now _ c.args.before _ left c.if-before-ge-MAX_AGGREGATIONS.false) c.aggregation_of.ensures.value

pub all-loop-name-preserved : goal.all-loop-name-preserved
unfolding aggregations_from
all-loop-name-preserved t c = record {
  queries = c.in_ok-item.ensures.queries;
  aggregations = c.in_ok-item.ensures.aggregations;
  added = rw c.in_ok-done.ensures (omega (arith, one_longer c.in_ok-item.item c.loop-name.done, c.in_ok-item.ensures.added, c.loop-name.invariant.added));
  below = rw c.in_ok-done.ensures (still_few c.in_ok-item.item c.loop-name.done c.loop-name.invariant.below c.in_ok-item.ensures.below);
  rest = rw c.in_ok-done.ensures (search rules);
}
