use Rattle.std.proofs.Common.{subst, sym}
use Rattle.date_agg.proofs.Made.{ready-dates}
use Rattle.date_agg.specs.Dates.{IsOverDates}
use Rattle.agg_cost.specs.Counters.{IsCountable}
use Rattle.agg_cost.proofs.key_counts.counter_of.Goals as goal

pub returns-in-DateHistogram : goal.returns-in-DateHistogram
returns-in-DateHistogram c =
    let shard = c.args.shard.now in
    let kind = c.args.kind.now in
    let countable = subst (IsCountable shard) c.in-DateHistogram.is c.requires.countable in
    let ready = c.prepare-in-DateHistogram.ensures in
    (ready, ready-dates shard kind c.prepare-in-DateHistogram.result ready (subst (IsOverDates shard) (sym c.in-DateHistogram.is) countable.1))
