use Rattle.std.proofs.Common.{◌≡◌, true, false, rules, tests}
use Rattle.std.specs.Prelude.{nat_lt}
use Rattle.agg_reading.specs.Histogram.{histogram_rules}
use Rattle.request_kinds.proofs.histogram.check_rules.Goals as goal

pub returns-then-offset-interval : goal.returns-then-offset-interval
unfolding histogram_rules
returns-then-offset-interval c =
    let above : nat_lt c.args.offset c.args.interval ≡ false = search (tests, rules) in
    rw above c.refuse.ensures

pub returns : goal.returns
unfolding histogram_rules
returns c =
    let below : nat_lt c.args.offset c.args.interval ≡ true = search (tests, rules) in
    rw below c.check_bounds.ensures
