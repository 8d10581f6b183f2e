-- The digits of a time stand in their places.
use Rattle.std.proofs.Common.{arith, refl, drop}
use Rattle.date_spec.specs.DateTexts.{time_in}
use Rattle.date_spec.proofs.TextLemmas.{whole-digits}
use Rattle.date_text.proofs.ClockLemmas.{few}
use Rattle.date_text.proofs.clocks.time_of.Goals as goal

pub number-hour-requires-clause-digits : goal.number-hour-requires-clause-digits
number-hour-requires-clause-digits c = whole-digits c.args.clock.now 11 2 c.requires.whole refl

pub number-hour-requires-clause-few : goal.number-hour-requires-clause-few
number-hour-requires-clause-few c = let most = few 2 (drop 11 c.args.clock.now) in omega arith

pub number-minute-requires-clause-digits : goal.number-minute-requires-clause-digits
number-minute-requires-clause-digits c = whole-digits c.args.clock.now 14 2 c.requires.whole refl

pub number-minute-requires-clause-few : goal.number-minute-requires-clause-few
number-minute-requires-clause-few c = let most = few 2 (drop 14 c.args.clock.now) in omega arith

pub number-second-requires-clause-digits : goal.number-second-requires-clause-digits
number-second-requires-clause-digits c = whole-digits c.args.clock.now 17 2 c.requires.whole refl

pub number-second-requires-clause-few : goal.number-second-requires-clause-few
number-second-requires-clause-few c = let most = few 2 (drop 17 c.args.clock.now) in omega arith

pub number-milli-requires-clause-digits : goal.number-milli-requires-clause-digits
number-milli-requires-clause-digits c = whole-digits c.args.clock.now 20 3 c.requires.whole refl

pub number-milli-requires-clause-few : goal.number-milli-requires-clause-few
number-milli-requires-clause-few c = let most = few 3 (drop 20 c.args.clock.now) in omega arith

pub returns-clause-millis : goal.returns-clause-millis
unfolding time_in
returns-clause-millis c =
    rw (← c.number-hour.ensures.value, ← c.number-minute.ensures.value, ← c.number-second.ensures.value, ← c.number-milli.ensures.value) c.time_millis.ensures.millis
