-- The digits of a date stand in their places.
use Rattle.std.proofs.Common.{arith, refl, take, drop}
use Rattle.date_spec.specs.DateTexts.{date_in}
use Rattle.date_spec.proofs.TextLemmas.{whole-digits}
use Rattle.date_text.proofs.ClockLemmas.{few, small}
use Rattle.date_text.proofs.clocks.day_of.Goals as goal

pub number-year-requires-clause-digits : goal.number-year-requires-clause-digits
number-year-requires-clause-digits c = whole-digits c.args.clock.now 0 4 c.requires.whole refl

pub number-year-requires-clause-few : goal.number-year-requires-clause-few
number-year-requires-clause-few c = few 4 c.args.clock.now

pub number-month-requires-clause-digits : goal.number-month-requires-clause-digits
number-month-requires-clause-digits c = whole-digits c.args.clock.now 5 2 c.requires.whole refl

pub number-month-requires-clause-few : goal.number-month-requires-clause-few
number-month-requires-clause-few c = let two = few 2 (drop 5 c.args.clock.now) in omega arith

pub number-day-requires-clause-digits : goal.number-day-requires-clause-digits
number-day-requires-clause-digits c = whole-digits c.args.clock.now 8 2 c.requires.whole refl

pub number-day-requires-clause-few : goal.number-day-requires-clause-few
number-day-requires-clause-few c = let two = few 2 (drop 8 c.args.clock.now) in omega arith

pub day_number-requires-clause-year : goal.day_number-requires-clause-year
day_number-requires-clause-year c =
    let below = small 4 (take 4 c.args.clock.now) c.number-year.result (whole-digits c.args.clock.now 0 4 c.requires.whole refl) (few 4 c.args.clock.now) c.number-year.ensures.value in
    omega arith

pub day_number-requires-clause-month : goal.day_number-requires-clause-month
day_number-requires-clause-month c =
    let below = small 2 (take 2 (drop 5 c.args.clock.now)) c.number-month.result (whole-digits c.args.clock.now 5 2 c.requires.whole refl) (few 2 (drop 5 c.args.clock.now)) c.number-month.ensures.value in
    omega arith

pub day_number-requires-clause-day : goal.day_number-requires-clause-day
day_number-requires-clause-day c =
    let below = small 2 (take 2 (drop 8 c.args.clock.now)) c.number-day.result (whole-digits c.args.clock.now 8 2 c.requires.whole refl) (few 2 (drop 8 c.args.clock.now)) c.number-day.ensures.value in
    omega arith

pub returns-clause-number : goal.returns-clause-number
unfolding date_in
returns-clause-number c =
    rw (← c.number-year.ensures.value, ← c.number-month.ensures.value, ← c.number-day.ensures.value) c.day_number.ensures.number
