-- The calendar crate has the dates of the definitions, with their numbers.
use Rattle.std.proofs.Common.{arith, ◌≡◌, pos, w64, to_z, of_z}
use Rattle.std.proofs.lemmas.Int.{ints}
use Rattle.jiff_core.specs.Date.{epoch_day}
use Rattle.date_text.proofs.Days.{numbered-epoch_day}
use Rattle.date_text.proofs.calendar.day_number.Goals as goal

pub returns-in-Ok-clause-number : goal.returns-in-Ok-clause-number
returns-in-Ok-clause-number c =
    let parts = c.in-Ok.ensures.value in
    let year : c.in-Ok.date.year ≡ pos c.args.year = omega (arith, ints, parts.0) in
    let month : c.in-Ok.date.month ≡ c.args.month = omega (arith, ints, parts.1) in
    let day : c.in-Ok.date.day ≡ c.args.day = omega (arith, ints, parts.2) in
    let number : to_z w64 (of_z w64 c.from.result) ≡ epoch_day c.in-Ok.date = omega (arith, ints) in
    numbered-epoch_day c.in-Ok.date c.args.year c.args.month c.args.day _ year month day number
