-- A date lies in the month of its number.
use Rattle.std.proofs.Common.{arith, ◌≡◌, ℤ, pos, neg_ℤ, ◌≤ℤ◌, sym, subst}
use Rattle.std.proofs.lemmas.Int.{ints}
use Rattle.jiff_core.specs.Date.{epoch_day}
use Rattle.date_spec.proofs.PeriodLemmas.{month_of_day-least}
use Rattle.date_periods.proofs.CivilMonths.{month_of-date}
use Rattle.date_periods.proofs.calendar.month_of_day.Goals as goal

pub returns-clause-month : goal.returns-clause-month
returns-clause-month c =
    let number : epoch_day c.in-Ok.date ≡ c.args.day = omega (arith, ints, c.in-Ok.ensures.value) in
    let month = month_of-date c.in-Ok.date c.args.day number c.requires.from in
    let year_in = c.in-Ok.date.year_in in
    let month_in = c.in-Ok.date.month_in in
    omega (arith, ints, month, c.from.ensures, c.from-in-Ok.ensures)

pub returns-clause-low : goal.returns-clause-low
returns-clause-low c = subst (λ (month : ℤ). neg_ℤ (pos 4800) ≤ℤ month) (sym (returns-clause-month c)) (month_of_day-least c.args.day c.requires.from)
