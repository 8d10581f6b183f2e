-- The calendar has the first day of each month.
use Rattle.std.proofs.Common.{arith, ◌≡◌, ℤ, pos, neg_ℤ, ◌≤ℤ◌, ◌+ℤ◌, ◌*ℤ◌, ◌-◌, sym, ◌∙◌, ap, subst, to_z, of_z, w8, w64, ℕ, ◌-ℤ◌, ◌<ℤ◌}
use Rattle.std.specs.Int.{int_div_euclid, IsInRange}
use Rattle.std.proofs.lemmas.Bool.{false≢true}
use Rattle.std.proofs.lemmas.Int.{ints}
use Rattle.jiff_core.proofs.CalendarLemmas.{days_in_month_bounds}
use Rattle.date_spec.proofs.PeriodLemmas.{first_day-least, quotient-low, quotient-high}
use Rattle.date_periods.proofs.CivilMonths.{first_day-date}
use Rattle.date_periods.proofs.calendar.first_day.Goals as goal

-- a month's place in its year, as it is cast
in_year : (month : ℕ) (place : ℤ) → pos 0 ≤ℤ place → place <ℤ pos 12 → pos month ≡ to_z w8 (of_z w8 (to_z w8 (of_z w8 place) +ℤ pos 1)) → pos month ≡ place +ℤ pos 1
in_year month place low high is = omega (arith, ints)

whole_month : (year months quotient : ℤ) (month : ℕ) → IsInRange 1 12 month → year ≡ quotient → pos month ≡ (months -ℤ (quotient *ℤ pos 12)) +ℤ pos 1 → (year *ℤ pos 12) +ℤ pos (month - 1) ≡ months
whole_month year months quotient month bounds e f = omega (arith, ints)

pub unreachable-requires : goal.unreachable-requires
unreachable-requires c =
    let same : to_z w64 (of_z w64 c.args.month) ≡ c.args.month = omega (arith, ints) in
    let quotient = c.div_euclid-year.ensures ∙ ap (λ (month : ℤ). int_div_euclid month (pos 12)) same in
    let low = quotient-low c.args.month 12 (omega arith) in
    let high = quotient-high c.args.month 12 (omega arith) in
    false≢true (c.in-Err.ensures.succeeds.1 (
      (omega (arith, ints), omega (arith, ints)),
      (omega (arith, ints), omega (arith, ints)),
      (omega (arith, ints), omega (arith, ints, days_in_month_bounds)),
    ))

pub returns-clause-day : goal.returns-clause-day
returns-clause-day c =
    let same : to_z w64 (of_z w64 c.args.month) ≡ c.args.month = omega (arith, ints) in
    let quotient = c.div_euclid-year.ensures ∙ ap (λ (month : ℤ). int_div_euclid month (pos 12)) same in
    let low = quotient-low c.args.month 12 (omega arith) in
    let high = quotient-high c.args.month 12 (omega arith) in
    let parts = c.in-Ok.ensures.value in
    let bounds = c.in-Ok.date.month_in in
    let year : c.in-Ok.date.year ≡ c.div_euclid-year.result = omega (arith, ints, parts.0) in
    let product : to_z w64 (of_z w64 (to_z w64 (of_z w64 c.div_euclid-year.result) *ℤ pos 12)) ≡ c.div_euclid-year.result *ℤ pos 12 = omega (arith, ints) in
    let rest : to_z w64 (of_z w64 (to_z w64 (of_z w64 c.args.month) -ℤ to_z w64 (of_z w64 (to_z w64 (of_z w64 c.div_euclid-year.result) *ℤ pos 12)))) ≡ c.args.month -ℤ (c.div_euclid-year.result *ℤ pos 12) = omega (arith, ints) in
    let place = in_year c.in-Ok.date.month (c.args.month -ℤ (c.div_euclid-year.result *ℤ pos 12)) (omega (arith, ints)) (omega (arith, ints)) (parts.1 ∙ ap (λ (place : ℤ). to_z w8 (of_z w8 (to_z w8 (of_z w8 place) +ℤ pos 1))) rest) in
    let month = whole_month c.in-Ok.date.year c.args.month c.div_euclid-year.result c.in-Ok.date.month bounds year place in
    let first : c.in-Ok.date.day ≡ 1 = omega (arith, ints, parts.2) in
    let day = first_day-date c.in-Ok.date c.args.month c.requires.from month first in
    omega (arith, ints, day, c.from.ensures, c.to_unix_epoch_day.ensures.value)

pub returns-clause-low : goal.returns-clause-low
returns-clause-low c = subst (λ (day : ℤ). neg_ℤ (pos 865_625) ≤ℤ day) (sym (returns-clause-day c)) (first_day-least c.args.month c.requires.from)
