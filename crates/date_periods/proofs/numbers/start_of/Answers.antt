-- A month that begins in reach has its number in reach.
use Rattle.std.proofs.Common.{arith, ◌≡◌, ℤ, pos, ◌≤ℤ◌, ◌*ℤ◌, sym, ◌∙◌, ap, subst, to_z, of_z, w64}
use Rattle.std.proofs.lemmas.Int.{ints}
use Rattle.date_spec.specs.declared.period.Period.{Period}
use Rattle.date_spec.specs.declared.period.Period.TheVariants.{Month, Quarter, Year}
use Rattle.date_spec.specs.Periods.{first_day, midnight, start_of}
use Rattle.date_periods.specs.Reach.{IsLocal, IsNumber}
use Rattle.date_periods.proofs.ReachLemmas.{month-end, midnight-high}
use Rattle.date_spec.proofs.PeriodLemmas.{same-most}
use Rattle.date_periods.proofs.numbers.start_of.Goals as goal

-- what is required, where the period is known
local_at : (p q : Period) (number : ℤ) → p ≡ q → IsLocal p (start_of p number) → IsLocal q (start_of q number)
local_at p q number e h = subst (λ (r : Period). IsLocal r (start_of r number)) e h

number_at : (p q : Period) (number : ℤ) → p ≡ q → IsNumber p number → IsNumber q number
number_at p q number e h = subst (λ (r : Period). IsNumber r number) e h

month_at : (month : ℤ) → midnight (first_day month) ≤ℤ pos 253_402_300_799_999 → month ≤ℤ pos 119_999
month_at month high = month-end month (first_day month) (same-most (first_day month) (first_day month) (λ _. first_day month)) (midnight-high (first_day month) high)

pub first_day-requires-clause-until : goal.first_day-requires-clause-until
first_day-requires-clause-until c =
    let high = month_at c.args.number (local_at c.args.period Month c.args.number c.in-Month.is c.requires.local).1 in
    omega (arith, ints)

pub overflow_mul-number : goal.overflow_mul-number
overflow_mul-number c =
    let low = number_at c.args.period Quarter c.args.number c.in-Quarter.is c.requires.number in
    let high = month_at (c.args.number *ℤ pos 3) (local_at c.args.period Quarter c.args.number c.in-Quarter.is c.requires.local).1 in
    omega (arith, ints)

pub first_day-requires-in-Quarter-clause-from : goal.first_day-requires-in-Quarter-clause-from
first_day-requires-in-Quarter-clause-from c =
    let low = number_at c.args.period Quarter c.args.number c.in-Quarter.is c.requires.number in
    let high = month_at (c.args.number *ℤ pos 3) (local_at c.args.period Quarter c.args.number c.in-Quarter.is c.requires.local).1 in
    omega (arith, ints)

pub first_day-requires-in-Quarter-clause-until : goal.first_day-requires-in-Quarter-clause-until
first_day-requires-in-Quarter-clause-until c =
    let low = number_at c.args.period Quarter c.args.number c.in-Quarter.is c.requires.number in
    let high = month_at (c.args.number *ℤ pos 3) (local_at c.args.period Quarter c.args.number c.in-Quarter.is c.requires.local).1 in
    omega (arith, ints)

pub overflow_mul-number-in-Year : goal.overflow_mul-number-in-Year
overflow_mul-number-in-Year c =
    let low = number_at c.args.period Year c.args.number c.in-Year.is c.requires.number in
    let high = month_at (c.args.number *ℤ pos 12) (local_at c.args.period Year c.args.number c.in-Year.is c.requires.local).1 in
    omega (arith, ints)

pub first_day-requires-in-Year-clause-from : goal.first_day-requires-in-Year-clause-from
first_day-requires-in-Year-clause-from c =
    let low = number_at c.args.period Year c.args.number c.in-Year.is c.requires.number in
    let high = month_at (c.args.number *ℤ pos 12) (local_at c.args.period Year c.args.number c.in-Year.is c.requires.local).1 in
    omega (arith, ints)

pub first_day-requires-in-Year-clause-until : goal.first_day-requires-in-Year-clause-until
first_day-requires-in-Year-clause-until c =
    let low = number_at c.args.period Year c.args.number c.in-Year.is c.requires.number in
    let high = month_at (c.args.number *ℤ pos 12) (local_at c.args.period Year c.args.number c.in-Year.is c.requires.local).1 in
    omega (arith, ints)

pub returns-in-Quarter : goal.returns-in-Quarter
returns-in-Quarter c =
    let low = number_at c.args.period Quarter c.args.number c.in-Quarter.is c.requires.number in
    let high = month_at (c.args.number *ℤ pos 3) (local_at c.args.period Quarter c.args.number c.in-Quarter.is c.requires.local).1 in
    let months : to_z w64 (of_z w64 (to_z w64 (of_z w64 c.args.number) *ℤ pos 3)) ≡ c.args.number *ℤ pos 3 = omega (arith, ints) in
    let first : to_z w64 (of_z w64 c.first_day-in-Quarter.result) ≡ first_day (c.args.number *ℤ pos 3) = (let same : to_z w64 (of_z w64 c.first_day-in-Quarter.result) ≡ c.first_day-in-Quarter.result = omega (arith, ints) in same) ∙ c.first_day-in-Quarter.ensures.day ∙ ap first_day months in
    let result : to_z w64 (of_z w64 c.midnight-in-Quarter.result) ≡ c.midnight-in-Quarter.result = omega (arith, ints) in
    result ∙ c.midnight-in-Quarter.ensures ∙ ap midnight first ∙ ap (λ (p : Period). start_of p c.args.number) (sym c.in-Quarter.is)

pub returns-in-Year : goal.returns-in-Year
returns-in-Year c =
    let low = number_at c.args.period Year c.args.number c.in-Year.is c.requires.number in
    let high = month_at (c.args.number *ℤ pos 12) (local_at c.args.period Year c.args.number c.in-Year.is c.requires.local).1 in
    let months : to_z w64 (of_z w64 (to_z w64 (of_z w64 c.args.number) *ℤ pos 12)) ≡ c.args.number *ℤ pos 12 = omega (arith, ints) in
    let first : to_z w64 (of_z w64 c.first_day-in-Year.result) ≡ first_day (c.args.number *ℤ pos 12) = (let same : to_z w64 (of_z w64 c.first_day-in-Year.result) ≡ c.first_day-in-Year.result = omega (arith, ints) in same) ∙ c.first_day-in-Year.ensures.day ∙ ap first_day months in
    let result : to_z w64 (of_z w64 c.midnight-in-Year.result) ≡ c.midnight-in-Year.result = omega (arith, ints) in
    result ∙ c.midnight-in-Year.ensures ∙ ap midnight first ∙ ap (λ (p : Period). start_of p c.args.number) (sym c.in-Year.is)
