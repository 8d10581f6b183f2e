-- A date lies in the month of its number, and each first day is the calendar's.
use Rattle.date_spec.proofs.CycleLemmas.{month-first, quarter-first, year-first}
use Rattle.date_spec.proofs.period_laws.calendar_periods_begin_with_their_first_day.Goals as goal

pub returns-clause-month : goal.returns-clause-month
returns-clause-month c = λ d time h short. month-first d h time short

pub returns-clause-quarter : goal.returns-clause-quarter
returns-clause-quarter c = λ d time h short. quarter-first d h time short

pub returns-clause-year : goal.returns-clause-year
returns-clause-year c = λ d time h short. year-first d h time short
