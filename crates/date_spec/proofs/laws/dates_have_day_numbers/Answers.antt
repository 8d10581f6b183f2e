-- A number counts the days before the last year and month that have begun, and the days of that month.
use Rattle.date_spec.proofs.DayLemmas.{date_of-is_date, day_number-date_of}
use Rattle.date_spec.proofs.laws.dates_have_day_numbers.Goals as goal

pub returns-clause-calendar : goal.returns-clause-calendar
returns-clause-calendar c = λ number from. date_of-is_date number

pub returns-clause-number : goal.returns-clause-number
returns-clause-number c = day_number-date_of
