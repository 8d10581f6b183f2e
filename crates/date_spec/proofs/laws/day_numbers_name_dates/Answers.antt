-- The last year and month that have begun are those of the date.
use Rattle.date_spec.proofs.DayLemmas.{date_of-day_number}
use Rattle.date_spec.proofs.laws.day_numbers_name_dates.Goals as goal

pub returns : goal.returns
returns c = date_of-day_number
