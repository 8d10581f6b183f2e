-- A week's start is so many weeks from a Monday.
use Rattle.date_spec.proofs.KeyLemmas.{week-at_midnight, week-on_monday}
use Rattle.date_spec.proofs.period_laws.weeks_begin_on_mondays.Goals as goal

pub returns-clause-midnight : goal.returns-clause-midnight
returns-clause-midnight c = week-at_midnight

pub returns-clause-monday : goal.returns-clause-monday
returns-clause-monday c = week-on_monday
