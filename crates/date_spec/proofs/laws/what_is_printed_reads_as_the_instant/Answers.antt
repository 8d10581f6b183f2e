-- The clock is whole, and each part of it reads as its number.
use Rattle.date_spec.proofs.PrintingLemmas.{read_date-printed, read_date-printed_with}
use Rattle.date_spec.proofs.laws.what_is_printed_reads_as_the_instant.Goals as goal

pub returns-clause-utc : goal.returns-clause-utc
returns-clause-utc c = read_date-printed

pub returns-clause-offset : goal.returns-clause-offset
returns-clause-offset c = λ instant ahead offset within is low most. read_date-printed_with instant ahead offset within low most is
