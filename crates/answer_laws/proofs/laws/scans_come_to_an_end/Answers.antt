use Rattle.answer_laws.proofs.FullRuns.{script-plain}
use Rattle.answer_laws.proofs.ScanEnds.{plain-rounds}
use Rattle.answer_laws.proofs.laws.scans_come_to_an_end.Goals as goal

pub returns-clause-rounds : goal.returns-clause-rounds
returns-clause-rounds c = λ index columns settings requests made. let found = plain-rounds index columns settings requests made in record { rounds = found.0; are = found.1 }

pub returns-clause-script : goal.returns-clause-script
returns-clause-script c = script-plain
