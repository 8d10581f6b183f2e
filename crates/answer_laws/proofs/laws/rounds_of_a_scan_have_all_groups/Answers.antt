use Rattle.answer_laws.proofs.ScanLaws.{rounds-scan, rounds-groups, all-shards}
use Rattle.answer_laws.proofs.laws.rounds_of_a_scan_have_all_groups.Goals as goal

pub returns-clause-pages : goal.returns-clause-pages
returns-clause-pages c = λ index columns bytes request rounds paged asks all. rounds-scan index columns rounds bytes request paged asks all

pub returns-clause-groups : goal.returns-clause-groups
returns-clause-groups c = λ index columns bytes request rounds fit paged asks all. rounds-groups index columns rounds bytes request fit paged asks all

pub returns-clause-answers : goal.returns-clause-answers
returns-clause-answers c = all-shards
