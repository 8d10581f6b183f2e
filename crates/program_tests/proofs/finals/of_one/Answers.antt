use Rattle.std.proofs.Common.{false, []}
use Rattle.program_tests.proofs.SampleLaws.{one_can_finish, one_is_made}
use Rattle.program_tests.proofs.finals.of_one.Goals as goal

pub returns-clause-made : goal.returns-clause-made
returns-clause-made c = one_is_made c.in_ok-one.field-0 c.args.agg 0 false [] c.in_ok-one.ensures c.requires.made

pub returns-clause-whole : goal.returns-clause-whole
returns-clause-whole c = one_can_finish c.in_ok-one.field-0 c.in_ok-one-2.field-0 c.args.agg c.args.node c.in_ok-one.ensures c.in_ok-one-2.ensures c.requires.node
