use Rattle.column_query.proofs.Ready.{tests-set, tests-none}
use Rattle.column_query.proofs.preparing.list_test.Goals as goal

pub returns-then-most_values-eq0 : goal.returns-then-most_values-eq0
returns-then-most_values-eq0 c = tests-none c.args.shard.now.rows c.args.field c.args.probes.now c.most_values.result c.most_values.ensures.each c.if-most_values-eq0.true

pub returns : goal.returns
returns c = tests-set c.args.shard.now.rows c.args.field c.args.probes.now c.in_ok-numbers.numbers.items c.in_ok-of.field-0 c.in_ok-numbers.ensures c.in_ok-of.ensures
