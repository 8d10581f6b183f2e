use Rattle.std.proofs.Common.{false}
use Rattle.arrival_table.proofs.OneItem.{loaded_has}
use Rattle.shard_tests.proofs.desks.end_task.Goals as goal

pub stop-requires-clause-loaded : goal.stop-requires-clause-loaded
stop-requires-clause-loaded c = loaded_has c.args.task false c.args.desk.now.view c.requires.loaded
