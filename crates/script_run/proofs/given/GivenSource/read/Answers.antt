use Rattle.std.proofs.Common.{ap, Some}
use Rattle.agg_base.proofs.MemoryLemmas.{split_rest}
use Rattle.script_run.proofs.given.GivenSource.read.Goals as goal

pub returns-clause-given : goal.returns-clause-given
returns-clause-given c =
    ap Some (split_rest c.self.inside.bytes.items c.as_slice.result.now _ _ c.self.inside.given c.min-given.result c.as_slice.ensures.value c.self.view_is c.copy_front.ensures)
