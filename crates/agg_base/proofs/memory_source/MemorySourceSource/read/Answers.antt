use Rattle.std.proofs.Common.{ap, length, Some}
use Rattle.agg_base.proofs.MemoryLemmas.{split_rest, nothing_left}
use Rattle.agg_base.proofs.memory_source.MemorySourceSource.read.Goals as goal

pub returns-clause-given : goal.returns-clause-given
returns-clause-given c =
    ap Some (split_rest c.self.inside.bytes.items c.as_slice-2.result.now _ _ c.self.inside.given c.min-given.result c.as_slice-2.ensures.value (ap (λ f. f.rest) c.self.view_is) c.copy_front.ensures)

pub returns-clause-end : goal.returns-clause-end
returns-clause-end c none =
    nothing_left c.self.inside.bytes.items c.as_slice-2.result.now _ c.self.inside.given c.min-given.result c.min.result (length c.args.buf.now) c.self.inside.piece c.as_slice-2.ensures.value (ap (λ f. f.rest) c.self.view_is)
    c.min.ensures c.min-given.ensures c.requires c.self.invariant.1 none
