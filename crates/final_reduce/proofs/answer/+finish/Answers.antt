use Rattle.std.proofs.Common.{arith}
use Rattle.final_reduce.proofs.AggSizes.{children_less}
use Rattle.final_reduce.proofs.FinishableLaws.{intervals-at}
use Rattle.final_reduce.proofs.answer.+finish.Goals as goal

pub finish_node-finish_chosen-requires : goal.finish_node-finish_chosen-requires
finish_node-finish_chosen-requires t c = (omega (arith, c.decreases, children_less c.args.agg.now), ((intervals-at c.args.agg.now c.requires.intervals).1, c.in_ok-selected.ensures.children))
