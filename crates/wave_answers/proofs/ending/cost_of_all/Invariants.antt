use Rattle.std.proofs.Common.{◌≡◌, sum_by, take}
use Rattle.agg_evaluation.specs.Cost.{cost}
use Rattle.wave_answers.proofs.ending.cost_of_all.Given as goal

abbrev pub invariant-loop-part : goal.invariant-loop-part
invariant-loop-part l = l.total ≡ sum_by cost (take l.part-index l.part-items)
