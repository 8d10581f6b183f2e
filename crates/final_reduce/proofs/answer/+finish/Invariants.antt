use Rattle.std.proofs.Common.{◌≡◌, ◌++◌, map, drop, true}
use Rattle.std.specs.Vec.Iter.{into_iter_items}
use Rattle.agg_evaluation.specs.Trees.{pass_each}
use Rattle.agg_spec.specs.Final.{finish_each}
use Rattle.final_reduce.specs.Standing.{builder, is_standing}
use Rattle.final_reduce.specs.Selection.{chosen_pass, finish_chosen}
use Rattle.final_reduce.proofs.answer.+finish.Given as goal

-- the answers so far, and then those of what is left
abbrev pub invariant-finish_chosen-loop-choice : goal.invariant-finish_chosen-loop-choice
invariant-finish_chosen-loop-choice l = record {
  next : (goal.iterator-finish_chosen-loop-choice).can_next l.choice-iterator;
  finite : (goal.iterator-finish_chosen-loop-choice).is_finite l.choice-iterator;
  left : chosen_pass (map is_standing l.children) (into_iter_items l.choice-iterator) ≡ true;
  rest : l.answers ++ map (finish_chosen (map builder l.children)) (into_iter_items l.choice-iterator) ≡ map (finish_chosen (map builder l.children)) l.fn.chosen;
}

-- the answers so far, and then those of the aggregations that are left
abbrev pub invariant-finish_each-loop-agg : goal.invariant-finish_each-loop-agg
invariant-finish_each-loop-agg l = record {
  left_pass : pass_each (map is_standing (drop l.agg-index l.agg-items)) (into_iter_items l.left) ≡ true;
  rest : l.answers ++ finish_each (map builder (drop l.agg-index l.agg-items)) (into_iter_items l.left) ≡ finish_each (map builder l.agg-items) l.fn.nodes;
}
