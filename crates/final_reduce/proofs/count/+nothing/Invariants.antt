use Rattle.std.proofs.Common.{◌≡◌, map, drop, true}
use Rattle.std.specs.List.{list_all}
use Rattle.final_reduce.specs.Counts.{nothing_from, tally}
use Rattle.agg_evaluation.specs.Conditions.{has_intervals}
use Rattle.final_reduce.proofs.count.+nothing.Given as goal

-- the count so far, and then what is left
abbrev pub invariant-count_of_nothing-loop-agg : goal.invariant-count_of_nothing-loop-agg
invariant-count_of_nothing-loop-agg l = record {
  left_have : list_all has_intervals (drop l.agg-index l.agg-items) ≡ true;
  rest : nothing_from l.count (map tally (drop l.agg-index l.agg-items)) ≡ nothing_from 0 (map tally l.aggs);
}
