use Rattle.std.proofs.Common.{◌≡◌, ◌≤◌, map, take, drop}
use Rattle.std.specs.Prelude.{Some, sum}
use Rattle.agg_cost.proofs.Together.{together}
use Rattle.agg_cost.proofs.room.all_low.Given as goal

abbrev pub invariant-loop-one : goal.invariant-loop-one
invariant-loop-one l = record {
  kept : map (λ c. Some c) l.all.items ≡ take l.one-index l.found;
  sum_is : sum l.all.items ≡ l.bytes;
  within : l.bytes ≤ 1125899906842624;
  rest : together l.bytes (drop l.one-index l.found) ≡ together 0 l.found;
}
