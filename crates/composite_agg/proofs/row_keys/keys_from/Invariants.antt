use Rattle.std.proofs.Common.{◌≡◌, ◌++◌, length}
use Rattle.composite_agg.specs.Odometer.{keys_left, keys_to_come}
use Rattle.composite_agg.proofs.row_keys.keys_from.Given as goal

-- the keys so far and those to come
abbrev pub invariant-behind : goal.invariant-behind
invariant-behind l = l.keys.items ++ keys_to_come l.combinations ≡ keys_left l.fn.combinations

abbrev pub decreases-behind : goal.decreases-behind
decreases-behind l = length (keys_to_come l.combinations)
