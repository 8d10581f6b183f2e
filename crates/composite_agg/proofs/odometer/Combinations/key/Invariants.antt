use Rattle.std.proofs.Common.{◌≡◌, map, take}
use Rattle.composite_agg.specs.Odometer.{shown_key}
use Rattle.composite_agg.proofs.odometer.Combinations.key.Given as goal

abbrev pub invariant-loop-wheel : goal.invariant-loop-wheel
invariant-loop-wheel l = l.parts.items ≡ map shown_key (take l.wheel-index l.wheel-items)
