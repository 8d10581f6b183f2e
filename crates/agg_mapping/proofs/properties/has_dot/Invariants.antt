use Rattle.std.proofs.Common.{◌≡◌, ◌==◌, drop}
use Rattle.std.specs.List.{list_any}
use Rattle.agg_mapping.proofs.properties.has_dot.Given as goal

abbrev pub invariant-loop-b : goal.invariant-loop-b
invariant-loop-b l = list_any (λ b. b == 46) (drop l.b-index l.name) ≡ list_any (λ b. b == 46) l.name
