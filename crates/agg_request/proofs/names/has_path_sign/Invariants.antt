use Rattle.std.proofs.Common.{◌≡◌, drop}
use Rattle.std.specs.Prelude.{◌==◌, ◌||◌}
use Rattle.std.specs.List.{list_any}
use Rattle.agg_request.proofs.names.has_path_sign.Given as goal

abbrev pub invariant-loop-b : goal.invariant-loop-b
invariant-loop-b l = list_any (λ b. b == 91 || b == 93 || b == 62) (drop l.b-index l.name) ≡ list_any (λ b. b == 91 || b == 93 || b == 62) l.name
