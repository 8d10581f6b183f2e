use Rattle.std.proofs.Common.{◌≡◌, map}
use Rattle.request_kinds.proofs.composite.without_kinds.Given as goal

abbrev pub invariant-loop-source : goal.invariant-loop-source
invariant-loop-source l = l.all ≡ map (λ x. x.0) l.yielded
