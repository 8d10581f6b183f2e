use Rattle.std.proofs.Common.{rules, ◌+◌, refl, arith}
use Rattle.breaker_words.specs.AfterStep.{after_try_parent}
use Rattle.breaker_words.proofs.Allowed.{allows_parent}
use Rattle.breaker_words.proofs.LivePasses.{closes, fitting_parent, trial_fits}
use Rattle.breaker_words.proofs.words.try_parent.Goals as goal

pub fetch_add-found-requires : goal.fetch_add-found-requires
fetch_add-found-requires c = (
  search rules,
  omega (arith, c.words.invariant.0),
  allows_parent _ _ _ _ c.pass.inside.known.amount c.pass.inside.known c.pass.invariant.0 refl (search rules) (search rules),
)

pub try_parent-granted-requires : goal.try_parent-granted-requires
try_parent-granted-requires c = let t = trial_fits c.pass.inside.known c.pass.invariant.1 (search rules) in record { child = t.0; parent = t.1 }

pub invariant_of-pass : goal.invariant_of-pass
invariant_of-pass c = let v = c.pass.inside.known in closes _ _ v _ (λ u. after_try_parent u.limits u (c.fetch_add-found.result + v.amount)) c.fetch_add-found.ensures.2.0 c.pass.invariant.0 c.try_parent-granted.ensures.view (fitting_parent v.limits v (c.fetch_add-found.result + v.amount) c.pass.invariant.1 (search rules))
