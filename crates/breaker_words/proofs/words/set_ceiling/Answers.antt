use Rattle.std.proofs.Common.{rules, arith}
use Rattle.breaker_words.specs.AfterStep.{after_set_ceiling}
use Rattle.breaker_words.proofs.Allowed.{allows_ceil}
use Rattle.breaker_words.proofs.LivePasses.{closes, fitting_ceiled}
use Rattle.breaker_words.proofs.words.set_ceiling.Goals as goal

pub swap-requires : goal.swap-requires
swap-requires c = (
  search rules,
  omega (arith, c.words.invariant.0),
  allows_ceil _ _ _ _ _ c.pass.inside.known c.pass.invariant.0 (search rules) (search rules) (search rules) (search rules) (search rules) (search rules),
)

pub invariant_of-pass : goal.invariant_of-pass
invariant_of-pass c = let v = c.pass.inside.known in closes _ _ v _ (λ u. after_set_ceiling u c.args.value) c.swap.ensures.2 c.pass.invariant.0 c.set_ceiling.ensures (fitting_ceiled v c.args.value c.pass.invariant.1 (search rules) (search rules) (search rules) (search rules))
