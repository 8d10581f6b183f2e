use Rattle.std.proofs.Common.{rules, refl, ap, ◌∙◌, arith}
use Rattle.breaker_words.specs.Breakers.{place}
use Rattle.breaker_words.specs.AfterStep.{after_take_back_child}
use Rattle.breaker_words.proofs.Allowed.{allows_take}
use Rattle.breaker_words.proofs.LivePasses.{closes, fitting_of}
use Rattle.breaker_words.proofs.OnePass.{own_taken_child}
use Rattle.breaker_words.proofs.words.take_back_child.Goals as goal

pub fetch_sub-requires : goal.fetch_sub-requires
fetch_sub-requires c = (
  search rules,
  omega (arith, c.words.invariant.0, c.place_of.ensures.low),
  allows_take _ _ _ _ _ c.pass.inside.known.amount c.pass.inside.known c.pass.invariant.0 (c.place_of.ensures.place ∙ ap place c.which_of-which.ensures) refl (search rules),
)

pub invariant_of-pass : goal.invariant_of-pass
invariant_of-pass c = let v = c.pass.inside.known in closes _ _ v _ after_take_back_child c.fetch_sub.ensures.2 c.pass.invariant.0 c.take_back_child.ensures (fitting_of v _ c.pass.invariant.1 refl refl (own_taken_child v c.pass.invariant.1.own (search rules)))
