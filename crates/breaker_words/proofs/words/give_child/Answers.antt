use Rattle.std.proofs.Common.{rules, refl, ap, ◌∙◌, arith}
use Rattle.breaker_words.specs.Breakers.{place}
use Rattle.breaker_words.specs.AfterStep.{after_give_child}
use Rattle.breaker_words.proofs.Allowed.{allows_give_child}
use Rattle.breaker_words.proofs.LivePasses.{closes, fitting_of, child_has}
use Rattle.breaker_words.proofs.OnePass.{own_given_child}
use Rattle.breaker_words.proofs.words.give_child.Goals as goal

pub fetch_sub-requires : goal.fetch_sub-requires
fetch_sub-requires c = (
  search rules,
  omega (arith, c.words.invariant.0, c.place_of.ensures.low),
  allows_give_child _ _ _ _ _ c.pass.inside.known.amount c.pass.inside.known c.pass.invariant.0 (c.place_of.ensures.place ∙ ap place c.which_of-which.ensures) refl (search rules),
)

pub give_child-requires : goal.give_child-requires
give_child-requires c = child_has c.pass.inside.known c.pass.invariant.1 (search rules)

pub invariant_of-pass : goal.invariant_of-pass
invariant_of-pass c = let v = c.pass.inside.known in closes _ _ v _ after_give_child c.fetch_sub.ensures.2 c.pass.invariant.0 c.give_child.ensures (fitting_of v _ c.pass.invariant.1 refl refl (own_given_child v c.pass.invariant.1.own (search rules)))
