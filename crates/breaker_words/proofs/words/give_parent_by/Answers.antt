use Rattle.std.proofs.Common.{rules, [], refl, ◌∙◌, arith}
use Rattle.breaker_words.specs.AfterStep.{after_give_parent}
use Rattle.breaker_words.proofs.Allowed.{allows_give_parent}
use Rattle.breaker_words.proofs.LivePasses.{closes, fitting_of, parent_has}
use Rattle.breaker_words.proofs.OnePass.{own_given_parent}
use Rattle.breaker_words.proofs.words.give_parent_by.Goals as goal

pub fetch_sub-requires : goal.fetch_sub-requires
fetch_sub-requires g c = (
  search rules,
  omega (arith, c.words.invariant.0),
  allows_give_parent _ _ _ _ _ c.pass.inside.known c.args.child _ c.pass.invariant.0 c.requires.whose (search rules) (search rules) (search rules),
)

pub give_parent-requires : goal.give_parent-requires
give_parent-requires g c = parent_has c.args.child c.pass.inside.known c.args.amount c.pass.invariant.1 (search rules) (search rules)

pub invariant_of-pass : goal.invariant_of-pass
invariant_of-pass g c = let v = c.pass.inside.known in closes _ _ v _ (λ u. after_give_parent u c.args.child c.args.amount) (c.fetch_sub.ensures.2 ∙ (λ i. (after_give_parent c.pass.inside.seat.me.0 (c.requires.whose i) c.args.amount, []))) c.pass.invariant.0 c.give_parent.ensures
    (fitting_of v _ c.pass.invariant.1 refl refl (own_given_parent v c.args.child c.args.amount c.pass.invariant.1.own (search rules) (search rules) (search rules)))
