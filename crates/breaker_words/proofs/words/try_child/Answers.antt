use Rattle.std.proofs.Common.{rules, ◌+◌, ap, ◌∙◌, arith}
use Rattle.breaker_words.specs.Breakers.{place}
use Rattle.breaker_words.specs.AfterStep.{after_try_child}
use Rattle.breaker_words.proofs.Allowed.{allows_try}
use Rattle.breaker_words.proofs.LivePasses.{closes, fitting_tried, hold_fits}
use Rattle.breaker_words.proofs.words.try_child.Goals as goal

pub fetch_add-found-requires : goal.fetch_add-found-requires
fetch_add-found-requires c = (
  search rules,
  omega (arith, c.words.invariant.0, c.place_of.ensures.low),
  allows_try _ _ _ _ _ _ c.pass.inside.known c.args.child c.pass.invariant.0 (c.place_of.ensures.place ∙ ap place c.which_of-which.ensures) (search rules) (search rules) (search rules) (search rules),
)

pub try_child-granted-requires : goal.try_child-granted-requires
try_child-granted-requires c = hold_fits c.args.child c.pass.inside.known c.args.amount c.pass.invariant.1 (search rules) (search rules)

pub invariant_of-pass : goal.invariant_of-pass
invariant_of-pass c = let v = c.pass.inside.known in closes _ _ v _ (λ u. after_try_child u.limits u c.args.child c.args.amount (c.fetch_add-found.result + c.args.amount)) (c.fetch_add-found.ensures.2 c.args.child (c.place_of.ensures.place ∙ ap place c.which_of-which.ensures)).0 c.pass.invariant.0 c.try_child-granted.ensures.view
    (fitting_tried _ v c.args.child c.args.amount _ c.pass.invariant.1 (search rules) (search rules) (search rules))
