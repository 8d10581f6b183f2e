use Rattle.std.proofs.Common.{◌≡◌, ◌+◌, subst, arith}
use Rattle.agg_model.specs.declared.breaker.Which.TheVariants.{Request, Fielddata, Inflight, Parent}
use Rattle.breaker_words.specs.Accounts.{children_in}
use Rattle.breaker_words.specs.Trials.{child_only}
use Rattle.solo_charges.proofs.charging.give_all_back.Goals as goal

pub returns-clause-request : goal.returns-clause-request
returns-clause-request c =
    let one = c.give_back.ensures.given.holds Request in let two = c.give_back-2.ensures.given.holds Request in let held = c.hold-request.ensures in omega arith

pub returns-clause-fielddata : goal.returns-clause-fielddata
returns-clause-fielddata c =
    let one = c.give_back.ensures.given.holds Fielddata in let two = c.give_back-2.ensures.given.holds Fielddata in omega arith

pub returns-clause-parent : goal.returns-clause-parent
returns-clause-parent c =
    let v = c.args.pass.now.view in
    let even = subst (λ t. v.accounts.parent.hold + child_only t v.amount ≡ children_in v.accounts) c.requires.rest c.cap-cap.ensures.live.own.even in
    let one = c.give_back.ensures.given.holds Parent in let two = c.give_back-2.ensures.given.holds Parent in
    let held = c.hold-request.ensures in let inflight = c.hold-inflight.ensures in let between = c.give_back.ensures.given.holds Inflight in
    omega arith
