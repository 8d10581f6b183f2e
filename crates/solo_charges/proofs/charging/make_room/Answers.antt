use Rattle.std.proofs.Common.{◌≡◌, ◌+◌, ap, arith, subst}
use Rattle.agg_model.specs.declared.breaker.Which.TheVariants.{Parent}
use Rattle.breaker_words.specs.Accounts.{children_in}
use Rattle.breaker_words.specs.Trials.{child_only}
use Rattle.solo_charges.proofs.charging.make_room.Goals as goal

pub set_ceiling-requires-clause-held : goal.set_ceiling-requires-clause-held
set_ceiling-requires-clause-held c =
    let within = c.look.ensures.bounded.holds Parent in let limit = c.requires.limit in
    let same = ap (λ p. p.view.accounts.parent.hold) c.look.ensures.same in omega arith

pub returns-clause-held : goal.returns-clause-held
returns-clause-held c =
    let within = c.look.ensures.bounded.holds Parent in let limit = c.requires.limit in
    let same = ap (λ p. p.view.accounts.parent.hold) c.look.ensures.same in
    let set = ap (λ p. p.view.accounts.parent.hold) c.set_ceiling.ensures in omega arith

pub returns-clause-request : goal.returns-clause-request
returns-clause-request c =
    let v = c.args.pass.now.view in
    let even = subst (λ t. v.accounts.parent.hold + child_only t v.amount ≡ children_in v.accounts) c.requires.rest c.cap-cap.ensures.live.own.even in
    let within = c.look.ensures.bounded.holds Parent in let limit = c.requires.limit in
    let same = ap (λ p. p.view.accounts.parent.hold) c.look.ensures.same in
    let request = ap (λ p. p.view.accounts.request.hold) c.look.ensures.same in
    let set = ap (λ p. p.view.accounts.request.hold) c.set_ceiling.ensures in omega arith
