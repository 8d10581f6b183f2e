use Rattle.std.proofs.Common.{arith}
use Rattle.agg_model.specs.declared.breaker.Which.TheVariants as which
use Rattle.wave_answers.proofs.Charges.{parent-is}
use Rattle.wave_answers.proofs.Rises.{rises-after}
use Rattle.wave_answers.proofs.ending.answer_end.Goals as goal

pub returns-clause-fielddata : goal.returns-clause-fielddata
returns-clause-fielddata c =
    let g = c.lower_to.ensures.given.holds which.Fielddata in let k = c.answer_kept.ensures.fielddata in omega (arith, g, k)

pub returns-clause-inflight : goal.returns-clause-inflight
returns-clause-inflight c =
    let g = c.lower_to.ensures.given.holds which.Inflight in let k = c.answer_kept.ensures.inflight in omega (arith, g, k)

pub returns-clause-given : goal.returns-clause-given
returns-clause-given c =
    let g = c.lower_to.ensures.given.holds which.Request in let kept = c.in_ok-page.ensures.kept in
    let held = c.hold-held.ensures in let cost = c.cost_of_all.ensures in let all = c.requires.held in
    omega (arith, g, kept, held, cost, all)

pub returns-clause-parent : goal.returns-clause-parent
returns-clause-parent c =
    let r = c.lower_to.ensures.given.holds which.Request in let kept = c.in_ok-page.ensures.kept in
    let held = c.hold-held.ensures in let cost = c.cost_of_all.ensures in let all = c.requires.held in
    let f = c.lower_to.ensures.given.holds which.Fielddata in let f_kept = c.answer_kept.ensures.fielddata in
    let i = c.lower_to.ensures.given.holds which.Inflight in let i_kept = c.answer_kept.ensures.inflight in
    let before = parent-is c.args.pass.now.view c.requires.alone.rest c.cap-cap.ensures.live.own in
    let after = parent-is c.lower_to.new.pass.view c.lower_to.ensures.alone.rest c.cap-cap_after.ensures.live.own in
    omega (arith, r, kept, held, cost, all, f, f_kept, i, i_kept, before, after)

pub returns-clause-answer : goal.returns-clause-answer
returns-clause-answer c =
    let a = c.in_ok-page.ensures.answer in (
      a.0,
      a.1,
      a.2,
      rises-after a.0 a.1 c.args.pass.now.view c.answer_kept.new.pass.view c.lower_to.new.pass.view a.3 c.lower_to.ensures.given.granted c.lower_to.ensures.given.trips,
    )
