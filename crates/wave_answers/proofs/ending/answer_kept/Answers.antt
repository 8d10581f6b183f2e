use Rattle.std.specs.Prelude.{ℕ}
use Rattle.std.proofs.Common.{ap, sym, subst}
use Rattle.agg_model.specs.declared.breaker.Which.{Which}
use Rattle.agg_search.specs.declared.solo.Page.{Page}
use Rattle.agg_spec.specs.Charges.{Amounts, no_amounts}
use Rattle.breaker_words.specs.Passes.{PassModel}
use Rattle.breaker_words.specs.Views.{granted_of, trips_of}
use Rattle.fitting_laws.specs.Indexes.{index_of}
use Rattle.wave_answers.specs.Ended.{IsAnswer}
use Rattle.wave_answers.specs.Rising.{HasRisen}
use Rattle.wave_answers.proofs.Ends.{left-answer, left-refused, stopped-answer, wholes-of-end}
use Rattle.wave_answers.proofs.Rises.{unchanged}
use Rattle.wave_answers.proofs.ending.answer_kept.Goals as goal

pub returns-in-Some-clause-answer : goal.returns-in-Some-clause-answer
returns-in-Some-clause-answer c =
    let l = c.args.words.now.limits in
    let v = c.args.pass.now.view in
    let u = c.look.new.pass.view in
    let same = c.look.ensures.same in (
      0,
      no_amounts,
      subst (λ (p : Page). IsAnswer l (index_of c.args.index.now) c.args.max_buckets v c.args.search c.args.end p.answered 0 no_amounts) (sym c.last_page.ensures)
          (stopped-answer l (index_of c.args.index.now) c.args.max_buckets v c.args.search c.args.end c.if-end.false c.in-Some.tripped c.in-Some.ensures.some c.in-Some.ensures.left),
      unchanged l v u c.look.ensures.bounded (λ (x : Which). ap (λ (p : PassModel). granted_of p.view x) same) (λ (x : Which). ap (λ (p : PassModel). trips_of p.view x) same),
    )

pub answer_left-requires-clause-parts : goal.answer_left-requires-clause-parts
answer_left-requires-clause-parts c =
    wholes-of-end (index_of c.args.index.now) c.args.search c.args.end c.requires.end c.if-end.false (c.refusal_left.ensures.passed_over c.in_default.is)

-- a look leaves the pass as it was
pub returns-in-Ok-clause-answer : goal.returns-in-Ok-clause-answer
returns-in-Ok-clause-answer c =
    let l = c.args.words.now.limits in
    let index = index_of c.args.index.now in
    let e = c.args.end in
    let u = c.answer_left.new.pass.view in
    subst (λ (p : PassModel). (charged : ℕ) × (trips : Amounts) × IsAnswer l index c.args.max_buckets p.view c.args.search e (record { outcome = c.in-Ok.field-0.outcome; failures = e.failures }) charged trips
    × HasRisen charged trips p.view u) c.look.ensures.same
    (left-answer l index c.args.max_buckets c.look.new.pass.view c.args.search e c.if-end.false u
    c.in_ok-answered.answered c.in-Ok.field-0 c.in-Ok.is (c.refusal_left.ensures.passed_over c.in_default.is)
    c.in_ok-answered.ensures.outcome c.in_ok-answered.ensures.place c.in_ok-answered.ensures.risen)

pub returns-in-Err-clause-answer : goal.returns-in-Err-clause-answer
returns-in-Err-clause-answer c =
    let l = c.args.words.now.limits in
    let index = index_of c.args.index.now in
    let e = c.args.end in
    let u = c.answer_left.new.pass.view in
    subst (λ (p : PassModel). (charged : ℕ) × (trips : Amounts) × IsAnswer l index c.args.max_buckets p.view c.args.search e c.last_page-in-Err.result.answered charged trips
    × HasRisen charged trips p.view u) c.look.ensures.same
    (left-refused l index c.args.max_buckets c.look.new.pass.view c.args.search e c.if-end.false u
    c.in_ok-answered.answered c.in-Err.tripped c.last_page-in-Err.result.answered c.in-Err.is (ap (λ (p : Page). p.answered) c.last_page-in-Err.ensures) (c.refusal_left.ensures.passed_over c.in_default.is)
    c.in_ok-answered.ensures.refused c.in_ok-answered.ensures.left)
