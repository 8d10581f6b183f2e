use Rattle.std.proofs.Common.{arith, rules, ◌≡◌, [], ◌∷◌, ℕ, List, subst, sym}
use Rattle.std.specs.Vec.Iter.{into_iter_items}
use Rattle.agg_search.specs.declared.solo.Page.{Page}
use Rattle.agg_spec.specs.Charges.{Amounts}
use Rattle.breaker_words.specs.Passes.{PassModel}
use Rattle.fitting_laws.specs.Indexes.{index_of}
use Rattle.wave_answers.specs.Ended.{AreAnswers}
use Rattle.wave_answers.specs.Rising.{HasRisen}
use Rattle.wave_bodies.specs.declared.asked.Asked.{Asked}
use Rattle.wave_answers.proofs.Going.{IsGoing, answers_in, following-last, going-last, going-next}
use Rattle.wave_answers.proofs.Left.{empty-is}
use Rattle.wave_answers.proofs.answering.answer_all.Goals as goal

pub loop-asks-preserved : goal.loop-asks-preserved
loop-asks-preserved c =
    let split : into_iter_items c.loop-asks.asks-iterator ≡ c.in-Some.asks ∷ into_iter_items c.next.new.self = search rules in
    let l = c.args.words.now.limits in
    let index = c.args.index.now in
    let v = c.args.pass.now.view in
    let more = into_iter_items c.next.new.self in
    let before = subst (λ (rest : List Asked). IsGoing l index c.args.max_buckets v c.args.asked c.args.searches c.args.ends c.loop-asks.pass.view rest c.loop-asks.searches.items c.loop-asks.ends.items c.loop-asks.pages)
    split c.loop-asks.invariant.going in
    record {
      next = tt;
      finite = tt;
      alone = c.answer_next.ensures.alone;
      going = subst (λ (pages : List Page). IsGoing l index c.args.max_buckets v c.args.asked c.args.searches c.args.ends c.answer_next.new.pass.view more c.answer_next.new.searches.items c.answer_next.new.ends.items pages)
          (sym c.in_ok-push.ensures.ok)
          (going-next l index c.args.max_buckets v c.args.asked c.args.searches c.args.ends c.loop-asks.pass.view c.answer_next.new.pass.view c.in-Some.asks more
          c.loop-asks.searches.items c.answer_next.new.searches.items c.loop-asks.ends.items c.answer_next.new.ends.items c.loop-asks.pages c.in_ok-page.page
          c.answer_next.ensures.fielddata c.answer_next.ensures.inflight c.in_ok-page.ensures.next before);
    }

pub returns-clause-answers : goal.returns-clause-answers
returns-clause-answers c =
    let none : into_iter_items c.loop-asks.asks-iterator ≡ [] = empty-is (into_iter_items c.loop-asks.asks-iterator) (let count = c.loop-asks.asks-iterator.rest.ok.0 in let steps = c.in-None.ensures.steps.0 in omega (arith, count, steps)) in
    let l = c.args.words.now.limits in
    let index = c.args.index.now in
    let v = c.args.pass.now.view in
    let last = subst (λ (rest : List Asked). IsGoing l index c.args.max_buckets v c.args.asked c.args.searches c.args.ends c.loop-asks.pass.view rest c.loop-asks.searches.items c.loop-asks.ends.items c.loop-asks.pages)
    none c.loop-asks.invariant.going in
    subst (λ (p : PassModel). (charged : ℕ) × (trips : Amounts) × AreAnswers l (index_of index) c.args.max_buckets v c.args.asked c.args.searches c.args.ends (answers_in c.loop-asks.pages) charged trips × HasRisen charged trips v p.view)
    (sym c.look.ensures.same)
    (going-last l index c.args.max_buckets v c.args.asked c.args.searches c.args.ends c.loop-asks.pass.view c.loop-asks.searches.items c.loop-asks.ends.items c.loop-asks.pages c.look.ensures.bounded last)

pub returns-clause-next : goal.returns-clause-next
returns-clause-next c =
    let none : into_iter_items c.loop-asks.asks-iterator ≡ [] = empty-is (into_iter_items c.loop-asks.asks-iterator) (let count = c.loop-asks.asks-iterator.rest.ok.0 in let steps = c.in-None.ensures.steps.0 in omega (arith, count, steps)) in
    let l = c.args.words.now.limits in
    let index = c.args.index.now in
    let v = c.args.pass.now.view in
    let last = subst (λ (rest : List Asked). IsGoing l index c.args.max_buckets v c.args.asked c.args.searches c.args.ends c.loop-asks.pass.view rest c.loop-asks.searches.items c.loop-asks.ends.items c.loop-asks.pages)
    none c.loop-asks.invariant.going in
    following-last l index c.args.max_buckets v c.args.asked c.args.searches c.args.ends c.loop-asks.pass.view c.loop-asks.searches.items c.loop-asks.ends.items c.loop-asks.pages last
