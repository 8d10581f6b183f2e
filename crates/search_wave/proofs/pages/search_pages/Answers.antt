use Rattle.std.specs.Prelude.{◌≡◌, [], ◌∷◌, ◌++◌}
use Rattle.std.proofs.Common.{◌∙◌}
use Rattle.search_wave.proofs.Following.{so-far-all, so-far-on}
use Rattle.search_wave.proofs.pages.search_pages.Goals as goal

pub loop-answers-preserved : goal.loop-answers-preserved
loop-answers-preserved g c =
    let one : c.push.new.self ≡ c.args.body.now ∷ [] =
    c.in_ok-push.ensures.ok ∙ (λ i. c.new-bodies.ensures i ++ (c.in_ok-of.ensures ∙ c.as_slice.ensures) i ∷ []) in
    let page = c.in_ok-page.ensures.page c.args.body.now one in
    rw (c.in-Some.next-is, c.in_ok-push-2.ensures.items)
    (so-far-on c.args.settings.now c.args.index.now c.args.body.now c.args.words.now c.args.pass.now c.loop-answers.pass c.answer_page.new.pass c.loop-answers.read c.loop-answers.answers.items
    c.in_ok-page.page.answered c.in_ok-page.page.next c.loop-answers.invariant page.wave page.behind c.answer_page.ensures.holds c.answer_page.ensures.alone c.in-Some.next c.in-Some.is)

pub returns-in-None-clause-answers : goal.returns-in-None-clause-answers
returns-in-None-clause-answers g c =
    let one : c.push.new.self ≡ c.args.body.now ∷ [] =
    c.in_ok-push.ensures.ok ∙ (λ i. c.new-bodies.ensures i ++ (c.in_ok-of.ensures ∙ c.as_slice.ensures) i ∷ []) in
    let page = c.in_ok-page.ensures.page c.args.body.now one in
    rw (c.from_vec.ensures, c.in_ok-push-2.ensures.items)
    (so-far-all c.args.settings.now c.args.index.now c.args.body.now c.args.words.now c.args.pass.now c.loop-answers.pass c.answer_page.new.pass c.loop-answers.read c.loop-answers.answers.items
    c.in_ok-page.page.answered c.in_ok-page.page.next c.loop-answers.invariant page.wave page.behind c.answer_page.ensures.holds c.in-None.is)
