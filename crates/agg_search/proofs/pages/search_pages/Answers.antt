use Rattle.std.proofs.Common.{◌∙◌}
use Rattle.fitting_laws.specs.Indexes.{index_of}
use Rattle.agg_search.specs.Paging.{request_at}
use Rattle.agg_search.proofs.AnswersAlone.{answers-alone}
use Rattle.agg_search.proofs.Onward.{so-far-on, so-far-all}
use Rattle.agg_search.proofs.pages.search_pages.Goals as goal

pub loop-page-preserved : goal.loop-page-preserved
loop-page-preserved c =
    let page = c.answer_page-page in
    let index = index_of c.args.index.now in
    let answered = answers-alone c.args.settings.now index (request_at index c.args.body.now c.loop-page.search) c.loop-page.pass.view page.new.pass.view _ page.result.answered (rw c.loop-page.invariant.1 at page.ensures.answer) in
    rw (c.in-Some.next-is, c.in_ok-push.ensures.items) (
      so-far-on c.args.settings.now c.args.index.now c.args.body.now c.args.words.now c.args.pass.now c.loop-page.pass page.new.pass c.loop-page.search c.loop-page.answers.items page.result.answered page.result.next
          c.loop-page.invariant.0 answered (λ is. c.in_default.not-Memory is) (rw c.loop-page.invariant.1 at page.ensures.next) page.ensures.alone page.ensures.holds c.in-Some.next c.in-Some.is,
      page.ensures.index ∙ c.loop-page.invariant.1,
    )

pub returns-in-None-clause-answers : goal.returns-in-None-clause-answers
returns-in-None-clause-answers c =
    let page = c.answer_page-page in
    let index = index_of c.args.index.now in
    let answered = answers-alone c.args.settings.now index (request_at index c.args.body.now c.loop-page.search) c.loop-page.pass.view page.new.pass.view _ page.result.answered (rw c.loop-page.invariant.1 at page.ensures.answer) in
    rw (c.from_vec.ensures, c.in_ok-push.ensures.items)
    (so-far-all c.args.settings.now c.args.index.now c.args.body.now c.args.words.now c.args.pass.now c.loop-page.pass page.new.pass c.loop-page.search c.loop-page.answers.items page.result.answered page.result.next
    c.loop-page.invariant.0 answered (λ is. c.in_default.not-Memory is) (rw c.loop-page.invariant.1 at page.ensures.next) c.in-None.is)

pub answer_page-page-requires-clause-made : goal.answer_page-page-requires-clause-made
answer_page-page-requires-clause-made c = rw c.loop-page.invariant.1 c.loop-page.invariant.0.made
