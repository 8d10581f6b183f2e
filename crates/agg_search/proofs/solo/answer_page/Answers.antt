use Rattle.std.proofs.Common.{rules, ◌≡◌}
use Rattle.agg_model.specs.declared.breaker.Which.{Which}
use Rattle.breaker_words.specs.Views.{hold_of}
use Rattle.agg_search.proofs.SoloEnds.{answers-page}
use Rattle.fitting_laws.specs.Indexes.{index_of}
use Rattle.agg_search.specs.Paging.{request_at}
use Rattle.agg_search.proofs.NextPages.{told-behind}
use Rattle.agg_search.proofs.solo.answer_page.Goals as goal

pub returns-clause-next : goal.returns-clause-next
returns-clause-next g c =
    rw (c.page_at.ensures.outcome, c.page_at.ensures.failures, c.page_at.ensures.next)
    (told-behind (g.T.Tasks.index c.args.tasks.now) (request_at (index_of (g.T.Tasks.index c.args.tasks.now)) c.args.body.now c.args.search) c.solve-end.new.progress.failures c.solve-end.result c.solve-end.ensures.next)

pub returns-clause-answer : goal.returns-clause-answer
returns-clause-answer g c =
    let index = index_of (g.T.Tasks.index c.args.tasks.now) in
    let v = c.args.pass.now.view in
    let u = c.solve-end.new.pass.view in
    let w = c.give_all_back.new.pass.view in
    let holds : (x : Which) → hold_of w x ≡ hold_of v x = search rules in
    answers-page c.args.settings.now index (g.T.Tasks.capacity c.args.tasks.now) (g.T.Tasks.entries c.args.tasks.now) (g.T.Tasks.entries c.solve-end.new.tasks)
    (request_at index c.args.body.now c.args.search) c.solve-end.new.progress.failures v u w holds c.give_all_back.ensures.granted c.give_all_back.ensures.trips
    c.page_at.result.answered c.page_at.ensures.failures c.solve-end.result c.page_at.ensures.outcome c.solve-end.ensures.solves c.solve-end.ensures.stops
