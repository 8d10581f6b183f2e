use Rattle.fitting_laws.specs.Indexes.{index_of}
use Rattle.agg_spec.specs.Requests.{request_of}
use Rattle.agg_search.proofs.AnswersAlone.{answers-alone}
use Rattle.agg_search.proofs.solo.search_solo.Goals as goal

pub returns-clause-answer : goal.returns-clause-answer
returns-clause-answer c =
    let index = index_of c.args.index.now in
    answers-alone c.args.settings.now index (request_of index c.args.body.now) c.args.pass.now.view c.answer_page-page.new.pass.view _ _ c.answer_page-page.ensures.answer
