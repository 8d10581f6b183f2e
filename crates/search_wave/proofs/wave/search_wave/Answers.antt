use Rattle.std.specs.Prelude.{List, map}
use Rattle.std.proofs.Common.{subst, sym}
use Rattle.agg_model.specs.declared.outcome.Answered.{Answered}
use Rattle.agg_search.specs.declared.solo.Page.{Page}
use Rattle.agg_spec.specs.Outcome.{Request}
use Rattle.fitting_laws.specs.Indexes.{index_of}
use Rattle.search_wave.specs.Waves.{IsWave}
use Rattle.agg_spec.specs.Requests.{request_of}
use Rattle.search_wave.proofs.Requests.{none-read}
use Rattle.search_wave.proofs.Whole.{if-ok-map}
use Rattle.search_wave.proofs.wave.search_wave.Goals as goal

pub returns-clause-answers : goal.returns-clause-answers
returns-clause-answers g c =
    let settings = c.args.settings.now in
    let index = index_of c.args.index.now in
    let old = c.args.pass.now.view in
    let new = c.answer_wave.new.pass.view in
    let all = map (λ (p : Page). p.answered) c.in_ok-pages.pages in
    let wave : IsWave settings index (map (request_of index) c.args.bodies.now) old new all =
    subst (λ (requests : List Request). IsWave settings index requests old new all) (none-read index c.args.bodies.now) c.in_ok-pages.ensures.wave in
    if-ok-map _ (IsWave settings index (map (request_of index) c.args.bodies.now) old new) c.answers_of.result c.answers_of.ensures
    (λ answers same. subst (λ (found : List Answered). IsWave settings index (map (request_of index) c.args.bodies.now) old new found) (sym same) wave)
