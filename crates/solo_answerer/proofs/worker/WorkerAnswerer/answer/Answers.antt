use Rattle.std.specs.Prelude.{◌≡◌, ℕ, List, [], ◌∷◌, ◌++◌, map, slice_index_or}
use Rattle.std.proofs.Common.{refl, ◌∙◌, sym, ap, subst}
use Rattle.std.proofs.lemmas.Result.{IfOk-weaker}
use Rattle.fitting_laws.specs.Indexes.{index_of}
use Rattle.agg_model.specs.declared.outcome.Answered.{Answered}
use Rattle.agg_spec.specs.Columns.{columns_charge}
use Rattle.agg_spec.specs.Outcome.{Request}
use Rattle.agg_spec.specs.Requests.{request_of}
use Rattle.script_answers.specs.Answering.{AnswersRound}
use Rattle.solo_answerer.specs.Worked.{HasAnswered}
use Rattle.solo_answerer.proofs.Bodies.{one-body}
use Rattle.solo_answerer.proofs.Rounds.{one-more}
use Rattle.solo_answerer.proofs.Scans.{pages-more}
use Rattle.solo_answerer.proofs.worker.WorkerAnswerer.answer.Goals as goal

pub returns-then-self-clause-rounds : goal.returns-then-self-clause-rounds
returns-then-self-clause-rounds g c =
    let worker = c.args.self.now in
    let index = index_of worker.index in
    let columns = columns_charge index in
    let body = c.index-as_slice-0.result in
    let after = c.search_pages.new.pass.view in
    let requests : map (request_of index) c.args.bodies.now ≡ request_of index body ∷ [] =
    one-body (request_of index) c.args.bodies.now body worker.settings.width c.requires.some c.requires.few worker.for_one.search
    (c.index-as_slice-0.is ∙ ap (λ (xs : List (List ℕ)). slice_index_or xs 0 body) c.as_slice.ensures) in
    IfOk-weaker c.search_pages.result _ _
    (λ answers all recent may. subst (λ (rs : List Request). AnswersRound index columns recent rs (HasAnswered worker.settings index columns after) answers) (sym requests)
    (pages-more worker.settings index columns worker.pass.view after recent worker.for_one c.if-self.true may.settings_are may.rounds_are (request_of index body) answers all))
    c.search_pages.ensures.answers

pub returns : goal.returns
returns g c =
    let worker = c.args.self.now in
    let index = index_of worker.index in
    let columns = columns_charge index in
    let body = c.index-as_slice-0.result in
    let after = c.search_solo-answered.new.pass.view in
    let answered = c.search_solo-answered.result in
    let requests : map (request_of index) c.args.bodies.now ≡ request_of index body ∷ [] =
    one-body (request_of index) c.args.bodies.now body worker.settings.width c.requires.some c.requires.few worker.for_one.search
    (c.index-as_slice-0.is ∙ ap (λ (xs : List (List ℕ)). slice_index_or xs 0 body) c.as_slice.ensures) in
    let answers : c.push.new.self ≡ answered ∷ [] = c.in_ok-push.ensures.ok ∙ ap (λ (told : List Answered). told ++ answered ∷ []) c.new-answers.ensures in
    record {
      rounds = λ recent may.
          subst (λ (rs : List Request). AnswersRound index columns recent rs (HasAnswered worker.settings index columns after) c.push.new.self) (sym requests)
          (subst (λ (told : List Answered). AnswersRound index columns recent (request_of index body ∷ []) (HasAnswered worker.settings index columns after) told) (sym answers)
          (one-more worker.settings index columns (request_of index body) answered worker.pass.view after recent worker.for_one c.if-self.false may.settings_are may.rounds_are
          c.search_solo-answered.ensures.answer (λ is. c.in_default.not-Memory is)));
      same_settings = refl;
      same_index = refl;
      same_columns = refl;
    }
