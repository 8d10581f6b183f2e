use Rattle.std.specs.Prelude.{◌≡◌, ℕ, List, [], ◌∷◌, length, map, slice_index_or}
use Rattle.std.proofs.Common.{◌∙◌, sym, ap, subst, arith}
use Rattle.std.proofs.lemmas.List.{length-map}
use Rattle.std.proofs.lemmas.Result.{IfOk-weaker}
use Rattle.agg_spec.specs.Columns.{columns_charge}
use Rattle.agg_spec.specs.Outcome.{Request}
use Rattle.agg_spec.specs.Requests.{request_of}
use Rattle.fitting_laws.specs.Indexes.{index_of}
use Rattle.script_answers.specs.Answering.{AnswersRound}
use Rattle.solo_answerer.proofs.Bodies.{one-body}
use Rattle.wave_answerer.specs.Worked.{HasAnswered}
use Rattle.wave_answerer.proofs.Waves.{pages-answered, wave-answered}
use Rattle.wave_answerer.proofs.crew.CrewAnswerer.answer.Goals as goal

pub returns-then-self-clause-rounds : goal.returns-then-self-clause-rounds
returns-then-self-clause-rounds g c =
    let crew = c.args.self.now in
    let index = index_of crew.index in
    let columns = columns_charge index in
    let body = c.index-as_slice-0.result in
    let after = c.search_pages.new.pass.view in
    let requests : map (request_of index) c.args.bodies.now ≡ request_of index body ∷ [] =
    one-body (request_of index) c.args.bodies.now body crew.settings.width c.requires.some c.requires.few (crew.in_range.one_scan c.if-self.true)
    (c.index-as_slice-0.is ∙ ap (λ (xs : List (List ℕ)). slice_index_or xs 0 body) c.as_slice.ensures) in
    IfOk-weaker c.search_pages.result _ _
    (λ answers found recent may. subst (λ (rs : List Request). AnswersRound index columns recent rs (HasAnswered index columns after) answers) (sym requests)
    (pages-answered crew.settings index columns recent crew.pass.view after crew.several may.settings_are c.search_pages.ensures.holds may.rounds_are c.if-self.true
    (request_of index body) answers found))
    c.search_pages.ensures.answers

pub returns-clause-rounds : goal.returns-clause-rounds
returns-clause-rounds g c =
    let crew = c.args.self.now in
    let index = index_of crew.index in
    let columns = columns_charge index in
    let after = c.search_wave.new.pass.view in
    let number : length (map (request_of index) c.args.bodies.now) ≡ length c.args.bodies.now = length-map c.args.bodies.now (request_of index) in
    IfOk-weaker c.search_wave.result _ _
    (λ answers wave recent may. wave-answered crew.settings index columns recent crew.pass.view after crew.several may.settings_are c.search_wave.ensures.holds may.rounds_are
    c.if-self.false (map (request_of index) c.args.bodies.now) answers (omega (arith, number, c.requires.some)) (omega (arith, number, c.requires.few)) wave)
    c.search_wave.ensures.answers
