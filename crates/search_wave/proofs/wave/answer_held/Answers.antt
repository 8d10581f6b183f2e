use Rattle.std.specs.Prelude.{◌^◌, List, length, map}
use Rattle.std.proofs.Common.{ap, arith, subst, sym, ◌∙◌}
use Rattle.agg_model.specs.declared.breaker.Limits.{Limits}
use Rattle.agg_model.specs.declared.breaker.Which.TheVariants as which
use Rattle.agg_search.specs.declared.solo.Page.{Page}
use Rattle.breaker_words.specs.Passes.{PassModel}
use Rattle.breaker_words.specs.Soundness.{IsBounded}
use Rattle.breaker_words.specs.Views.{granted_of, hold_of, most_of, trips_of}
use Rattle.fitting_laws.specs.Indexes.{index_of}
use Rattle.shard_pool.specs.Ends.{cost_of_ends}
use Rattle.wave_answers.specs.Ended.{AreAnswers}
use Rattle.wave_answers.specs.Rising.{HasRisen}
use Rattle.search_wave.proofs.AllowedWave.{is-wave}
use Rattle.search_wave.specs.Waves.{IsWave}
use Rattle.wave_bodies.proofs.Pages.{as-many-requests}
use Rattle.wave_bodies.specs.Asking.{requests_from}
use Rattle.search_wave.proofs.Asked.{runs-are}
use Rattle.search_wave.proofs.Ends.{ends-of}
use Rattle.search_wave.proofs.Requests.{bytes-from}
use Rattle.search_wave.proofs.Whole.{at-request, ceiling-granted, ceiling-hold, ceiling-most, ceiling-trips, children-held, if-ok-map, refusal-count}
use Rattle.search_wave.proofs.wave.answer_held.Goals as goal

pub read_bodies-requires-clause-number : goal.read_bodies-requires-clause-number
read_bodies-requires-clause-number g c κs within =
    let index = index_of c.args.index.now in
    let requests = requests_from index c.args.page c.args.bodies.now in
    let charged = c.in_ok-refusals.ensures.charged c.args.settings.now index requests (sym c.requires.limits) (bytes-from index c.args.page c.args.bodies.now) in
    ap length charged.refusals_are ∙ refusal-count c.args.settings.now index (hold_of c.look.new.pass.view which.Fielddata) 0 requests ∙ as-many-requests index c.args.page c.args.bodies.now

pub answer_all-requires-clause-ends : goal.answer_all-requires-clause-ends
answer_all-requires-clause-ends g c =
    ends-of c.args.words.now c.args.index.now c.in_ok-asked.field-0.searches c.in_ok-asked.field-0.rooms c.args.settings.now.batch c.run_pool.new.pass.view c.in_ok-ends.ends
    c.in_ok-ends.ensures.number c.in_ok-ends.ensures.ends

pub answer_all-requires-clause-asked : goal.answer_all-requires-clause-asked
answer_all-requires-clause-asked g c =
    let index = index_of c.args.index.now in
    runs-are index (requests_from index c.args.page c.args.bodies.now) c.in_ok-refusals.refusals c.in_ok-asked.field-0.asked c.in_ok-asked.field-0.searches c.in_ok-asked.ensures.asked

pub answer_all-requires-clause-held : goal.answer_all-requires-clause-held
answer_all-requires-clause-held g c =
    let same = ap (λ (p : PassModel). hold_of p.view which.Request) c.look-3.ensures.same in
    let holds = c.in_ok-ends.ensures.run.holds which.Request in
    let both = at-request (cost_of_ends c.in_ok-ends.ends) in
    omega (arith, same, holds, both)

pub returns-clause-fielddata : goal.returns-clause-fielddata
returns-clause-fielddata g c =
    let a = c.answer_all.ensures.fielddata in
    let b = ap (λ (p : PassModel). hold_of p.view which.Fielddata) c.look-3.ensures.same in
    let d = c.in_ok-ends.ensures.run.holds which.Fielddata in
    let e = ap (λ (p : PassModel). hold_of p.view which.Fielddata) c.look-2.ensures.same in
    let f = c.make_room.ensures.same which.Fielddata in
    let h = c.charge_bodies.ensures.fielddata in
    let i = ap (λ (p : PassModel). hold_of p.view which.Fielddata) c.look.ensures.same in
    omega (arith, a, b, d, e, f, h, i)

pub returns-clause-wave : goal.returns-clause-wave
returns-clause-wave g c =
    let settings = c.args.settings.now in
    let words = c.args.words.now in
    let index = index_of c.args.index.now in
    let requests = requests_from index c.args.page c.args.bodies.now in
    let asked = c.in_ok-asked.field-0.asked in
    let searches = c.in_ok-asked.field-0.searches in
    let rooms = c.in_ok-asked.field-0.rooms in
    let ends = c.in_ok-ends.ends in
    let old = c.look.new.pass in
    let charged = c.charge_bodies.new.pass in
    let opened = c.look-2.new.pass in
    let closed = c.run_pool.new.pass in
    let answered = c.answer_all.new.pass.view in
    let ceiled = c.look-2.ensures.same ∙ c.make_room.ensures.pass in
    let same_limits = c.requires.limits in
    if-ok-map _ (λ (pages : List Page). IsWave settings index requests c.args.pass.now.view answered (map (λ (p : Page). p.answered) pages)) c.answer_all.result c.answer_all.ensures.answers
    (λ pages found. subst (λ (p : PassModel). IsWave settings index requests p.view answered (map (λ (q : Page). q.answered) pages)) c.look.ensures.same
    (is-wave settings c.args.index.now words requests c.in_ok-refusals.refusals asked searches rooms ends (map (λ (q : Page). q.answered) pages) old.view charged.view opened closed answered (record {
      limits = same_limits;
      request_before = ap (λ (p : PassModel). hold_of p.view which.Request) c.look.ensures.same ∙ c.requires.request;
      fielddata_charged = c.charge_bodies.ensures.fielddata;
      request_charged = c.charge_bodies.ensures.request;
      bodies = c.in_ok-refusals.ensures.charged settings index requests (sym same_limits) (bytes-from index c.args.page c.args.bodies.now);
      asked_are = c.in_ok-asked.ensures.asked;
      holds = λ x. ap (λ (p : PassModel). hold_of p.view x) ceiled ∙ ceiling-hold charged.view (2 ^ 63) x;
      granted = λ x. ap (λ (p : PassModel). granted_of p.view x) ceiled ∙ ceiling-granted charged.view (2 ^ 63) x;
      trips = λ x. ap (λ (p : PassModel). trips_of p.view x) ceiled ∙ ceiling-trips charged.view (2 ^ 63) x;
      most = λ x. ap (λ (p : PassModel). most_of p.view x) ceiled ∙ ceiling-most charged.view (2 ^ 63) x;
      parent = children-held charged.view c.charge_bodies.ensures.alone.rest c.cap-cap.ensures.live.own;
      number = c.in_ok-ends.ensures.number;
      ends_are = c.in_ok-ends.ensures.ends;
      run = c.in_ok-ends.ensures.run;
      bounded_old = subst (λ (p : PassModel). IsBounded settings.limits p.view) (sym c.look.ensures.same) (subst (λ (l : Limits). IsBounded l c.args.pass.now.view) same_limits c.look.ensures.bounded);
      bounded = subst (λ (l : Limits). IsBounded l closed.view) same_limits c.look-3.ensures.bounded;
      bounded_before = subst (λ (p : PassModel). IsBounded settings.limits p.view) (sym c.look-2.ensures.same) (subst (λ (l : Limits). IsBounded l c.make_room.new.pass.view) same_limits c.look-2.ensures.bounded);
      more = found.0;
      more_trips = found.1;
      answers_are = subst (λ (p : PassModel). AreAnswers settings.limits index settings.max_buckets p.view asked searches ends (map (λ (q : Page). q.answered) pages) found.0 found.1) c.look-3.ensures.same
          (subst (λ (l : Limits). AreAnswers l index settings.max_buckets c.look-3.new.pass.view asked searches ends (map (λ (q : Page). q.answered) pages) found.0 found.1) same_limits found.2);
      risen = subst (λ (p : PassModel). HasRisen found.0 found.1 p.view answered) c.look-3.ensures.same found.3;
    })))
