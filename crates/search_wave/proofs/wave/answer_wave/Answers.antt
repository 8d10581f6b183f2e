use Rattle.std.specs.Prelude.{List, map}
use Rattle.agg_search.specs.declared.solo.Page.{Page}
use Rattle.fitting_laws.specs.Indexes.{index_of}
use Rattle.search_wave.specs.Waves.{IsWave}
use Rattle.wave_bodies.specs.Asking.{requests_from}
use Rattle.search_wave.proofs.Whole.{if-ok-map, wave-after}
use Rattle.search_wave.proofs.wave.answer_wave.Goals as goal

pub returns-clause-wave : goal.returns-clause-wave
returns-clause-wave g c =
    let settings = c.args.settings.now in
    let index = index_of c.args.index.now in
    let requests = requests_from index c.args.page c.args.bodies.now in
    let old = c.args.pass.now.view in
    let new = c.give_all_back.new.pass.view in
    if-ok-map _ (λ (pages : List Page). IsWave settings index requests old new (map (λ (p : Page). p.answered) pages)) c.answer_held-pages.result c.answer_held-pages.ensures.wave
    (λ pages wave. wave-after settings index requests old c.answer_held-pages.new.pass.view new (map (λ (p : Page). p.answered) pages) wave c.give_all_back.ensures.granted c.give_all_back.ensures.trips)
