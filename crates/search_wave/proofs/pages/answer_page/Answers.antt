use Rattle.std.specs.Prelude.{ℕ, List, [], ◌∷◌, map}
use Rattle.std.proofs.Common.{subst, sym, ◌∙◌}
use Rattle.agg_search.specs.Paging.{request_at}
use Rattle.agg_search.specs.declared.solo.Page.{Page}
use Rattle.fitting_laws.specs.Indexes.{index_of}
use Rattle.wave_answers.specs.Ended.{AreBehind}
use Rattle.search_wave.specs.Waves.{IsWave}
use Rattle.wave_bodies.specs.Asking.{requests_from}
use Rattle.search_wave.proofs.Whole.{one-page}
use Rattle.search_wave.proofs.pages.answer_page.Goals as goal

pub returns-clause-page : goal.returns-clause-page
returns-clause-page g c body one =
    let settings = c.args.settings.now in
    let index = index_of c.args.index.now in
    let request = request_at index body c.args.read in
    let old = c.args.pass.now.view in
    let new = c.answer_wave.new.pass.view in
    let pages = c.in_ok-pages.pages in
    let wave = subst (λ (bodies : List (List ℕ)). IsWave settings index (requests_from index c.args.read bodies) old new (map (λ (p : Page). p.answered) pages)) one c.in_ok-pages.ensures.wave in
    let behind = subst (λ (bodies : List (List ℕ)). AreBehind c.args.index.now (requests_from index c.args.read bodies) pages) one c.in_ok-pages.ensures.behind in
    let alone = one-page c.args.index.now request pages c.pop.new.self.items c.in-Some.page behind (sym c.into_vec.ensures ∙ c.in-Some.ensures.items) in
    record {
      wave = subst (λ (all : List Page). IsWave settings index (request ∷ []) old new (map (λ (p : Page). p.answered) all)) alone.0 wave;
      behind = alone.1;
    }
