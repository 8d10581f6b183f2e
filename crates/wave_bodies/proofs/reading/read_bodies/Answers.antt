use Rattle.std.proofs.Common.{◌≡◌, ◌+◌, ◌<◌, ◌++◌, ◌∷◌, [], List, ap, arith, get_or, length, subst, sym, take, ◌∙◌}
use Rattle.std.specs.Prelude.{ℕ, None, Option}
use Rattle.std.specs.List.{AllByRecursion}
use Rattle.std.proofs.lemmas.List.{take_all, take_more}
use Rattle.agg_model.specs.declared.breaker.Tripped.{Tripped}
use Rattle.agg_model.specs.declared.aggregation.Search.{Search}
use Rattle.agg_search.specs.Defined.{CanRun}
use Rattle.agg_search.specs.Paging.{request_at}
use Rattle.agg_spec.specs.Outcome.{Request}
use Rattle.fitting_laws.specs.Indexes.{index_of}
use Rattle.wave_bodies.specs.Asking.{requests_from}
use Rattle.wave_bodies.specs.Read.{HasRead}
use Rattle.wave_bodies.proofs.OneMore.{all-made}
use Rattle.wave_bodies.proofs.Pages.{as-many-requests, behind-one, one-more-request, page_behind}
use Rattle.wave_bodies.proofs.reading.read_bodies.Goals as goal

pub loop-place-preserved : goal.loop-place-preserved
loop-place-preserved g c =
    let items = c.as_slice-body-items.result.now in
    let i = c.loop-place.place in
    let body = c.body-item.result in
    let page = c.args.page in
    let index = index_of c.args.index.now in
    let bodies : take (i + 1) items ≡ take i items ++ body ∷ [] = take_more items i body c.loop-place-test.true ∙ ap (λ (b : List ℕ). take i items ++ b ∷ []) (sym c.body-item.is) in
    let found = c.as_slice.result.now in
    let t : Option Tripped = get_or found i None in
    let many : length found ≡ length items = ap length c.as_slice.ensures ∙ (c.requires.number ∙ sym (ap length c.as_slice-body-items.ensures)) in
    let refusals : take (i + 1) c.args.refusals.now ≡ take i c.args.refusals.now ++ t ∷ [] =
    subst (λ (ts : List (Option Tripped)). take (i + 1) ts ≡ take i ts ++ t ∷ []) c.as_slice.ensures (take_more found i None (subst (λ (n : ℕ). i < n) (sym many) c.loop-place-test.true)) in
    let read : c.take-read.result ≡ page_behind (take i items) page = c.take-read.ensures.value ∙ c.loop-place.invariant.page_is in
    let requests : requests_from index page (take (i + 1) items) ≡ requests_from index page (take i items) ++ request_at index body c.take-read.result ∷ [] =
    ap (requests_from index page) bodies ∙ (one-more-request index (take i items) body page ∙ ap (λ (p : Option Search). requests_from index page (take i items) ++ request_at index body p ∷ []) (sym read)) in
    let p = c.ask.new.progress in
    record {
      page_is = c.take-read.ensures.after ∙ sym (ap (λ (bs : List (List ℕ)). page_behind bs page) bodies ∙ behind-one (take i items) body page);
      read = subst (λ (rs : List Request). HasRead c.args.index.now rs (take (i + 1) c.args.refusals.now) p.asked p.searches.items p.rooms.items) (sym requests)
          (subst (λ (ts : List (Option Tripped)). HasRead c.args.index.now (requests_from index page (take i items) ++ request_at index body c.take-read.result ∷ []) ts p.asked p.searches.items p.rooms.items) (sym refusals)
          (c.in_ok-ask.ensures (requests_from index page (take i items)) (take i c.args.refusals.now) c.loop-place.invariant.read));
    }

pub returns-clause-made : goal.returns-clause-made
returns-clause-made g c =
    all-made c.args.index.now c.into_reading.result.searches
    (subst (AllByRecursion (CanRun c.args.index.now)) (sym c.into_reading.ensures.searches) c.loop-place.invariant.read.run)

pub returns-clause-few : goal.returns-clause-few
returns-clause-few g c =
    let items = c.as_slice-body-items.result.now in
    let i = c.loop-place.place in
    let all : take i items ≡ c.args.bodies.now = take_all i items c.loop-place-test.false ∙ c.as_slice-body-items.ensures in
    let number = as-many-requests (index_of c.args.index.now) c.args.page (take i items) ∙ ap length all in
    let same = ap length c.into_reading.ensures.searches in
    let few = c.loop-place.invariant.read.few in
    omega arith
