use Rattle.std.proofs.Common.{◌≡◌, ap, sym, subst, ◌∙◌}
use Rattle.std.specs.Prelude.{Err, IfOk, IsTrue, Ok}
use Rattle.agg_evaluation.specs.SearchFits.{search_fits}
use Rattle.agg_reading.specs.Request.{search_of}
use Rattle.agg_spec.specs.Requests.{or_refused, refusal_of_fault, request_of}
use Rattle.fitting_laws.proofs.Searches.{search_fits_of}
use Rattle.agg_search.specs.Answering.{Searches}
use Rattle.fitting_laws.specs.Indexes.{index_of}
use Rattle.agg_search.specs.Paging.{IsBehind}
use Rattle.agg_search.proofs.Outcomes.{refused-ends, told-fault}
use Rattle.agg_search.proofs.Ends.{found-at, stops-at}
use Rattle.agg_search.proofs.solo.search_body.Goals as goal

pub run_search-requires-clause-made : goal.run_search-requires-clause-made
run_search-requires-clause-made g c =
    let m = (g.T.Tasks.index c.args.tasks.now).mapping in
    subst (λ r. IfOk r (λ s. IsTrue (search_fits m s))) (rw c.index.ensures at c.in-Ok.ensures) (search_fits_of m c.as_slice.result.now)

pub returns-in-Ok-clause-searches : goal.returns-in-Ok-clause-searches
returns-in-Ok-clause-searches g c =
    let index = index_of (g.T.Tasks.index c.args.tasks.now) in
    let request = request_of index c.args.body.now in
    let is : request.search ≡ Ok c.in-Ok.search = ap or_refused (ap (search_of index.mapping) (sym c.as_slice.ensures) ∙ (rw c.index.ensures at c.in-Ok.ensures)) in
    let v = c.args.pass.now.view in
    let u = c.run_search.new.pass.view in
    let failures = c.run_search.new.progress.failures in
    found-at (λ r found. Searches c.args.settings.now index (g.T.Tasks.capacity c.args.tasks.now) r v (g.T.Tasks.entries c.args.tasks.now) u (g.T.Tasks.entries c.run_search.new.tasks) failures found.outcome) c.in-Ok.search request is c.run_search.result c.run_search.ensures.searches

pub returns-in-Ok-clause-next : goal.returns-in-Ok-clause-next
returns-in-Ok-clause-next g c =
    let index = index_of (g.T.Tasks.index c.args.tasks.now) in
    let request = request_of index c.args.body.now in
    let is : request.search ≡ Ok c.in-Ok.search = ap or_refused (ap (search_of index.mapping) (sym c.as_slice.ensures) ∙ (rw c.index.ensures at c.in-Ok.ensures)) in
    found-at (λ r found. IsBehind (g.T.Tasks.index c.args.tasks.now) r found.outcome c.run_search.new.progress.failures found.next) c.in-Ok.search request is c.run_search.result c.run_search.ensures.next

pub returns-in-Ok-clause-stops : goal.returns-in-Ok-clause-stops
returns-in-Ok-clause-stops g c =
    let index = index_of (g.T.Tasks.index c.args.tasks.now) in
    let request = request_of index c.args.body.now in
    let is : request.search ≡ Ok c.in-Ok.search = ap or_refused (ap (search_of index.mapping) (sym c.as_slice.ensures) ∙ (rw c.index.ensures at c.in-Ok.ensures)) in
    stops-at c.args.settings.now index (g.T.Tasks.capacity c.args.tasks.now) c.args.pass.now.view (g.T.Tasks.entries c.args.tasks.now) c.run_search.new.pass.view (g.T.Tasks.entries c.run_search.new.tasks) c.run_search.new.progress.failures c.in-Ok.search request is c.run_search.result c.run_search.ensures.stops

pub returns-in_ok-refusal_of-in-Err-clause-searches : goal.returns-in_ok-refusal_of-in-Err-clause-searches
returns-in_ok-refusal_of-in-Err-clause-searches g c before r stands =
    let index = index_of (g.T.Tasks.index c.args.tasks.now) in
    let request = request_of index c.args.body.now in
    let is : request.search ≡ Err (refusal_of_fault c.in-Err.fault) = ap or_refused (ap (search_of index.mapping) (sym c.as_slice.ensures) ∙ told-fault (search_of index.mapping c.as_slice.result.now) c.in-Err.fault (rw c.index.ensures at c.in-Err.ensures) c.in_ok-refusal_of-in-Err.ensures.told) in
    refused-ends c.args.settings.now index (g.T.Tasks.capacity c.args.tasks.now) (g.T.Tasks.entries c.args.tasks.now) request c.in_ok-refusal_of-in-Err.field-0 (is ∙ ap Err (sym c.in_ok-refusal_of-in-Err.ensures.refused))
    before c.args.pass.now.view r c.args.progress.now.failures c.without_page.result.outcome c.requires.failures c.without_page.ensures.outcome stands
