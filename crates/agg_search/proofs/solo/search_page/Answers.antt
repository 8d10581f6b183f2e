use Rattle.std.proofs.Common.{ap, sym, subst}
use Rattle.std.specs.Prelude.{IfErr, IfOk, IfSome, IsTrue, Option}
use Rattle.agg_evaluation.specs.SearchFits.{search_fits}
use Rattle.agg_model.specs.declared.aggregation.Search.{Search}
use Rattle.agg_search.specs.Answering.{Searches, StopsSearching}
use Rattle.fitting_laws.specs.Indexes.{index_of}
use Rattle.agg_search.specs.Paging.{IsBehind, request_at, search_at}
use Rattle.agg_search.specs.Stops.{IfRefused}
use Rattle.agg_search.proofs.Ends.{found-at, stops-at}
use Rattle.agg_search.proofs.solo.search_page.Goals as goal

pub run_search-requires-clause-made : goal.run_search-requires-clause-made
run_search-requires-clause-made g c = subst (λ (o : Option Search). IfSome o (λ s. IsTrue (search_fits (g.T.Tasks.index c.args.tasks.now).mapping s))) c.in-Some.is c.requires.made

pub returns-in-Some-clause-searches : goal.returns-in-Some-clause-searches
returns-in-Some-clause-searches g c =
    let index = index_of (g.T.Tasks.index c.args.tasks.now) in
    let v = c.args.pass.now.view in
    let u = c.run_search.new.pass.view in
    let failures = c.run_search.new.progress.failures in
    found-at (λ r found. Searches c.args.settings.now index (g.T.Tasks.capacity c.args.tasks.now) r v (g.T.Tasks.entries c.args.tasks.now) u (g.T.Tasks.entries c.run_search.new.tasks) failures found.outcome) c.in-Some.search (request_at index c.args.body.now c.args.search)
    (ap (search_at index c.args.body.now) c.in-Some.is) c.run_search.result c.run_search.ensures.searches

pub returns-in-Some-clause-next : goal.returns-in-Some-clause-next
returns-in-Some-clause-next g c =
    let index = index_of (g.T.Tasks.index c.args.tasks.now) in
    found-at (λ r found. IsBehind (g.T.Tasks.index c.args.tasks.now) r found.outcome c.run_search.new.progress.failures found.next) c.in-Some.search (request_at index c.args.body.now c.args.search)
    (ap (search_at index c.args.body.now) c.in-Some.is) c.run_search.result c.run_search.ensures.next

pub returns-in-Some-clause-stops : goal.returns-in-Some-clause-stops
returns-in-Some-clause-stops g c =
    let index = index_of (g.T.Tasks.index c.args.tasks.now) in
    stops-at c.args.settings.now index (g.T.Tasks.capacity c.args.tasks.now) c.args.pass.now.view (g.T.Tasks.entries c.args.tasks.now) c.run_search.new.pass.view (g.T.Tasks.entries c.run_search.new.tasks) c.run_search.new.progress.failures c.in-Some.search (request_at index c.args.body.now c.args.search)
    (ap (search_at index c.args.body.now) c.in-Some.is) c.run_search.result c.run_search.ensures.stops

pub returns-in-None-clause-searches : goal.returns-in-None-clause-searches
returns-in-None-clause-searches g c =
    let index = index_of (g.T.Tasks.index c.args.tasks.now) in
    subst (λ (o : Option Search). IfOk c.search_body.result (λ found. Searches c.args.settings.now index (g.T.Tasks.capacity c.args.tasks.now) (request_at index c.args.body.now o)
    c.args.pass.now.view (g.T.Tasks.entries c.args.tasks.now) c.search_body.new.pass.view (g.T.Tasks.entries c.search_body.new.tasks) c.search_body.new.progress.failures found.outcome)) (sym c.in-None.is) c.search_body.ensures.searches

pub returns-in-None-clause-next : goal.returns-in-None-clause-next
returns-in-None-clause-next g c =
    let index = index_of (g.T.Tasks.index c.args.tasks.now) in
    subst (λ (o : Option Search). IfOk c.search_body.result (λ found. IsBehind (g.T.Tasks.index c.args.tasks.now) (request_at index c.args.body.now o) found.outcome c.search_body.new.progress.failures found.next))
    (sym c.in-None.is) c.search_body.ensures.next

pub returns-in-None-clause-stops : goal.returns-in-None-clause-stops
returns-in-None-clause-stops g c =
    let index = index_of (g.T.Tasks.index c.args.tasks.now) in
    subst (λ (o : Option Search). IfErr c.search_body.result (λ stop. IfRefused stop (StopsSearching c.args.settings.now index (g.T.Tasks.capacity c.args.tasks.now) (request_at index c.args.body.now o)
    c.args.pass.now.view (g.T.Tasks.entries c.args.tasks.now) c.search_body.new.pass.view (g.T.Tasks.entries c.search_body.new.tasks) c.search_body.new.progress.failures))) (sym c.in-None.is) c.search_body.ensures.stops
