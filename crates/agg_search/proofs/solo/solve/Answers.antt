use Rattle.std.proofs.Common.{◌∙◌, ◌*◌, subst}
use Rattle.std.proofs.lemmas.Result.{err_from_is_err_and}
use Rattle.std.specs.Prelude.{ℕ}
use Rattle.agg_model.specs.declared.breaker.Child.TheVariants as child
use Rattle.agg_model.specs.declared.breaker.Which.TheVariants as which
use Rattle.agg_spec.specs.Charges.{charge_of}
use Rattle.fitting_laws.specs.Indexes.{index_of}
use Rattle.agg_search.specs.Paging.{request_at}
use Rattle.agg_search.specs.Stepping.{Runs, StopsRunning}
use Rattle.agg_search.proofs.SoloEnds.{solves-behind, stops-behind, stops-response}
use Rattle.agg_model.specs.declared.breaker.Limits.{Limits}
use Rattle.agg_spec.specs.Solo.{response_steps}
use Rattle.agg_search.specs.Stops.{IfRefused}
use Rattle.agg_search.proofs.Ends.{body-stops-if}
use Rattle.agg_search.proofs.solo.solve.Goals as goal

pub returns-in_err-charge-clause-fielddata : goal.returns-in_err-charge-clause-fielddata
returns-in_err-charge-clause-fielddata g c = c.charge.ensures.others which.Fielddata (λ e. cc) (λ e. cc)

pub returns-in_err-charge-clause-stops : goal.returns-in_err-charge-clause-stops
returns-in_err-charge-clause-stops g c =
    let p = err_from_is_err_and c.from_residual.result c.from_residual.ensures.1 in
    let index = index_of (g.T.Tasks.index c.args.tasks.now) in
    let v = c.args.pass.now.view in
    let u = c.charge.new.pass.view in
    rw (p.1, p.2)
    (body-stops-if c.args.settings.now index (g.T.Tasks.capacity c.args.tasks.now) (g.T.Tasks.entries c.args.tasks.now) (request_at index c.args.body.now c.args.search) c.args.words.now.limits c.requires.limits v u c.args.progress.now.failures c.in_err-charge.field-0.0 c.requires.failures
    (subst (λ (n : ℕ). IfRefused c.in_err-charge.field-0.0 (StopsRunning c.args.words.now.limits (charge_of child.Inflight (2 * n)) v u)) c.len.ensures c.in_err-charge.ensures.stops))

pub search_page-requires-clause-free : goal.search_page-requires-clause-free
search_page-requires-clause-free g c = c.charge.ensures.others which.Request (λ e. cc) (λ e. cc) ∙ c.requires.free

pub returns-in_err-found-clause-fielddata : goal.returns-in_err-found-clause-fielddata
returns-in_err-found-clause-fielddata g c = c.search_page.ensures.fielddata ∙ c.charge.ensures.others which.Fielddata (λ e. cc) (λ e. cc)

pub returns-in_err-charge_response-clause-fielddata : goal.returns-in_err-charge_response-clause-fielddata
returns-in_err-charge_response-clause-fielddata g c =
    c.charge_response.ensures.fielddata ∙ c.search_page.ensures.fielddata ∙ c.charge.ensures.others which.Fielddata (λ e. cc) (λ e. cc)

pub returns-clause-fielddata : goal.returns-clause-fielddata
returns-clause-fielddata g c =
    c.charge_response.ensures.fielddata ∙ c.search_page.ensures.fielddata ∙ c.charge.ensures.others which.Fielddata (λ e. cc) (λ e. cc)

pub returns-in_err-found-clause-stops : goal.returns-in_err-found-clause-stops
returns-in_err-found-clause-stops g c =
    let p = err_from_is_err_and c.from_residual-in_err-found.result c.from_residual-in_err-found.ensures.1 in
    let index = index_of (g.T.Tasks.index c.args.tasks.now) in
    let request = request_at index c.args.body.now c.args.search in
    let capacity = g.T.Tasks.capacity c.args.tasks.now in
    let kept = g.T.Tasks.entries c.args.tasks.now in
    let keeps = g.T.Tasks.entries c.search_page.new.tasks in
    let v = c.args.pass.now.view in
    let w = c.charge.new.pass.view in
    let u = c.search_page.new.pass.view in
    let failures = c.search_page.new.progress.failures in
    let runs = subst (λ (l : Limits). Runs l (charge_of child.Inflight (2 * request.bytes)) v w) c.requires.limits
    (subst (λ (n : ℕ). Runs c.args.words.now.limits (charge_of child.Inflight (2 * n)) v w) c.len.ensures c.in_ok-charge.ensures.runs) in
    rw (p.1, p.2) (stops-behind c.args.settings.now index capacity kept keeps request failures c.in_err-found.field-0.0 v w u runs c.in_err-found.ensures.stops)

pub returns-in_err-charge_response-clause-stops : goal.returns-in_err-charge_response-clause-stops
returns-in_err-charge_response-clause-stops g c =
    let p = err_from_is_err_and c.from_residual-in_err-charge_response.result c.from_residual-in_err-charge_response.ensures.1 in
    let index = index_of (g.T.Tasks.index c.args.tasks.now) in
    let request = request_at index c.args.body.now c.args.search in
    let capacity = g.T.Tasks.capacity c.args.tasks.now in
    let kept = g.T.Tasks.entries c.args.tasks.now in
    let keeps = g.T.Tasks.entries c.search_page.new.tasks in
    let v = c.args.pass.now.view in
    let w = c.charge.new.pass.view in
    let u = c.search_page.new.pass.view in
    let failures = c.search_page.new.progress.failures in
    let runs = subst (λ (l : Limits). Runs l (charge_of child.Inflight (2 * request.bytes)) v w) c.requires.limits
    (subst (λ (n : ℕ). Runs c.args.words.now.limits (charge_of child.Inflight (2 * n)) v w) c.len.ensures c.in_ok-charge.ensures.runs) in
    let x = c.charge_response.new.pass.view in
    let o = c.in_ok-found.found.outcome in
    let stops = subst (λ (l : Limits). IfRefused c.in_err-charge_response.field-0.0 (StopsRunning l (response_steps o) u x)) c.requires.limits c.in_err-charge_response.ensures.stops in
    rw (p.1, p.2) (stops-response c.args.settings.now index capacity kept keeps request failures c.in_err-charge_response.field-0.0 v w u x o runs c.in_ok-found.ensures.searches stops)

pub returns-clause-solves : goal.returns-clause-solves
returns-clause-solves g c =
    let index = index_of (g.T.Tasks.index c.args.tasks.now) in
    let request = request_at index c.args.body.now c.args.search in
    let capacity = g.T.Tasks.capacity c.args.tasks.now in
    let kept = g.T.Tasks.entries c.args.tasks.now in
    let keeps = g.T.Tasks.entries c.search_page.new.tasks in
    let v = c.args.pass.now.view in
    let w = c.charge.new.pass.view in
    let u = c.search_page.new.pass.view in
    let failures = c.search_page.new.progress.failures in
    let runs = subst (λ (l : Limits). Runs l (charge_of child.Inflight (2 * request.bytes)) v w) c.requires.limits
    (subst (λ (n : ℕ). Runs c.args.words.now.limits (charge_of child.Inflight (2 * n)) v w) c.len.ensures c.in_ok-charge.ensures.runs) in
    let x = c.charge_response.new.pass.view in
    let o = c.in_ok-found.found.outcome in
    let responds = subst (λ (l : Limits). Runs l (response_steps o) u x) c.requires.limits c.in_ok-charge_response.ensures.runs in
    solves-behind c.args.settings.now index capacity kept keeps request failures v w u x o runs c.in_ok-found.ensures.searches responds
