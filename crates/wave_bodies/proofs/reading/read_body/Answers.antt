use Rattle.std.proofs.Common.{◌≡◌, ◌++◌, ◌∷◌, [], List, subst, sym, ◌∙◌}
use Rattle.std.specs.Prelude.{Err, None, Ok}
use Rattle.agg_search.specs.Paging.{request_at}
use Rattle.fitting_laws.specs.Indexes.{index_of}
use Rattle.wave_bodies.specs.Read.{HasRead}
use Rattle.wave_bodies.specs.declared.asked.Asked.{Asked}
use Rattle.wave_bodies.proofs.OneMore.{is-refused, on-ok, refused-more}
use Rattle.wave_bodies.proofs.reading.read_body.Goals as goal

pub returns-in-Ok : goal.returns-in-Ok
returns-in-Ok g c =
    let request = request_at (index_of c.args.index.now) c.args.body.now c.args.page in
    let is : request.search ≡ Ok c.in-Ok.search = sym c.in_ok-search.ensures.read ∙ c.in-Ok.is in
    on-ok c.add_search.result _ _ c.add_search.ensures (λ added requests refusals read. added requests refusals request is read)

pub returns-in-Err : goal.returns-in-Err
returns-in-Err g c =
    let index = c.args.index.now in
    let p = c.args.progress.now in
    let request = request_at (index_of index) c.args.body.now c.args.page in
    let is : request.search ≡ Err c.in-Err.refused = sym c.in_ok-search.ensures.read ∙ c.in-Err.is in
    on-ok c.push.result _ _ c.push.ensures.ok
    (λ asked requests refusals read.
    subst (λ (xs : List Asked). HasRead index (requests ++ request ∷ []) (refusals ++ None ∷ []) xs p.searches.items p.rooms.items) (sym asked)
    (refused-more index requests refusals p.asked p.searches.items p.rooms.items read request c.in-Err.refused (is-refused (index_of index) request c.in-Err.refused is)))
