use Rattle.std.proofs.Common.{◌++◌, ◌∷◌, [], List, subst, sym}
use Rattle.std.specs.Prelude.{Option, Some}
use Rattle.agg_model.specs.declared.breaker.Tripped.{Tripped}
use Rattle.agg_search.specs.Paging.{request_at}
use Rattle.fitting_laws.specs.Indexes.{index_of}
use Rattle.wave_bodies.specs.Read.{HasRead}
use Rattle.wave_bodies.specs.declared.asked.Asked.{Asked}
use Rattle.wave_bodies.proofs.OneMore.{on-ok, tripped-more}
use Rattle.wave_bodies.proofs.reading.ask.Goals as goal

pub returns-in-Some : goal.returns-in-Some
returns-in-Some g c =
    let index = c.args.index.now in
    let p = c.args.progress.now in
    let t = c.in-Some.tripped in
    let request = request_at (index_of index) c.args.body.now c.args.page in
    on-ok c.push.result _ _ c.push.ensures.ok
    (λ asked requests refusals read.
    subst (λ (o : Option Tripped). HasRead index (requests ++ request ∷ []) (refusals ++ o ∷ []) c.push.new.self p.searches.items p.rooms.items) (sym c.in-Some.is)
    (subst (λ (xs : List Asked). HasRead index (requests ++ request ∷ []) (refusals ++ Some t ∷ []) xs p.searches.items p.rooms.items) (sym asked)
    (tripped-more index requests refusals p.asked p.searches.items p.rooms.items read request t)))
