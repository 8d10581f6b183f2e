-- One more pipeline is one more with its zone, or none.
use Rattle.std.proofs.Common.{◌≡◌, ◌∙◌, sym, ap, get_or, ◌+◌, ◌++◌, ◌<◌, length, List, [], ◌∷◌, ℕ, take, rules, to_z, of_z, w64}
use Rattle.std.proofs.lemmas.Int.{to_z-of_z}
use Rattle.std.specs.Prelude.{ℤ, None, Some, option_map}
use Rattle.std.proofs.lemmas.List.{take_more, map-append}
use Rattle.list_laws.proofs.Lists.{append-nil, filter_map-append}
use Rattle.agg_model.specs.declared.aggregation.Search.{Search}
use Rattle.agg_model.specs.declared.mapping.Mapping.{Mapping}
use Rattle.agg_model.specs.declared.pipeline.Pipe.{Pipe}
use Rattle.agg_spec.specs.NoteZones.{dated_among, zone_of_pipe}
use Rattle.agg_response.specs.NoteZones.{dated_values}
use Rattle.agg_response.proofs.note_zones.dated_pipes.Goals.{in-Some+in_ok-push, in_default}
use Rattle.agg_response.proofs.note_zones.dated_pipes.Goals as goal

module _ (search : Search) (m : Mapping) where
  only-some : (p : Pipe) (zone : ℤ) → zone_of_pipe search m p ≡ Some zone → dated_among search m (p ∷ []) ≡ (zone, p) ∷ []
  only-some p zone e = cc e

  only-none : (p : Pipe) → zone_of_pipe search m p ≡ None → dated_among search m (p ∷ []) ≡ []
  only-none p e = cc e

  among-more : (pipes : List Pipe) (i : ℕ) (p : Pipe) → i < length pipes → p ≡ get_or pipes i p
      → dated_among search m (take (i + 1) pipes) ≡ dated_among search m (take i pipes) ++ dated_among search m (p ∷ [])
  among-more pipes i p within is =
      ap (dated_among search m) (take_more pipes i p within ∙ ap (λ q. take i pipes ++ q ∷ []) (sym is))
      ∙ filter_map-append (λ q. option_map (λ zone. (zone, q)) (zone_of_pipe search m q)) (take i pipes) (p ∷ [])

pub loop-pipe-preserved : goal.loop-pipe-preserved
loop-pipe-preserved c =
    let asked = c.args.search.now in
    let m = c.args.mapping.now in
    let pipes = c.as_slice-pipe-items.result.now in
    let i = c.loop-pipe.pipe-index in
    let p = c.pipe-item.result in
    let more = among-more asked m pipes i p c.loop-pipe-test.true c.pipe-item.is in
    elim c.match-zone_of_pipe.branch [
      | in-Some+in_ok-push w ↦
          ap (λ v. dated_values v.items) w.dated-is ∙ ap dated_values w.in_ok-push.ensures.items
          ∙ map-append (λ d. (d.zone, d.pipe.now)) c.loop-pipe.dated.items _
          ∙ ap (λ ds. ds ++ (to_z w64 (of_z w64 w.in-Some.zone), p) ∷ []) c.loop-pipe.invariant
          ∙ ap (λ z. dated_among asked m (take i pipes) ++ (z, p) ∷ []) (to_z-of_z w64 w.in-Some.zone (search rules))
          ∙ ap (λ ds. dated_among asked m (take i pipes) ++ ds) (sym (only-some asked m p w.in-Some.zone (sym c.zone_of_pipe.ensures ∙ w.in-Some.is)))
          ∙ sym more
      | in_default w ↦
          ap (λ v. dated_values v.items) w.dated-is ∙ c.loop-pipe.invariant
          ∙ sym (more ∙ ap (λ ds. dated_among asked m (take i pipes) ++ ds) (only-none asked m p (sym c.zone_of_pipe.ensures ∙ w.in_default.is))
          ∙ append-nil (dated_among asked m (take i pipes)))
    ]
