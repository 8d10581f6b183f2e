use Rattle.std.proofs.Common.{rules, ◌≡◌, refl, ap, ◌∙◌, ◌<◌, [], ◌∷◌, length}
use Rattle.std.specs.Prelude.{Some, slice_get}
use Rattle.std.proofs.lemmas.List.{map-append}
use Rattle.std.proofs.lemmas.Option.{slice_get_read}
use Rattle.pipeline_agg.specs.Placed.{pipe_of, pipes_of}
use Rattle.pipeline_agg.proofs.PlacedLaws.{part-more}
use Rattle.pipeline_agg.proofs.placed.push_at.Goals as goal

pub returns-in_ok-push : goal.returns-in_ok-push
returns-in_ok-push c =
    let p = c.args.placed in
    let parts = c.args.parts.now.items in
    let within : c.args.place < length parts = search (rules, c.in-Some.ensures.item) in
    let is : slice_get parts c.args.place ≡ Some c.in-Some.part.now = slice_get_read parts _ c.args.place c.in-Some.part.now refl within c.in-Some.ensures.value in
    let more = ap pipes_of c.in_ok-push.ensures.items ∙ map-append pipe_of c.in-Some.part.now.placed.items (p ∷ []) in
    (search rules, λ i within. part-more p parts c.args.place c.in-Some.part.now (record { placed = c.push.new.self }) is more i)
