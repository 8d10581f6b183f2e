-- Where fewer than two places are left, no object stands within what is left.
use Rattle.std.proofs.Common.{arith, ◌≡◌, ◌∙◌, sym, ap, false, get_or, ◌+◌, ◌<◌, length, List, [], ◌∷◌, ℕ, drop}
use Rattle.std.specs.Prelude.{refl}
use Rattle.std.proofs.lemmas.List.{drop_more}
use Rattle.agg_spec.specs.NoteZones.{stands_within}
use Rattle.agg_response.proofs.note_zones.stands_within.Goals as goal

too_short : (place : ℕ) (places at : List ℕ) → length at < 2 → stands_within (place ∷ places) at ≡ false
too_short place places [] short = refl
too_short place places (i ∷ []) short = refl
too_short place places (i ∷ j ∷ rest) short = absurd (omega (arith, short))

pub returns-in_default : goal.returns-in_default
returns-in_default c =
    let places = c.args.places.now in
    let i = c.loop-place.place-index in
    let left = c.loop-place.left.now in
    sym (sym c.loop-place.invariant ∙ ap (λ ps. stands_within ps left) (drop_more places i 0 c.loop-place-test.true)
    ∙ too_short (get_or places i 0) (drop (i + 1) places) left c.in_default.len_below)
