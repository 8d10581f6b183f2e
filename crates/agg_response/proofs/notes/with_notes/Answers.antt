-- A note of the object itself is put; one that stands deeper is passed over.
use Rattle.std.proofs.Common.{arith, ◌≡◌, ◌∙◌, sym, ap, ◌+◌, ◌==◌, length, List, [], ◌∷◌, ℕ, drop, map, refl, true, false}
use Rattle.std.specs.Prelude.{ℤ, Option}
use Rattle.std.proofs.lemmas.Bool.{eqb-true, false≢true}
use Rattle.serde_json.specs.Data.{Members}
use Rattle.serde_json.specs.Data.{put as with_member}
use Rattle.serde_json.specs.View.{view, members_view}
use Rattle.agg_model.specs.declared.pipeline.Note.{Note}
use Rattle.agg_spec.specs.AnswerTree.{ZonedNote, note_members, note_tree}
use Rattle.agg_spec.specs.Json.{with_members}
use Rattle.agg_response.specs.Seen.{seen_note}
use Rattle.agg_response.proofs.Places.{drop_here}
use Rattle.agg_response.proofs.notes.with_notes.Goals.{then-is_empty+in_ok-said+in_ok-object, else-is_empty}
use Rattle.agg_response.proofs.notes.with_notes.Goals as goal

abbrev placed : Option ℤ → Note → List ℕ → ZonedNote
placed zone note at = record { zone = zone; note = record note { at = at } }

put-here : (zone : Option ℤ) (note : Note) (at : List ℕ) (rest : List ZonedNote) (ms : Members) → (length at == 0) ≡ true
    → with_members (note_members (placed zone note at ∷ rest)) ms
    ≡ with_members (note_members rest) (with_member note.name (note_tree (record { zone = zone; note = note })) ms)
put-here dated note [] rest ms here = refl
put-here dated note (i ∷ at) rest ms here = absurd (omega (arith, eqb-true (length (i ∷ at)) 0 here))

passed-over : (zone : Option ℤ) (note : Note) (at : List ℕ) (rest : List ZonedNote) (ms : Members) → (length at == 0) ≡ false
    → with_members (note_members (placed zone note at ∷ rest)) ms ≡ with_members (note_members rest) ms
passed-over dated note [] rest ms deeper = absurd (false≢true (sym deeper))
passed-over dated note (i ∷ at) rest ms deeper = refl

pub loop-zoned-preserved : goal.loop-zoned-preserved
loop-zoned-preserved c =
    let items = c.deref-zoned-items.result.now in
    let i = c.loop-zoned.zoned-index in
    let z = c.zoned-item.result in
    let rest = map seen_note (drop (i + 1) items) in
    let old = members_view c.loop-zoned.object.members.entries in
    let here = ap (λ zs. with_members (note_members (map seen_note zs)) old) (drop_here items i z c.loop-zoned-test.true c.zoned-item.is) in
    elim c.if-is_empty.branch [
      | then-is_empty+in_ok-said+in_ok-object w ↦
          ap (λ o. with_members (note_members rest) (members_view o.members.entries)) w.object-is
          ∙ ap (with_members (note_members rest)) (w.in_ok-object.ensures ∙ ap (λ name. with_member name (view w.in_ok-said.said.value) old) w.as_str.ensures
          ∙ ap (λ d. with_member z.note.now.name d old) w.in_ok-said.ensures)
          ∙ sym (put-here z.zone z.note.now z.at.now rest old (sym c.is_empty.ensures ∙ w.if-is_empty.true))
          ∙ sym here ∙ c.loop-zoned.invariant
      | else-is_empty w ↦
          ap (λ o. with_members (note_members rest) (members_view o.members.entries)) w.object-is
          ∙ sym (passed-over z.zone z.note.now z.at.now rest old (sym c.is_empty.ensures ∙ w.if-is_empty.false))
          ∙ sym here ∙ c.loop-zoned.invariant
    ]
