-- A note stands in the list of its first place.
use Rattle.std.proofs.Common.{arith, refl, ◌≡◌, ◌-◌, ◌∙◌, sym, ap, ◌+◌, ◌++◌, ◌<◌, ◌≤◌, length, List, [], ◌∷◌, ℕ, map, get_or, take, drop, set, subst}
use Rattle.std.specs.Prelude.{Option, Some, None, is_some, option_map, slice_get, vec_len}
use Rattle.std.specs.Option.{option_map_or}
use Rattle.std.proofs.lemmas.Option.{slice_get-map, same_Some, slice_get-get_or}
use Rattle.std.proofs.lemmas.List.{length-append, length-drop, length-map, map-append, map-set, take_more, take_all}
use Rattle.agg_spec.specs.AnswerTree.{ZonedNote, notes_within}
use Rattle.agg_response.specs.declared.notes.Seen.{Seen}
use Rattle.agg_response.specs.declared.notes.Zoned.{Zoned}
use Rattle.agg_response.specs.Seen.{seen_note, seen_notes}
use Rattle.agg_response.proofs.PartLaws.{ArePlaced, placed, list_more, of_itself, without_list, put}
use Rattle.agg_response.proofs.notes.Seen.parts.Goals as goal

pub loop-preserved : goal.loop-preserved
loop-preserved c =
    let old = c.loop.parts.items in
    let items = c.in_ok-push.ensures.items in
    record {
      many = ap length items ∙ length-append old (c.none.result ∷ []) ∙ ap (λ n. n + 1) c.loop.invariant.many;
      empty = subst (λ ps. ArePlaced (c.loop.counter + 1) [] ps) (sym (ap (map seen_notes) items ∙ map-append seen_notes old (c.none.result ∷ [])))
          (list_more (map seen_notes old) (seen_notes c.none.result) c.loop.counter
          (length-map old seen_notes ∙ c.loop.invariant.many) c.none.ensures c.loop.invariant.empty);
    }

-- a note with all its places
abbrev whole : Zoned → ZonedNote
whole z = record { zone = z.zone; note = z.note.now }

-- the notes that a loop has come to, with one more
one_more : (items : List Zoned) (i : ℕ) (z : Zoned) → i < length items → z ≡ get_or items i z
    → map seen_note (take (i + 1) items) ≡ map seen_note (take i items) ++ seen_note z ∷ []
one_more items i z low is = ap (map seen_note) (take_more items i z low ∙ ap (λ y. take i items ++ y ∷ []) (sym is))
    ∙ map-append seen_note (take i items) (z ∷ [])

part_of : (parts : List Seen) (i : ℕ) (notes : List ZonedNote) → slice_get (map seen_notes parts) i ≡ Some notes
    → option_map_or seen_notes (slice_get parts i) [] ≡ notes
part_of parts i notes is = through (slice_get parts i) (sym (slice_get-map seen_notes parts i) ∙ is)
  where
    through : (o : Option Seen) → option_map seen_notes o ≡ Some notes → option_map_or seen_notes o [] ≡ notes
    through None e = absurd (cc e)
    through (Some s) e = same_Some (seen_notes s) notes e

pub loop-zoned-preserved-in_default : goal.loop-zoned-preserved-in_default
loop-zoned-preserved-in_default c =
    let items = c.deref-zoned-items.result.now in
    let k = c.loop-zoned.zoned-index in
    let z = c.zoned-item.result in
    let parts = map seen_notes c.loop-zoned.parts.items in
    subst (λ ns. ArePlaced c.args.places ns parts) (sym (one_more items k z c.loop-zoned-test.true c.zoned-item.is))
    (of_itself c.args.places (map seen_note (take k items)) (whole z) z.at.now parts c.loop-zoned.invariant c.in_default.len_below)

pub loop-zoned-preserved-in_default-get_mut : goal.loop-zoned-preserved-in_default-get_mut
loop-zoned-preserved-in_default-get_mut c =
    let items = c.deref-zoned-items.result.now in
    let k = c.loop-zoned.zoned-index in
    let z = c.zoned-item.result in
    let parts = c.loop-zoned.parts in
    let place = get_or z.at.now 0 0 in
    let missing : place < vec_len parts → ⊥ = λ low. cc (ap is_some c.in_default-get_mut.is, c.get_mut.ensures.variant.1 low) in
    let past : length (map seen_notes parts.items) ≤ place = omega (arith, missing, length-map parts.items seen_notes, parts.ok) in
    subst (λ ns. ArePlaced c.args.places ns (map seen_notes parts.items)) (sym (one_more items k z c.loop-zoned-test.true c.zoned-item.is))
    (without_list c.args.places (map seen_note (take k items)) (whole z) z.at.now (map seen_notes parts.items) c.loop-zoned.invariant past)

pub loop-zoned-preserved : goal.loop-zoned-preserved
loop-zoned-preserved c =
    let items = c.deref-zoned-items.result.now in
    let k = c.loop-zoned.zoned-index in
    let z = c.zoned-item.result in
    let parts = c.loop-zoned.parts.items in
    let place = get_or z.at.now 0 0 in
    let part = c.in-Some.part.now in
    let new : Seen = record { notes = c.push-in-loop-zoned.new.self } in
    let found = c.in-Some.ensures.variant.0 refl in
    let within : place < length parts = omega (arith, found, c.loop-zoned.parts.ok) in
    let is : slice_get (map seen_notes parts) place ≡ Some (seen_notes part) =
    slice_get-map seen_notes parts place ∙ ap (option_map seen_notes)
    (slice_get-get_or parts place part within ∙ ap (λ x. Some x) (sym c.in-Some.ensures.value)) in
    let behind : drop 1 z.at.now ≡ take (length z.at.now - 1) (drop 1 z.at.now) =
    sym (take_all (length z.at.now - 1) (drop 1 z.at.now) (omega (arith, length-drop 1 z.at.now))) in
    let pushed : seen_notes new ≡ seen_notes part ++ placed (whole z) (drop 1 z.at.now) ∷ [] =
    ap (map seen_note) c.in_ok-push-2.ensures.items ∙ map-append seen_note part.notes.items _
    ∙ ap (λ at. map seen_note part.notes.items ++ placed (whole z) at ∷ []) (sym behind) in
    subst (λ ns. ArePlaced c.args.places ns (map seen_notes (set parts place new))) (sym (one_more items k z c.loop-zoned-test.true c.zoned-item.is))
    (subst (λ ps. ArePlaced c.args.places (map seen_note (take k items) ++ seen_note z ∷ []) ps)
    (sym (map-set seen_notes parts place new ∙ ap (set (map seen_notes parts) place) pushed))
    (put c.args.places (map seen_note (take k items)) (whole z) z.at.now (map seen_notes parts) c.loop-zoned.invariant
    (seen_notes part) c.in-len1-up.len_at_least is))

pub returns : goal.returns
returns c i low =
    let items = c.deref-zoned-items.result.now in
    let all : take c.loop-zoned.zoned-index items ≡ c.args.self.now.notes.items = take_all c.loop-zoned.zoned-index items c.loop-zoned-test.false
    ∙ c.deref-zoned-items.ensures.value in
    part_of c.loop-zoned.parts.items i _ (c.loop-zoned.invariant i low) ∙ ap (λ zs. notes_within i (map seen_note zs)) all
