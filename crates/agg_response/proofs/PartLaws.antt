-- Notes cut into those of each place: one more list without a note, and one more note in the list of its first place.
use Rattle.std.specs.Prelude.{◌≡◌, ◌≢◌, refl, ℕ, zero, suc, ◌+◌, ◌<◌, ◌≤◌, ◌==◌, ◌⊎◌, Bool, true, false, if◌then◌else◌, List, [], ◌∷◌, ◌++◌, length}
use Rattle.std.specs.Prelude.{Some, None, option_map, slice_get}
use Rattle.std.specs.List.{cons_option}
use Rattle.std.proofs.Common.{◌∙◌, sym, ap, arith, inl, inr, get_or, set, drop}
use Rattle.std.proofs.lemmas.Bool.{eq-eqb, eqb-false, eqb-true}
use Rattle.std.proofs.lemmas.List.{get_or-set_same, get_or-set_other, length-set}
use Rattle.std.proofs.lemmas.Option.{slice_get_within, slice_get-get_or, same_Some}
use Rattle.list_laws.proofs.Lists.{append-nil, filter_map-append}
use Rattle.agg_spec.specs.AnswerTree.{ZonedNote, notes_within, note_behind}
use Rattle.agg_spec.specs.Notes.{places_behind}

-- a note with these places
abbrev pub placed : ZonedNote → List ℕ → ZonedNote
placed = note_behind

-- the lists of the first places are those of the notes beneath them
abbrev pub ArePlaced : ℕ → List ZonedNote → List (List ZonedNote) → Type 0
ArePlaced places notes lists = (i : ℕ) → i < places → slice_get lists i ≡ Some (notes_within i notes)

pub list_more : (lists : List (List ZonedNote)) (list : List ZonedNote) (n : ℕ) → length lists ≡ n → list ≡ [] → ArePlaced n [] lists
    → ArePlaced (n + 1) [] (lists ++ list ∷ [])
list_more [] list n many none are zero low = ap (λ l. Some l) none
list_more [] list n many none are (suc i) low = absurd (omega (arith, low, many))
list_more (l ∷ lists) list n many none are zero low = are 0 (omega (arith, many))
list_more (l ∷ lists) list n many none are (suc i) low =
    list_more lists list (length lists) refl none (λ j below. are (suc j) (omega (arith, many, below))) i (omega (arith, low, many))

pub same-or-other : (m n : ℕ) → (m ≡ n) ⊎ (m ≢ n)
same-or-other m n = pick (m == n) refl
  where
    pick : (b : Bool) → (m == n) ≡ b → (m ≡ n) ⊎ (m ≢ n)
    pick true e = inl (eqb-true m n e)
    pick false e = inr (eqb-false m n e)

behind-here : (i j : ℕ) (rest : List ℕ) → j ≡ i → places_behind i (j ∷ rest) ≡ Some rest
behind-here i j rest same = ap (λ b. if b then Some rest else None) (eq-eqb i j (sym same))

behind-other : (i j : ℕ) (rest : List ℕ) → j ≢ i → places_behind i (j ∷ rest) ≡ None
behind-other i j rest other = pick (i == j) refl
  where
    pick : (b : Bool) → (i == j) ≡ b → places_behind i (j ∷ rest) ≡ None
    pick true e = absurd (other (sym (eqb-true i j e)))
    pick false e = ap (λ b. if b then Some rest else None) e

module _ (n : ZonedNote) where
  here : (i : ℕ) (at : List ℕ) → 0 < length at → get_or at 0 0 ≡ i → notes_within i (placed n at ∷ []) ≡ placed n (drop 1 at) ∷ []
  here i [] some is = absurd (omega (arith, some))
  here i (j ∷ rest) some is = ap (λ o. cons_option (option_map (note_behind n) o) []) (behind-here i j rest is)

  pub elsewhere : (i : ℕ) (at : List ℕ) → get_or at 0 0 ≢ i → notes_within i (placed n at ∷ []) ≡ []
  elsewhere i [] other = refl
  elsewhere i (j ∷ rest) other = ap (λ o. cons_option (option_map (note_behind n) o) []) (behind-other i j rest other)

  pub in_itself : (i : ℕ) (at : List ℕ) → length at < 1 → notes_within i (placed n at ∷ []) ≡ []
  in_itself i [] none = refl
  in_itself i (j ∷ rest) none = absurd (omega (arith, none))

within-more : (i : ℕ) (notes more : List ZonedNote) → notes_within i (notes ++ more) ≡ notes_within i notes ++ notes_within i more
within-more i notes more = filter_map-append (λ n. option_map (note_behind n) (places_behind i n.note.at)) notes more

module _ (places : ℕ) (notes : List ZonedNote) (n : ZonedNote) (at : List ℕ) (lists : List (List ZonedNote)) (are : ArePlaced places notes lists) where
  -- a note of the object itself, or of a place without a list, is in no list
  unmoved : (i : ℕ) → i < places → notes_within i (placed n at ∷ []) ≡ [] → slice_get lists i ≡ Some (notes_within i (notes ++ placed n at ∷ []))
  unmoved i low none =
      are i low ∙ ap (λ ms. Some ms) (sym (within-more i notes (placed n at ∷ []) ∙ ap (λ ms. notes_within i notes ++ ms) none
      ∙ append-nil (notes_within i notes)))

  pub of_itself : length at < 1 → ArePlaced places (notes ++ placed n at ∷ []) lists
  of_itself none i low = unmoved i low (in_itself n i at none)

  pub without_list : length lists ≤ get_or at 0 0 → ArePlaced places (notes ++ placed n at ∷ []) lists
  without_list past i low =
      let within = slice_get_within lists i (notes_within i notes) (are i low) in
      unmoved i low (elsewhere n i at (λ e. omega (arith, past, within, e)))

  pub put : (list : List ZonedNote) → 0 < length at → slice_get lists (get_or at 0 0) ≡ Some list
      → ArePlaced places (notes ++ placed n at ∷ []) (set lists (get_or at 0 0) (list ++ placed n (drop 1 at) ∷ []))
  put list some is i low =
      let place = get_or at 0 0 in
      let new = list ++ placed n (drop 1 at) ∷ [] in
      let within = slice_get_within lists i (notes_within i notes) (are i low) in
      let many : i < length (set lists place new) = omega (arith, within, length-set lists place new) in
      slice_get-get_or (set lists place new) i [] many
      ∙ elim (same-or-other place i) [
        | inl same ↦
            let list_is : list ≡ notes_within i notes = same_Some list (notes_within i notes) (sym is ∙ ap (slice_get lists) same ∙ are i low) in
            ap (λ ms. Some ms) (ap (λ k. get_or (set lists k new) i []) same ∙ get_or-set_same lists i new [] within
            ∙ ap (λ ms. ms ++ placed n (drop 1 at) ∷ []) list_is
            ∙ ap (λ ms. notes_within i notes ++ ms) (sym (here n i at some same)) ∙ sym (within-more i notes (placed n at ∷ [])))
        | inr other ↦
            ap (λ ms. Some ms) (get_or-set_other lists place i new [] (λ e. other (sym e))) ∙ sym (slice_get-get_or lists i [] within)
            ∙ unmoved i low (elsewhere n i at other)
      ]
