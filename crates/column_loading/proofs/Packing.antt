-- Slots by their ids, sources and weights.
use Rattle.std.proofs.Common.{◌≡◌, refl, zero, suc, ℕ, ◌+◌, ◌<◌, List, [], ◌∷◌, ◌++◌, length, get_or, Option, Some, sym, ◌∙◌, ap, arith}
use Rattle.std.specs.List.{slice_get}
use Rattle.std.specs.Option.{option_map}
use Rattle.std.proofs.lemmas.List.{length_push}
use Rattle.std.proofs.lemmas.Option.{get_or_from_slice_get}
use Rattle.column_loading.specs.Packed.{AreKept, slot_of, slots_of}
use Rattle.column_loading.specs.declared.slot.Kept.{Kept}
use Rattle.column_loading.specs.declared.slot.Slot.{Slot}

length-of : (routing : ℕ → Option (List ℕ)) (ids sources : List (List ℕ)) (weights : List ℕ) → length ids ≡ length weights → length sources ≡ length weights → length (slots_of routing ids sources weights) ≡ length weights
unfolding slots_of
length-of routing [] sources weights a b = a
length-of routing (id ∷ ids) [] weights a b = b
length-of routing (id ∷ ids) (s ∷ ss) [] a b = refl
length-of routing (id ∷ ids) (s ∷ ss) (w ∷ ws) a b = ap suc (length-of (λ place. routing (suc place)) ids ss ws (omega (arith, a)) (omega (arith, b)))

slot-from : (routing : ℕ → Option (List ℕ)) (ids sources : List (List ℕ)) (weights : List ℕ) (n : ℕ) (id source : List ℕ) (weight : ℕ) (default : Slot) → length ids ≡ length weights → length sources ≡ length weights → n < length weights →
    get_or (slots_of routing ids sources weights) n default ≡ slot_of (routing n) (get_or ids n id) (get_or sources n source) (get_or weights n weight)
unfolding slots_of
slot-from routing [] sources weights n id source weight default a b low = absurd (omega (arith, a, low))
slot-from routing (i ∷ ids) [] weights n id source weight default a b low = absurd (omega (arith, b, low))
slot-from routing (i ∷ ids) (s ∷ ss) [] n id source weight default a b low = absurd (omega (arith, low))
slot-from routing (i ∷ ids) (s ∷ ss) (w ∷ ws) zero id source weight default a b low = refl
slot-from routing (i ∷ ids) (s ∷ ss) (w ∷ ws) (suc n) id source weight default a b low =
    slot-from (λ place. routing (suc place)) ids ss ws n id source weight default (omega (arith, a)) (omega (arith, b)) (omega (arith, low))

-- ---- the slot at a place

module _ (routing : ℕ → Option (List ℕ)) (ids sources : List (List ℕ)) (weights : List ℕ) (kept : AreKept ids sources weights) (slots : List Slot) (view : slots_of routing ids sources weights ≡ slots) where
  pub length-is : length slots ≡ length weights
  length-is = ap (λ (ss : List Slot). length ss) (sym view) ∙ length-of routing ids sources weights kept.has_ids kept.has_sources

  module _ (n : ℕ) (low : n < length slots) (default : Slot) where
    slot-at : (id source : List ℕ) (weight : ℕ) → get_or slots n default ≡ slot_of (routing n) (get_or ids n id) (get_or sources n source) (get_or weights n weight)
    slot-at id source weight =
        ap (λ (ss : List Slot). get_or ss n default) (sym view) ∙ slot-from routing ids sources weights n id source weight default kept.has_ids kept.has_sources (omega (arith, low, length-is))

    pub id-at : (id : List ℕ) → slice_get ids n ≡ Some id → (get_or slots n default).id ≡ id
    id-at id at = ap (λ (s : Slot). s.id) (slot-at id [] 0) ∙ get_or_from_slice_get ids n id id at

    pub live-at : (source : List ℕ) (weight : ℕ) → slice_get sources n ≡ Some source → weight ≡ get_or weights n weight → (get_or slots n default).live ≡ Some (record { routing = routing n; source = source; weight = weight })
    live-at source weight at weighs =
        ap (λ (s : Slot). s.live) (slot-at [] source weight)
        ∙ (λ i. Some (record { routing = routing n; source = get_or_from_slice_get sources n source source at i; weight = sym weighs i }))

    pub weight-at : (weight : ℕ) → weight ≡ get_or weights n weight → option_map (λ (k : Kept). k.weight) (get_or slots n default).live ≡ Some weight
    weight-at weight weighs = ap (λ (s : Slot). option_map (λ (k : Kept). k.weight) s.live) (slot-at [] [] weight) ∙ ap Some (sym weighs)

-- ---- routings of other places

-- the places of weights have the routings that they had
abbrev pub AreAsBefore : (ℕ → Option (List ℕ)) → (ℕ → Option (List ℕ)) → List ℕ → Type 0
AreAsBefore before after weights = (place : ℕ) → place < length weights → after place ≡ before place

slots-stay : (before after : ℕ → Option (List ℕ)) (ids sources : List (List ℕ)) (weights : List ℕ) → AreAsBefore before after weights → slots_of after ids sources weights ≡ slots_of before ids sources weights
unfolding slots_of
slots-stay before after [] sources weights same = refl
slots-stay before after (id ∷ ids) [] weights same = refl
slots-stay before after (id ∷ ids) (s ∷ ss) [] same = refl
slots-stay before after (id ∷ ids) (s ∷ ss) (w ∷ ws) same =
    let first = ap (λ (r : Option (List ℕ)). slot_of r id s w) (same 0 (omega arith)) in
    let rest = slots-stay (λ place. before (suc place)) (λ place. after (suc place)) ids ss ws (λ place low. same (suc place) (omega (arith, low))) in
    λ i. first i ∷ rest i

-- then the slots stay
pub slots-same : (before after : ℕ → Option (List ℕ)) (ids more_ids sources more_sources : List (List ℕ)) (weights more_weights : List ℕ) → AreKept ids sources weights → more_ids ≡ ids → more_sources ≡ sources → more_weights ≡ weights → AreAsBefore before after weights →
    (slots_of after more_ids more_sources more_weights ≡ slots_of before ids sources weights) × AreKept more_ids more_sources more_weights
slots-same before after ids more_ids sources more_sources weights more_weights kept ids_are sources_are weights_are same = (
  (λ i. slots_of after (ids_are i) (sources_are i) (weights_are i)) ∙ slots-stay before after ids sources weights same,
  record {
    has_ids = ap (λ (xs : List (List ℕ)). length xs) ids_are ∙ (kept.has_ids ∙ sym (ap (λ (ws : List ℕ). length ws) weights_are));
    has_sources = ap (λ (xs : List (List ℕ)). length xs) sources_are ∙ (kept.has_sources ∙ sym (ap (λ (ws : List ℕ). length ws) weights_are));
  },
)

-- ---- one more slot

slots-push : (routing : ℕ → Option (List ℕ)) (ids : List (List ℕ)) (id : List ℕ) (sources : List (List ℕ)) (source : List ℕ) (weights : List ℕ) (weight : ℕ) → length ids ≡ length weights → length sources ≡ length weights →
    slots_of routing (ids ++ id ∷ []) (sources ++ source ∷ []) (weights ++ weight ∷ []) ≡ slots_of routing ids sources weights ++ slot_of (routing (length weights)) id source weight ∷ []
unfolding slots_of
slots-push routing [] id [] source [] weight a b = refl
slots-push routing [] id sources source (w ∷ ws) weight a b = absurd (omega (arith, a))
slots-push routing [] id (s ∷ ss) source [] weight a b = absurd (omega (arith, b))
slots-push routing (i ∷ ids) id sources source [] weight a b = absurd (omega (arith, a))
slots-push routing (i ∷ ids) id [] source (w ∷ ws) weight a b = absurd (omega (arith, b))
slots-push routing (i ∷ ids) id (s ∷ ss) source (w ∷ ws) weight a b =
    ap (λ (ts : List Slot). slot_of (routing 0) i s w ∷ ts) (slots-push (λ place. routing (suc place)) ids id ss source ws weight (omega (arith, a)) (omega (arith, b)))

-- the slots are one more where the parts are, and no other routing is another
pub slots-more : (before after : ℕ → Option (List ℕ)) (ids more_ids sources more_sources : List (List ℕ)) (weights more_weights : List ℕ) (routed : Option (List ℕ)) (id source : List ℕ) (weight : ℕ) → AreKept ids sources weights →
    more_ids ≡ ids ++ id ∷ [] → more_sources ≡ sources ++ source ∷ [] → more_weights ≡ weights ++ weight ∷ [] → AreAsBefore before after weights → after (length weights) ≡ routed →
    (slots_of after more_ids more_sources more_weights ≡ slots_of before ids sources weights ++ slot_of routed id source weight ∷ []) × AreKept more_ids more_sources more_weights
slots-more before after ids more_ids sources more_sources weights more_weights routed id source weight kept ids_are sources_are weights_are same is =
    let count : length more_weights ≡ length weights + 1 = ap (λ (ws : List ℕ). length ws) weights_are ∙ length_push weights weight in
    let id_count : length more_ids ≡ length ids + 1 = ap (λ (xs : List (List ℕ)). length xs) ids_are ∙ length_push ids id in
    let source_count : length more_sources ≡ length sources + 1 = ap (λ (xs : List (List ℕ)). length xs) sources_are ∙ length_push sources source in (
      (λ i. slots_of after (ids_are i) (sources_are i) (weights_are i))
          ∙ (slots-push after ids id sources source weights weight kept.has_ids kept.has_sources ∙ (λ i. slots-stay before after ids sources weights same i ++ slot_of (is i) id source weight ∷ [])),
      record { has_ids = omega (arith, count, id_count, kept.has_ids); has_sources = omega (arith, count, source_count, kept.has_sources) },
    )

-- ---- no slot

pub no-slots : (routing : ℕ → Option (List ℕ)) (ids sources : List (List ℕ)) (weights : List ℕ) → ids ≡ [] → sources ≡ [] → weights ≡ [] → (slots_of routing ids sources weights ≡ []) × AreKept ids sources weights
unfolding slots_of
no-slots routing ids sources weights no_ids no_sources no_weights = (
  (λ i. slots_of routing (no_ids i) (no_sources i) (no_weights i)),
  record {
    has_ids = ap (λ (xs : List (List ℕ)). length xs) no_ids ∙ sym (ap (λ (ws : List ℕ). length ws) no_weights);
    has_sources = ap (λ (xs : List (List ℕ)). length xs) no_sources ∙ sym (ap (λ (ws : List ℕ). length ws) no_weights);
  },
)
