-- Items by their ids and marks.
use Rattle.std.proofs.Common.{◌≡◌, refl, zero, suc, ℕ, ◌<◌, List, [], ◌∷◌, ◌++◌, length, get_or, Option, None, Some, IsSome, sym, ◌∙◌, ap, subst, arith, length-append}
use Rattle.std.specs.List.{slice_get}
use Rattle.std.specs.Option.{unwrap_or}
use Rattle.std.proofs.lemmas.Bool.{false≢true}
use Rattle.std.proofs.lemmas.Option.{get_or_from_slice_get}
use Rattle.agg_model.specs.declared.bulk.Applied.{Applied}
use Rattle.agg_model.specs.declared.bulk.Item.{Item}
use Rattle.agg_model.specs.declared.bulk.ItemEnd.{ItemEnd}
use Rattle.agg_model.specs.declared.bulk.ItemEnd.TheVariants as end
use Rattle.agg_model.specs.declared.bulk.ItemRefusal.{ItemRefusal}
use Rattle.bulk_items.specs.Items.{AreKept, HaveEnded, end_in, item_in, item_of, items_of, no_item}
use Rattle.bulk_items.specs.declared.items.Mark.{Mark}

length-of : (refusal : ℕ → Option ItemRefusal) (ids : List (List ℕ)) (marks : List Mark) → length ids ≡ length marks → length (items_of refusal ids marks) ≡ length marks
unfolding items_of
length-of refusal [] marks paired = paired
length-of refusal (id ∷ ids) [] paired = refl
length-of refusal (id ∷ ids) (m ∷ ms) paired = ap suc (length-of (λ place. refusal (suc place)) ids ms (omega (arith, paired)))

item-from : (refusal : ℕ → Option ItemRefusal) (ids : List (List ℕ)) (marks : List Mark) (n : ℕ) (id : List ℕ) (mark : Mark) (default : Item) → length ids ≡ length marks → n < length marks →
    get_or (items_of refusal ids marks) n default ≡ item_in (refusal n) (get_or ids n id) (get_or marks n mark)
unfolding items_of
item-from refusal [] marks n id mark default paired low = absurd (omega (arith, paired, low))
item-from refusal (i ∷ ids) [] n id mark default paired low = absurd (omega (arith, low))
item-from refusal (i ∷ ids) (m ∷ ms) zero id mark default paired low = refl
item-from refusal (i ∷ ids) (m ∷ ms) (suc n) id mark default paired low = item-from (λ place. refusal (suc place)) ids ms n id mark default (omega (arith, paired)) (omega (arith, low))

ended-from : (refusal : ℕ → Option ItemRefusal) (marks : List Mark) (n : ℕ) (mark : Mark) → HaveEnded refusal marks → n < length marks → IsSome (end_in (get_or marks n mark).applied (refusal n))
unfolding HaveEnded
ended-from refusal [] n mark ended low = absurd (omega (arith, low))
ended-from refusal (m ∷ ms) zero mark ended low = ended.0
ended-from refusal (m ∷ ms) (suc n) mark ended low = ended-from (λ place. refusal (suc place)) ms n mark ended.1 (omega (arith, low))

-- ---- the item at a place

module _ (refusal : ℕ → Option ItemRefusal) (ids : List (List ℕ)) (marks : List Mark) (kept : AreKept refusal ids marks) (items : List Item) (view : items_of refusal ids marks ≡ items) where
  pub length-is : length items ≡ length marks
  length-is = ap (λ (ts : List Item). length ts) (sym view) ∙ length-of refusal ids marks kept.paired

  module _ (n : ℕ) (low : n < length items) where
    place-low : n < length marks
    place-low = omega (arith, low, length-is)

    pub id-at : (id : List ℕ) (default : Item) → slice_get ids n ≡ Some id → (get_or items n default).id ≡ id
    id-at id default at =
        let mark : Mark = record { kind = no_item.kind; applied = None } in
        ap (λ (ts : List Item). (get_or ts n default).id) (sym view) ∙ (ap (λ (t : Item). t.id) (item-from refusal ids marks n id mark default kept.paired place-low) ∙ get_or_from_slice_get ids n id id at)

    module _ (mark : Mark) (at : mark ≡ get_or marks n mark) (default : Item) where
      pub kind-at : (get_or items n default).kind ≡ mark.kind
      kind-at = ap (λ (ts : List Item). (get_or ts n default).kind) (sym view) ∙ (ap (λ (t : Item). t.kind) (item-from refusal ids marks n [] mark default kept.paired place-low) ∙ sym (ap (λ (m : Mark). m.kind) at))

      end-at : (get_or items n default).end ≡ unwrap_or (end_in mark.applied (refusal n)) no_item.end
      end-at =
          ap (λ (ts : List Item). (get_or ts n default).end) (sym view)
          ∙ (ap (λ (t : Item). t.end) (item-from refusal ids marks n [] mark default kept.paired place-low) ∙ sym (ap (λ (m : Mark). unwrap_or (end_in m.applied (refusal n)) no_item.end) at))

      pub applied-at : (applied : Applied) → mark.applied ≡ Some applied → (get_or items n default).end ≡ end.Applied applied
      applied-at applied is = end-at ∙ ap (λ (a : Option Applied). unwrap_or (end_in a (refusal n)) no_item.end) is

      pub refused-at : (refused : ItemRefusal) → mark.applied ≡ None → refusal n ≡ Some refused → (get_or items n default).end ≡ end.Refused refused
      refused-at refused none is = end-at ∙ (λ i. unwrap_or (end_in (none i) (is i)) no_item.end)

    -- its end is not lost
    pub not-lost : (mark : Mark) → mark ≡ get_or marks n mark → mark.applied ≡ None → refusal n ≡ None → ⊥
    not-lost mark at none lost =
        let ended = subst (λ (m : Mark). IsSome (end_in m.applied (refusal n))) (sym at) (ended-from refusal marks n mark kept.ended place-low) in
        let no : end_in mark.applied (refusal n) ≡ None = λ i. end_in (none i) (lost i) in
        false≢true (subst (λ (e : Option ItemEnd). IsSome e) no ended)

-- ---- refusals of other places

-- the places of marks have the refusals that they had
abbrev pub AreAsBefore : (ℕ → Option ItemRefusal) → (ℕ → Option ItemRefusal) → List Mark → Type 0
AreAsBefore before after marks = (place : ℕ) → place < length marks → after place ≡ before place

pub items-stay : (before after : ℕ → Option ItemRefusal) (ids : List (List ℕ)) (marks : List Mark) → AreAsBefore before after marks → items_of after ids marks ≡ items_of before ids marks
unfolding items_of
items-stay before after [] marks same = refl
items-stay before after (id ∷ ids) [] same = refl
items-stay before after (id ∷ ids) (m ∷ ms) same =
    let first = ap (λ (r : Option ItemRefusal). item_in r id m) (same 0 (omega arith)) in
    let rest = items-stay (λ place. before (suc place)) (λ place. after (suc place)) ids ms (λ place low. same (suc place) (omega (arith, low))) in
    λ i. first i ∷ rest i

pub ended-stay : (before after : ℕ → Option ItemRefusal) (marks : List Mark) → AreAsBefore before after marks → HaveEnded before marks → HaveEnded after marks
unfolding HaveEnded
ended-stay before after [] same ended = tt
ended-stay before after (m ∷ ms) same ended = (
  subst (λ (r : Option ItemRefusal). IsSome (end_in m.applied r)) (sym (same 0 (omega arith))) ended.0,
  ended-stay (λ place. before (suc place)) (λ place. after (suc place)) ms (λ place low. same (suc place) (omega (arith, low))) ended.1,
)

-- then the items stay
pub items-same : (before after : ℕ → Option ItemRefusal) (ids more : List (List ℕ)) (marks next : List Mark) → AreKept before ids marks → more ≡ ids → next ≡ marks → AreAsBefore before after marks →
    (items_of after more next ≡ items_of before ids marks) × AreKept after more next
items-same before after ids more marks next kept more_is next_is same =
    subst (λ (ms : List Mark). (items_of after more ms ≡ items_of before ids marks) × AreKept after more ms) (sym next_is)
    (subst (λ (is : List (List ℕ)). (items_of after is marks ≡ items_of before ids marks) × AreKept after is marks) (sym more_is)
    (items-stay before after ids marks same, record { paired = kept.paired; ended = ended-stay before after marks same kept.ended }))

-- ---- one more item

items-push : (refusal : ℕ → Option ItemRefusal) (ids : List (List ℕ)) (id : List ℕ) (marks : List Mark) (mark : Mark) (end : ItemEnd) → length ids ≡ length marks → end_in mark.applied (refusal (length marks)) ≡ Some end →
    items_of refusal (ids ++ id ∷ []) (marks ++ mark ∷ []) ≡ items_of refusal ids marks ++ item_of mark.kind id end ∷ []
unfolding items_of
items-push refusal [] id [] mark end paired is = ap (λ (e : Option ItemEnd). item_of mark.kind id (unwrap_or e no_item.end) ∷ []) is
items-push refusal [] id (m ∷ ms) mark end paired is = absurd (omega (arith, paired))
items-push refusal (i ∷ ids) id [] mark end paired is = absurd (omega (arith, paired))
items-push refusal (i ∷ ids) id (m ∷ ms) mark end paired is = ap (λ (ts : List Item). item_in (refusal 0) i m ∷ ts) (items-push (λ place. refusal (suc place)) ids id ms mark end (omega (arith, paired)) is)

ended-push : (refusal : ℕ → Option ItemRefusal) (marks : List Mark) (mark : Mark) → HaveEnded refusal marks → IsSome (end_in mark.applied (refusal (length marks))) → HaveEnded refusal (marks ++ mark ∷ [])
unfolding HaveEnded
ended-push refusal [] mark ended is = (is, tt)
ended-push refusal (m ∷ ms) mark ended is = (ended.0, ended-push (λ place. refusal (suc place)) ms mark ended.1 is)

-- the items are one more where the ids and marks are, and no other refusal is another
pub items-more : (before after : ℕ → Option ItemRefusal) (ids more : List (List ℕ)) (marks next : List Mark) (id : List ℕ) (mark : Mark) (end : ItemEnd) → AreKept before ids marks → more ≡ ids ++ id ∷ [] → next ≡ marks ++ mark ∷ [] →
    AreAsBefore before after marks → end_in mark.applied (after (length marks)) ≡ Some end →
    (items_of after more next ≡ items_of before ids marks ++ item_of mark.kind id end ∷ []) × AreKept after more next
items-more before after ids more marks next id mark end kept more_is next_is same is =
    let pushed = items-push after ids id marks mark end kept.paired is ∙ ap (λ (ts : List Item). ts ++ item_of mark.kind id end ∷ []) (items-stay before after ids marks same) in
    let some : IsSome (end_in mark.applied (after (length marks))) = subst (λ (e : Option ItemEnd). IsSome e) (sym is) refl in
    let paired : length (ids ++ id ∷ []) ≡ length (marks ++ mark ∷ []) = omega (arith, kept.paired, length-append ids (id ∷ []), length-append marks (mark ∷ [])) in
    subst (λ (ms : List Mark). (items_of after more ms ≡ items_of before ids marks ++ item_of mark.kind id end ∷ []) × AreKept after more ms) (sym next_is)
    (subst (λ (is : List (List ℕ)). (items_of after is (marks ++ mark ∷ []) ≡ items_of before ids marks ++ item_of mark.kind id end ∷ []) × AreKept after is (marks ++ mark ∷ [])) (sym more_is)
    (pushed, record { paired = paired; ended = ended-push after marks mark (ended-stay before after marks same kept.ended) some }))

-- ---- no item

pub no-items : (refusal : ℕ → Option ItemRefusal) (ids : List (List ℕ)) (marks : List Mark) → ids ≡ [] → marks ≡ [] → (items_of refusal ids marks ≡ []) × AreKept refusal ids marks
unfolding items_of HaveEnded
no-items refusal ids marks no_ids no_marks =
    subst (λ (ms : List Mark). (items_of refusal ids ms ≡ []) × AreKept refusal ids ms) (sym no_marks)
    (subst (λ (is : List (List ℕ)). (items_of refusal is [] ≡ []) × AreKept refusal is []) (sym no_ids) (refl, record { paired = refl; ended = tt }))
