-- The end of the last item.
use Rattle.std.proofs.Common.{◌≡◌, refl, zero, suc, ℕ, ◌<◌, ◌-◌, List, [], ◌∷◌, ◌++◌, length, get_or, set, Option, Some, IsSome, sym, ◌∙◌, ap, subst, arith, length-append}
use Rattle.std.specs.Option.{unwrap_or}
use Rattle.std.proofs.lemmas.List.{length-set, set_at}
use Rattle.std.proofs.Math.Seq.{get_or-append_seam}
use Rattle.agg_model.specs.declared.bulk.ActionKind.{ActionKind}
use Rattle.agg_model.specs.declared.bulk.Applied.{Applied}
use Rattle.agg_model.specs.declared.bulk.Item.{Item}
use Rattle.agg_model.specs.declared.bulk.ItemEnd.{ItemEnd}
use Rattle.agg_model.specs.declared.bulk.ItemRefusal.{ItemRefusal}
use Rattle.bulk_items.specs.Items.{AreKept, HaveEnded, end_in, item_in, item_of, items_of, no_item, with_last_end}
use Rattle.bulk_items.specs.declared.items.Mark.{Mark}
use Rattle.bulk_items.proofs.Keeping.{ended-stay, items-stay, length-is}

-- the last of some items ends otherwise
pub last-ends : (items : List Item) (kind : ActionKind) (id : List ℕ) (end other : ItemEnd) → with_last_end end (items ++ item_of kind id other ∷ []) ≡ items ++ item_of kind id end ∷ []
unfolding with_last_end
last-ends items kind id end other =
    let all = items ++ item_of kind id other ∷ [] in
    let last : length items ≡ length all - 1 = omega (arith, length-append items (item_of kind id other ∷ [])) in
    ap (λ (n : ℕ). set all n (record (get_or all n no_item) { end = end })) (sym last)
    ∙ (ap (λ (t : Item). set all (length items) (record t { end = end })) (get_or-append_seam items (item_of kind id other) [] no_item)
    ∙ set_at items (item_of kind id other) [] (item_of kind id end) (length items) refl)

-- this mark with another end
abbrev pub with_applied : Mark → Option Applied → Mark
with_applied mark applied = record mark { applied = applied }

-- the places but this one have the refusals that they had
abbrev pub AreAsBeforeBut : ℕ → (ℕ → Option ItemRefusal) → (ℕ → Option ItemRefusal) → Type 0
AreAsBeforeBut n before after = (place : ℕ) → (place ≡ n → ⊥) → after place ≡ before place

item-set : (before after : ℕ → Option ItemRefusal) (ids : List (List ℕ)) (marks : List Mark) (n : ℕ) (mark : Mark) (applied : Option Applied) (end : ItemEnd) → length ids ≡ length marks → n < length marks → mark ≡ get_or marks n mark →
    AreAsBeforeBut n before after → end_in applied (after n) ≡ Some end →
    items_of after ids (set marks n (with_applied mark applied)) ≡ set (items_of before ids marks) n (record (get_or (items_of before ids marks) n no_item) { end = end })
unfolding items_of
item-set before after [] marks n mark applied end paired low at same is = absurd (omega (arith, paired, low))
item-set before after (id ∷ ids) [] n mark applied end paired low at same is = absurd (omega (arith, low))
item-set before after (id ∷ ids) (m ∷ ms) zero mark applied end paired low at same is =
    let rest = items-stay (λ place. before (suc place)) (λ place. after (suc place)) ids ms (λ place below. same (suc place) (λ none. omega (arith, none))) in
    λ i. item_of (at i).kind id (unwrap_or (is i) no_item.end) ∷ rest i
item-set before after (id ∷ ids) (m ∷ ms) (suc n) mark applied end paired low at same is =
    let first = ap (λ (r : Option ItemRefusal). item_in r id m) (same 0 (λ none. omega (arith, none))) in
    let rest =
    item-set (λ place. before (suc place)) (λ place. after (suc place)) ids ms n mark applied end (omega (arith, paired)) (omega (arith, low)) at (λ place other. same (suc place) (λ here. other (omega (arith, here)))) is in
    λ i. first i ∷ rest i

ended-set : (before after : ℕ → Option ItemRefusal) (marks : List Mark) (n : ℕ) (mark : Mark) (applied : Option Applied) → n < length marks → AreAsBeforeBut n before after → IsSome (end_in applied (after n)) → HaveEnded before marks →
    HaveEnded after (set marks n (with_applied mark applied))
unfolding HaveEnded
ended-set before after [] n mark applied low same is ended = absurd (omega (arith, low))
ended-set before after (m ∷ ms) zero mark applied low same is ended = (
  is,
  ended-stay (λ place. before (suc place)) (λ place. after (suc place)) ms (λ place below. same (suc place) (λ none. omega (arith, none))) ended.1,
)
ended-set before after (m ∷ ms) (suc n) mark applied low same is ended = (
  subst (λ (r : Option ItemRefusal). IsSome (end_in m.applied r)) (sym (same 0 (λ none. omega (arith, none)))) ended.0,
  ended-set (λ place. before (suc place)) (λ place. after (suc place)) ms n mark applied (omega (arith, low)) (λ place other. same (suc place) (λ here. other (omega (arith, here)))) is ended.1,
)

module _ (before after : ℕ → Option ItemRefusal) (ids : List (List ℕ)) (marks : List Mark) (kept : AreKept before ids marks) (items : List Item) (view : items_of before ids marks ≡ items) (n : ℕ) (some : 0 < length items) (last : n ≡ length marks - 1) where
  pub last-low : n < length marks
  last-low = omega (arith, some, last, length-is before ids marks kept items view)

  -- the last item ends as its mark and the refusal of its place say
  module _ (mark : Mark) (applied : Option Applied) (end : ItemEnd) (at : mark ≡ get_or marks n mark) (same : AreAsBeforeBut n before after) (is : end_in applied (after n) ≡ Some end) where
    pub last-set : items_of after ids (set marks n (with_applied mark applied)) ≡ with_last_end end items
    unfolding with_last_end
    last-set =
        let end_of_items : n ≡ length items - 1 = omega (arith, last, length-is before ids marks kept items view) in
        item-set before after ids marks n mark applied end kept.paired last-low at same is
        ∙ (λ i. set (view i) (end_of_items i) (record (get_or (view i) (end_of_items i) no_item) { end = end }))

    pub kept-set : AreKept after ids (set marks n (with_applied mark applied))
    kept-set =
        let some_end : IsSome (end_in applied (after n)) = subst (λ (e : Option ItemEnd). IsSome e) (sym is) refl in
        let paired : length ids ≡ length (set marks n (with_applied mark applied)) = kept.paired ∙ sym (length-set marks n (with_applied mark applied)) in
        record { paired = paired; ended = ended-set before after marks n mark applied last-low same some_end kept.ended }
