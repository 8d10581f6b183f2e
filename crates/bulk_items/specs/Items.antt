-- The items of a bulk response, by their ids and marks, and by the refusals of some places.
use Rattle.std.specs.Prelude.{◌≡◌, ◌-◌, ℕ, suc, List, [], ◌∷◌, Option, None, Some, IsSome, ⊤, length, slice_set}
use Rattle.std.specs.BTreeMap.{BTreeMap, get}
use Rattle.std.specs.List.{slice_index_or}
use Rattle.std.specs.Option.{unwrap_or}
use Rattle.std.specs.Ordering.{nat_cmp}
use Rattle.agg_model.specs.declared.bulk.ActionKind.{ActionKind}
use Rattle.agg_model.specs.declared.bulk.ActionKind.TheVariants as kind
use Rattle.agg_model.specs.declared.bulk.Applied.{Applied}
use Rattle.agg_model.specs.declared.bulk.Applied.TheVariants as applied
use Rattle.agg_model.specs.declared.bulk.Item.{Item}
use Rattle.agg_model.specs.declared.bulk.ItemEnd.{ItemEnd}
use Rattle.agg_model.specs.declared.bulk.ItemEnd.TheVariants as end
use Rattle.agg_model.specs.declared.bulk.ItemRefusal.{ItemRefusal}
use Rattle.bulk_items.specs.declared.items.EndView.{EndView}
use Rattle.bulk_items.specs.declared.items.EndView.TheVariants as view
use Rattle.bulk_items.specs.declared.items.Mark.{Mark}

-- an item of these parts
abbrev pub item_of : ActionKind → List ℕ → ItemEnd → Item
item_of kind id end = record { kind = kind; id = id; end = end }

-- an item that is none of a list's
abbrev pub no_item : Item
no_item = item_of kind.Index [] (end.Applied applied.Created)

-- the item at a place
abbrev pub item_at : List Item → ℕ → Item
item_at items place = slice_index_or items place no_item

-- the items where the last ended so
unfoldable pub with_last_end : ItemEnd → List Item → List Item
with_last_end end items = let last = length items - 1 in slice_set items last (record (item_at items last) { end = end })

-- the end that is seen there
abbrev pub end_of : EndView → ItemEnd
end_of (view.Applied applied) = end.Applied applied
end_of (view.Refused refusal) = end.Refused refusal.now

-- the refusal of a place, where its action was refused
abbrev pub refusal_in : BTreeMap ℕ ItemRefusal → ℕ → Option ItemRefusal
refusal_in refusals place = get nat_cmp refusals place

-- an end by what the action did, and by the refusal that is kept where it did nothing
abbrev pub end_in : Option Applied → Option ItemRefusal → Option ItemEnd
end_in (Some applied) refusal = Some (end.Applied applied)
end_in None (Some refusal) = Some (end.Refused refusal)
end_in None None = None

-- the item of an id and a mark, with this refusal
abbrev pub item_in : Option ItemRefusal → List ℕ → Mark → Item
item_in refusal id mark = item_of mark.kind id (unwrap_or (end_in mark.applied refusal) no_item.end)

-- the items of ids and marks side by side, with the refusals of their places
unfoldable pub items_of : (ℕ → Option ItemRefusal) → List (List ℕ) → List Mark → List Item
items_of refusal [] marks = []
items_of refusal (id ∷ ids) [] = []
items_of refusal (id ∷ ids) (mark ∷ marks) = item_in (refusal 0) id mark ∷ items_of (λ place. refusal (suc place)) ids marks

-- each that was not applied has a refusal
unfoldable pub HaveEnded : (ℕ → Option ItemRefusal) → List Mark → Type 0
HaveEnded refusal [] = ⊤
HaveEnded refusal (mark ∷ marks) = IsSome (end_in mark.applied (refusal 0)) × HaveEnded (λ place. refusal (suc place)) marks

-- each id has a mark, and each mark an end
pub record AreKept (refusal : ℕ → Option ItemRefusal) (ids : List (List ℕ)) (marks : List Mark) : Type 0 where
  pub paired : length ids ≡ length marks
  pub ended : HaveEnded refusal marks
