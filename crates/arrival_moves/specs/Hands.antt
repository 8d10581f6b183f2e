-- What a desk has in hand, how one item gives way to others, and sums over all hands.
use Rattle.std.specs.Prelude.{◌≡◌, ℕ, Bool, true, false, ◌&&◌, if◌then◌else◌, List, [], ◌∷◌, ◌++◌}
use Rattle.std.specs.List.{sum_by}
use mathlib.Core.Option.{Option, none, some}
use Rattle.arrival_moves.specs.declared.view.View.{View}
use Rattle.arrival_moves.specs.declared.item.Item.{Item}
use Rattle.arrival_moves.specs.Items.{is_closed}

-- the first item that is meant
abbrev pub find_item : (Item → Bool) → List Item → Option Item
find_item is [] = none
find_item is (x ∷ xs) = if is x then some x else find_item is xs

-- the first item that is meant gives way to others
abbrev pub exchanged : (Item → Bool) → List Item → List Item → List Item
exchanged is ys [] = []
exchanged is ys (x ∷ xs) = if is x then ys ++ xs else x ∷ exchanged is ys xs

abbrev pub is_empty : List Item → Bool
is_empty [] = true
is_empty _ = false

-- nothing is in hand but merged results that were taken out
abbrev pub all_closed : List Item → Bool
all_closed [] = true
all_closed (x ∷ xs) = is_closed x && all_closed xs

-- the sum of a number over the items of a desk
abbrev pub in_hand : (Item → ℕ) → View → ℕ
in_hand f v = sum_by f v.hand

-- and over those of all desks
abbrev pub in_hands : (Item → ℕ) → List View → ℕ
in_hands f vs = sum_by (in_hand f) vs

-- the desk has such an item
abbrev pub HasItem : (Item → Bool) → View → Type 0
HasItem is v = (x : Item) × (find_item is v.hand ≡ some x)
