-- A move either leaves the state as it is or does what its desk may do; and what an exchange in a hand does to each sum.
use Rattle.std.proofs.Common.{◌≡◌, ℕ, ◌+◌, Bool, true, false, cond, List, [], ◌∷◌, ◌++◌, set, sym, refl, ap, ◌∙◌, subst, arith}
use mathlib.Core.Option.{Option, none, some, some-injective, some-ne-none}
use lib.ListN.{get_elem?}
use Rattle.std.specs.List.{sum_by}
use Rattle.std.proofs.lemmas.List.Sums.{sum_by-cons, sum_by-append}
use Rattle.arrival_moves.specs.Hands.{find_item, exchanged, in_hand, in_hands}
use Rattle.arrival_moves.specs.Moves.{ArrivalState, move_some, move_desk, move_found, move_item, move_label}
use Rattle.arrival_moves.specs.Slots.{Slot, fresh, reached, holds, emptied}
use Rattle.arrival_moves.specs.declared.item.Item.{Item}
use Rattle.arrival_moves.specs.declared.label.Label.{Label}
use Rattle.arrival_moves.specs.declared.view.View.{View}
use Rattle.list_laws.proofs.PlaceSums.{sum_by_set}

-- a state by a guard
by_bool : (P : ArrivalState → Type 0) (s t : ArrivalState) (b : Bool) → P s → (b ≡ true → P t) → P (cond b t s)
by_bool P s t true h k = k refl
by_bool P s t false h k = h

-- a state by whether the desk is there and may move
by_option : (P : ArrivalState → Type 0) (s : ArrivalState) (may : View → Bool) (act : View → ArrivalState) (o : Option View) → P s → ((v : View) → o ≡ some v → may v ≡ true → P (act v)) → P (move_some s may act o)
by_option P s may act none h k = h
by_option P s may act (some v) h k = by_bool P s (act v) (may v) h (k v refl)

-- a state by whether the item is there and may move
by_found : (P : ArrivalState → Type 0) (s : ArrivalState) (may : Item → Bool) (act : Item → ArrivalState) (o : Option Item) → P s → ((x : Item) → o ≡ some x → may x ≡ true → P (act x)) → P (move_found s may act o)
by_found P s may act none h k = h
by_found P s may act (some x) h k = by_bool P s (act x) (may x) h (k x refl)

-- a state by whether the slot is full
pub by_label : (P : ArrivalState → Type 0) (s : ArrivalState) (act : Label → ArrivalState) (o : Option Slot) → P s → ((l : Label) → o ≡ some (holds l) → P (act l)) → P (move_label s act o)
unfolding move_label
by_label P s act none h k = h
by_label P s act (some fresh) h k = h
by_label P s act (some reached) h k = h
by_label P s act (some emptied) h k = h
by_label P s act (some (holds l)) h k = k l refl

-- what holds before a desk's move holds after it, where it holds after what the desk does
pub desk_keeps : (P : ArrivalState → Type 0) (s : ArrivalState) (i : ℕ) (may : View → Bool) (act : View → ArrivalState) → P s → ((v : View) → get_elem? s.desks i ≡ some v → may v ≡ true → P (act v)) → P (move_desk s i may act)
unfolding move_desk
desk_keeps P s i may act h k = by_option P s may act (get_elem? s.desks i) h k

-- the same of a desk's move with one of its items
pub item_keeps : (P : ArrivalState → Type 0) (s : ArrivalState) (i : ℕ) (is : Item → Bool) (may : View → Item → Bool) (act : View → Item → ArrivalState) → P s
    → ((v : View) → get_elem? s.desks i ≡ some v → (x : Item) → find_item is v.hand ≡ some x → may v x ≡ true → P (act v x)) → P (move_item s i is may act)
unfolding move_item
item_keeps P s i is may act h k = desk_keeps P s i (λ _. true) (λ v. move_found s (may v) (act v) (find_item is v.hand)) h (λ v e _. by_found P s (may v) (act v) (find_item is v.hand) h (k v e))

-- the item that is found is one that is meant
found_head : (is : Item → Bool) (y x : Item) (o : Option Item) (b : Bool) → is y ≡ b → cond b (some y) o ≡ some x → (o ≡ some x → is x ≡ true) → is x ≡ true
found_head is y x o true e f k = subst (λ z. is z ≡ true) (some-injective y x f) e
found_head is y x o false e f k = k f

-- the item that is found is meant
pub found_is : (is : Item → Bool) (xs : List Item) (x : Item) → find_item is xs ≡ some x → is x ≡ true
found_is is [] x e = absurd (some-ne-none x (sym e))
found_is is (y ∷ xs) x e = found_head is y x (find_item is xs) (is y) refl e (found_is is xs x)

exchanged_head : (f : Item → ℕ) (is : Item → Bool) (ys xs : List Item) (y x : Item) (b : Bool) → cond b (some y) (find_item is xs) ≡ some x
    → (find_item is xs ≡ some x → sum_by f (exchanged is ys xs) + f x ≡ sum_by f xs + sum_by f ys)
    → sum_by f (cond b (ys ++ xs) (y ∷ exchanged is ys xs)) + f x ≡ sum_by f (y ∷ xs) + sum_by f ys
exchanged_head f is ys xs y x true e k = let a = sum_by-append f ys xs in let c = sum_by-cons f y xs in let d : f y ≡ f x = ap f (some-injective y x e) in omega arith
exchanged_head f is ys xs y x false e k = let r = k e in let a = sum_by-cons f y (exchanged is ys xs) in let c = sum_by-cons f y xs in omega arith

-- an exchange takes one item's number and adds those of the others
pub exchanged_sum : (f : Item → ℕ) (is : Item → Bool) (ys xs : List Item) (x : Item) → find_item is xs ≡ some x → sum_by f (exchanged is ys xs) + f x ≡ sum_by f xs + sum_by f ys
exchanged_sum f is ys [] x e = absurd (some-ne-none x (sym e))
exchanged_sum f is ys (y ∷ xs) x e = exchanged_head f is ys xs y x (is y) e (exchanged_sum f is ys xs x)

-- one item of one desk gives way to others
pub hands_exchanged : (f : Item → ℕ) (vs : List View) (i : ℕ) (v w : View) (is : Item → Bool) (ys : List Item) (x : Item) → get_elem? vs i ≡ some v → find_item is v.hand ≡ some x → w.hand ≡ exchanged is ys v.hand
    → in_hands f (set vs i w) + f x ≡ in_hands f vs + sum_by f ys
hands_exchanged f vs i v w is ys x here found hand = let a = sum_by_set (in_hand f) vs i v w here in let b = exchanged_sum f is ys v.hand x found in let c : sum_by f w.hand ≡ sum_by f (exchanged is ys v.hand) = ap (sum_by f) hand in omega arith

-- a desk that has an item has drawn a task
pub not_idle : (is : Item → Bool) (v : View) (x : Item) → find_item is v.hand ≡ some x → (v.drawn ≡ 0 → v.hand ≡ []) → v.drawn ≡ 0 → ⊥
not_idle is v x found idle zero = some-ne-none x (sym found ∙ ap (find_item is) (idle zero))

-- after an exchange for one item that is meant too, that one is found, and a second exchange is as one
find_again_head : (is : Item → Bool) (y x z : Item) (xs : List Item) (b : Bool) → is z ≡ b → is y ≡ true → cond b (some z) (find_item is xs) ≡ some x → (find_item is xs ≡ some x → find_item is (exchanged is (y ∷ []) xs) ≡ some y) → find_item is (cond b (y ∷ xs) (z ∷ exchanged is (y ∷ []) xs)) ≡ some y
find_again_head is y x z xs true e f g k = ap (λ c. cond c (some y) (find_item is xs)) f
find_again_head is y x z xs false e f g k = ap (λ c. cond c (some z) (find_item is (exchanged is (y ∷ []) xs))) e ∙ k g

-- the item that was put in another's place is found there
pub find_again : (is : Item → Bool) (y x : Item) (xs : List Item) → is y ≡ true → find_item is xs ≡ some x → find_item is (exchanged is (y ∷ []) xs) ≡ some y
find_again is y x [] f g = absurd (some-ne-none x (sym g))
find_again is y x (z ∷ xs) f g = find_again_head is y x z xs (is z) refl f g (find_again is y x xs f)

exchanged_again_head : (is : Item → Bool) (y x z : Item) (ys xs : List Item) (b : Bool) → is z ≡ b → is y ≡ true → cond b (some z) (find_item is xs) ≡ some x → (find_item is xs ≡ some x → exchanged is ys (exchanged is (y ∷ []) xs) ≡ exchanged is ys xs)
    → exchanged is ys (cond b (y ∷ xs) (z ∷ exchanged is (y ∷ []) xs)) ≡ cond b (ys ++ xs) (z ∷ exchanged is ys xs)
exchanged_again_head is y x z ys xs true e f g k = ap (λ c. cond c (ys ++ xs) (y ∷ exchanged is ys xs)) f
exchanged_again_head is y x z ys xs false e f g k = ap (λ c. cond c (ys ++ exchanged is (y ∷ []) xs) (z ∷ exchanged is ys (exchanged is (y ∷ []) xs))) e ∙ ap (λ ws. z ∷ ws) (k g)

-- two exchanges in one place are the second alone
pub exchanged_again : (is : Item → Bool) (y x : Item) (ys xs : List Item) → is y ≡ true → find_item is xs ≡ some x → exchanged is ys (exchanged is (y ∷ []) xs) ≡ exchanged is ys xs
exchanged_again is y x ys [] f g = refl
exchanged_again is y x ys (z ∷ xs) f g = exchanged_again_head is y x z ys xs (is z) refl f g (exchanged_again is y x ys xs f)
