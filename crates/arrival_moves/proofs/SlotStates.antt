-- What state a slot is in, and lists of slots one of which changes.
use Rattle.std.proofs.Common.{◌≡◌, ◌≢◌, ℕ, zero, suc, ◌+◌, ◌<◌, ◌≤◌, ⊎_elim, replicate, List, [], ◌∷◌, length, set, sym, refl, ap, ◌∙◌, arith}
use mathlib.Core.Option.{some, some-injective, some-ne-none}
use lib.ListN.{get_elem?}
use Rattle.arrival_moves.specs.declared.label.Label.{Label}
use Rattle.arrival_moves.specs.Slots.{Slot, fresh, reached, holds, emptied, in_slot, was_put}
use Rattle.list_laws.proofs.Places.{at_set}

-- 1 where a desk is at the slot to put something
abbrev pub is_reached : Slot → ℕ
is_reached reached = 1
is_reached _ = 0

-- 1 where something lies in it
abbrev pub is_full : Slot → ℕ
is_full (holds l) = 1
is_full _ = 0

-- 1 where what lay in it was taken out
abbrev pub was_emptied : Slot → ℕ
was_emptied emptied = 1
was_emptied _ = 0

-- a slot into which nothing was put was not emptied
pub not_emptied : (y : Slot) → was_put y ≡ 0 → was_emptied y ≡ 0
not_emptied fresh h = refl
not_emptied reached h = refl
not_emptied (holds l) h = refl
not_emptied emptied h = h

-- and holds nothing
pub holds_none : (f : Label → ℕ) (y : Slot) → was_put y ≡ 0 → in_slot f y ≡ 0
holds_none f fresh h = refl
holds_none f reached h = refl
holds_none f (holds l) h = absurd (omega arith)
holds_none f emptied h = refl

-- nor does one that was emptied
pub emptied_none : (f : Label → ℕ) (y : Slot) → was_emptied y ≡ 1 → in_slot f y ≡ 0
emptied_none f fresh h = absurd (omega arith)
emptied_none f reached h = absurd (omega arith)
emptied_none f (holds l) h = absurd (omega arith)
emptied_none f emptied h = refl

-- what is neither put nor reached is fresh
pub none_but : (y : Slot) → was_put y ≡ 0 → is_reached y ≡ 0 → y ≡ fresh
none_but fresh h k = refl
none_but reached h k = absurd (omega arith)
none_but (holds l) h k = absurd (omega arith)
none_but emptied h k = absurd (omega arith)

-- nothing lies in a slot that a desk is at
pub put_or_reached : (y : Slot) → was_put y + is_reached y ≤ 1
put_or_reached fresh = omega arith
put_or_reached reached = omega arith
put_or_reached (holds l) = omega arith
put_or_reached emptied = omega arith

-- what was put and not emptied is full
pub full_slot : (xs : List Slot) (j : ℕ) (y : Slot) → get_elem? xs j ≡ some y → was_put y ≡ 1 → was_emptied y ≡ 0 → (l : Label) × (get_elem? xs j ≡ some (holds l))
full_slot xs j fresh e h k = absurd (omega arith)
full_slot xs j reached e h k = absurd (omega arith)
full_slot xs j (holds l) e h k = (l, e)
full_slot xs j emptied e h k = absurd (omega arith)

-- so is a slot whose number is not 0
pub full_of : (f : Label → ℕ) (y : Slot) → 1 ≤ in_slot f y → (l : Label) × (y ≡ holds l) × (1 ≤ f l)
full_of f fresh h = absurd (omega arith)
full_of f reached h = absurd (omega arith)
full_of f (holds l) h = (l, refl, h)
full_of f emptied h = absurd (omega arith)

-- each slot of a list counts as itself
pub alike_here : (m : Slot → ℕ) (xs : List Slot) (i : ℕ) (x : Slot) → get_elem? xs i ≡ some x → (w : Slot) × (get_elem? xs i ≡ some w) × (m x ≡ m w)
alike_here m xs i x e = (x, e, refl)

-- a slot changes from y to z, which count alike
pub alike_set : (m : Slot → ℕ) (xs : List Slot) (j : ℕ) (y z : Slot) → get_elem? xs j ≡ some y → m z ≡ m y → (i : ℕ) (x : Slot) → get_elem? (set xs j z) i ≡ some x → (w : Slot) × (get_elem? xs i ≡ some w) × (m x ≡ m w)
alike_set m xs j y z here same i x e = ⊎_elim (λ (q : (i ≡ j) × (z ≡ x)). (y, ap (get_elem? xs) q.0 ∙ here, ap m (sym q.1) ∙ same)) (λ (q : (i ≢ j) × (get_elem? xs i ≡ some x)). (x, q.1, refl)) (at_set xs j i z x e)

-- there is a slot below their number
pub has_slot : (xs : List Slot) (j : ℕ) → j < length xs → (x : Slot) × (get_elem? xs j ≡ some x)
has_slot [] j h = absurd (omega arith)
has_slot (x ∷ xs) zero h = (x, refl)
has_slot (x ∷ xs) (suc j) h = has_slot xs j (omega arith)

-- at the opening all are fresh
pub first_slot : (n j : ℕ) (x : Slot) → get_elem? (replicate n fresh) j ≡ some x → fresh ≡ x
first_slot zero j x e = absurd (some-ne-none x (sym e))
first_slot (suc n) zero x e = some-injective fresh x e
first_slot (suc n) (suc j) x e = first_slot n j x e
