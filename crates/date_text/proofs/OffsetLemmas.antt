-- Offsets by their parts.
use Rattle.std.proofs.Common.{◌≡◌, ℕ, ◌+◌, ◌-◌, ◌*◌, ◌<◌, ◌≤◌, Bool, true, false, ◌||◌, List, [], ◌∷◌, length, take, drop, refl, sym, ◌∙◌, ap, arith, Some, None, pos, neg_ℤ}
use Rattle.std.specs.Prelude.{if◌then◌else◌, Option, codes}
use Rattle.std.specs.Str.Parse.{AllDigits, digits_value}
use Rattle.std.proofs.lemmas.Bool.{false≢true}
use Rattle.std.proofs.lemmas.List.{take_all, length-drop}
use Rattle.date_spec.proofs.ShapeLemmas.{has_shape-length, has_shape-take, has_shape-drop, digits_of_shape}
use Rattle.std.proofs.lemmas.Bool.Decides.{nat_tests}
use Rattle.date_spec.specs.Shapes.{has_shape, number_at}
use Rattle.date_spec.specs.DateTexts.{beside_hours, minutes_of, is_offset, ahead_of}
use Rattle.date_text.specs.Parts.{parts_of}

abbrev Pair : Type 0
Pair = ℕ × ℕ

abbrev first_of_pair : Option Pair → ℕ
first_of_pair None = 0
first_of_pair (Some p) = p.0

abbrev second_of_pair : Option Pair → ℕ
second_of_pair None = 0
second_of_pair (Some p) = p.1

some_pair : (b : Bool) (x y h m : ℕ) → ◌≡◌ {A = Option Pair} (Some (h, m)) (if b then Some (x, y) else None) → (b ≡ true) × (h ≡ x) × (m ≡ y)
some_pair true x y h m e = (refl, ap (λ o. first_of_pair o) e, ap (λ o. second_of_pair o) e)
some_pair false x y h m e = cc

none_pair : (b : Bool) (x y : ℕ) → ◌≡◌ {A = Option Pair} None (if b then Some (x, y) else None) → b ≡ false
none_pair true x y e = cc
none_pair false x y e = refl

pair_if : (b : Bool) (x y h m : ℕ) → b ≡ true → h ≡ x → m ≡ y → ◌≡◌ {A = Option Pair} (Some (h, m)) (if b then Some (x, y) else None)
pair_if true x y h m b e f = rw (e, f) refl
pair_if false x y h m b e f = absurd (false≢true b)

or_true : (b : Bool) → (b || true) ≡ true
or_true true = refl
or_true false = refl

-- the digits of the end
pub end_digits : (shape offset : List ℕ) (b : ℕ) → has_shape shape offset ≡ true → drop b shape ≡ 48 ∷ 48 ∷ [] → AllDigits 10 (take (length offset - b) (drop b offset))
end_digits shape offset b h e =
    let ends : has_shape (48 ∷ 48 ∷ []) (drop b offset) ≡ true = rw e at (has_shape-drop shape offset b h) in
    rw (take_all (length offset - b) (drop b offset) (omega (arith, length-drop b offset))) (digits_of_shape 2 (drop b offset) ends)

pub front_digits : (shape offset : List ℕ) → has_shape shape offset ≡ true → take 2 shape ≡ 48 ∷ 48 ∷ [] → AllDigits 10 (take 2 offset)
front_digits shape offset h e =
    let front : has_shape (48 ∷ 48 ∷ []) (take 2 offset) ≡ true = rw e at (has_shape-take shape offset 2 h) in
    digits_of_shape 2 (take 2 offset) front

pub hours_only : (offset : List ℕ) (n : ℕ) → has_shape (codes "00") offset ≡ true → n ≡ digits_value 10 offset → ◌≡◌ {A = Option Pair} (Some (n, 0)) (parts_of offset)
hours_only offset n h e =
    let long : length offset ≡ 2 = has_shape-length (codes "00") offset h in
    pair_if _ (number_at 0 2 offset) (beside_hours offset) n 0 (rw h refl) (e ∙ ap (digits_value 10) (sym (take_all 2 offset (omega arith)))) (rw long refl)

pub hours_and_minutes : (offset : List ℕ) (n m : ℕ) → has_shape (codes "0000") offset ≡ true → n ≡ digits_value 10 (take 2 offset) → m ≡ digits_value 10 (take (length offset - 2) (drop 2 offset)) → ◌≡◌ {A = Option Pair} (Some (n, m)) (parts_of offset)
hours_and_minutes offset n m h e f =
    let long : length offset ≡ 4 = has_shape-length (codes "0000") offset h in
    pair_if _ (number_at 0 2 offset) (beside_hours offset) n m (rw h (or_true (has_shape (codes "00") offset))) e (rw long (rw long at f))

pub hours_colon_minutes : (offset : List ℕ) (n m : ℕ) → has_shape (codes "00:00") offset ≡ true → n ≡ digits_value 10 (take 2 offset) → m ≡ digits_value 10 (take (length offset - 3) (drop 3 offset)) → ◌≡◌ {A = Option Pair} (Some (n, m)) (parts_of offset)
hours_colon_minutes offset n m h e f =
    let long : length offset ≡ 5 = has_shape-length (codes "00:00") offset h in
    pair_if _ (number_at 0 2 offset) (beside_hours offset) n m (rw h (ap (λ b. has_shape (codes "00") offset || b) (or_true (has_shape (codes "0000") offset)) ∙ or_true (has_shape (codes "00") offset))) e (rw long (rw long at f))

-- a text of no such shape is no offset
pub no_parts : (offset : List ℕ) → ◌≡◌ {A = Option Pair} None (parts_of offset) → None ≡ (if is_offset offset then Some (minutes_of offset) else None)
unfolding is_offset
no_parts offset e = rw (none_pair _ (number_at 0 2 offset) (beside_hours offset) e) refl

-- and else its minutes tell
pub in_range : (offset : List ℕ) (h m : ℕ) → ◌≡◌ {A = Option Pair} (Some (h, m)) (parts_of offset) → m < 60 → h * 60 + m ≤ 1080 → Some (h * 60 + m) ≡ (if is_offset offset then Some (minutes_of offset) else None)
unfolding is_offset minutes_of
in_range offset h m e few most =
    let p = some_pair _ (number_at 0 2 offset) (beside_hours offset) h m e in
    rw (p.0, ← p.1, ← p.2) (grind (arith, nat_tests))

pub beyond : (offset : List ℕ) (h m : ℕ) → ◌≡◌ {A = Option Pair} (Some (h, m)) (parts_of offset) → (m < 60 → 1080 < h * 60 + m) → None ≡ (if is_offset offset then Some (minutes_of offset) else None)
unfolding is_offset minutes_of
beyond offset h m e most =
    let p = some_pair _ (number_at 0 2 offset) (beside_hours offset) h m e in
    rw (p.0, ← p.1, ← p.2) (grind (arith, nat_tests))

no_if : (b : Bool) (x : ℕ) → None ≡ (if b then Some x else None) → b ≡ false
no_if true x e = cc
no_if false x e = refl

is_if : (b : Bool) (x m : ℕ) → Some m ≡ (if b then Some x else None) → (b ≡ true) × (m ≡ x)
is_if true x m e = (refl, cc)
is_if false x m e = cc

-- what a sign says of the minutes behind it
pub lone_z : Some (pos 0) ≡ ahead_of (90 ∷ [])
unfolding ahead_of
lone_z = refl

pub lone_other : (sign : ℕ) → (sign ≡ 90 → ⊥) → None ≡ ahead_of (sign ∷ [])
unfolding ahead_of is_offset has_shape
lone_other sign h = grind (arith, nat_tests)

pub no_offset : (sign : ℕ) (hours : List ℕ) → 0 < length hours → None ≡ (if is_offset hours then Some (minutes_of hours) else None) → None ≡ ahead_of (sign ∷ hours)
unfolding ahead_of
no_offset sign hours some e = let no = no_if (is_offset hours) (minutes_of hours) e in rw no (grind (arith, nat_tests))

pub plus : (hours : List ℕ) (m : ℕ) → Some m ≡ (if is_offset hours then Some (minutes_of hours) else None) → Some (pos (m * 60_000)) ≡ ahead_of (43 ∷ hours)
unfolding ahead_of
plus hours m e = let is = is_if (is_offset hours) (minutes_of hours) m e in rw (is.0, is.1) refl

pub minus : (hours : List ℕ) (m : ℕ) → Some m ≡ (if is_offset hours then Some (minutes_of hours) else None) → Some (neg_ℤ (pos (m * 60_000))) ≡ ahead_of (45 ∷ hours)
unfolding ahead_of
minus hours m e = let is = is_if (is_offset hours) (minutes_of hours) m e in rw (is.0, is.1) refl

pub no_sign : (sign : ℕ) (hours : List ℕ) → 0 < length hours → (sign ≡ 43 → ⊥) → (sign ≡ 45 → ⊥) → None ≡ ahead_of (sign ∷ hours)
unfolding ahead_of
no_sign sign hours some p m = grind (arith, nat_tests)

pub none_at_all : Some (pos 0) ≡ ahead_of []
unfolding ahead_of
none_at_all = refl

pub empty : (xs : List ℕ) → length xs ≡ 0 → xs ≡ []
empty [] h = refl
empty (x ∷ xs) h = absurd (omega arith)
