-- Texts in full: what they name, and what is whole of a clock.
use Rattle.std.proofs.Common.{◌≡◌, ℕ, zero, suc, ◌+◌, ◌≤◌, Bool, true, false, ◌||◌, not, List, [], ◌∷◌, ◌++◌, length, take, drop, refl, ◌∙◌, ap, subst, arith, Some, pos, append-nil, length-drop}
use Rattle.std.proofs.lemmas.List.{take_all}
use Rattle.std.specs.Prelude.{replicate, codes, ◌==◌}
use Rattle.std.specs.List.{list_all, position_or_len}
use Rattle.std.specs.Str.Parse.{AllDigits, signed_digits_value}
use Rattle.std.proofs.lemmas.Bool.{false≢true}
use Rattle.std.proofs.lemmas.Bool.Decides.{nat_tests}
use Rattle.date_spec.specs.Shapes.{has_shape, stands_for}
use Rattle.date_spec.specs.DateTexts.{is_millis, longest_clock, may_leave_off, is_clock, whole_clock, ahead_of, shown_at, begins_offset, clock_length, instant_of_clock, named_instant}
use Rattle.date_spec.proofs.ShapeLemmas.{and_first, and_second, has_shape-length, has_shape-take, has_shape-drop, has_shape-append, digits_of_shape}

-- a clock with all its parts, and three digits of a fraction
abbrev pub whole_shape : List ℕ
whole_shape = codes "0000-00-00T00:00:00.000"

-- the form in which instants are printed
abbrev pub full_shape : List ℕ
full_shape = codes "0000-00-00T00:00:00.000Z"

take-take : (m n : ℕ) (xs : List ℕ) → take m (take n xs) ≡ take n (take m xs)
take-take zero zero xs = refl
take-take zero (suc n) [] = refl
take-take zero (suc n) (x ∷ xs) = refl
take-take (suc m) zero [] = refl
take-take (suc m) zero (x ∷ xs) = refl
take-take (suc m) (suc n) [] = refl
take-take (suc m) (suc n) (x ∷ xs) = ap (λ ys. x ∷ ys) (take-take m n xs)

take-drop : (n : ℕ) (xs : List ℕ) → take n xs ++ drop n xs ≡ xs
take-drop zero xs = refl
take-drop (suc n) [] = refl
take-drop (suc n) (x ∷ xs) = ap (λ ys. x ∷ ys) (take-drop n xs)

-- with what is left out a clock is whole
pub whole_clock-shape : (clock offset : List ℕ) → is_clock clock offset ≡ true → has_shape whole_shape (whole_clock clock) ≡ true
unfolding is_clock whole_clock has_shape
whole_clock-shape clock offset h =
    let front = has_shape-take (take (length clock) longest_clock) clock 23 (and_second (may_leave_off (length clock) (length offset)) _ h) in
    let end = has_shape-drop whole_shape (codes "0000-01-01T00:00:00.000") (length clock) refl in
    let both = has_shape-append (take 23 (take (length clock) longest_clock)) (drop (length clock) whole_shape) (take 23 clock) (drop (length clock) (codes "0000-01-01T00:00:00.000")) front end in
    let shape : take 23 (take (length clock) longest_clock) ++ drop (length clock) whole_shape ≡ whole_shape =
    ap (λ xs. xs ++ drop (length clock) whole_shape) (take-take 23 (length clock) longest_clock) ∙ take-drop (length clock) whole_shape in
    subst (λ s. has_shape s (take 23 clock ++ drop (length clock) (codes "0000-01-01T00:00:00.000")) ≡ true) shape both

-- the digits of a whole clock
pub whole-digits : (clock : List ℕ) (b n : ℕ) → has_shape whole_shape clock ≡ true → take n (drop b whole_shape) ≡ replicate n 48 → AllDigits 10 (take n (drop b clock))
whole-digits clock b n h e =
    digits_of_shape n (take n (drop b clock)) (subst (λ s. has_shape s (take n (drop b clock)) ≡ true) e (has_shape-take (drop b whole_shape) (drop b clock) n (has_shape-drop whole_shape clock b h)))

-- a place at which no offset begins
abbrev pub plain : ℕ → Bool
plain place = (place == 48) || not (begins_offset place)

pub plain_stands : (place c : ℕ) → plain place ≡ true → stands_for place c ≡ true → begins_offset c ≡ false
plain_stands place c p h = grind (arith, nat_tests)

z_stands : (c : ℕ) → stands_for 90 c ≡ true → c ≡ 90
z_stands c h = grind (arith, nat_tests)

-- an offset begins at the `Z` behind plain places
position-of_z : (places cs : List ℕ) → list_all plain places ≡ true → has_shape (places ++ 90 ∷ []) cs ≡ true → position_or_len begins_offset cs ≡ length places
unfolding has_shape
position-of_z [] [] p h = absurd (false≢true h)
position-of_z [] (c ∷ cs) p h = let z = z_stands c (and_first (stands_for 90 c) _ h) in rw z refl
position-of_z (q ∷ qs) [] p h = absurd (false≢true h)
position-of_z (q ∷ qs) (c ∷ cs) p h =
    let here = plain_stands q c (and_first (plain q) _ p) (and_first (stands_for q c) _ h) in
    let rest = position-of_z qs cs (and_second (plain q) _ p) (and_second (stands_for q c) _ h) in
    rw here (omega arith)

position-bound_more : (p : ℕ → Bool) (x : ℕ) (xs : List ℕ) → position_or_len p xs ≤ length xs → position_or_len p (x ∷ xs) ≤ length (x ∷ xs)
position-bound_more p x xs h = grind arith

-- a place in a list, or its length
pub position-bound : (p : ℕ → Bool) (xs : List ℕ) → position_or_len p xs ≤ length xs
position-bound p [] = omega arith
position-bound p (x ∷ xs) = position-bound_more p x xs (position-bound p xs)

full_clock_length : (text : List ℕ) → has_shape full_shape text ≡ true → clock_length text ≡ 23
unfolding clock_length
full_clock_length text h =
    ap (λ n. 10 + n) (position-of_z (codes "T00:00:00.000") (drop 10 text) refl (has_shape-drop full_shape text 10 h))

pub z_alone : (cs : List ℕ) → has_shape (90 ∷ []) cs ≡ true → cs ≡ 90 ∷ []
unfolding has_shape
z_alone [] h = absurd (false≢true h)
z_alone (c ∷ []) h = ap (λ x. x ∷ []) (z_stands c (and_first (stands_for 90 c) _ h))
z_alone (c ∷ d ∷ cs) h = absurd (false≢true (and_second (stands_for 90 c) _ h))

not_millis : (text : List ℕ) → length text ≡ 24 → is_millis text ≡ false
unfolding is_millis
not_millis text h = grind (arith, nat_tests, length-drop)

full_is_clock : (text : List ℕ) → has_shape full_shape text ≡ true → is_clock (take 23 text) (90 ∷ []) ≡ true
unfolding is_clock may_leave_off
full_is_clock text h =
    let shape : has_shape whole_shape (take 23 text) ≡ true = has_shape-take full_shape text 23 h in
    let long : length (take 23 text) ≡ 23 = has_shape-length whole_shape (take 23 text) shape in
    rw long shape

full_whole : (text : List ℕ) → has_shape full_shape text ≡ true → whole_clock (take 23 text) ≡ take 23 text
unfolding whole_clock
full_whole text h =
    let long : length (take 23 text) ≡ 23 = has_shape-length whole_shape (take 23 text) (has_shape-take full_shape text 23 h) in
    rw long (append-nil (take 23 (take 23 text)) ∙ take_all 23 (take 23 text) (omega arith))

pub ahead_of_z : ahead_of (90 ∷ []) ≡ Some (pos 0)
unfolding ahead_of
ahead_of_z = refl

-- a text in full names what its clock shows in UTC
pub named_instant-full : (text : List ℕ) → has_shape full_shape text ≡ true → named_instant text ≡ shown_at (take 23 text) (pos 0)
unfolding named_instant instant_of_clock
named_instant-full text h =
    let long : length text ≡ 24 = has_shape-length full_shape text h in
    rw (not_millis text long, full_clock_length text h, z_alone (drop 23 text) (has_shape-drop full_shape text 23 h), full_is_clock text h, full_whole text h, ahead_of_z) refl

-- digits name their milliseconds
pub named_instant-millis : (text : List ℕ) → is_millis text ≡ true → named_instant text ≡ Some (signed_digits_value 10 text)
unfolding named_instant
named_instant-millis text h = rw h refl

-- and any other text what a clock and an offset name
pub named_instant-clock : (text : List ℕ) → is_millis text ≡ false → named_instant text ≡ instant_of_clock (take (clock_length text) text) (drop (clock_length text) text)
unfolding named_instant
named_instant-clock text h = rw h refl
