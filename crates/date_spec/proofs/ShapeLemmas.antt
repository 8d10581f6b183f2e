-- Texts of a shape: their length, their parts, and the digits in them.
use Rattle.std.proofs.Common.{◌≡◌, ℕ, zero, suc, ◌+◌, ◌<◌, Bool, true, false, ◌&&◌, List, [], ◌∷◌, ◌++◌, length, get_or, take, drop, refl, ap, arith}
use Rattle.std.specs.Prelude.{replicate, zip}
use Rattle.std.specs.Char.{is_ascii_digit, digit_value}
use Rattle.std.specs.List.{list_all}
use Rattle.std.specs.Str.Parse.{AllDigits}
use Rattle.std.proofs.lemmas.Bool.{false≢true}
use Rattle.std.proofs.lemmas.Bool.Decides.{nat_tests}
use Rattle.date_spec.specs.Shapes.{has_shape, stands_for}

-- the first of two tests that are true, and the second
pub and_first : (a b : Bool) → (a && b) ≡ true → a ≡ true
and_first true b h = refl
and_first false b h = h

pub and_second : (a b : Bool) → (a && b) ≡ true → b ≡ true
and_second true b h = h
and_second false b h = absurd (false≢true h)

pub and_both : (a b : Bool) → a ≡ true → b ≡ true → (a && b) ≡ true
and_both true b h g = g
and_both false b h g = h

-- a shape is told place by place
pub has_shape-zip : (places cs : List ℕ) → length cs ≡ length places → list_all (λ p. stands_for p.0 p.1) (zip places cs) ≡ has_shape places cs
unfolding has_shape
has_shape-zip [] [] h = refl
has_shape-zip [] (c ∷ cs) h = absurd (omega arith)
has_shape-zip (p ∷ ps) [] h = absurd (omega arith)
has_shape-zip (p ∷ ps) (c ∷ cs) h = ap (λ b. stands_for p c && b) (has_shape-zip ps cs (omega arith))

pub has_shape-length : (places cs : List ℕ) → has_shape places cs ≡ true → length cs ≡ length places
unfolding has_shape
has_shape-length [] [] h = refl
has_shape-length [] (c ∷ cs) h = absurd (false≢true h)
has_shape-length (p ∷ ps) [] h = absurd (false≢true h)
has_shape-length (p ∷ ps) (c ∷ cs) h = let rest = has_shape-length ps cs (and_second (stands_for p c) _ h) in omega arith

-- a text of another length has another shape
pub has_shape-apart : (places cs : List ℕ) → (length cs ≡ length places → ⊥) → has_shape places cs ≡ false
unfolding has_shape
has_shape-apart [] [] h = absurd (h refl)
has_shape-apart [] (c ∷ cs) h = refl
has_shape-apart (p ∷ ps) [] h = refl
has_shape-apart (p ∷ ps) (c ∷ cs) h = has_shape-apart_more p c ps cs (has_shape-apart ps cs (λ e. h (omega arith)))
  where
    has_shape-apart_more : (p c : ℕ) (ps cs : List ℕ) → has_shape ps cs ≡ false → (stands_for p c && has_shape ps cs) ≡ false
    has_shape-apart_more p c ps cs e = rw e (and_false (stands_for p c))
      where
        and_false : (b : Bool) → (b && false) ≡ false
        and_false true = refl
        and_false false = refl

pub has_shape-take : (places cs : List ℕ) (n : ℕ) → has_shape places cs ≡ true → has_shape (take n places) (take n cs) ≡ true
unfolding has_shape
has_shape-take places cs zero h = refl
has_shape-take [] [] (suc n) h = refl
has_shape-take [] (c ∷ cs) (suc n) h = absurd (false≢true h)
has_shape-take (p ∷ ps) [] (suc n) h = absurd (false≢true h)
has_shape-take (p ∷ ps) (c ∷ cs) (suc n) h =
    and_both (stands_for p c) _ (and_first (stands_for p c) _ h) (has_shape-take ps cs n (and_second (stands_for p c) _ h))

pub has_shape-drop : (places cs : List ℕ) (n : ℕ) → has_shape places cs ≡ true → has_shape (drop n places) (drop n cs) ≡ true
unfolding has_shape
has_shape-drop places cs zero h = h
has_shape-drop [] [] (suc n) h = refl
has_shape-drop [] (c ∷ cs) (suc n) h = absurd (false≢true h)
has_shape-drop (p ∷ ps) [] (suc n) h = absurd (false≢true h)
has_shape-drop (p ∷ ps) (c ∷ cs) (suc n) h = has_shape-drop ps cs n (and_second (stands_for p c) _ h)

pub has_shape-append : (places others cs ds : List ℕ) → has_shape places cs ≡ true → has_shape others ds ≡ true → has_shape (places ++ others) (cs ++ ds) ≡ true
unfolding has_shape
has_shape-append [] others [] ds h g = g
has_shape-append [] others (c ∷ cs) ds h g = absurd (false≢true h)
has_shape-append (p ∷ ps) others [] ds h g = absurd (false≢true h)
has_shape-append (p ∷ ps) others (c ∷ cs) ds h g =
    and_both (stands_for p c) _ (and_first (stands_for p c) _ h) (has_shape-append ps others cs ds (and_second (stands_for p c) _ h) g)

digit_of : (c : ℕ) → is_ascii_digit c ≡ true → digit_value c < 10
digit_of c h = grind (arith, nat_tests)

-- a text of digits alone
pub digits_of_shape : (n : ℕ) (cs : List ℕ) → has_shape (replicate n 48) cs ≡ true → AllDigits 10 cs
unfolding has_shape
digits_of_shape zero [] h = tt
digits_of_shape zero (c ∷ cs) h = absurd (false≢true h)
digits_of_shape (suc n) [] h = tt
digits_of_shape (suc n) (c ∷ cs) h =
    (digit_of c (and_first (stands_for 48 c) _ h), digits_of_shape n cs (and_second (stands_for 48 c) _ h))

-- each place of a text that has the shape
pub has_shape-at : (places cs : List ℕ) (i : ℕ) → i < length places → has_shape places cs ≡ true → stands_for (get_or places i 0) (get_or cs i 0) ≡ true
unfolding has_shape
has_shape-at [] cs i l h = absurd (omega arith)
has_shape-at (p ∷ ps) [] i l h = absurd (false≢true h)
has_shape-at (p ∷ ps) (c ∷ cs) zero l h = and_first (stands_for p c) _ h
has_shape-at (p ∷ ps) (c ∷ cs) (suc i) l h = has_shape-at ps cs i (omega arith) (and_second (stands_for p c) _ h)

-- no place before the first
pub has_shape_none : (places cs : List ℕ) → has_shape (take 0 places) (take 0 cs) ≡ true
unfolding has_shape
has_shape_none places cs = refl

-- one place more
pub has_shape_more : (places cs : List ℕ) (i : ℕ) → i < length places → i < length cs → has_shape (take i places) (take i cs) ≡ true → stands_for (get_or places i 0) (get_or cs i 0) ≡ true → has_shape (take (i + 1) places) (take (i + 1) cs) ≡ true
unfolding has_shape
has_shape_more [] cs i l m h g = absurd (omega arith)
has_shape_more (p ∷ ps) [] i l m h g = absurd (omega arith)
has_shape_more (p ∷ ps) (c ∷ cs) zero l m h g = and_both (stands_for p c) _ g refl
has_shape_more (p ∷ ps) (c ∷ cs) (suc i) l m h g =
    let one : suc i + 1 ≡ suc (i + 1) = omega arith in
    rw one (and_both (stands_for p c) _ (and_first (stands_for p c) _ h) (has_shape_more ps cs i (omega arith) (omega arith) (and_second (stands_for p c) _ h) g))
