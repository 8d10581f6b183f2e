-- Tests: both of two, one of two, and what a test says as a fact.
use Rattle.std.specs.Prelude.{◌≡◌, refl, Bool, true, false, ◌&&◌, ◌||◌, T}
use Rattle.std.proofs.Common.{sym, subst}

-- the first of two tests that hold
pub and_left : (a b : Bool) → T (a && b) → T a
and_left true b h = tt
and_left false b h = h

-- the second of two tests that hold
pub and_right : (a b : Bool) → T (a && b) → T b
and_right true b h = h
and_right false b h = absurd h

-- two tests that hold, together
pub both : (a b : Bool) → T a → T b → T (a && b)
both true b h g = g
both false b h g = h

-- the first of two tests that are true
pub and_first : (a b : Bool) → (a && b) ≡ true → a ≡ true
and_first true b h = refl
and_first false b h = h

-- the second of two tests that are true
pub and_second : (a b : Bool) → (a && b) ≡ true → b ≡ true
and_second true b h = h
and_second false b h = absurd (subst T (sym h) tt)

-- two tests that are true, together
pub and_both : (a b : Bool) → a ≡ true → b ≡ true → (a && b) ≡ true
and_both true b h g = g
and_both false b h g = h

-- a test that holds is true
pub true_is : (b : Bool) → T b → b ≡ true
true_is true h = refl
true_is false h = absurd h

-- a test that is true holds
pub holds : (b : Bool) → b ≡ true → T b
holds b e = subst T (sym e) tt

-- tests of which each follows from the other are one
pub same_truth : (a b : Bool) → (T a → T b) → (T b → T a) → a ≡ b
same_truth true true f g = refl
same_truth true false f g = absurd (f tt)
same_truth false true f g = absurd (g tt)
same_truth false false f g = refl

-- one of two tests, where the first holds
pub or_left : (a b : Bool) → T a → T (a || b)
or_left true b h = tt
or_left false b h = absurd h

-- one of two tests, where the second holds
pub or_right : (a b : Bool) → T b → T (a || b)
or_right true b h = tt
or_right false b h = h

-- one of two tests, in either order
pub or_comm : (a b : Bool) → (a || b) ≡ (b || a)
or_comm true true = refl
or_comm true false = refl
or_comm false true = refl
or_comm false false = refl

-- one of three tests, grouped either way
pub or_assoc : (a b c : Bool) → (a || (b || c)) ≡ ((a || b) || c)
or_assoc true b c = refl
or_assoc false b c = refl

-- one of three tests, the first two exchanged
pub or_swap : (a b c : Bool) → (a || (b || c)) ≡ (b || (a || c))
or_swap true true c = refl
or_swap true false c = refl
or_swap false true c = refl
or_swap false false c = refl

-- the first test said twice
pub or_same : (a b : Bool) → (a || b) ≡ (a || (a || b))
or_same true b = refl
or_same false b = refl

-- a test, or one that never holds
pub or_false : (a : Bool) → (a || false) ≡ a
or_false true = refl
or_false false = refl

-- all of three tests, grouped either way
pub and_assoc : (a b c : Bool) → (a && (b && c)) ≡ ((a && b) && c)
and_assoc true b c = refl
and_assoc false b c = refl

-- a test, and one that always holds
pub and_true : (a : Bool) → (a && true) ≡ a
and_true true = refl
and_true false = refl

-- a test, and one that never holds
pub and_false : (a : Bool) → (a && false) ≡ false
and_false true = refl
and_false false = refl
