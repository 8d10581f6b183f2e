-- What the tests of a comparison say of it.
use Rattle.std.specs.Prelude.{◌≡◌, refl, true, T}
use Rattle.std.specs.declared.cmp.Ordering.{Ordering}
use Rattle.std.specs.declared.cmp.Ordering.TheVariants.{Less, Equal, Greater}
use Rattle.std.specs.Ordering.{is_eq, is_lt}
use Rattle.std.proofs.Common.{sym, ap, subst}
use Rattle.std.proofs.lemmas.Bool.{true≢false, false≢true}

-- a comparison that passes as less is less
pub less_is : (r : Ordering) → T (is_lt r) → r ≡ Less
less_is Less h = refl
less_is Equal h = absurd h
less_is Greater h = absurd h

-- a comparison that passes as equal is equal
pub equal_is : (r : Ordering) → T (is_eq r) → r ≡ Equal
equal_is Less h = absurd h
equal_is Equal h = refl
equal_is Greater h = absurd h

-- a comparison of which the test of less is true
pub less_of : (r : Ordering) → is_lt r ≡ true → r ≡ Less
less_of r e = less_is r (subst T (sym e) tt)

-- a comparison of which the test of equality is true
pub equal_of : (r : Ordering) → is_eq r ≡ true → r ≡ Equal
equal_of r e = equal_is r (subst T (sym e) tt)

-- less is not equal
pub less_not_equal : {A : Type 0} → Less ≡ Equal → A
less_not_equal e = absurd (true≢false (ap is_lt e))

-- greater is not equal
pub greater_not_equal : {A : Type 0} → Greater ≡ Equal → A
greater_not_equal e = absurd (false≢true (ap is_eq e))
