-- The instants of date fields are numbers of 64 bits.
use Rattle.std.specs.Prelude.{◌≡◌, refl, ◌^◌, true, ℤ, pos, negsuc, neg_ℤ, int_le, int_lt}
use Rattle.std.proofs.Common.{arith}
use Rattle.std.proofs.lemmas.Bool.{and_parts, and_from}
use Rattle.std.proofs.lemmas.Bool.Decides.{nat_tests}
use Rattle.std.proofs.lemmas.Int.{ints}
use Rattle.date_spec.specs.declared.range.TheConstants.{GREATEST_INSTANT, LEAST_INSTANT}
use Rattle.date_spec.specs.Instants.{is_in_range}
use Rattle.agg_model.specs.FieldKinds.{fits_below}

pub instant_in_64 : (z : ℤ) → is_in_range z ≡ true → fits_below (2 ^ 63) z ≡ true
instant_in_64 (pos n) h =
    let most = (and_parts (int_le LEAST_INSTANT (pos n)) (int_le (pos n) GREATEST_INSTANT) h).1 in
    and_from _ _ (let e : int_le (neg_ℤ (pos (2 ^ 63))) (pos n) ≡ true = grind (arith, nat_tests, ints) in e) (let e : int_lt (pos n) (pos (2 ^ 63)) ≡ true = grind (arith, nat_tests, ints, most) in e)
instant_in_64 (negsuc n) h =
    let least = (and_parts (int_le LEAST_INSTANT (negsuc n)) (int_le (negsuc n) GREATEST_INSTANT) h).0 in
    and_from _ _ (let e : int_le (neg_ℤ (pos (2 ^ 63))) (negsuc n) ≡ true = grind (arith, nat_tests, ints, least) in e) refl
