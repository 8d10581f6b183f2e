-- Numbers that are printed.
use Rattle.std.specs.Prelude.{◌≡◌, refl, ℤ, pos, negsuc, false}
use Rattle.serde_json.specs.Written.{has_float}
use Rattle.agg_spec.specs.Json.{whole_number}

pub has_float-whole_number : (n : ℤ) → has_float (whole_number n) ≡ false
has_float-whole_number (pos n) = refl
has_float-whole_number (negsuc n) = refl
