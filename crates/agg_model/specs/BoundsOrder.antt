-- Bounds in order ('Histogram aggregation', `extended_bounds` and `hard_bounds`).
use Rattle.std.specs.Prelude.{ℤ, int_le, Option, Some, None, Bool, true, ◌&&◌}
use Rattle.agg_model.specs.declared.aggregation.Bounds.{Bounds}

-- a bound that is not given holds always
abbrev pub is_at_most : Option ℤ → Option ℤ → Bool
is_at_most (Some a) (Some b) = int_le a b
is_at_most _ _ = true

-- each extended bound that is given lies between the hard bounds that are given
abbrev pub lies_within : Bounds → Bounds → Bool
lies_within extended hard = is_at_most hard.min extended.min && is_at_most extended.min hard.max && is_at_most hard.min extended.max && is_at_most extended.max hard.max
