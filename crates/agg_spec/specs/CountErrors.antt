-- How far a count of terms may be too low ('Terms aggregation', document counts are approximate). By this engine's own rule a
-- shard that returned as many terms as it was asked for may have left out as many documents as its last term has.
use Rattle.std.specs.Prelude.{ℕ, ℤ, pos, negsuc, ◌-◌, nat_lt, Bool, true, false, if◌then◌else◌, List, [], ◌∷◌}
use Rattle.agg_model.specs.declared.aggregation.Order.{Order}
use Rattle.agg_model.specs.declared.aggregation.OrderBy.{OrderBy}
use Rattle.agg_model.specs.declared.aggregation.OrderBy.TheVariants as by

-- what the first order lets one say: no error by key, a bound by descending count, and else nothing
pub data Precision : Type 0 where
  exact : Precision
  bounded : Precision
  unknown : Precision

abbrev pub precision_by : OrderBy → Bool → Precision
precision_by by.Count true = bounded
precision_by by.Count false = unknown
precision_by by.Key descending = exact
precision_by (by.Child i) descending = unknown

-- no order means by key
abbrev pub precision_of : List Order → Precision
precision_of [] = exact
precision_of (o ∷ os) = precision_by o.by o.descending

-- The error of a count. The shards' errors add up to `error`, those of the shards that returned the term to `covered`, and
-- `full` shards returned as many terms as they were asked for.
abbrev pub count_error : Precision → ℕ → ℕ → ℕ → ℤ
count_error exact error covered full = pos 0
count_error bounded error covered full = pos (error - covered)
count_error unknown error covered full = if nat_lt 0 full then negsuc 0 else pos 0
