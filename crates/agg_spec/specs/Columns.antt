-- What the columns of an index weigh, which is charged once after loading ('Circuit breaker settings', fielddata).
use Rattle.std.specs.Prelude.{ℕ, ◌+◌, ◌*◌, ◌/◌, map, length, sum, Option}
use Rattle.agg_model.specs.declared.costs.TheConstants.{FIELDDATA_OVERHEAD}
use Rattle.agg_model.specs.declared.breaker.Child.TheVariants.{Fielddata}
use Rattle.agg_model.specs.declared.breaker.Limits.{Limits}
use Rattle.agg_model.specs.declared.breaker.Tripped.{Tripped}
use Rattle.agg_spec.specs.Index.{Index}
use Rattle.agg_spec.specs.Charges.{no_amounts, refusal_of}
use Rattle.agg_evaluation.specs.ColumnBytes.{shard_bytes}

-- with the overhead of fielddata, rounded up
abbrev pub columns_charge : Index → ℕ
columns_charge index = (sum (map (shard_bytes (length index.mapping.fields)) index.shards) * FIELDDATA_OVERHEAD + 99) / 100

-- the refusal of the columns' charge
abbrev pub columns_refusal : Limits → ℕ → Option Tripped
columns_refusal limits charge = refusal_of limits no_amounts Fielddata charge
