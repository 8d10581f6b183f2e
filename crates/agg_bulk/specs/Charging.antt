-- Why the columns of an index are not charged ('Circuit breaker settings' of Elasticsearch Reference 8, fielddata).
use Rattle.std.specs.Prelude.{◌≡◌, ℕ, Some, ⊤}
use Rattle.agg_model.specs.declared.breaker.Limits.{Limits}
use Rattle.agg_spec.specs.Columns.{columns_refusal}
use Rattle.agg_bulk.specs.declared.end.LoadEnd.{LoadEnd}
use Rattle.agg_bulk.specs.declared.end.LoadEnd.TheVariants.{Columns, Memory}

-- the columns' refusal, or want of memory
abbrev pub RefusesColumns : Limits → ℕ → LoadEnd → Type 0
RefusesColumns limits charge (Columns t) = columns_refusal limits charge ≡ Some t
RefusesColumns limits charge Memory = ⊤
RefusesColumns limits charge _ = ⊥
