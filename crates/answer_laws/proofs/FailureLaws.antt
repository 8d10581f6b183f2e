-- No more shards fail than there are.
use Rattle.std.specs.Prelude.{◌≤◌, ℕ, ◌+◌, ◌-◌, List, [], ◌∷◌, length}
use Rattle.std.proofs.Common.{arith}
use Rattle.agg_model.specs.declared.outcome.Failure.{Failure}
use Rattle.agg_spec.specs.Failures.{AreAscending}

pub ascending-length : (least shards : ℕ) (failures : List Failure) → AreAscending least shards failures → length failures ≤ shards - least
ascending-length least shards [] ascending = omega arith
ascending-length least shards (f ∷ rest) (at_least, below, later) = let fewer = ascending-length (f.shard + 1) shards rest later in omega (arith, fewer)
