-- One desk more that is joined.
use Rattle.std.specs.Prelude.{◌≡◌, ◌+◌, All, List}
use Rattle.std.specs.List.{sum_by}
use Rattle.arrival_moves.specs.declared.limits.TheConstants.{ALL_CLAIMS}
use Rattle.arrival_table.specs.Models.{ArrivalsModel, DeskModel}
use Rattle.shard_pool.specs.Desks.{HasEnded, claims_of}

-- some desks that have ended are joined to one, and the others are still to be
pub record AreJoined (table : ArrivalsModel) (joined : DeskModel) (others : List DeskModel) : Type 0 where
  pub one : HasEnded table joined
  pub others_ended : All (HasEnded table) others
  pub claims : claims_of joined + sum_by claims_of others ≡ ALL_CLAIMS
