-- What is known of bodies that were read ('Multi search API').
use Rattle.std.specs.Prelude.{◌≤◌, ◌*◌, ℕ, List, Option, length, sum}
use Rattle.std.specs.List.{AllByRecursion}
use Rattle.agg_cost.specs.Searches.{AreRoomsFor, kinds_of, task_ceilings}
use Rattle.agg_model.specs.declared.aggregation.Search.{Search}
use Rattle.agg_model.specs.declared.breaker.Tripped.{Tripped}
use Rattle.agg_model.specs.declared.limits.TheConstants.{MAX_BYTE_SIZE}
use Rattle.agg_search.specs.Defined.{CanRun}
use Rattle.agg_spec.specs.Outcome.{Request}
use Rattle.fitting_laws.specs.Indexes.{index_of}
use Rattle.shard_columns.specs.Index.{rows_by_shard}
use Rattle.shard_columns.specs.declared.index.Index.{Index as ShardIndex}
use Rattle.wave_bodies.specs.Asking.{AreAsked}
use Rattle.wave_bodies.specs.declared.asked.Asked.{Asked}

-- what requests ask for, given the refusals of their bodies: the searches that run, and room for their tasks
pub record HasRead (index : ShardIndex) (requests : List Request) (refusals : List (Option Tripped)) (asked : List Asked) (searches : List Search) (rooms : List ℕ) : Type 0 where
  pub asked_are : AreAsked (index_of index) requests refusals asked searches
  pub run : AllByRecursion (CanRun index) searches
  pub few : length searches ≤ length requests
  pub rooms_are : AreRoomsFor rooms (task_ceilings (kinds_of index.mapping) searches (rows_by_shard index.shards))
  pub low : sum rooms ≤ length searches * MAX_BYTE_SIZE
