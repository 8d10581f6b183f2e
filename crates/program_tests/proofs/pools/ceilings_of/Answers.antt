use Rattle.std.proofs.Common.{◌≡◌, ℕ, List, Some, map, ◌∙◌}
use Rattle.std.proofs.lemmas.Result.{IfOk-weaker}
use Rattle.agg_cost.proofs.EachRoom.{ceilings-are-rooms}
use Rattle.agg_cost.specs.Searches.{AreRoomsFor, kinds_of, task_ceilings}
use Rattle.shard_columns.specs.Index.{rows_by_shard}
use Rattle.program_tests.proofs.Indexes.{shards-apart}
use Rattle.program_tests.proofs.pools.ceilings_of.Goals as goal

pub ceilings-requires-clause-apart : goal.ceilings-requires-clause-apart
ceilings-requires-clause-apart g c κs within = shards-apart c.args.index.now

pub returns : goal.returns
returns g c =
    let found = c.as_slice.result.now in
    let tasks = task_ceilings (kinds_of c.args.index.now.mapping) c.args.searches.now (rows_by_shard c.args.index.now.shards) in
    record {
      ceilings = IfOk-weaker c.known.result (λ (all : List ℕ). map (λ (n : ℕ). Some n) all ≡ found) (λ (all : List ℕ). AreRoomsFor all tasks)
          (λ all same. ceilings-are-rooms all tasks (same ∙ (c.as_slice.ensures ∙ c.in_ok-found.ensures))) c.known.ensures;
    }
