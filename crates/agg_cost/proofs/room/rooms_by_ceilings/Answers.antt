use Rattle.std.proofs.Common.{◌≡◌, ℕ, map, ◌∙◌}
use Rattle.std.specs.Prelude.{Some, IfSome}
use Rattle.std.proofs.lemmas.Result.{IfOk-weaker}
use Rattle.agg_evaluation.specs.Ceiling.{ceiling}
use Rattle.agg_cost.specs.Searches.{AreRoomsFor, kinds_of}
use Rattle.agg_cost.proofs.EachRoom.{ceilings-are-rooms, if-some-weaker}
use Rattle.shard_columns.specs.Index.{rows_by_shard}
use Rattle.agg_cost.proofs.room.rooms_by_ceilings.Goals as goal

pub returns-clause-rooms : goal.returns-clause-rooms
returns-clause-rooms g c =
    let tasks = map (ceiling (kinds_of c.args.index.now.mapping) c.args.search.now) (rows_by_shard c.args.index.now.shards) in
    let found = c.as_slice.result.now in
    IfOk-weaker c.all_low.result (λ low. IfSome low (λ all. map (λ (n : ℕ). Some n) all.items ≡ found)) (λ low. IfSome low (λ all. AreRoomsFor all.items tasks))
    (λ low kept. if-some-weaker low (λ all. map (λ (n : ℕ). Some n) all.items ≡ found) (λ all. AreRoomsFor all.items tasks)
    (λ all same. ceilings-are-rooms all.items tasks (same ∙ (c.as_slice.ensures.value ∙ c.in_ok-found.ensures))) kept)
    c.all_low.ensures.ceilings
