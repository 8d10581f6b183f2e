use Rattle.std.proofs.Common.{◌≤◌, ◌^◌, map, subst}
use Rattle.std.specs.Prelude.{IfSome, sum}
use Rattle.agg_evaluation.specs.Ceiling.{ceiling}
use Rattle.agg_cost.specs.Searches.{AreRoomsFor, kinds_of}
use Rattle.agg_cost.proofs.EachRoom.{rooms-settle}
use Rattle.shard_columns.specs.Index.{rows_by_shard}
use Rattle.agg_cost.proofs.room.rooms.Goals as goal

pub returns-in-Some-clause-wide : goal.returns-in-Some-clause-wide
returns-in-Some-clause-wide g c =
    let kinds = kinds_of c.args.index.now.mapping in
    let search = c.args.search.now in
    let shards = rows_by_shard c.args.index.now.shards in
    rooms-settle kinds search shards c.in-Some.all.items
    (subst (λ o. IfSome o (λ all. AreRoomsFor all.items (map (ceiling kinds search) shards))) c.in-Some.is c.in_ok-all.ensures.rooms)
    (subst (λ o. IfSome o (λ all. sum all.items ≤ 2 ^ 50)) c.in-Some.is c.in_ok-all.ensures.low)
