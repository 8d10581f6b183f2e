use denote.Param.Send.{IsSync, sendable}
use Rattle.std.proofs.Crossing.{crosses}
use Rattle.agg_cost.proofs.SharedTypes.{List-sync, Search-sync}
use Rattle.agg_cost.proofs.SharedShards.{Index-sync}
use Rattle.arrival_table.proofs.desk.Desk.TheSendSync as desk
use Rattle.breaker_words.proofs.words.Words.TheSendSync as words
use Rattle.pool_results.proofs.load.Load.TheSendSync as load
use Rattle.pool_worker.proofs.Tables.{Outcome-send, Table-sync}
use Rattle.pool_worker.proofs.threads.work_all.Goals as goal

pub for_each_mut-requires-send-T : goal.for_each_mut-requires-send-T
for_each_mut-requires-send-T g c κs within = search (sendable, crosses, desk.the_send, load.the_send, Outcome-send) depth 40

-- the gate may be shared as the type argument of this function, and so as the type itself, of which the search speaks
pub for_each_mut-requires-sync-F : goal.for_each_mut-requires-sync-F
for_each_mut-requires-sync-F g c κs within =
    let gate : IsSync g.row.G = record { shared = c.type_bounds.sync-G.shared } in
    search (sendable, crosses, words.the_sync, List-sync, Search-sync, Index-sync, Table-sync) depth 40
