-- Threads may be given the results of a pool, and share a table of arrivals with its loads and results by reference.
use denote.RattleType.{RattleType}
use denote.Param.Send.{IsSend, IsSync, sendable, whole-keyless}
use denote.Param.SendFields.{as_row_send, as_row_sync, declared_send, declared_sync}
use Rattle.std.proofs.Crossing.{crosses}
use Rattle.std.proofs.collections.LinkedList.TheSendSync as linked
use Rattle.std.proofs.alloc.Global.TheSendSync as heap
use Rattle.std.specs.contracts.option.Option as Optional
use Rattle.agg_model.proofs.breaker.Tripped.TheSendSync as tripped
use Rattle.arrival_table.proofs.table.Arrivals.TheSendSync as table
use Rattle.arrival_table.specs.contracts.table.Arrivals as Arrivals
use Rattle.arrival_table.specs.declared.cell.Labelled as Labelled
use Rattle.atomic_table.specs.contracts.shared.Seat as Seat
use Rattle.breaker_words.specs.contracts.words.Pass as Pass
use Rattle.breaker_words.proofs.words.Pass.TheSendSync as pass
use Rattle.atomic_table.proofs.shared.Seat.TheSendSync as seat
use Rattle.pool_results.specs.contracts.work.Work as Work
use Rattle.pool_results.specs.contracts.load.Load as Load
use Rattle.pool_results.specs.contracts.outcome.Outcome as Outcome
use Rattle.pool_results.proofs.load.Load.TheSendSync as load
use Rattle.pool_results.proofs.shard_run.ShardRun.TheSendSync as shard
use Rattle.pool_results.specs.declared.call.PoolCall.{Ghosts}
use Rattle.pool_worker.proofs.SentParts.{Partial-send}
use Rattle.pool_worker.proofs.SharedParts.{Partial-sync}

-- what a seat lends is what it owns
pub Seat-sync : (S V : RattleType) → IsSend S → IsSync (Seat.the_row S V)
Seat-sync S V s = record { shared = λ d b o κ q. whole-keyless _ _ (seat.the_send S V s).owned q d b o }

pub Pass-sync : IsSync Pass.the_row
Pass-sync = search (sendable, crosses, Seat-sync) depth 40

Option-send : (T : RattleType) → IsSend T → IsSend (Optional.the_row T)
Option-send T s = search (sendable, crosses) depth 40

Option-sync : (T : RattleType) → IsSync T → IsSync (Optional.the_row T)
Option-sync T s = search (sendable, crosses) depth 40

pub Work-send : IsSend Work.the_row
Work-send = declared_send Work.the_type (search (sendable, crosses, as_row_send, linked.the_send, heap.the_send, shard.the_send, tripped.the_send, Option-send, Partial-send) depth 40 fits 20000)

pub Work-sync : IsSync Work.the_row
Work-sync = declared_sync Work.the_type (search (sendable, crosses, as_row_sync, linked.the_sync, heap.the_sync, shard.the_sync, tripped.the_sync, Option-sync, Partial-sync) depth 40 fits 20000)

pub Outcome-send : (J : RattleType) (g : Ghosts J.Denot) → IsSend (Outcome.the_row J g)
Outcome-send J g = declared_send (Outcome.the_type J g) (search (sendable, crosses, as_row_send, Work-send, pass.the_send) depth 40 fits 20000)

pub Outcome-sync : (J : RattleType) (g : Ghosts J.Denot) → IsSync (Outcome.the_row J g)
Outcome-sync J g = declared_sync (Outcome.the_type J g) (search (sendable, crosses, as_row_sync, Work-sync, Pass-sync) depth 40 fits 20000)

pub Table-sync : (J : RattleType) (g : Ghosts J.Denot) (a : Labelled.Ghosts (Load.the_row J g).Denot) (r : Labelled.Ghosts (Outcome.the_row J g).Denot) → IsSync (Arrivals.the_row (Load.the_row J g) (Outcome.the_row J g) a r)
Table-sync J g a r = table.the_sync (Load.the_row J g) (Outcome.the_row J g) a r (load.the_send J g) (Outcome-send J g) (Outcome-sync J g)
