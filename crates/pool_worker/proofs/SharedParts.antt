-- Threads may share a partial result by reference. For a type that contains itself this is shown of one layer first, where what it
-- contains may be shared.
use denote.Hole.FixSend.{Syncs, fix_sync}
use denote.Param.Send.{IsSync, sendable}
use denote.Param.SendFields.{as_row_sync, declared_sync, variants_sync}
use Rattle.std.proofs.Crossing.{crosses}
use Rattle.agg_cost.proofs.SharedTypes.{Key-sync, List-sync}
use Rattle.agg_model.specs.contracts.partial.Bucket as Bucket
use Rattle.agg_model.specs.contracts.partial.Metric as Metric
use Rattle.agg_model.specs.contracts.partial.Node as Node
use Rattle.agg_model.specs.contracts.partial.Node.TheKnot as Nodes
use Rattle.agg_model.specs.contracts.partial.Partial as Partial

Metric-sync : IsSync Metric.the_row
Metric-sync = search (sendable, crosses) depth 40

Partial-layer-sync : (i : _) → Syncs Node.the_ring i
Partial-layer-sync = Node.by_members (Syncs Node.the_ring)
    (record {
      sync = λ h all. let N = h Node.the_member in let B = h Bucket.the_member in let one : IsSync N = all Node.the_member in let two : IsSync B = all Bucket.the_member in
          variants_sync (Nodes.type-Node B B) (search (sendable, crosses, as_row_sync, Metric-sync, List-sync) depth 40 fits 20000);
    })
    (record {
      sync = λ h all. let N = h Node.the_member in let B = h Bucket.the_member in let one : IsSync N = all Node.the_member in let two : IsSync B = all Bucket.the_member in
          declared_sync (Nodes.type-Bucket N) (search (sendable, crosses, as_row_sync, Key-sync, List-sync) depth 40 fits 20000);
    })

Bucket-hole-sync : IsSync Bucket.the_hole
Bucket-hole-sync = record { shared = (fix_sync Node.the_ring Partial-layer-sync Bucket.the_member).shared }

pub Node-sync : IsSync Node.the_row
Node-sync = variants_sync Node.enum (search (sendable, crosses, as_row_sync, Metric-sync, List-sync, Bucket-hole-sync) depth 40 fits 20000)

pub Partial-sync : IsSync Partial.the_row
Partial-sync = declared_sync Partial.the_type (search (sendable, crosses, as_row_sync, List-sync, Node-sync) depth 40 fits 20000)
