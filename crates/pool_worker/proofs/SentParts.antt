-- Threads may be given a partial result. For a type that contains itself this is shown of one layer first, where what it contains
-- may be given.
use denote.RattleType.{RattleType}
use denote.Hole.FixSend.{Sends, fix_send}
use denote.Param.Send.{IsSend, sendable}
use denote.Param.SendFields.{as_row_send, declared_send, variants_send}
use Rattle.std.proofs.Crossing.{crosses}
use Rattle.agg_model.specs.contracts.list.List as List
use Rattle.agg_model.specs.contracts.text.Text as Text
use Rattle.agg_model.specs.contracts.key.Key as Key
use Rattle.agg_model.specs.contracts.key.Key.TheKnot as Keys
use Rattle.agg_model.specs.contracts.partial.Bucket as Bucket
use Rattle.agg_model.specs.contracts.partial.Node as Node
use Rattle.agg_model.specs.contracts.partial.Node.TheKnot as Nodes
use Rattle.agg_model.specs.contracts.partial.Partial as Partial
use Rattle.agg_model.specs.contracts.partial.Metric as Metric

pub List-send : (T : RattleType) → IsSend T → IsSend (List.the_row T)
List-send T s = search (sendable, crosses) depth 40

pub Text-send : IsSend Text.the_row
Text-send = search (sendable, crosses) depth 40

Key-layer-send : (i : _) → Sends Key.the_ring i
Key-layer-send = Key.by_members (Sends Key.the_ring) (record {
  send = λ h all. let R = h Key.the_member in let one : IsSend R = all Key.the_member in
      variants_send (Keys.type-Key R) (search (sendable, crosses, as_row_send, Text-send, List-send) depth 40 fits 20000);
})

Key-hole-send : IsSend Key.the_hole
Key-hole-send = fix_send Key.the_ring Key-layer-send Key.the_member

pub Key-send : IsSend Key.the_row
Key-send = variants_send Key.enum (search (sendable, crosses, as_row_send, Text-send, List-send, Key-hole-send) depth 40 fits 20000)

Metric-send : IsSend Metric.the_row
Metric-send = search (sendable, crosses) depth 40

Partial-layer-send : (i : _) → Sends Node.the_ring i
Partial-layer-send = Node.by_members (Sends Node.the_ring)
    (record {
      send = λ h all. let N = h Node.the_member in let B = h Bucket.the_member in let one : IsSend N = all Node.the_member in let two : IsSend B = all Bucket.the_member in
          variants_send (Nodes.type-Node B B) (search (sendable, crosses, as_row_send, Metric-send, List-send) depth 40 fits 20000);
    })
    (record {
      send = λ h all. let N = h Node.the_member in let B = h Bucket.the_member in let one : IsSend N = all Node.the_member in let two : IsSend B = all Bucket.the_member in
          declared_send (Nodes.type-Bucket N) (search (sendable, crosses, as_row_send, Key-send, List-send) depth 40 fits 20000);
    })

Bucket-hole-send : IsSend Bucket.the_hole
Bucket-hole-send = fix_send Node.the_ring Partial-layer-send Bucket.the_member

pub Node-send : IsSend Node.the_row
Node-send = variants_send Node.enum (search (sendable, crosses, as_row_send, Metric-send, List-send, Bucket-hole-send) depth 40 fits 20000)

pub Partial-send : IsSend Partial.the_row
Partial-send = declared_send Partial.the_type (search (sendable, crosses, as_row_send, List-send, Node-send) depth 40 fits 20000)
