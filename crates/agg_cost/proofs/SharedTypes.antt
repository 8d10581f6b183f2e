-- Threads may share a search, and all that it is made of, by reference. For a type that contains itself this is shown of one layer first, where what
-- it contains may be shared.
use denote.RattleType.{RattleType}
use denote.Hole.FixSend.{Syncs, fix_sync}
use denote.Param.Send.{IsSync, sendable}
use denote.Param.SendFields.{as_row_sync, declared_sync, variants_sync}
use Rattle.std.proofs.Crossing.{crosses}
use Rattle.std.specs.contracts.option.Option as Optional
use Rattle.agg_model.specs.contracts.list.List as List
use Rattle.agg_model.specs.contracts.boxed.Boxed as Boxed
use Rattle.agg_model.specs.contracts.text.Text as Text
use Rattle.agg_model.specs.contracts.query.Probe as Probe
use Rattle.agg_model.specs.contracts.query.RangeTest as RangeTest
use Rattle.agg_model.specs.contracts.query.Query as Query
use Rattle.agg_model.specs.contracts.query.Query.TheKnot as Queries
use Rattle.agg_model.specs.contracts.row.Scalar as Scalar
use Rattle.agg_model.specs.contracts.key.Key as Key
use Rattle.agg_model.specs.contracts.key.Key.TheKnot as Keys
use Rattle.agg_model.specs.contracts.aggregation.Order as Order
use Rattle.agg_model.specs.contracts.aggregation.Bounds as Bounds
use Rattle.agg_model.specs.contracts.aggregation.CompositeSource as CompositeSource
use Rattle.agg_model.specs.contracts.aggregation.Kind as Kind
use Rattle.agg_model.specs.contracts.aggregation.Agg as Agg
use Rattle.agg_model.specs.contracts.aggregation.Agg.TheKnot as Aggs
use Rattle.agg_model.specs.contracts.aggregation.Search as Search

pub List-sync : (T : RattleType) → IsSync T → IsSync (List.the_row T)
List-sync T s = search (sendable, crosses) depth 40

pub Boxed-sync : (T : RattleType) → IsSync T → IsSync (Boxed.the_row T)
Boxed-sync T s = search (sendable, crosses) depth 40

pub Option-sync : (T : RattleType) → IsSync T → IsSync (Optional.the_row T)
Option-sync T s = search (sendable, crosses) depth 40

pub Text-sync : IsSync Text.the_row
Text-sync = search (sendable, crosses) depth 40

pub Probe-sync : IsSync Probe.the_row
Probe-sync = search (sendable, crosses, Text-sync) depth 40

pub RangeTest-sync : IsSync RangeTest.the_row
RangeTest-sync = search (sendable, crosses) depth 40

pub Scalar-sync : IsSync Scalar.the_row
Scalar-sync = search (sendable, crosses) depth 40

pub Order-sync : IsSync Order.the_row
Order-sync = search (sendable, crosses) depth 40

pub Bounds-sync : IsSync Bounds.the_row
Bounds-sync = search (sendable, crosses) depth 40

pub CompositeSource-sync : IsSync CompositeSource.the_row
CompositeSource-sync = search (sendable, crosses, Text-sync) depth 40

Key-layer-sync : (i : _) → Syncs Key.the_ring i
Key-layer-sync = Key.by_members (Syncs Key.the_ring) (record {
  sync = λ h all. let R = h Key.the_member in let one : IsSync R = all Key.the_member in
      variants_sync (Keys.type-Key R) (search (sendable, crosses, as_row_sync, Text-sync, List-sync) depth 40 fits 20000);
})

Key-hole-sync : IsSync Key.the_hole
Key-hole-sync = record { shared = (fix_sync Key.the_ring Key-layer-sync Key.the_member).shared }

pub Key-sync : IsSync Key.the_row
Key-sync = variants_sync Key.enum (search (sendable, crosses, as_row_sync, Text-sync, List-sync, Key-hole-sync) depth 40 fits 20000)

Query-layer-sync : (i : _) → Syncs Query.the_ring i
Query-layer-sync = Query.by_members (Syncs Query.the_ring) (record {
  sync = λ h all. let R = h Query.the_member in let one : IsSync R = all Query.the_member in
      variants_sync (Queries.type-Query R R R R) (search (sendable, crosses, as_row_sync, Text-sync, Probe-sync, RangeTest-sync, List-sync, Boxed-sync) depth 40 fits 20000);
})

Query-hole-sync : IsSync Query.the_hole
Query-hole-sync = record { shared = (fix_sync Query.the_ring Query-layer-sync Query.the_member).shared }

pub Query-sync : IsSync Query.the_row
Query-sync = variants_sync Query.enum (search (sendable, crosses, as_row_sync, Text-sync, Probe-sync, RangeTest-sync, List-sync, Boxed-sync, Query-hole-sync) depth 40 fits 20000)

pub Kind-sync : IsSync Kind.the_row
Kind-sync = variants_sync Kind.enum (search (sendable, crosses, as_row_sync, Option-sync, Text-sync, Probe-sync, Scalar-sync, Order-sync, Bounds-sync, CompositeSource-sync, Key-sync, Query-sync, List-sync) depth 40 fits 20000)

Agg-layer-sync : (i : _) → Syncs Agg.the_ring i
Agg-layer-sync = Agg.by_members (Syncs Agg.the_ring) (record {
  sync = λ h all. let R = h Agg.the_member in let one : IsSync R = all Agg.the_member in
      declared_sync (Aggs.type-Agg R) (search (sendable, crosses, as_row_sync, Text-sync, Kind-sync, List-sync) depth 40 fits 20000);
})

Agg-hole-sync : IsSync Agg.the_hole
Agg-hole-sync = record { shared = (fix_sync Agg.the_ring Agg-layer-sync Agg.the_member).shared }

pub Agg-sync : IsSync Agg.the_row
Agg-sync = declared_sync Agg.the_type (search (sendable, crosses, as_row_sync, Text-sync, Kind-sync, List-sync, Agg-hole-sync) depth 40 fits 20000)

pub Search-sync : IsSync Search.the_row
Search-sync = declared_sync Search.the_type (search (sendable, crosses, as_row_sync, Query-sync, Agg-sync, List-sync) depth 40 fits 20000)
