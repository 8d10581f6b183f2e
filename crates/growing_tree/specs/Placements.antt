-- Rows that have the places of their buckets, into which they are still to go (Elasticsearch Reference 8, 'Bucket aggregations').
use Rattle.std.specs.Prelude.{ℕ, ◌+◌, ◌<◌, ◌==◌, if◌then◌else◌, List, [], ◌∷◌, All, fold, length, slice_index_or, slice_set}
use Rattle.agg_model.specs.declared.aggregation.Agg.{Agg, out-Agg}
use Rattle.agg_model.specs.declared.partial.Bucket.{Bucket}
use Rattle.agg_model.specs.declared.partial.Metric.{Metric}
use Rattle.agg_evaluation.specs.Rows.{PlacedRow, row_of}
use Rattle.shard_columns.specs.Columns.{Columns}
use Rattle.growing_tree.specs.Gathered.{shown_measured}
use Rattle.growing_tree.specs.Measures.{metrics_at, metrics_with}
use Rattle.growing_tree.specs.declared.measured.Measured.{Measured}
use Rattle.growing_tree.specs.declared.placing.Placement.{Placement}
use Rattle.growing_tree.specs.declared.ready.Ready.{Ready}

-- the rows of each bucket, once these are among them
abbrev pub counts_with : List Placement → List ℕ → List ℕ
counts_with placements counts = fold (λ ns p. slice_set ns p.place (slice_index_or ns p.place 0 + 1)) counts placements

-- what the metrics have taken in the bucket at a place, once they have the values of these rows
abbrev pub taken_with : List Agg → (ℕ → PlacedRow) → List Placement → (ℕ → List Metric) → ℕ → List Metric
taken_with aggs row_at [] at = at
taken_with aggs row_at (p ∷ placements) at = taken_with aggs row_at placements (λ n. if n == p.place then metrics_with aggs (row_at p.row) (at n) else at n)

-- the buckets, once these rows are in them
abbrev pub shown_with : Columns → Agg → Ready → Measured → List Placement → List Bucket
shown_with shard a r m placements = shown_measured shard r m.places (counts_with placements m.counts.items) (taken_with (out-Agg a).children (row_of shard.rows) placements (metrics_at m.columns.items))

-- the places are those of buckets, and the rows those of the shard
abbrev pub ArePlacements : ℕ → Columns → List Placement → Type 0
ArePlacements count shard placements = All (λ p. (p.place < count) × (p.row < length shard.rows)) placements
