-- What a level of a growing tree shows to what puts rows into it (Elasticsearch Reference 8, 'Bucket aggregations').
use Rattle.std.specs.Prelude.{ℕ, ℤ, List, map}
use Rattle.agg_model.specs.declared.aggregation.Agg.{Agg}
use Rattle.agg_model.specs.declared.key.Key.{Key}
use Rattle.agg_model.specs.declared.partial.Bucket.{Bucket}
use Rattle.agg_model.specs.declared.partial.Metric.{Metric}
use Rattle.agg_model.specs.declared.partial.Node.{Node}
use Rattle.agg_evaluation.specs.Rows.{PlacedRow, row_of}
use Rattle.growth_laws.specs.Gathering.{Gatherer, gatherer_of}
use Rattle.shard_columns.specs.Columns.{Columns}
use Rattle.growing_tree.specs.Codes.{code_key}
use Rattle.growing_tree.specs.Decoded.{decoded, decoded_children}
use Rattle.growing_tree.specs.Measures.{measures_from}
use Rattle.growing_tree.specs.Shown.{counted_buckets, fixed_buckets, keyed_buckets, level_buckets, metric_buckets}
use Rattle.growing_tree.specs.declared.ready.Ready.{Ready, out-Ready}
use Rattle.growing_tree.specs.declared.tree.Growing.{Growing}
use Rattle.growing_tree.specs.declared.tree.Level.{Level}

module _ (shard : Columns) where
  -- the rows that have these numbers
  abbrev pub rows_at : List ℕ → List PlacedRow
  rows_at rows = map (row_of shard.rows) rows

  -- what the aggregations make of rows
  abbrev pub gatherers : List Agg → List Gatherer
  gatherers aggs = map (gatherer_of shard.rows) aggs

  -- the trees of the prepared aggregations
  abbrev pub decoders : List Ready → List (Node → Node)
  decoders ready = map (decoded shard) ready

  -- trees side by side
  abbrev pub shown_children : List Ready → List Node → List Node
  shown_children ready trees = decoded_children (decoders ready) trees

  -- the key that a code of the prepared aggregation stands for
  abbrev pub key_at : Ready → ℤ → Key
  key_at r = code_key shard (out-Ready r).kind

  -- the buckets of codes
  abbrev pub shown_keyed : Ready → List ℤ → List Growing → List Bucket
  shown_keyed r = keyed_buckets (decoders (out-Ready r).children) (key_at r)

  -- the buckets of codes below which there are metrics alone
  abbrev pub shown_measured : Ready → List ℤ → List ℕ → (ℕ → List Metric) → List Bucket
  shown_measured r codes counts at = metric_buckets (decoders (out-Ready r).children) (key_at r) codes (measures_from at 0 counts)

  -- the buckets whose rows are counted alone
  abbrev pub shown_counted : Ready → List ℕ → List Bucket
  shown_counted r = counted_buckets (decoders (out-Ready r).children) (key_at r)

  -- the buckets that exist from the start
  abbrev pub shown_fixed : Ready → List Growing → List Bucket
  shown_fixed r = fixed_buckets (decoders (out-Ready r).children) (key_at r)

  -- the buckets of a level
  abbrev pub shown_level : Ready → Level → List Bucket
  shown_level r = level_buckets (decoders (out-Ready r).children) (key_at r)
