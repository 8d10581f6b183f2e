-- What a shard answers of a bucket (Elasticsearch Reference 8, 'Terms aggregation' on shard size).
use Rattle.std.specs.Prelude.{List, map}
use Rattle.agg_model.specs.declared.aggregation.Agg.{Agg, out-Agg}
use Rattle.agg_model.specs.declared.key.Key.{Key}
use Rattle.agg_model.specs.declared.partial.Bucket.{Bucket}
use Rattle.agg_model.specs.declared.partial.Node.{Node}
use Rattle.agg_evaluation.specs.Folds.{fold_agg}
use Rattle.growth_laws.specs.Cutting.{cut_bucket, cut_children, cutter_at}
use Rattle.shard_columns.specs.Columns.{Columns}
use Rattle.growing_tree.specs.Codes.{code_key}
use Rattle.growing_tree.specs.Decoded.{decoded, decoded_bucket, decoded_children}
use Rattle.growing_tree.specs.declared.ready.Ready.{Ready, out-Ready}
use Rattle.growing_tree.specs.declared.tree.Growing.{Growing}

-- trees side by side, with keys for codes and the terms of each level cut
abbrev pub finished_children : Columns → List Agg → List Ready → List Node → List Node
finished_children shard aggs rs ns = cut_children (map (fold_agg cutter_at) aggs) (decoded_children (map (decoded shard) rs) ns)

module _ (shard : Columns) (a : Agg) (r : Ready) where
  -- a bucket with its key for its code, and with its children cut
  abbrev pub finished_bucket : Bucket → Bucket
  finished_bucket b = cut_bucket (map (fold_agg cutter_at) (out-Agg a).children) (decoded_bucket (map (decoded shard) (out-Ready r).children) (code_key shard (out-Ready r).kind) b)

  -- the bucket of this key
  abbrev pub finished_with : Key → Growing → Bucket
  finished_with key g = record { key = key; count = g.count; covered = 0; children = finished_children shard (out-Agg a).children (out-Ready r).children g.children.items }
