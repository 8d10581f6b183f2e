-- What a shard answers of its terms ('Terms aggregation', shard size).
use Rattle.std.specs.Prelude.{ℕ, List, map, sum_by, unwrap_or, None}
use Rattle.std.specs.List.{last_or}
use Rattle.agg_model.specs.declared.partial.Bucket.{Bucket}
use Rattle.agg_model.specs.declared.partial.Node.{Node, out-Node}
use Rattle.agg_model.specs.declared.partial.Node.TheOpen.{Node-F}
use Rattle.agg_model.specs.declared.partial.Node.TheVariants.{Keyed}
use Rattle.agg_model.specs.declared.aggregation.Kind.{Kind}
use Rattle.agg_model.specs.Options.{Options, TermsOptions, options_of}
use Rattle.agg_model.specs.declared.aggregation.Agg.{Agg, out-Agg}
use Rattle.agg_evaluation.specs.Orders.{bucket_count}
use Rattle.agg_evaluation.specs.Profile.{Form, profile_of, profile}
use Rattle.agg_evaluation.specs.Shard.{trimmed_node}
use Rattle.agg_evaluation.specs.Whole.{parts}
use Rattle.bucket_order.specs.Kinds.{child_kinds}

abbrev pub node_buckets : Node → List Bucket
node_buckets n = (parts n).buckets

-- the count of the last bucket, or 0 where there is none
abbrev pub last_count : List Bucket → ℕ
last_count buckets = unwrap_or (last_or None (map bucket_count buckets)) 0

-- buckets of terms, cut to `shard_size`
abbrev pub trimmed_terms : List Kind → TermsOptions → Node-F Node Bucket → Node → Node
trimmed_terms kinds t (Node-F.Keyed buckets error full cut) n = trimmed_node kinds t.shard_size t.order (sum_by bucket_count buckets) buckets
trimmed_terms kinds t (Node-F.Fixed buckets) n = n
trimmed_terms kinds t (Node-F.Number m) n = n

-- nodes of other kinds stay as they are
abbrev pub trimmed_at : List Kind → Kind → Node-F Node Bucket → Node → Node
trimmed_at kinds k level n = elim (profile k).form [
  | Form.terms t ↦ trimmed_terms kinds t level n
  | Form.histogram h ↦ n
  | Form.pages sources size after ↦ n
  | Form.fixed ks ↦ n
  | Form.number o ↦ n
]

-- a shard's answer of the terms of all its documents
abbrev pub trimmed : Agg → Node → Node
trimmed agg n = trimmed_at (child_kinds (out-Agg agg).children) (out-Agg agg).kind (out-Node n) n

-- some buckets of an aggregation, cut where they are terms, where all buckets of the shard have so many documents together
abbrev pub trimmed_by : List Kind → Options → ℕ → List Bucket → Node
trimmed_by kinds options total buckets = elim (profile_of options).form [
  | Form.terms t ↦ trimmed_node kinds t.shard_size t.order total buckets
  | Form.histogram h ↦ Keyed buckets 0 0 0
  | Form.pages sources size after ↦ Keyed buckets 0 0 0
  | Form.fixed ks ↦ Keyed buckets 0 0 0
  | Form.number o ↦ Keyed buckets 0 0 0
]

abbrev pub trimmed_some : Agg → ℕ → List Bucket → Node
trimmed_some agg = trimmed_by (child_kinds (out-Agg agg).children) (options_of (out-Agg agg).kind)
