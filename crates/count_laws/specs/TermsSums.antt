-- The counts of an answer to terms, added up ('Terms aggregation', `sum_other_doc_count`).
use Rattle.std.specs.Prelude.{ℕ, not, nat_le, List, map, filter, sum_by, Option, Some, None}
use Rattle.agg_model.specs.declared.partial.Bucket.{Bucket}
use Rattle.agg_model.specs.declared.answer.BucketAnswer.{BucketAnswer, out-BucketAnswer}
use Rattle.agg_model.specs.declared.answer.NodeAnswer.{NodeAnswer, out-NodeAnswer}
use Rattle.agg_model.specs.declared.partial.Node.{Node}
use Rattle.agg_model.specs.declared.aggregation.Kind.{Kind}
use Rattle.agg_evaluation.specs.Profile.{Form, profile}
use Rattle.agg_model.specs.declared.aggregation.Agg.{Agg}
use Rattle.agg_evaluation.specs.Rows.{PlacedRow}
use Rattle.agg_evaluation.specs.Orders.{bucket_count}
use Rattle.agg_evaluation.specs.Shard.{shard_node}
use Rattle.agg_evaluation.specs.Whole.{whole_node}
use Rattle.agg_spec.specs.Final.{finisher}

abbrev pub answered_count : BucketAnswer → ℕ
answered_count b = (out-BucketAnswer b).count

-- the counts of the returned buckets
abbrev pub returned_count : NodeAnswer → ℕ
returned_count n = sum_by answered_count (out-NodeAnswer n).buckets

abbrev pub other_count : NodeAnswer → ℕ
other_count n = (out-NodeAnswer n).other

-- the counts of the buckets with too few documents
abbrev pub below_minimum_count : ℕ → List Bucket → ℕ
below_minimum_count min_doc_count buckets = sum_by bucket_count (filter (λ b. not (nat_le min_doc_count (bucket_count b))) buckets)

-- the minimum count of an aggregation that is terms
abbrev pub minimum_of_terms : Kind → Option ℕ
minimum_of_terms k = elim (profile k).form [
  | Form.terms t ↦ Some t.min_doc_count
  | Form.histogram h ↦ None
  | Form.pages sources size after ↦ None
  | Form.fixed ks ↦ None
  | Form.number o ↦ None
]

-- the whole of the answers to an aggregation of some rows of each shard: all rows of the shard, and those that it is handed
abbrev pub whole_of_rows : Agg → List (List PlacedRow × List PlacedRow) → Node
whole_of_rows a shards = whole_node a (map (λ s. shard_node s.0 a s.1) shards)

abbrev pub answer_of_rows : Agg → List (List PlacedRow × List PlacedRow) → NodeAnswer
answer_of_rows a shards = (finisher a).finish (whole_of_rows a shards)
