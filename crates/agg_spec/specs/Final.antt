-- The final answer: what the whole of the shard answers comes to ('Terms aggregation', order, size and errors of counts;
-- 'Histogram aggregation'; 'Date histogram aggregation'; 'Composite aggregation').
use Rattle.std.specs.Prelude.{ℕ, ℤ, pos, ◌+◌, List, [], ◌∷◌, map, take, drop, sum_by, Option, Some, None}
use Rattle.agg_model.specs.declared.key.Key.{Key}
use Rattle.agg_model.specs.declared.partial.Metric.{Metric}
use Rattle.agg_model.specs.declared.partial.Bucket.{Bucket}
use Rattle.agg_model.specs.declared.partial.Node.{Node}
use Rattle.agg_model.specs.declared.partial.Partial.{Partial}
use Rattle.agg_model.specs.declared.answer.BucketAnswer.{BucketAnswer, roll-BucketAnswer}
use Rattle.agg_model.specs.declared.answer.NodeAnswer.{NodeAnswer, roll-NodeAnswer}
use Rattle.agg_model.specs.declared.answer.Answer.{Answer}
use Rattle.agg_model.specs.declared.aggregation.Kind.{Kind}
use Rattle.agg_evaluation.specs.Profile.{Form, profile}
use Rattle.agg_model.specs.declared.aggregation.Order.{Order}
use Rattle.agg_model.specs.declared.aggregation.Agg.{Agg}
use Rattle.agg_model.specs.declared.aggregation.Agg.TheOpen.{Agg-F}
use Rattle.agg_model.specs.declared.aggregation.Search.{Search}
use Rattle.agg_evaluation.specs.Folds.{fold_agg}
use Rattle.list_laws.specs.Sorting.{sorted}
use Rattle.agg_evaluation.specs.Orders.{bucket_cmp, bucket_key, bucket_count, composite_cmp}
use Rattle.agg_evaluation.specs.Whole.{Parts, parts, metric_sum, whole_by, shape_of}
use Rattle.agg_spec.specs.CountErrors.{precision_of, count_error}
use Rattle.agg_spec.specs.Filling.{filled, frequent}

-- an aggregation's kind, its whole over shard answers, and how it finishes the whole
pub record Finisher : Type 0 where
  pub kind : Kind
  pub whole : List Node → Node
  pub finish : Node → NodeAnswer

abbrev pub finish_each : List Finisher → List Node → List NodeAnswer
finish_each [] nodes = []
finish_each (f ∷ fs) [] = []
finish_each (f ∷ fs) (n ∷ ns) = f.finish n ∷ finish_each fs ns

-- a bucket with its error, where it is one of terms
abbrev pub finish_bucket : List Finisher → Option ℤ → Bucket → BucketAnswer
finish_bucket children error b =
    roll-BucketAnswer (record { key = bucket_key b; count = bucket_count b; error = error; children = finish_each children b.children })

abbrev pub no_metric : Metric
no_metric = metric_sum []

-- an answer that has buckets alone
abbrev pub buckets_answer : List ℕ → List BucketAnswer → NodeAnswer
buckets_answer name buckets = roll-NodeAnswer (record { name = name; buckets = buckets; error = pos 0; other = 0; metric = no_metric })

abbrev pub metric_answer : List ℕ → List Metric → NodeAnswer
metric_answer name [] = buckets_answer name []
metric_answer name (m ∷ ms) = roll-NodeAnswer (record { name = name; buckets = []; error = pos 0; other = 0; metric = m })

-- The first `size` terms of those that have enough documents. What the shards cut, and the terms after those, make up
-- `sum_other_doc_count`.
abbrev pub terms_answer : List ℕ → List Finisher → ℕ → ℕ → List Order → Parts → NodeAnswer
terms_answer name children size min_doc_count order p =
    let ordered = sorted (bucket_cmp (map (λ c. c.kind) children) order) (frequent min_doc_count p.buckets) in
    let error_of = λ (covered : ℕ). count_error (precision_of order) p.error covered p.full in
    roll-NodeAnswer (record {
      name = name;
      buckets = map (λ b. finish_bucket children (Some (error_of b.covered)) b) (take size ordered);
      error = error_of 0;
      other = p.cut + sum_by bucket_count (drop size ordered);
      metric = no_metric;
    })

-- a bucket of no documents: below it stand the answers over no rows
abbrev pub empty_bucket : List Finisher → Key → Bucket
empty_bucket children key = record { key = key; count = 0; covered = 0; children = map (λ c. c.whole []) children }

abbrev pub finish_at : List ℕ → List Finisher → Kind → Parts → NodeAnswer
finish_at name children k p = elim (profile k).form [
  | Form.terms t ↦ terms_answer name children t.size t.min_doc_count t.order p
  | Form.histogram h ↦
      buckets_answer name (map (finish_bucket children None) (sorted (bucket_cmp (map (λ c. c.kind) children) h.order)
      (filled (empty_bucket children) h.spacing h.min_doc_count h.extended h.hard p.buckets)))
  | Form.pages sources size after ↦
      buckets_answer name (map (finish_bucket children None) (take size (sorted (λ a b. composite_cmp sources (bucket_key a) (bucket_key b)) p.buckets)))
  | Form.fixed ks ↦ buckets_answer name (map (finish_bucket children None) p.buckets)
  | Form.number o ↦ metric_answer name p.metrics
]

abbrev pub finisher_of : Agg-F Finisher → Finisher
finisher_of a = record {
  kind = a.kind;
  whole = whole_by (map (λ c. c.whole) a.children) a.kind (shape_of a.kind);
  finish = λ n. finish_at a.name a.children a.kind (parts n);
}

abbrev pub finisher : Agg → Finisher
finisher = fold_agg finisher_of

-- the final answer to a search, given the whole of the shard answers
abbrev pub final : Search → Partial → Answer
final search p = record { hits = p.hits; nodes = finish_each (map finisher search.aggs) p.nodes }
