-- What an answer has below its returned buckets, those among them that a histogram fills ('Terms aggregation',
-- `sum_other_doc_count`, on the terms that a shard leaves out; 'Histogram aggregation', minimum document count).
use Rattle.std.specs.Prelude.{ℕ, ◌==◌, ◌&&◌, Bool, true, false, List, [], ◌∷◌, map, find, slice_get}
use Rattle.std.specs.Option.{option_map_or}
use Rattle.agg_model.specs.declared.key.Key.{Key}
use Rattle.agg_model.specs.declared.partial.Bucket.{Bucket}
use Rattle.agg_model.specs.declared.partial.Node.{Node}
use Rattle.agg_model.specs.declared.answer.BucketAnswer.{out-BucketAnswer}
use Rattle.agg_model.specs.declared.answer.NodeAnswer.{NodeAnswer, out-NodeAnswer}
use Rattle.agg_model.specs.declared.aggregation.Agg.{Agg}
use Rattle.agg_evaluation.specs.KeyOrder.{key_eq}
use Rattle.agg_evaluation.specs.TrueCounts.{BucketPath, children_of}
use Rattle.agg_evaluation.specs.Whole.{parts}
use Rattle.agg_spec.specs.Filling.{bucket_at}
use Rattle.agg_spec.specs.Final.{empty_bucket, finisher}
use Rattle.count_laws.specs.Paths.{returns}

-- what an answer has below a returned bucket, which is given by the place of its aggregation among its siblings and its key
abbrev pub answers_below : List NodeAnswer → ℕ × Key → List NodeAnswer
answers_below nodes step =
    option_map_or (λ n. option_map_or (λ b. (out-BucketAnswer b).children) (find (λ b. key_eq step.1 (out-BucketAnswer b).key) (out-NodeAnswer n).buckets) [])
    (slice_get nodes step.0) []

-- what it has below the end of a path
abbrev pub answers_at : List NodeAnswer → BucketPath → List NodeAnswer
answers_at nodes [] = nodes
answers_at nodes (step ∷ path) = answers_at (answers_below nodes step) path

-- the bucket of the whole behind a returned one: that of its key or, where a gap was filled, one of no documents
abbrev pub bucket_behind : Agg → Node → Key → Bucket
bucket_behind a n key = bucket_at (empty_bucket (map finisher (children_of a))) (parts n).buckets key

-- whether no term of the node was cut, and its answer returns a bucket of the key
abbrev pub is_returned_at : Agg → Node → Key → Bool
is_returned_at a n key = ((parts n).cut == 0) && returns key ((finisher a).finish n)

-- whether it is so at each step of the path, from these nodes of the whole on
abbrev pub is_returned : List Agg → List Node → BucketPath → Bool
is_returned aggs nodes [] = true
is_returned aggs nodes (step ∷ path) =
    option_map_or (λ a. option_map_or (λ n. is_returned_at a n step.1 && is_returned (children_of a) (bucket_behind a n step.1).children path)
    (slice_get nodes step.0) false)
    (slice_get aggs step.0) false

-- whether an answer itself shows that: it returns each bucket of the path, and at each step it left out no term
abbrev pub shows_all : List NodeAnswer → BucketPath → Bool
shows_all nodes [] = true
shows_all nodes (step ∷ path) =
    option_map_or (λ n. ((out-NodeAnswer n).other == 0) && returns step.1 n) (slice_get nodes step.0) false
    && shows_all (answers_below nodes step) path
