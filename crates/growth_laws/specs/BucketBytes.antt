-- The bytes of a bucket, with all below it (Elasticsearch Reference 8, 'Circuit breaker settings': the request circuit breaker).
use Rattle.std.specs.Prelude.{ℕ, ◌+◌, List, find, sum_by, unwrap_or}
use Rattle.agg_model.specs.declared.key.Key.{Key}
use Rattle.agg_model.specs.declared.partial.Bucket.{Bucket}
use Rattle.agg_evaluation.specs.Cost.{key_bytes, node_cost}
use Rattle.agg_evaluation.specs.KeyOrder.{key_eq}
use Rattle.agg_evaluation.specs.Orders.{bucket_key}
use Rattle.growth_laws.specs.Gathering.{Gatherer, empty_bucket}

-- 128, its key, and its children
abbrev pub bucket_bytes : Bucket → ℕ
bucket_bytes b = 128 + key_bytes (bucket_key b) + sum_by node_cost b.children

-- the bucket of a key, or an empty one
abbrev pub bucket_or_empty : List Gatherer → Key → List Bucket → Bucket
bucket_or_empty gs k bs = unwrap_or (find (λ b. key_eq k (bucket_key b)) bs) (empty_bucket gs k)
