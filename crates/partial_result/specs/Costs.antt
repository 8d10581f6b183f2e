-- The cost of one bucket (Elasticsearch Reference 8, 'Circuit breaker settings').
use Rattle.std.specs.Prelude.{ℕ, ◌+◌, sum_by}
use Rattle.agg_model.specs.declared.costs.TheConstants.{BUCKET_BYTES}
use Rattle.agg_model.specs.declared.partial.Bucket.{Bucket}
use Rattle.agg_evaluation.specs.Cost.{key_bytes, node_cost}

-- a bucket costs BUCKET_BYTES, the bytes of its key and what its children cost
abbrev pub cost_of_bucket : Bucket → ℕ
cost_of_bucket b = BUCKET_BYTES + key_bytes b.key + sum_by node_cost b.children
