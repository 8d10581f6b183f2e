-- The cost of a tree in bytes, by which it is charged to a breaker (Elasticsearch Reference 8, 'Circuit breaker settings':
-- the request circuit breaker). A node costs NODE_BYTES, a bucket BUCKET_BYTES and the bytes of its key.
use Rattle.std.specs.Prelude.{ℕ, ◌+◌, length, sum, sum_by}
use Rattle.agg_model.specs.declared.costs.TheConstants.{BUCKET_BYTES, NODE_BYTES}
use Rattle.agg_model.specs.declared.key.Key.{Key}
use Rattle.agg_model.specs.declared.key.Key.TheOpen.{Key-F}
use Rattle.agg_model.specs.declared.partial.Node.{Node}
use Rattle.agg_model.specs.declared.partial.Node.TheOpen.{Node-F, Bucket-F}
use Rattle.agg_model.specs.declared.partial.Partial.{Partial}
use Rattle.agg_evaluation.specs.Folds.{fold_key, fold_node}
use Rattle.agg_evaluation.specs.Whole.{parts}

abbrev pub key_bytes_at : Key-F ℕ → ℕ
key_bytes_at Key-F.Null = 1
key_bytes_at (Key-F.Whole n) = 8
key_bytes_at (Key-F.Flag b) = 8
key_bytes_at (Key-F.Word w) = length w
key_bytes_at (Key-F.Fixed n) = 0
key_bytes_at (Key-F.Many parts) = sum parts

abbrev pub key_bytes : Key → ℕ
key_bytes = fold_key key_bytes_at

abbrev pub bucket_cost : Bucket-F ℕ ℕ → ℕ
bucket_cost b = BUCKET_BYTES + key_bytes b.key + sum b.children

abbrev pub node_cost_at : Node-F ℕ ℕ → ℕ
node_cost_at (Node-F.Keyed buckets error full cut) = NODE_BYTES + sum buckets
node_cost_at (Node-F.Fixed buckets) = NODE_BYTES + sum buckets
node_cost_at (Node-F.Number m) = NODE_BYTES

abbrev pub node_cost : Node → ℕ
node_cost = fold_node node_cost_at bucket_cost

abbrev pub cost : Partial → ℕ
cost p = sum_by node_cost p.nodes
