-- What the errors of an answer to terms say of the true counts ('Terms aggregation', `doc_count_error_upper_bound`).
use Rattle.std.specs.Prelude.{◌≡◌, ◌≤◌, ◌<◌, ◌+◌, ℕ, pos, true, false, List, [], ◌∷◌, map, Some}
use Rattle.std.specs.List.{AllByRecursion}
use Rattle.agg_model.specs.declared.key.Key.{Key}
use Rattle.agg_model.specs.declared.answer.BucketAnswer.{BucketAnswer, out-BucketAnswer}
use Rattle.agg_model.specs.declared.answer.NodeAnswer.{NodeAnswer, out-NodeAnswer}
use Rattle.agg_model.specs.declared.partial.Bucket.{Bucket}
use Rattle.agg_model.specs.declared.aggregation.Order.{Order}
use Rattle.agg_model.specs.declared.aggregation.OrderBy.TheVariants.{Count}
use Rattle.agg_model.specs.declared.aggregation.Kind.{Kind}
use Rattle.agg_evaluation.specs.KeyOrder.{has_key}
use Rattle.agg_evaluation.specs.Orders.{bucket_key}
use Rattle.agg_evaluation.specs.Profile.{Form, profile}

abbrev pub BeginsByCount : List Order → Type 0
BeginsByCount [] = ⊥
BeginsByCount (o ∷ later) = o ≡ record { by = Count; descending = true }

-- terms whose first order is by descending count, of which a shard returns at least one
abbrev pub IsTermsByCount : Kind → Type 0
IsTermsByCount k = elim (profile k).form [
  | Form.terms t ↦ (0 < t.shard_size) × BeginsByCount t.order
  | Form.histogram h ↦ ⊥
  | Form.pages sources size after ↦ ⊥
  | Form.fixed ks ↦ ⊥
  | Form.number o ↦ ⊥
]

-- the true count of a returned bucket lies between its count and that plus its error
pub record IsWithinError (true_count : Key → ℕ) (b : BucketAnswer) : Type 0 where
  pub error : ℕ
  pub given : (out-BucketAnswer b).error ≡ Some (pos error)
  pub at_least : (out-BucketAnswer b).count ≤ true_count (out-BucketAnswer b).key
  pub at_most : true_count (out-BucketAnswer b).key ≤ (out-BucketAnswer b).count + error

-- The answer's own error: so many documents more than it counts a returned term has at most, and so many a term that no shard
-- returned has at most. `whole` are the buckets that the shards returned.
pub record IsBoundOfAll (true_count : Key → ℕ) (whole : List Bucket) (n : NodeAnswer) : Type 0 where
  pub error : ℕ
  pub given : (out-NodeAnswer n).error ≡ pos error
  pub returned : AllByRecursion (λ b. true_count (out-BucketAnswer b).key ≤ (out-BucketAnswer b).count + error) (out-NodeAnswer n).buckets
  pub lost : (key : Key) → has_key key (map bucket_key whole) ≡ false → true_count key ≤ error
