-- What each kind of pipeline makes of the buckets of an answer ('Pipeline aggregations', `buckets_path`; 'Cumulative sum
-- aggregation', 'Derivative aggregation', 'Sum bucket aggregation', 'Min bucket aggregation', 'Max bucket aggregation', 'Bucket
-- sort aggregation').
use Rattle.std.specs.Prelude.{ℕ, zero, suc, ℤ, pos, ◌+◌, ◌-ℤ◌, Bool, false, List, [], ◌∷◌, map, filter, filter_map, length, take, drop, Option, Some, None, option_and_then, unwrap_or, slice_get}
use Rattle.std.specs.List.{reduce, range_with_len}
use Rattle.std.specs.Option.{option_map_or}
use Rattle.std.specs.Int.{int_min, int_max}
use Rattle.std.specs.declared.cmp.Ordering.{Ordering}
use Rattle.std.specs.declared.cmp.Ordering.TheVariants.{Equal}
use Rattle.std.specs.Ordering.{int_eq, ordering_then}
use Rattle.agg_model.specs.declared.key.Key.{Key}
use Rattle.agg_model.specs.declared.answer.BucketAnswer.{BucketAnswer, out-BucketAnswer}
use Rattle.agg_model.specs.declared.answer.NodeAnswer.{NodeAnswer, out-NodeAnswer}
use Rattle.agg_model.specs.declared.aggregation.Kind.{Kind}
use Rattle.agg_model.specs.declared.pipeline.PipePath.{PipePath}
use Rattle.agg_model.specs.declared.pipeline.PipePath.TheVariants as path
use Rattle.agg_model.specs.declared.pipeline.PipeOrder.{PipeOrder}
use Rattle.agg_evaluation.specs.Orders.{value_cmp, metric_value}
use Rattle.agg_evaluation.specs.Shard.{int_sum}

-- the value of a path at a bucket, where the children of the bucket's aggregation are of these kinds; a value may be null
abbrev pub value_at : List Kind → PipePath → BucketAnswer → Option ℤ
value_at kinds path.Count b = Some (pos (out-BucketAnswer b).count)
value_at kinds (path.Child i) b =
    option_and_then (λ k. option_and_then (λ n. metric_value k (out-NodeAnswer n).metric) (slice_get (out-BucketAnswer b).children i)) (slice_get kinds i)

abbrev pub values_of : List Kind → PipePath → List BucketAnswer → List (Option ℤ)
values_of kinds at buckets = map (value_at kinds at) buckets

-- the values that are not null
abbrev pub known_values : List (Option ℤ) → List ℤ
known_values vs = filter_map (λ v. v) vs

-- `sum_bucket`: null adds nothing
abbrev pub sum_of_values : List (Option ℤ) → ℤ
sum_of_values vs = int_sum (known_values vs)

-- `cumulative_sum` at a place: the sum of the values up to it
abbrev pub cumulative_sum_at : List (Option ℤ) → ℕ → ℤ
cumulative_sum_at vs i = sum_of_values (take (i + 1) vs)

abbrev pub cumulative_sums : List (Option ℤ) → List ℤ
cumulative_sums vs = map (cumulative_sum_at vs) (range_with_len 0 (length vs))

-- a number less another, where neither is null
abbrev pub difference : Option ℤ → Option ℤ → Option ℤ
difference (Some m) (Some n) = Some (m -ℤ n)
difference (Some m) None = None
difference None (Some n) = None
difference None None = None

-- the value at a place; null where the list is shorter
abbrev pub value_of_place : List (Option ℤ) → ℕ → Option ℤ
value_of_place vs i = unwrap_or (slice_get vs i) None

-- `derivative` at a place: its value less the one before, absent at the first and where either is null
abbrev pub derivative_at : List (Option ℤ) → ℕ → Option ℤ
derivative_at vs zero = None
derivative_at vs (suc i) = difference (value_of_place vs (suc i)) (value_of_place vs i)

abbrev pub derivatives : List (Option ℤ) → List (Option ℤ)
derivatives vs = map (derivative_at vs) (range_with_len 0 (length vs))

-- `min_bucket` and `max_bucket`: null where no value is known
abbrev pub least_value : List (Option ℤ) → Option ℤ
least_value vs = reduce int_min (known_values vs)

abbrev pub greatest_value : List (Option ℤ) → Option ℤ
greatest_value vs = reduce int_max (known_values vs)

-- whether a value is this number; null is none
abbrev pub is_value : Option ℤ → Option ℤ → Bool
is_value (Some m) (Some n) = int_eq m n
is_value (Some m) None = false
is_value None (Some n) = false
is_value None None = false

-- the keys of the buckets that have the value, in the order of the buckets
abbrev pub keys_with : List Kind → PipePath → Option ℤ → List BucketAnswer → List Key
keys_with kinds at value buckets = map (λ b. (out-BucketAnswer b).key) (filter (λ b. is_value value (value_at kinds at b)) buckets)

-- `sort` of `bucket_sort`: the orders in turn, null last in both directions; buckets that are alike in all compare alike
abbrev pub bucket_sort_cmp : List Kind → List PipeOrder → BucketAnswer → BucketAnswer → Ordering
bucket_sort_cmp kinds [] a b = Equal
bucket_sort_cmp kinds (o ∷ os) a b =
    ordering_then (value_cmp o.descending (value_at kinds o.path a) (value_at kinds o.path b)) (bucket_sort_cmp kinds os a b)

-- `from` and `size` of `bucket_sort`; all from there on where there is no size
abbrev pub cut_from : {A : Type 0} → ℕ → Option ℕ → List A → List A
cut_from start size items = option_map_or (λ n. take n (drop start items)) size (drop start items)
