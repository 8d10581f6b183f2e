-- Values that are added up without leaving 128 bits, and of two values the lesser and the greater ('Pipeline aggregations').
use Rattle.std.specs.Prelude.{◌≡◌, ℕ, ℤ, pos, neg_ℤ, ◌≤ℤ◌, ◌-ℤ◌, ◌*◌, ◌^◌, Bool, true, ◌&&◌, int_lt, List, [], map, Option, Some, None, slice_get}
use Rattle.std.specs.Option.{option_map_or}
use Rattle.std.specs.Int.{int_min, int_max}
use Rattle.agg_model.specs.declared.aggregation.Agg.{Agg, out-Agg}
use Rattle.agg_model.specs.declared.answer.BucketAnswer.{BucketAnswer, out-BucketAnswer}
use Rattle.agg_model.specs.declared.answer.NodeAnswer.{NodeAnswer}
use Rattle.agg_spec.specs.Pipelines.{sum_of_values}
use Rattle.agg_spec.specs.RangeCheck.{checker, check_each}

-- a value between -2^64 and 2^64, or null
abbrev pub is_small : Option ℤ → Bool
is_small v = option_map_or (λ n. int_lt (pos 0 -ℤ pos (2 ^ 64)) n && int_lt n (pos (2 ^ 64))) v true

-- the answers of one object, of which each printed number has 64 bits
abbrev pub AreInRange : List Agg → List NodeAnswer → Type 0
AreInRange aggs nodes = check_each (map checker aggs) nodes ≡ []

-- buckets with the answers to these aggregations, of which each printed number has 64 bits
abbrev pub AreBucketsInRange : List Agg → List BucketAnswer → Type 0
AreBucketsInRange children buckets = (place : ℕ) (b : BucketAnswer) → slice_get buckets place ≡ Some b → AreInRange children (out-BucketAnswer b).children

-- the aggregations below the one at a place; none where there is none
abbrev pub children_at : ℕ → List Agg → List Agg
children_at place aggs = option_map_or (λ a. (out-Agg a).children) (slice_get aggs place) []

-- the sum of so many values, each of which is small
pub record IsTotal (vs : List (Option ℤ)) (count : ℕ) (total : ℤ) : Type 0 where
  pub sum : total ≡ sum_of_values vs
  pub least : neg_ℤ (pos (count * 2 ^ 64)) ≤ℤ total
  pub most : total ≤ℤ pos (count * 2 ^ 64)

-- of two values, where null is none
abbrev pub lesser : Option ℤ → Option ℤ → Option ℤ
lesser (Some m) (Some n) = Some (int_min m n)
lesser (Some m) None = Some m
lesser None v = v

abbrev pub greater : Option ℤ → Option ℤ → Option ℤ
greater (Some m) (Some n) = Some (int_max m n)
greater (Some m) None = Some m
greater None v = v
