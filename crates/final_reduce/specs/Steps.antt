-- The intervals of a histogram by their numbers, and the buckets that they have ('Histogram aggregation', 'Date histogram
-- aggregation').
use Rattle.std.specs.Prelude.{◌≡◌, ℕ, zero, suc, ◌^◌, ℤ, pos, ◌+ℤ◌, ◌-ℤ◌, ◌≤ℤ◌, ◌<ℤ◌, Bool, true, if◌then◌else◌, List, [], ◌∷◌, filter_map, Some}
use Rattle.std.specs.Option.{option_map_or}
use Rattle.std.specs.Int.{int_min, int_max}
use Rattle.date_spec.specs.Instants.{is_in_range}
use Rattle.date_periods.specs.Reach.{IsCode}
use Rattle.agg_model.specs.declared.key.Key.{Key}
use Rattle.agg_model.specs.declared.key.Key.TheVariants.{Whole}
use Rattle.agg_model.specs.declared.partial.Bucket.{Bucket}
use Rattle.agg_model.specs.declared.aggregation.Bounds.{Bounds}
use Rattle.agg_model.specs.declared.aggregation.Spacing.{Spacing}
use Rattle.agg_model.specs.declared.aggregation.Spacing.TheVariants.{Numbers, Dates}
use Rattle.agg_evaluation.specs.KeyOrder.{key_eq}
use Rattle.agg_evaluation.specs.Orders.{bucket_key}
use Rattle.agg_evaluation.specs.Spacings.{number_at, start_at, number_from}
use Rattle.agg_spec.specs.Filling.{number_of_key, least_key, greatest_key, has_buckets}

-- the keys of so many intervals, from the one of this number on
abbrev pub keys_from : Spacing → ℤ → ℕ → List Key
keys_from spacing number zero = []
keys_from spacing number (suc n) = Whole (start_at spacing number) ∷ keys_from spacing (number +ℤ pos 1) n

-- the number of an interval that begins near the numbers of 64 bits, or that holds an instant of a date field
abbrev pub IsNearNumber : Spacing → ℤ → Type 0
IsNearNumber (Numbers interval offset) number =
    ((pos 0 -ℤ pos (2 ^ 80)) ≤ℤ start_at (Numbers interval offset) number) × (start_at (Numbers interval offset) number ≤ℤ pos (2 ^ 80))
IsNearNumber (Dates period zone) number = IsCode period zone number × (((pos 0 -ℤ pos (2 ^ 63)) ≤ℤ number) × (number <ℤ pos (2 ^ 63)))

-- the numbers that are keys of the buckets
abbrev pub key_numbers : List Bucket → List ℤ
key_numbers buckets = filter_map (λ b. number_of_key (bucket_key b)) buckets

-- over dates a bound is an instant in their range
abbrev pub is_bound : Spacing → ℤ → Bool
is_bound (Numbers interval offset) bound = true
is_bound (Dates period zone) bound = is_in_range bound

-- the number of the first interval, from one on, that begins within `hard_bounds`; and that of the last, up to another
abbrev pub first_from : Spacing → Bounds → ℤ → ℤ
first_from spacing hard number = option_map_or (λ bound. int_max number (number_from spacing bound)) hard.min number

abbrev pub last_to : Spacing → Bounds → ℤ → ℤ
last_to spacing hard number = option_map_or (λ bound. int_min number (number_at spacing bound)) hard.max number

-- the numbers of the first and the last interval of a histogram whose gaps are filled; it has none where the first is above the last
pub record IsSpan (spacing : Spacing) (extended hard : Bounds) (ns : List ℤ) (first last : ℤ) : Type 0 where
  pub least : ℤ
  pub greatest : ℤ
  pub has : has_buckets extended ns ≡ true
  pub least_is : least_key spacing extended ns ≡ Some least
  pub greatest_is : greatest_key spacing extended ns ≡ Some greatest
  pub first_is : first ≡ first_from spacing hard (number_at spacing least)
  pub last_is : last ≡ last_to spacing hard (number_at spacing greatest)

-- the first bucket where it has the key, or else the empty one
abbrev pub taken : Key → Bucket → List Bucket → Bucket
taken key empty [] = empty
taken key empty (b ∷ bs) = if key_eq key (bucket_key b) then b else empty

-- what is left of the buckets
abbrev pub left_by : Key → List Bucket → List Bucket
left_by key [] = []
left_by key (b ∷ bs) = if key_eq key (bucket_key b) then bs else b ∷ bs
