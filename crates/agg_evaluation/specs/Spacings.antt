-- Where the intervals of a histogram begin, over numbers and over dates (Elasticsearch Reference 8, 'Histogram aggregation': values
-- are rounded down to the closest bucket; 'Date histogram aggregation'). The intervals are numbered as they follow one another.
use Rattle.std.specs.Prelude.{ℕ, ℤ, pos, neg_ℤ, ◌+ℤ◌, ◌-ℤ◌, ◌*ℤ◌, int_le, int_lt, nat_le, Bool, true, ◌&&◌, if◌then◌else◌, unsigned_abs}
use Rattle.std.specs.Int.{int_div_euclid}
use Rattle.std.specs.Option.{option_map_or}
use Rattle.date_spec.specs.declared.period.Period.{Period}
use Rattle.date_spec.specs.declared.period.Period.TheVariants.{Fixed, Week, Month, Quarter, Year}
use Rattle.date_spec.specs.declared.period.TheConstants.{GREATEST_INTERVAL}
use Rattle.date_spec.specs.Instants.{is_in_range}
use Rattle.date_spec.specs.Periods.{number_of, start_of}
use Rattle.agg_model.specs.declared.aggregation.Bounds.{Bounds}
use Rattle.agg_model.specs.declared.aggregation.Spacing.{Spacing}
use Rattle.agg_model.specs.declared.aggregation.Spacing.TheVariants.{Numbers, Dates}

-- the number of the interval that holds a value
abbrev pub number_at : Spacing → ℤ → ℤ
number_at (Numbers interval offset) value = int_div_euclid (value -ℤ pos offset) (pos interval)
number_at (Dates period zone) value = number_of period (value +ℤ zone)

-- where the interval of this number begins
abbrev pub start_at : Spacing → ℤ → ℤ
start_at (Numbers interval offset) number = number *ℤ pos interval +ℤ pos offset
start_at (Dates period zone) number = start_of period number -ℤ zone

-- the key of a value: where its interval begins
abbrev pub interval_start : Spacing → ℤ → ℤ
interval_start s value = start_at s (number_at s value)

-- the key that is so many intervals after a key
abbrev pub start_after : Spacing → ℤ → ℕ → ℤ
start_after s key n = start_at s (number_at s key +ℤ pos n)

-- how many intervals lead from a key to a later one
abbrev pub steps_between : Spacing → ℤ → ℤ → ℕ
steps_between s from to = unsigned_abs (number_at s to -ℤ number_at s from)

-- the number of the first interval that does not begin before the bound
abbrev pub number_from : Spacing → ℤ → ℤ
number_from s bound = if int_lt (interval_start s bound) bound then number_at s bound +ℤ pos 1 else number_at s bound

-- a fixed interval is at least a millisecond, and at most 2,147,483,647 days
abbrev pub is_period : Period → Bool
is_period (Fixed millis) = nat_le 1 millis && nat_le millis GREATEST_INTERVAL
is_period Week = true
is_period Month = true
is_period Quarter = true
is_period Year = true

-- at most 18 hours ahead of UTC or behind it
abbrev pub is_zone : ℤ → Bool
is_zone zone = int_le (neg_ℤ (pos 64_800_000)) zone && int_le zone (pos 64_800_000)

-- the bounds that are given are instants in the range of dates
abbrev pub are_instants : Bounds → Bool
are_instants bounds = option_map_or is_in_range bounds.min true && option_map_or is_in_range bounds.max true
