-- The parts of a clock, each as a number where it is right.
use Rattle.std.specs.Prelude.{◌≡◌, ℤ, pos, neg_ℤ, ◌≤ℤ◌, Option, Some, None, true, if◌then◌else◌, List, ℕ, codes}
use Rattle.date_spec.specs.Calendar.{Date, day_number, is_date}
use Rattle.date_spec.specs.Instants.{Time, is_time, time_millis}
use Rattle.std.specs.List.{list_any}
use Rattle.date_spec.specs.Shapes.{has_shape, number_at}
use Rattle.date_spec.specs.DateTexts.{offset_shapes, beside_hours}

-- the number of the day with this date, where the calendar has it
abbrev pub numbered : Date → Option ℤ
numbered d = if is_date d then Some (day_number d) else None

-- the milliseconds since midnight, where a clock shows this time
abbrev pub timed : Time → Option ℤ
timed t = if is_time t then Some (pos (time_millis t)) else None

-- a clock with all its parts, and three digits of a fraction
abbrev pub IsWhole : List ℕ → Type 0
IsWhole clock = has_shape (codes "0000-00-00T00:00:00.000") clock ≡ true

-- at most 18 hours ahead of UTC or behind it
abbrev pub IsOffset : ℤ → Type 0
IsOffset ahead = (neg_ℤ (pos 64_800_000) ≤ℤ ahead) × (ahead ≤ℤ pos 64_800_000)

-- the hours and the minutes of an offset without its sign, where it has the shape of one
abbrev pub parts_of : List ℕ → Option (ℕ × ℕ)
parts_of offset = if list_any (λ shape. has_shape shape offset) offset_shapes then Some (number_at 0 2 offset, beside_hours offset) else None
