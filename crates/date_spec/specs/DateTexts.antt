-- The texts that name instants, and the one that is printed (ISO 8601-1:2019, 'Calendar date', 'Local time of day', 'Time shift',
-- 'Date and time of day'; Elasticsearch Reference 8, 'format', `strict_date_optional_time` and `epoch_millis`).
use Rattle.std.specs.Prelude.{ℕ, ◌+◌, ◌-◌, ◌*◌, ◌==◌, nat_le, nat_lt, ℤ, pos, neg_ℤ, Bool, ◌&&◌, ◌||◌, if◌then◌else◌, List, [], ◌∷◌, ◌++◌, length, take, drop, Option, Some, None, option_and_then, Result, Ok, Err, codes}
use Rattle.std.specs.List.{list_any, position_or_len}
use Rattle.std.specs.Str.{all_ascii_digits}
use Rattle.std.specs.Str.Parse.{starts_with_minus, signed_digits_value}
use Rattle.date_spec.specs.declared.fault.DateFault.{DateFault}
use Rattle.date_spec.specs.declared.fault.DateFault.TheVariants.{Malformed, OutOfRange}
use Rattle.date_spec.specs.Calendar.{Date, is_date}
use Rattle.date_spec.specs.Instants.{Time, is_time, instant_at, date_at, time_at, is_in_range}
use Rattle.date_spec.specs.Shapes.{has_shape, number_at, padded}

-- milliseconds: an optional `-` and 5 to 19 digits
abbrev pub digits_of : List ℕ → List ℕ
digits_of text = if starts_with_minus text then drop 1 text else text

unfoldable pub is_millis : List ℕ → Bool
is_millis text = nat_le 5 (length (digits_of text)) && nat_le (length (digits_of text)) 19 && all_ascii_digits (digits_of text)

-- Or what a clock shows: a date and a time of day. It may leave off behind the year, the month, the day, the minute, the second
-- or any digit of a fraction.
abbrev pub longest_clock : List ℕ
longest_clock = codes "0000-00-00T00:00:00.000000000"

-- how long a date is, and a date with a time
abbrev pub ends_date : ℕ → Bool
ends_date n = (n == 4) || (n == 7) || (n == 10)

abbrev pub ends_time : ℕ → Bool
ends_time n = (n == 16) || (n == 19) || (nat_le 21 n && nat_le n 29)

-- a clock of this length may stand before an offset of this length: there is none behind a date without a time
unfoldable pub may_leave_off : ℕ → ℕ → Bool
may_leave_off clock offset = ends_time clock || (ends_date clock && (offset == 0))

unfoldable pub is_clock : List ℕ → List ℕ → Bool
is_clock clock offset = may_leave_off (length clock) (length offset) && has_shape (take (length clock) longest_clock) clock

-- what is left out is the first month, the first day or midnight; of a fraction the first three digits count
unfoldable pub whole_clock : List ℕ → List ℕ
whole_clock clock = take 23 clock ++ drop (length clock) (codes "0000-01-01T00:00:00.000")

unfoldable pub date_in : List ℕ → Date
date_in clock = record { year = number_at 0 4 clock; month = number_at 5 2 clock; day = number_at 8 2 clock }

unfoldable pub time_in : List ℕ → Time
time_in clock = record { hour = number_at 11 2 clock; minute = number_at 14 2 clock; second = number_at 17 2 clock; milli = number_at 20 3 clock }

-- an offset without its sign: hours, or hours and minutes, at most 18:00
abbrev pub offset_shapes : List (List ℕ)
offset_shapes = codes "00" ∷ codes "0000" ∷ codes "00:00" ∷ []

-- the minutes beside the hours: the last two digits, where there are more than those of the hours
abbrev pub beside_hours : List ℕ → ℕ
beside_hours offset = if length offset == 2 then 0 else number_at (length offset - 2) 2 offset

unfoldable pub minutes_of : List ℕ → ℕ
minutes_of offset = number_at 0 2 offset * 60 + beside_hours offset

unfoldable pub is_offset : List ℕ → Bool
is_offset offset = list_any (λ shape. has_shape shape offset) offset_shapes && nat_lt (beside_hours offset) 60 && nat_le (minutes_of offset) 1080

-- the milliseconds by which a clock with this offset is ahead of UTC, if it is one; `Z` and no offset stand for UTC
unfoldable pub ahead_of : List ℕ → Option ℤ
ahead_of [] = Some (pos 0)
ahead_of (sign ∷ offset) =
    if (sign == 90) && (length offset == 0) then Some (pos 0)
    else (if (sign == 43) && is_offset offset then Some (pos (minutes_of offset * 60_000))
    else (if (sign == 45) && is_offset offset then Some (neg_ℤ (pos (minutes_of offset * 60_000)))
    else None))

-- the instant at which a clock so far ahead of UTC shows this, where the calendar has the date and a clock shows the time
unfoldable pub shown_at : List ℕ → ℤ → Option ℤ
shown_at clock ahead =
    if is_date (date_in clock) && is_time (time_in clock) then Some (instant_at (date_in clock) (time_in clock) ahead) else None

-- `Z`, `+` and `-` begin an offset
abbrev pub begins_offset : ℕ → Bool
begins_offset c = (c == 90) || (c == 43) || (c == 45)

-- how many characters stand before the offset: at least those of a date
unfoldable pub clock_length : List ℕ → ℕ
clock_length text = 10 + position_or_len begins_offset (drop 10 text)

-- what a clock names, and the offset behind it
unfoldable pub instant_of_clock : List ℕ → List ℕ → Option ℤ
instant_of_clock clock offset = if is_clock clock offset then option_and_then (shown_at (whole_clock clock)) (ahead_of offset) else None

-- the instant that a text names, if it names one
unfoldable pub named_instant : List ℕ → Option ℤ
named_instant text =
    if is_millis text then Some (signed_digits_value 10 text)
    else instant_of_clock (take (clock_length text) text) (drop (clock_length text) text)

-- what a date field reads: a text that names no instant is malformed, one whose instant is beyond the range is out of range
abbrev pub ranged : Option ℤ → Result ℤ DateFault
ranged None = Err Malformed
ranged (Some instant) = if is_in_range instant then Ok instant else Err OutOfRange

abbrev pub read_date : List ℕ → Result ℤ DateFault
read_date text = ranged (named_instant text)

-- YYYY-MM-DDThh:mm:ss.mmm
unfoldable pub clock_text : Date → Time → List ℕ
clock_text d t =
    padded 4 d.year ++ (codes "-" ++ (padded 2 d.month ++ (codes "-" ++ (padded 2 d.day
    ++ (codes "T" ++ (padded 2 t.hour ++ (codes ":" ++ (padded 2 t.minute ++ (codes ":" ++ (padded 2 t.second
    ++ (codes "." ++ padded 3 t.milli)))))))))))

-- the text that is printed of an instant, in UTC, with what stands for the offset
abbrev pub printed_with : List ℕ → ℤ → List ℕ
printed_with offset instant = clock_text (date_at instant) (time_at instant) ++ offset

-- YYYY-MM-DDThh:mm:ss.mmmZ
abbrev pub printed : ℤ → List ℕ
printed instant = printed_with (codes "Z") instant
