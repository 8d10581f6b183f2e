-- The texts of instants in an answer ('Date field type', `strict_date_optional_time`; 'Date histogram aggregation', `time_zone`,
-- `key_as_string`).
use Rattle.std.specs.Prelude.{ℕ, ◌/◌, ◌%◌, ℤ, pos, ◌+ℤ◌, int_lt, unsigned_abs, List, ◌++◌, if◌then◌else◌, codes}
use Rattle.std.specs.Fmt.{signed_decimal}
use Rattle.date_spec.specs.DateTexts.{printed_with}
use Rattle.date_spec.specs.Instants.{is_in_range}
use Rattle.date_spec.specs.Shapes.{padded}

-- hours and minutes
abbrev pub hours_text : ℕ → List ℕ
hours_text minutes = padded 2 (minutes / 60) ++ (codes ":" ++ padded 2 (minutes % 60))

-- the offset of a zone that is so many milliseconds ahead of UTC: `Z` is UTC itself
abbrev pub offset_text : ℤ → List ℕ
offset_text zone =
    if int_lt zone (pos 0) then codes "-" ++ hours_text (unsigned_abs zone / 60_000)
    else (if int_lt (pos 0) zone then codes "+" ++ hours_text (unsigned_abs zone / 60_000) else codes "Z")

-- an instant as a clock of the zone shows it, with its offset; where that lies beyond the range of dates, the number of the instant
abbrev pub instant_text : ℤ → ℤ → List ℕ
instant_text zone n = if is_in_range (n +ℤ zone) then printed_with (offset_text zone) (n +ℤ zone) else signed_decimal n
