-- The values that a JSON value stands for in a field (Elasticsearch Reference 8, 'Field data types').
use Rattle.std.specs.Prelude.{ℕ, ◌^◌, ℤ, List, length, drop, Option, Some, None, option_map, option_and_then, Bool, true, false, ◌&&◌, nat_lt, nat_le, if◌then◌else◌, codes}
use Rattle.std.specs.Result.{result_ok}
use Rattle.std.specs.Str.{bytes_eq, all_ascii_digits, chars}
use Rattle.std.specs.Str.Parse.{starts_with_minus, signed_digits_value}
use Rattle.std.specs.Fmt.{signed_decimal}
use Rattle.serde_json.specs.Data.{Data, boolean, number, string}
use Rattle.serde_json.specs.Find.{as_integer}
use Rattle.date_spec.specs.DateTexts.{read_date}
use Rattle.date_spec.specs.Instants.{is_in_range}
use Rattle.agg_model.specs.declared.limits.TheConstants.{MAX_DIGITS}
use Rattle.agg_model.specs.declared.query.Probe.{Probe}
use Rattle.agg_model.specs.declared.query.Probe.TheVariants as probe
use Rattle.agg_model.specs.declared.row.Scalar.{Scalar}
use Rattle.agg_model.specs.declared.row.Scalar.TheVariants as scalar
use Rattle.agg_model.specs.declared.mapping.FieldKind.{FieldKind}
use Rattle.agg_model.specs.FieldKinds.{ValueKind, value_kind, is_date_kind, fits_below}

abbrev pub digits_of : List ℕ → List ℕ
digits_of s = if starts_with_minus s then drop 1 s else s

-- an optional `-` and 1 to MAX_DIGITS digits
abbrev pub is_decimal : List ℕ → Bool
is_decimal s = nat_lt 0 (length (digits_of s)) && nat_le (length (digits_of s)) MAX_DIGITS && all_ascii_digits (digits_of s)

unfoldable pub decimal_of : List ℕ → Option ℤ
decimal_of s = if is_decimal s then Some (signed_digits_value 10 s) else None

-- A whole number, or a decimal text. A number is whole where it is an integer of 64 bits, signed or unsigned; `1.0`, `1e2` and `-0` are not.
unfoldable pub whole : Data → Option ℤ
whole (number n) = as_integer n
whole (string s) = decimal_of s
whole _ = None

abbrev pub word_of : Bool → List ℕ
word_of true = codes "true"
word_of false = codes "false"

-- a text, a whole number in decimal, or the word of a boolean
unfoldable pub word : Data → Option (List ℕ)
word (number n) = option_map signed_decimal (as_integer n)
word (string s) = Some s
word (boolean b) = Some (word_of b)
word _ = None

abbrev pub flag_of : List ℕ → Option Bool
flag_of s = if bytes_eq s (codes "true") then Some true else (if bytes_eq s (codes "false") then Some false else None)

unfoldable pub flag : Data → Option Bool
flag (boolean b) = Some b
flag (string s) = flag_of s
flag _ = None

-- a number of 64 bits, signed
abbrev pub within_64 : ℤ → Option ℤ
within_64 z = if fits_below (2 ^ 63) z then Some z else None

-- What a date field is asked for: a whole number, which need not lie in the range of dates, or a text that names an instant there
-- ('Date field type', `strict_date_optional_time||epoch_millis`).
unfoldable pub instant : Data → Option ℤ
instant (number n) = option_and_then within_64 (as_integer n)
instant (string s) = result_ok (read_date s)
instant _ = None

-- what a query, `include`, `exclude` or `after` asks a field for
unfoldable pub probe_of : FieldKind → Data → Option Probe
probe_of kind d = elim (value_kind kind) [
  | ValueKind.wholes half ↦ option_map probe.Whole (whole d)
  | ValueKind.words ↦ option_map probe.Word (word d)
  | ValueKind.flags ↦ option_map probe.Flag (flag d)
  | ValueKind.dates ↦ option_map probe.Whole (instant d)
]

-- whole numbers of rows have 64 bits, and instants lie in the range of dates
abbrev pub may_be_stored : FieldKind → ℤ → Bool
may_be_stored kind z = if is_date_kind kind then is_in_range z else fits_below (2 ^ 63) z

-- the same value as the value of a row
abbrev pub stored : FieldKind → Probe → Option Scalar
stored kind (probe.Whole z) = if may_be_stored kind z then Some (scalar.Whole z) else None
stored kind (probe.Word w) = Some (scalar.Word w)
stored kind (probe.Flag b) = Some (scalar.Flag b)

-- a text has more Unicode characters than this
abbrev pub is_longer : List ℕ → ℕ → Bool
is_longer text most = nat_lt most (length (chars text))
