-- Values of the kind of their field, and the ranges of whole numbers and of dates (Elasticsearch Reference 8, 'Field data types').
use Rattle.std.specs.Prelude.{ℕ, ◌^◌, ℤ, pos, neg_ℤ, int_le, int_lt, Bool, true, false, ◌&&◌}
use Rattle.date_spec.specs.Instants.{is_in_range}
use Rattle.agg_model.specs.declared.mapping.FieldKind.{FieldKind}
use Rattle.agg_model.specs.declared.mapping.FieldKind.TheVariants.{Long, Integer, Short, Byte, Keyword, Boolean, Date}
use Rattle.agg_model.specs.declared.row.Scalar.{Scalar}
use Rattle.agg_model.specs.declared.row.Scalar.TheVariants.{Whole, Word, Flag}

-- what the values of a field are
pub data ValueKind : Type 0 where
  -- whole numbers from -half up to, not including, half
  wholes : ℕ → ValueKind
  words : ValueKind
  flags : ValueKind
  -- instants in the range of dates, kept as whole numbers of milliseconds
  dates : ValueKind

-- What tells the kinds of fields apart, said once: each kind has its clause here, and what depends on a kind reads it.
abbrev pub value_kind : FieldKind → ValueKind
value_kind Long = ValueKind.wholes (2 ^ 63)
value_kind Integer = ValueKind.wholes (2 ^ 31)
value_kind Short = ValueKind.wholes (2 ^ 15)
value_kind Byte = ValueKind.wholes (2 ^ 7)
value_kind Keyword = ValueKind.words
value_kind Boolean = ValueKind.flags
value_kind Date = ValueKind.dates

abbrev pub holds : ValueKind → Scalar → Bool
holds (ValueKind.wholes half) (Whole n) = true
holds (ValueKind.wholes half) (Word w) = false
holds (ValueKind.wholes half) (Flag b) = false
holds ValueKind.words (Whole n) = false
holds ValueKind.words (Word w) = true
holds ValueKind.words (Flag b) = false
holds ValueKind.flags (Whole n) = false
holds ValueKind.flags (Word w) = false
holds ValueKind.flags (Flag b) = true
holds ValueKind.dates (Whole n) = true
holds ValueKind.dates (Word w) = false
holds ValueKind.dates (Flag b) = false

-- words in keyword fields, flags in boolean fields, whole numbers in all others
abbrev pub is_of_kind : FieldKind → Scalar → Bool
is_of_kind kind v = holds (value_kind kind) v

-- its values are plain whole numbers
abbrev pub is_whole_kind : FieldKind → Bool
is_whole_kind kind = elim (value_kind kind) [ ValueKind.wholes half ↦ true | ValueKind.words ↦ false | ValueKind.flags ↦ false | ValueKind.dates ↦ false ]

-- its values are kept as whole numbers: those of dates too
abbrev pub is_number_kind : FieldKind → Bool
is_number_kind kind = elim (value_kind kind) [ ValueKind.wholes half ↦ true | ValueKind.words ↦ false | ValueKind.flags ↦ false | ValueKind.dates ↦ true ]

abbrev pub is_date_kind : FieldKind → Bool
is_date_kind kind = elim (value_kind kind) [ ValueKind.wholes half ↦ false | ValueKind.words ↦ false | ValueKind.flags ↦ false | ValueKind.dates ↦ true ]

-- from -2^(bits-1) up to, not including, 2^(bits-1)
abbrev pub fits_below : ℕ → ℤ → Bool
fits_below half z = int_le (neg_ℤ (pos half)) z && int_lt z (pos half)

-- whether a whole number lies in the range of a field of this kind
abbrev pub fits_kind : FieldKind → ℤ → Bool
fits_kind kind z = elim (value_kind kind) [
  | ValueKind.wholes half ↦ fits_below half z
  | ValueKind.words ↦ fits_below (2 ^ 63) z
  | ValueKind.flags ↦ fits_below (2 ^ 63) z
  | ValueKind.dates ↦ is_in_range z
]
