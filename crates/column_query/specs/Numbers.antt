-- The numbers that stand for the values of a field, in the order of the values: a whole number for itself, a word by its place
-- among the words of the field, and a flag by 0 or 1.
use Rattle.std.specs.Prelude.{◌≡◌, ℕ, ◌+◌, Bool, true, false, List, [], ◌∷◌, map, if◌then◌else◌, ℤ, pos, Option, Some, None, Contains}
use Rattle.std.specs.List.{list_any}
use Rattle.std.specs.Ordering.{nat_cmp, int_cmp, is_lt, is_eq}
use Rattle.std.specs.Cmp.Lexicographic.{slice_cmp}
use Rattle.agg_model.specs.declared.mapping.FieldKind.{FieldKind}
use Rattle.agg_model.specs.declared.row.Scalar.{Scalar}
use Rattle.agg_model.specs.declared.row.Scalar.TheVariants as scalar
use Rattle.agg_model.specs.declared.query.Probe.{Probe}
use Rattle.agg_model.specs.declared.query.RangeOp.{RangeOp}
use Rattle.agg_model.specs.declared.query.RangeOp.TheVariants.{Gt, Gte, Lt, Lte}
use Rattle.agg_model.specs.declared.query.RangeTest.{RangeTest}
use Rattle.agg_model.specs.FieldKinds.{ValueKind, value_kind}
use Rattle.agg_evaluation.specs.KeyOrder.{key_eq}
use Rattle.agg_model.specs.ValueKeys.{scalar_key, probe_key}
use Rattle.agg_evaluation.specs.Matching.{allows, passes}
use Rattle.agg_evaluation.specs.Rows.{PlacedRow, values_of, row_of}
use Rattle.shard_columns.specs.Dictionary.{words_of}
use Rattle.shard_columns.specs.Values.{Words}
use Rattle.column_query.specs.declared.content.Content.{Content}
use Rattle.column_query.specs.declared.content.Content.TheVariants as content
use Rattle.column_query.specs.declared.bounds.Bound.{Bound}
use Rattle.column_query.specs.declared.bounds.Bound.TheVariants as bound

-- what a field of each kind holds
abbrev pub content_of : FieldKind → Content
content_of kind = elim (value_kind kind) [ ValueKind.wholes half ↦ content.Wholes | ValueKind.words ↦ content.Words | ValueKind.flags ↦ content.Flags | ValueKind.dates ↦ content.Wholes ]

abbrev pub is_content : Content → Scalar → Bool
is_content content.Words (scalar.Whole n) = false
is_content content.Words (scalar.Word w) = true
is_content content.Words (scalar.Flag b) = false
is_content content.Flags (scalar.Whole n) = false
is_content content.Flags (scalar.Word w) = false
is_content content.Flags (scalar.Flag b) = true
is_content content.Wholes (scalar.Whole n) = true
is_content content.Wholes (scalar.Word w) = false
is_content content.Wholes (scalar.Flag b) = false

-- how many of the first words come before this one
unfoldable pub place_among : Words → List ℕ → ℕ
place_among [] w = 0
place_among (v ∷ vs) w = if is_lt (slice_cmp nat_cmp v w) then place_among vs w + 1 else 0

-- the bound on others that a word sets where it is not there itself
abbrev pub without_equal : RangeOp → RangeOp
without_equal Gt = Gte
without_equal Gte = Gte
without_equal Lt = Lt
without_equal Lte = Lt

abbrev pub flag_number : Bool → ℤ
flag_number true = pos 1
flag_number false = pos 0

abbrev pub number_of : Words → Scalar → ℤ
number_of words (scalar.Whole n) = n
number_of words (scalar.Word w) = pos (place_among words w)
number_of words (scalar.Flag b) = flag_number b

-- the numbers of the values that a row has of a field
abbrev pub numbers_of : List PlacedRow → ℕ → PlacedRow → List ℤ
numbers_of rows field row = map (number_of (words_of field rows)) (values_of field row)

-- some row has this value of the field
abbrev pub IsHeld : List PlacedRow → ℕ → Scalar → Type 0
IsHeld rows field value = (n : ℕ) × Contains (values_of field (row_of rows n)) value

-- whether a number is the one that is given
abbrev pub is_number : Option ℤ → ℤ → Bool
is_number (Some n) x = is_eq (int_cmp x n)
is_number None x = false

-- whether the number is one of these
abbrev pub is_among : List ℤ → ℤ → Bool
is_among numbers x = list_any (λ n. is_eq (int_cmp x n)) numbers

abbrev pub within : Bound → ℤ → Bool
within (bound.At op n) x = allows op (int_cmp x n)
within (bound.Always answer) x = answer

-- the number stands for the probe among the values of the field
pub record StandsFor (rows : List PlacedRow) (field : ℕ) (probe : Probe) (number : Option ℤ) : Type 0 where
  pub same : (v : Scalar) → IsHeld rows field v → is_number number (number_of (words_of field rows) v) ≡ key_eq (scalar_key v) (probe_key probe)

-- the bound on numbers stands for the bound on values
pub record BoundsAs (rows : List PlacedRow) (field : ℕ) (test : RangeTest) (bound : Bound) : Type 0 where
  pub same : (v : Scalar) → IsHeld rows field v → within bound (number_of (words_of field rows) v) ≡ passes test v

-- the field holds nothing else
pub record Holds (rows : List PlacedRow) (field : ℕ) (content : Content) : Type 0 where
  pub only : (v : Scalar) → IsHeld rows field v → is_content content v ≡ true
