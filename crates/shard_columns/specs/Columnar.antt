-- Finished columns, and the values of a row of each type.
use Rattle.std.specs.Prelude.{◌≡◌, ◌<◌, ℕ, ℤ, Bool, List, [], map, length, slice_get, Some}
use Rattle.std.specs.List.Sorted.{IsStrictlyIncreasing}
use Rattle.agg_model.specs.declared.mapping.FieldKind.{FieldKind}
use Rattle.agg_model.specs.declared.row.Scalar.{Scalar}
use Rattle.shard_columns.specs.declared.values.Typed.{Typed}
use Rattle.shard_columns.specs.declared.values.Typed.TheVariants as typed
use Rattle.shard_columns.specs.declared.values.Span.{Span}
use Rattle.shard_columns.specs.declared.values.Held.{Held}
use Rattle.shard_columns.specs.declared.values.Draft.{Draft}
use Rattle.shard_columns.specs.declared.homes.Homes.{Homes}
use Rattle.shard_columns.specs.declared.columns.Spans.{Spans}
use Rattle.shard_columns.specs.declared.columns.Spans.TheVariants as spans
use Rattle.shard_columns.specs.declared.columns.Column.{Column}
use Rattle.shard_columns.specs.Homes.{home_count}
use Rattle.shard_columns.specs.Values.{cut, span_in, span_of, typed_len, is_typed, ranked, draft_values, column_values, IsPart, IsShaped, AreAlike, WithinReach}

-- few rows ascend
abbrev pub Rises : Spans → Type 0
Rises (spans.OneEach context count) = Unit {0}
Rises (spans.OfEach context starts) = Unit {0}
Rises (spans.OfSome held) = IsStrictlyIncreasing (map (λ h. h.row) held.items)

-- the values of each row that has a home lie within the flat array
pub record IsColumn (homes : Homes) (c : Column) : Type 0 where
  pub rising : Rises c.spans
  pub within : (row : ℕ) → row < home_count homes → IsPart (typed_len c.typed) (span_of homes c.spans row)

-- each row that has a home has the values that it has among these rows
abbrev pub StandFor : Homes → Spans → List Held → Type 0
StandFor homes spans held = (size : ℕ) → WithinReach size held → (row : ℕ) → row < home_count homes → AreAlike size (span_of homes spans row) (span_in held row)

abbrev pub wholes_part : Typed → Span → List ℤ
wholes_part (typed.Wholes ns) span = cut ns.items span
wholes_part (typed.Words ps) span = []
wholes_part (typed.Flags bs) span = []

abbrev pub ordinals_part : Typed → Span → List ℕ
ordinals_part (typed.Wholes ns) span = []
ordinals_part (typed.Words ps) span = cut ps.items span
ordinals_part (typed.Flags bs) span = []

abbrev pub flags_part : Typed → Span → List Bool
flags_part (typed.Wholes ns) span = []
flags_part (typed.Words ps) span = []
flags_part (typed.Flags bs) span = cut bs.items span

-- the same values, with the words' places for their numbers
pub record IsFinished (homes : Homes) (ranks : List ℕ) (d : Draft) (c : Column) : Type 0 where
  pub sound : IsColumn homes c
  pub kind : (k : FieldKind) → is_typed k c.typed ≡ is_typed k d.typed
  pub values : (show : ℕ → Scalar) (row : ℕ) → row < home_count homes → column_values homes show c row ≡ draft_values (λ p. show (ranked ranks p)) d row

pub record AreFinished (homes : Homes) (ranks : List ℕ) (drafts : List Draft) (columns : List Column) : Type 0 where
  pub sizes : length columns ≡ length drafts
  pub each : (f : ℕ) (d : Draft) (c : Column) → slice_get drafts f ≡ Some d → slice_get columns f ≡ Some c → IsFinished homes ranks d c

abbrev pub AreShapedAll : ℕ → List Draft → Type 0
AreShapedAll rows drafts = (f : ℕ) (d : Draft) → slice_get drafts f ≡ Some d → IsShaped rows d
