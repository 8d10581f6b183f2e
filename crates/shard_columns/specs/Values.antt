-- Values in flat arrays, one for each field, with the spans of the rows that have any.
use Rattle.std.specs.Prelude.{◌≡◌, ◌⊎◌, ℕ, zero, suc, ◌+◌, ◌-◌, pos, ◌<◌, ◌≤◌, Bool, true, false, List, [], ◌∷◌, ◌++◌, map, length, slice_index_or, slice_range, Contains, find, flat_map, if◌then◌else◌, ◌==◌, slice_get, sum_by, nat_le, nat_lt}
use Rattle.std.specs.Option.{option_map_or}
use Rattle.std.specs.List.{range_with_len}
use Rattle.std.specs.List.Sorted.{IsStrictlyIncreasing}
use Rattle.agg_model.specs.declared.mapping.FieldKind.{FieldKind}
use Rattle.agg_model.specs.FieldKinds.{ValueKind, value_kind}
use Rattle.agg_model.specs.declared.row.Scalar.{Scalar}
use Rattle.agg_model.specs.declared.row.Scalar.TheVariants as scalar
use Rattle.agg_model.specs.declared.row.FieldValues.{FieldValues}
use Rattle.agg_evaluation.specs.Ceiling.{greatest_of}
use Rattle.shard_columns.specs.Ones.{one_span}
use Rattle.shard_columns.specs.Homes.{rank_in}
use Rattle.shard_columns.specs.declared.homes.Homes.{Homes}
use Rattle.shard_columns.specs.declared.values.Typed.{Typed}
use Rattle.shard_columns.specs.declared.values.Typed.TheVariants as typed
use Rattle.shard_columns.specs.declared.values.Span.{Span}
use Rattle.shard_columns.specs.declared.values.Held.{Held}
use Rattle.shard_columns.specs.declared.values.Draft.{Draft}
use Rattle.shard_columns.specs.declared.columns.Spans.{Spans}
use Rattle.shard_columns.specs.declared.columns.Spans.TheVariants as spans
use Rattle.shard_columns.specs.declared.columns.Column.{Column}

-- the words of a field, ascending
abbrev pub Words : Type 0
Words = List (List ℕ)

-- a place behind the words, which no value has, stands for 0
abbrev pub shown : Words → ℕ → Scalar
shown words place = option_map_or scalar.Word (slice_get words place) (scalar.Whole (pos 0))

-- how the numbers or places of the words of a field are read
abbrev pub Reader : Type 0
Reader = ℕ → ℕ → Scalar

-- a word is read by its place among the words of its field
abbrev pub by_words : List Words → Reader
by_words words field = shown (slice_index_or words field [])

abbrev pub cut : {X : Type 0} → List X → Span → List X
cut xs span = slice_range xs span.start span.end

abbrev pub scalars : (ℕ → Scalar) → Typed → List Scalar
scalars show (typed.Wholes ns) = map scalar.Whole ns.items
scalars show (typed.Words ps) = map show ps.items
scalars show (typed.Flags bs) = map scalar.Flag bs.items

abbrev pub typed_len : Typed → ℕ
typed_len (typed.Wholes ns) = length ns.items
typed_len (typed.Words ps) = length ps.items
typed_len (typed.Flags bs) = length bs.items

abbrev pub hold : ValueKind → Typed → Bool
hold (ValueKind.wholes half) (typed.Wholes ns) = true
hold (ValueKind.wholes half) (typed.Words ps) = false
hold (ValueKind.wholes half) (typed.Flags bs) = false
hold ValueKind.words (typed.Wholes ns) = false
hold ValueKind.words (typed.Words ps) = true
hold ValueKind.words (typed.Flags bs) = false
hold ValueKind.flags (typed.Wholes ns) = false
hold ValueKind.flags (typed.Words ps) = false
hold ValueKind.flags (typed.Flags bs) = true
hold ValueKind.dates (typed.Wholes ns) = true
hold ValueKind.dates (typed.Words ps) = false
hold ValueKind.dates (typed.Flags bs) = false

-- values of a kind are of this type
abbrev pub is_typed : FieldKind → Typed → Bool
is_typed kind values = hold (value_kind kind) values

-- a value is of this type
abbrev pub is_taken : Typed → Scalar → Bool
is_taken (typed.Wholes ns) (scalar.Whole n) = true
is_taken (typed.Wholes ns) (scalar.Word w) = false
is_taken (typed.Wholes ns) (scalar.Flag b) = false
is_taken (typed.Words ps) (scalar.Whole n) = false
is_taken (typed.Words ps) (scalar.Word w) = true
is_taken (typed.Words ps) (scalar.Flag b) = false
is_taken (typed.Flags bs) (scalar.Whole n) = false
is_taken (typed.Flags bs) (scalar.Word w) = false
is_taken (typed.Flags bs) (scalar.Flag b) = true

abbrev pub no_span : Span
no_span = record { start = 0; end = 0 }

-- where the value of a rank is, if it is among so many that have one each, at its place
abbrev pub span_among : ℕ → ℕ → Span
span_among count rank = if nat_lt rank count then one_span rank else no_span

-- where the values of a rank are, given where those of each rank start, and at last where all end
abbrev pub span_between : List ℕ → ℕ → Span
span_between starts rank =
    if nat_lt (rank + 1) (length starts) then record { start = slice_index_or starts rank 0; end = slice_index_or starts (rank + 1) 0 } else no_span

-- where the values of a row are
abbrev pub span_in : List Held → ℕ → Span
span_in held row = option_map_or (λ h. h.span) (find (λ h. h.row == row) held) no_span

abbrev pub span_of : Homes → Spans → ℕ → Span
span_of homes (spans.OneEach context count) row = option_map_or (span_among count) (rank_in homes context row) no_span
span_of homes (spans.OfEach context starts) row = option_map_or (span_between starts.items) (rank_in homes context row) no_span
span_of homes (spans.OfSome held) row = span_in held.items row

-- how many values a row has
abbrev pub held_count : Held → ℕ
held_count h = h.span.end - h.span.start

-- the most that one row has
abbrev pub most_held : Draft → ℕ
most_held d = greatest_of (map held_count d.held)

-- the values of a row
abbrev pub draft_values : (ℕ → Scalar) → Draft → ℕ → List Scalar
draft_values show d row = cut (scalars show d.typed) (span_in d.held row)

abbrev pub column_values : Homes → (ℕ → Scalar) → Column → ℕ → List Scalar
column_values homes show c row = cut (scalars show c.typed) (span_of homes c.spans row)

-- the values of a field in a row
abbrev pub drafted : Reader → List Draft → ℕ → ℕ → List Scalar
drafted show drafts field row = option_map_or (λ d. draft_values (show field) d row) (slice_get drafts field) []

abbrev pub held_values : Homes → Reader → List Column → ℕ → ℕ → List Scalar
held_values homes show columns field row = option_map_or (λ c. column_values homes (show field) c row) (slice_get columns field) []

-- a field that a row has
abbrev pub present : ℕ → List Scalar → List FieldValues
present field [] = []
present field (v ∷ vs) = record { field = field; values = v ∷ vs } ∷ []

-- of so many fields from this one on, those that a row has
unfoldable pub present_from : (ℕ → List Scalar) → ℕ → ℕ → List FieldValues
present_from read field zero = []
present_from read field (suc n) = present field (read field) ++ present_from read (field + 1) n

-- the values of each of so many rows
abbrev pub row_values : Homes → Reader → List Column → ℕ → List (List FieldValues)
row_values homes show columns rows = map (λ n. present_from (λ f. held_values homes show columns f n) 0 (length columns)) (range_with_len 0 rows)

-- what a row's fields have
abbrev pub found_values : ℕ → List FieldValues → List Scalar
found_values field fields = option_map_or (λ v. v.values) (find (λ v. v.field == field) fields) []

abbrev pub word_in : Scalar → Words
word_in (scalar.Whole n) = []
word_in (scalar.Word w) = w ∷ []
word_in (scalar.Flag b) = []

abbrev pub words_in : List Scalar → Words
words_in = flat_map word_in

-- the words of one field, in the order of the values
abbrev pub words_at : ℕ → FieldValues → Words
words_at field f = if f.field == field then words_in f.values else []

abbrev pub words_for : ℕ → List FieldValues → Words
words_for field = flat_map (words_at field)

abbrev pub AllAmong : Words → Words → Type 0
AllAmong xs ys = (w : List ℕ) → Contains xs w → Contains ys w

-- these fields are among the first n
unfoldable pub FieldsBelow : ℕ → List FieldValues → Type 0
FieldsBelow n [] = Unit {0}
FieldsBelow n (f ∷ fs) = (f.field < n) × FieldsBelow n fs

-- a part of a list of this length
abbrev pub IsPart : ℕ → Span → Type 0
IsPart n span = (span.start ≤ span.end) × (span.end ≤ n)

-- the same part, or neither is of any value, in a list of this length
abbrev pub AreAlike : ℕ → Span → Span → Type 0
AreAlike size new old = (new ≡ old) ⊎ ((old ≡ no_span) × ((new.start ≡ new.end) × (new.end ≤ size)))

-- the values of each row lie within the flat array of this length
unfoldable pub WithinReach : ℕ → List Held → Type 0
WithinReach n [] = Unit {0}
WithinReach n (h ∷ hs) = IsPart n h.span × WithinReach n hs

-- rows ascend below a number, and their values lie within the array
pub record IsShaped (rows : ℕ) (d : Draft) : Type 0 where
  pub rising : IsStrictlyIncreasing (map (λ h. h.row) d.held)
  pub below : (k : ℕ) (h : Held) → k < length d.held → (slice_index_or d.held k h).row < rows
  pub within : WithinReach (typed_len d.typed) d.held

-- how many values these fields have, all together
abbrev pub total_count : List FieldValues → ℕ
total_count fields = sum_by (λ f. length f.values) fields

abbrev pub limited : ℕ → ℕ
limited n = if nat_le n 4294967295 then n else 0

-- the place of a word in its dictionary, in the place of its number
abbrev pub ranked : List ℕ → ℕ → ℕ
ranked ranks number = option_map_or limited (slice_get ranks number) 0

-- the same values, with the words' places for their numbers
pub record AreRankedAll (ranks : List ℕ) (old new : Typed) : Type 0 where
  pub size : typed_len new ≡ typed_len old
  pub kind : (k : FieldKind) → is_typed k new ≡ is_typed k old
  pub same : (show : ℕ → Scalar) → scalars show new ≡ scalars (λ p. show (ranked ranks p)) old
