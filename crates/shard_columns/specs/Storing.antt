-- What is stored of rows whose words are numbers: by any reading that shows each number as its word.
use Rattle.std.specs.Prelude.{◌≡◌, ℕ, ◌+◌, ◌<◌, ◌≤◌, true, List, [], ◌∷◌, ◌++◌, length, slice_get, Some, None, find, ◌==◌}
use Rattle.std.specs.List.{list_all}
use Rattle.agg_model.specs.declared.mapping.FieldKind.{FieldKind}
use Rattle.agg_model.specs.declared.row.Scalar.{Scalar}
use Rattle.agg_model.specs.declared.row.FieldValues.{FieldValues}
use Rattle.shard_columns.specs.declared.values.Typed.{Typed}
use Rattle.shard_columns.specs.declared.values.Draft.{Draft}
use Rattle.shard_columns.specs.declared.values.Drafts.{Drafts}
use Rattle.shard_columns.specs.declared.words.WordNumbers.{WordNumbers}
use Rattle.shard_columns.specs.Values.{Reader, scalars, typed_len, is_typed, is_taken, IsShaped, drafted, found_values, total_count}
use Rattle.shard_columns.specs.Words.{Shows}

-- values of a field are put behind others
pub record AddsTyped (numbers : WordNumbers) (field : ℕ) (old new : Typed) (values : List Scalar) : Type 0 where
  pub grown : typed_len new ≡ typed_len old + length values
  pub shown : (show : Reader) → Shows numbers show → scalars (show field) new ≡ scalars (show field) old ++ values
  pub kind : (k : FieldKind) → is_typed k new ≡ is_typed k old
  pub taken : (v : Scalar) → is_taken new v ≡ is_taken old v

-- so are those of a row
pub record AddsHeld (numbers : WordNumbers) (field : ℕ) (old new : Draft) (row : ℕ) (values : List Scalar) : Type 0 where
  pub held : new.held ≡ old.held ++ record { row = row; span = record { start = typed_len old.typed; end = typed_len new.typed } } ∷ []
  pub typed : AddsTyped numbers field old.typed new.typed values

-- the values of fields of these kinds
pub record HasKinds (kinds : List FieldKind) (drafts : Drafts) : Type 0 where
  pub typed : (f : ℕ) (k : FieldKind) (d : Draft) → slice_get kinds f ≡ Some k → slice_get drafts.columns.items f ≡ Some d → is_typed k d.typed ≡ true

-- nothing is held
pub record IsEmpty (drafts : Drafts) : Type 0 where
  pub count : drafts.count ≡ 0
  pub held : (f : ℕ) (d : Draft) → slice_get drafts.columns.items f ≡ Some d → d.held ≡ []
  pub typed : (f : ℕ) (d : Draft) → slice_get drafts.columns.items f ≡ Some d → typed_len d.typed ≡ 0

-- the values of each field are of its type
abbrev pub AreTaken : Drafts → List FieldValues → Type 0
AreTaken drafts fields =
    (n : ℕ) (v : FieldValues) (d : Draft) → slice_get fields n ≡ Some v → slice_get drafts.columns.items v.field ≡ Some d → list_all (is_taken d.typed) v.values ≡ true

-- no more values of a field, and no more numbers of words, than values
pub record AreBounded (numbers : WordNumbers) (drafts : Drafts) : Type 0 where
  pub values : (f : ℕ) (d : Draft) → slice_get drafts.columns.items f ≡ Some d → typed_len d.typed ≤ drafts.count
  pub words : length numbers.ranks.items ≤ drafts.count

abbrev pub AreShaped : ℕ → Drafts → Type 0
AreShaped rows drafts = (f : ℕ) (d : Draft) → slice_get drafts.columns.items f ≡ Some d → IsShaped rows d

-- one more row, of which these fields are stored
pub record AddsRowValues (numbers : WordNumbers) (old new : Drafts) (row : ℕ) (fields : List FieldValues) : Type 0 where
  pub sizes : length new.columns.items ≡ length old.columns.items
  pub others : (show : Reader) → Shows numbers show → (f n : ℕ) → ¬ (n ≡ row) → drafted show new.columns.items f n ≡ drafted show old.columns.items f n
  pub here : (show : Reader) → Shows numbers show → (f : ℕ) → f < length old.columns.items → drafted show new.columns.items f row ≡ found_values f fields
  pub shaped : AreShaped (row + 1) new
  pub fresh : (f : ℕ) (d : Draft) → slice_get new.columns.items f ≡ Some d → find (λ v. v.field == f) fields ≡ None → IsShaped row d
  pub counted : new.count ≡ old.count + total_count fields
  pub bounded : AreBounded numbers new
  pub kinds : (kinds : List FieldKind) → HasKinds kinds old → HasKinds kinds new
  pub taken : (f : ℕ) (d e : Draft) → slice_get new.columns.items f ≡ Some d → slice_get old.columns.items f ≡ Some e → (v : Scalar) → is_taken d.typed v ≡ is_taken e.typed v
