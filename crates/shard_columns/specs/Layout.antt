-- The rows that a list of entries stands for: an entry tells a row's document and its place beneath an earlier row.
use Rattle.std.specs.Prelude.{◌≡◌, ℕ, ◌+◌, ◌==◌, if◌then◌else◌, List, [], ◌∷◌, ◌++◌, map, length, slice_index_or}
use Rattle.agg_model.specs.declared.row.FieldValues.{FieldValues}
use Rattle.agg_model.specs.declared.row.Row.{Row}
use Rattle.agg_model.specs.declared.row.Children.{Children}
use Rattle.agg_model.specs.declared.row.Document.{Document}
use Rattle.agg_evaluation.specs.Folds.{fold_children}
use Rattle.agg_evaluation.specs.Rows.{PlacedRow, Walk, walk_children, walk_row, rows_of, no_row}
use Rattle.shard_columns.specs.declared.layout.Origin.{Origin}
use Rattle.shard_columns.specs.declared.layout.Origin.TheVariants.{Root, Nested}
use Rattle.shard_columns.specs.declared.layout.Entry.{Entry}
use Rattle.shard_columns.specs.declared.layout.Laid.{Laid}

-- the place of a row of this origin, after the rows before it
abbrev pub place_at : List PlacedRow → ℕ → Origin → List ℕ
place_at rows document Root = document ∷ []
place_at rows document (Nested parent path number) = (slice_index_or rows parent no_row).place ++ path ∷ number ∷ []

abbrev pub context_of : Origin → ℕ
context_of Root = 0
context_of (Nested parent path number) = path + 1

abbrev pub row_at : List (List ℕ) → List PlacedRow → Entry → List FieldValues → PlacedRow
row_at ids rows e values =
    record { place = place_at rows e.document e.origin; context = context_of e.origin; id = slice_index_or ids e.document []; values = values }

-- the rows, and behind them those of the entries
unfoldable pub placed : List (List ℕ) → List PlacedRow → List (Entry × List FieldValues) → List PlacedRow
placed ids rows [] = rows
placed ids rows (e ∷ es) = placed ids (rows ++ row_at ids rows e.0 e.1 ∷ []) es

abbrev pub flat_rows : List (List ℕ) → List Laid → List PlacedRow
flat_rows ids laid = placed ids [] (map (λ l. (l.entry, l.values.now)) laid)

abbrev pub children_of : Children → Walk
children_of = fold_children walk_children walk_row

pub record AddsRow (old new : List Laid) (row : Row) (entry : Entry) : Type 0 where
  pub added : (ids : List (List ℕ)) → flat_rows ids new ≡ flat_rows ids old
      ++ rows_of row (context_of entry.origin) (slice_index_or ids entry.document []) (place_at (flat_rows ids old) entry.document entry.origin)

pub record AddsChildren (old new : List Laid) (children : Children) (document parent : ℕ) : Type 0 where
  pub added : (ids : List (List ℕ)) → flat_rows ids new ≡ flat_rows ids old
      ++ children_of children (slice_index_or ids document []) (slice_index_or (flat_rows ids old) parent no_row).place

-- whatever rows of other documents stand before these, so many together
abbrev pub AddsRowBehind : ℕ → List Laid → List Laid → Row → Entry → Type 0
AddsRowBehind count old new row entry = (before : List Laid) → length (before ++ old) ≡ count → AddsRow (before ++ old) (before ++ new) row entry

abbrev pub AddsChildrenBehind : ℕ → List Laid → List Laid → Children → ℕ → ℕ → Type 0
AddsChildrenBehind count old new children document parent =
    (before : List Laid) → length (before ++ old) ≡ count → AddsChildren (before ++ old) (before ++ new) children document parent

abbrev pub ids_of : List Document → List (List ℕ)
ids_of documents = map (λ d. d.id) documents

abbrev pub values_of_laid : List Laid → List (List FieldValues)
values_of_laid rows = map (λ l. l.values.now) rows

abbrev pub entries_of_laid : List Laid → List Entry
entries_of_laid rows = map (λ l. l.entry) rows

-- the numbers of the rows of a context among entries that are numbered from n
unfoldable pub numbers_at : ℕ → ℕ → List Entry → List ℕ
numbers_at context n [] = []
numbers_at context n (e ∷ es) = if context_of e.origin == context then n ∷ numbers_at context (n + 1) es else numbers_at context (n + 1) es
