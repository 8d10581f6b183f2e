-- Rows by their context, and what encloses what, by numbers.
use Rattle.std.specs.Prelude.{◌≡◌, ℕ, ◌<◌, ◌≤◌, ◌&&◌, nat_le, nat_lt, List, [], length, slice_index_or}
use Rattle.agg_evaluation.specs.Rows.{PlacedRow, is_within, row_of}
use Rattle.shard_columns.specs.declared.layout.Entry.{Entry}
use Rattle.shard_columns.specs.Layout.{context_of, numbers_at}

abbrev pub ContextsBelow : ℕ → List Entry → Type 0
ContextsBelow count rows = (n : ℕ) (d : Entry) → n < length rows → context_of (slice_index_or rows n d).origin < count

-- for each of so many contexts the numbers of its rows, ascending
pub record AreNumbered (count : ℕ) (rows : List Entry) (numbers : List (List ℕ)) : Type 0 where
  pub sizes : length numbers ≡ count
  pub numbers_are : (context : ℕ) → slice_index_or numbers context [] ≡ numbers_at context 0 rows

-- the rows within a row are those from its number to before its end
pub record AreEnclosed (rows : List PlacedRow) (ends : List ℕ) : Type 0 where
  pub sizes : length ends ≡ length rows
  pub after : (n : ℕ) → n < length rows → n < slice_index_or ends n 0
  pub before : (n : ℕ) → n < length rows → slice_index_or ends n 0 ≤ length rows
  pub within : (n j : ℕ) → n < length rows → j < length rows → is_within (row_of rows j) (row_of rows n) ≡ (nat_le n j && nat_lt j (slice_index_or ends n 0))
