-- Rows within rows, by their numbers.
use Rattle.std.specs.Prelude.{◌≡◌, ℕ, ◌+◌, ◌<◌, ◌==◌, ◌||◌, false, List, [], ◌∷◌, ◌++◌, length, Option}
use Rattle.std.specs.Option.{option_map_or}
use Rattle.agg_evaluation.specs.Rows.{PlacedRow, is_within, row_of}

-- the inner row is one of those directly beneath the outer one at a nested path
pub record IsDirectlyBeneath (inner outer : PlacedRow) : Type 0 where
  pub path : ℕ
  pub number : ℕ
  pub context_is : inner.context ≡ path + 1
  pub place_is : inner.place ≡ outer.place ++ path ∷ number ∷ []

-- what encloses a row is the row itself and what encloses the row around it
abbrev pub IsEnclosedBy : List PlacedRow → ℕ → Option ℕ → Type 0
IsEnclosedBy rows row around =
    (n : ℕ) → n < length rows → is_within (row_of rows row) (row_of rows n) ≡ ((n == row) || option_map_or (λ p. is_within (row_of rows p) (row_of rows n)) around false)
