-- The rows of a shard by the documents in which they lie (Elasticsearch Reference 8, 'Nested field type': a nested document is
-- a row of its document).
use Rattle.std.specs.Prelude.{◌≡◌, ℕ, Bool, false, T, List, [], ◌∷◌, ◌++◌, nat_le, nat_lt}
use Rattle.std.specs.List.{list_all}
use Rattle.agg_evaluation.specs.Rows.{PlacedRow}

-- whether a place starts with a number below this
abbrev pub starts_below : ℕ → List ℕ → Bool
starts_below n [] = false
starts_below n (d ∷ place) = nat_lt d n

-- whether a place starts with this number or a greater one
abbrev pub starts_from : ℕ → List ℕ → Bool
starts_from n [] = false
starts_from n (d ∷ place) = nat_le n d

-- whether a row lies in one of the first n documents
abbrev pub lies_before : ℕ → PlacedRow → Bool
lies_before n row = starts_below n row.place

-- whether a row lies in a document behind the first n
abbrev pub lies_behind : ℕ → PlacedRow → Bool
lies_behind n row = starts_from n row.place

-- whether all lie in the first n documents
abbrev pub lie_before : ℕ → List PlacedRow → Bool
lie_before n = list_all (lies_before n)

-- whether all lie in documents behind the first n
abbrev pub lie_behind : ℕ → List PlacedRow → Bool
lie_behind n = list_all (lies_behind n)

-- the rows of a shard are those of its first n documents, and then those of the others
pub record IsCutAt (n : ℕ) (all : List PlacedRow) : Type 0 where
  pub before : List PlacedRow
  pub behind : List PlacedRow
  pub split : all ≡ before ++ behind
  pub before_lie : T (lie_before n before)
  pub behind_lie : T (lie_behind n behind)
