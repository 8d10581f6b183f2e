-- The codes of a row: those of its values, each once (Elasticsearch Reference 8, 'Histogram aggregation', `missing`).
use Rattle.std.specs.Prelude.{ℤ, Bool, List, [], ◌∷◌, Option, Some, None, if◌then◌else◌, filter, map, option_to_list}
use Rattle.std.specs.Option.{option_eq}
use Rattle.std.specs.Ordering.{int_eq}
use Rattle.agg_model.specs.declared.row.Scalar.{Scalar}
use Rattle.shard_columns.specs.Lent.{wholes_in}

-- those of these codes that differ from the one before
abbrev pub each_behind : Option ℤ → List ℤ → List ℤ
each_behind last [] = []
each_behind last (c ∷ cs) = if option_eq int_eq last (Some c) then each_behind last cs else (c ∷ each_behind (Some c) cs)

-- the codes of numbers that ascend, each once, of those that are kept
abbrev pub kept_codes : (ℤ → ℤ) → (ℤ → Bool) → List ℤ → List ℤ
kept_codes code_of is_kept numbers = filter is_kept (each_behind None (map code_of numbers))

-- the codes of a row that has these values; a row without a value has the code of a missing one
abbrev pub row_codes : Option ℤ → (ℤ → ℤ) → (ℤ → Bool) → List Scalar → List ℤ
row_codes missing code_of is_kept [] = option_to_list missing
row_codes missing code_of is_kept (v ∷ vs) = kept_codes code_of is_kept (wholes_in (v ∷ vs))
