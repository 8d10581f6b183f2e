-- The values that a shard lends: those of one type among the values of a row.
use Rattle.std.specs.Prelude.{ℕ, ℤ, Bool, false, List, [], ◌∷◌, flat_map, slice_get, slice_index_or}
use Rattle.std.specs.Option.{option_map_or}
use Rattle.agg_model.specs.FieldKinds.{is_number_kind}
use Rattle.agg_model.specs.declared.mapping.FieldKind.{FieldKind}
use Rattle.agg_model.specs.declared.row.Scalar.{Scalar}
use Rattle.agg_model.specs.declared.row.Scalar.TheVariants.{Whole, Word, Flag}

abbrev pub whole_in : Scalar → List ℤ
whole_in (Whole n) = n ∷ []
whole_in (Word w) = []
whole_in (Flag b) = []

-- the whole numbers among values
abbrev pub wholes_in : List Scalar → List ℤ
wholes_in = flat_map whole_in

abbrev pub flag_in : Scalar → List Bool
flag_in (Whole n) = []
flag_in (Word w) = []
flag_in (Flag b) = b ∷ []

-- the flags among values
abbrev pub flags_in : List Scalar → List Bool
flags_in = flat_map flag_in

-- the word at a place of a dictionary
abbrev pub word_at : List (List ℕ) → ℕ → List ℕ
word_at words place = slice_index_or words place []

-- the field is one of whole numbers, or of dates
abbrev pub holds_numbers : List FieldKind → ℕ → Bool
holds_numbers kinds field = option_map_or is_number_kind (slice_get kinds field) false
