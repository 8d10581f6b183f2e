-- The weight of values, by which the size of what is kept is limited: one for each, and the bytes of words.
use Rattle.std.specs.Prelude.{ℕ, ◌+◌, length, sum_by}
use Rattle.agg_model.specs.declared.row.Scalar.{Scalar}
use Rattle.agg_model.specs.declared.row.Scalar.TheVariants.{Whole, Word, Flag}
use Rattle.agg_model.specs.declared.row.FieldValues.{FieldValues}

abbrev pub scalar_weight : Scalar → ℕ
scalar_weight (Whole n) = 1
scalar_weight (Word w) = 1 + length w
scalar_weight (Flag b) = 1

abbrev pub field_weight : FieldValues → ℕ
field_weight f = sum_by scalar_weight f.values
