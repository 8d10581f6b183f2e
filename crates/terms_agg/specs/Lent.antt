-- The values of a row as a shard lends them, and their codes.
use Rattle.std.specs.Prelude.{◌≡◌, ℕ, ℤ, pos, Bool, true, false, List, map, length}
use Rattle.std.specs.List.{list_all}
use Rattle.agg_model.specs.ValueKeys.{scalar_key}
use Rattle.agg_evaluation.specs.Rows.{row_of, values_of}
use Rattle.shard_columns.specs.Columns.{Columns}
use Rattle.shard_columns.specs.Dictionary.{words_of}
use Rattle.terms_agg.specs.declared.row_values.RowValues.{RowValues}
use Rattle.terms_agg.specs.declared.row_values.RowValues.TheVariants.{Wholes, Words, Flags}
use Rattle.terms_agg.specs.Codes.{content_in, is_code_at, key_at}

abbrev pub flag_number : Bool → ℤ
flag_number true = pos 1
flag_number false = pos 0

-- the codes of the values, in their order
abbrev pub codes_in : RowValues → List ℤ
codes_in (Wholes numbers) = numbers.now
codes_in (Words ordinals) = map pos ordinals.now
codes_in (Flags flags) = map flag_number flags.now

-- the values are those that the row has of the field: their codes are codes of the field, and stand for their keys
pub record AreLent (shard : Columns) (field row : ℕ) (values : RowValues) : Type 0 where
  pub keys : map (key_at (content_in shard field) (words_of field shard.rows)) (codes_in values) ≡ map scalar_key (values_of field (row_of shard.rows row))
  pub codes : list_all (is_code_at (content_in shard field) (length (words_of field shard.rows))) (codes_in values) ≡ true
