-- Values whose keys have 8 bytes (Elasticsearch Reference 8, 'Numeric field types' and 'Boolean field type').
use Rattle.std.specs.Prelude.{Bool, true, false}
use Rattle.agg_model.specs.declared.row.Scalar.{Scalar}
use Rattle.agg_model.specs.declared.row.Scalar.TheVariants.{Whole, Word, Flag}

-- whether a value is a whole number or a flag
abbrev pub is_number_or_flag : Scalar → Bool
is_number_or_flag (Whole n) = true
is_number_or_flag (Flag b) = true
is_number_or_flag (Word w) = false
