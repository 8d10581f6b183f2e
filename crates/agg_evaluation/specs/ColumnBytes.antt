-- What the columns of a shard weigh in bytes ('Circuit breaker settings', fielddata).
use Rattle.std.specs.Prelude.{ℕ, ◌+◌, ◌*◌, List, map, flat_map, length, sum}
use Rattle.std.specs.List.{range_with_len}
use Rattle.agg_model.specs.declared.key.Key.{Key}
use Rattle.agg_model.specs.declared.key.Key.TheVariants.{Null, Whole, Flag, Word, Fixed, Many'}
use Rattle.agg_model.specs.ValueKeys.{scalar_key}
use Rattle.agg_evaluation.specs.Keys.{distinct_keys}
use Rattle.agg_evaluation.specs.Rows.{PlacedRow, values_of}

abbrev pub value_count : PlacedRow → ℕ
value_count row = sum (map (λ v. length v.values) row.values)

abbrev pub word_bytes : Key → ℕ
word_bytes Null = 0
word_bytes (Whole n) = 0
word_bytes (Flag b) = 0
word_bytes (Word w) = length w
word_bytes (Fixed n) = 0
word_bytes (Many' n parts) = 0

-- the bytes of a field's distinct words in a shard
abbrev pub dictionary_bytes : List PlacedRow → ℕ → ℕ
dictionary_bytes all field = sum (map word_bytes (distinct_keys (map scalar_key (flat_map (values_of field) all))))

-- eight for each value, and the words of each of so many fields
abbrev pub shard_bytes : ℕ → List PlacedRow → ℕ
shard_bytes fields all = 8 * sum (map value_count all) + sum (map (dictionary_bytes all) (range_with_len 0 fields))
