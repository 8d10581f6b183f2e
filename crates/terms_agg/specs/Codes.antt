-- Codes: whole numbers that stand for the keys of a field in one shard. A whole number stands for itself, a word for its place
-- among the words of the field, and false and true for 0 and 1 (Elasticsearch Reference 8, 'Terms aggregation', global ordinals).
use Rattle.std.specs.Prelude.{ℕ, zero, ℤ, pos, negsuc, ◌++◌, ◌&&◌, Bool, true, false, not, nat_lt, List, [], length, slice_get, slice_index_or, option_to_list}
use Rattle.std.specs.Option.{option_map_or}
use Rattle.agg_model.specs.declared.key.Key.{Key}
use Rattle.agg_model.specs.declared.key.Key.TheVariants as key
use Rattle.agg_model.specs.declared.mapping.FieldKind.{FieldKind}
use Rattle.agg_model.specs.declared.mapping.FieldKind.TheVariants.{Long, Integer, Short, Byte, Keyword, Boolean, Date}
use Rattle.agg_model.specs.declared.row.Scalar.{Scalar}
use Rattle.agg_model.specs.declared.row.Scalar.TheVariants as scalar
use Rattle.shard_columns.specs.Columns.{Columns}
use Rattle.shard_columns.specs.Dictionary.{words_of}
use Rattle.shard_columns.specs.Values.{Words}
use Rattle.column_query.specs.Numbers.{is_among}
use Rattle.column_query.specs.NumberSets.{has_number}
use Rattle.terms_agg.specs.declared.content.Content.{Content}
use Rattle.terms_agg.specs.declared.content.Content.TheVariants as content
use Rattle.terms_agg.specs.declared.code_sets.Codes.{Codes}
use Rattle.terms_agg.specs.declared.code_sets.Codes.TheVariants as codes
use Rattle.terms_agg.specs.declared.prepared.PreparedTerms.{PreparedTerms}

-- what a field of each kind holds
abbrev pub content_of : FieldKind → Content
content_of Keyword = content.Words
content_of Boolean = content.Flags
content_of Long = content.Wholes
content_of Integer = content.Wholes
content_of Short = content.Wholes
content_of Byte = content.Wholes
content_of Date = content.Wholes

abbrev pub is_content : Content → Scalar → Bool
is_content content.Words (scalar.Whole n) = false
is_content content.Words (scalar.Word w) = true
is_content content.Words (scalar.Flag b) = false
is_content content.Flags (scalar.Whole n) = false
is_content content.Flags (scalar.Word w) = false
is_content content.Flags (scalar.Flag b) = true
is_content content.Wholes (scalar.Whole n) = true
is_content content.Wholes (scalar.Word w) = false
is_content content.Wholes (scalar.Flag b) = false

-- what a field of the shard holds
abbrev pub content_in : Columns → ℕ → Content
content_in shard field = option_map_or content_of (slice_get shard.kinds field) content.Wholes

-- the word at this place; the empty word where there is none
abbrev pub word_at : Words → ℤ → List ℕ
word_at words (pos n) = slice_index_or words n []
word_at words (negsuc n) = []

abbrev pub flag_at : ℤ → Bool
flag_at (pos zero) = false
flag_at _ = true

-- the key that a code stands for, where words stand for their places among these
abbrev pub key_at : Content → Words → ℤ → Key
key_at content.Wholes words code = key.Whole code
key_at content.Flags words code = key.Flag (flag_at code)
key_at content.Words words code = key.Word (word_at words code)

-- whether a number is a place among so many
abbrev pub is_place : ℕ → ℤ → Bool
is_place n (pos k) = nat_lt k n
is_place n (negsuc k) = false

-- whether a number is a code, where there are so many words
abbrev pub is_code_at : Content → ℕ → ℤ → Bool
is_code_at content.Wholes words code = true
is_code_at content.Flags words code = is_place 2 code
is_code_at content.Words words code = is_place words code

-- the words that codes stand for: those of the field, and behind them the one of a missing value that no row has
abbrev pub code_words : Columns → PreparedTerms → Words
code_words shard p = words_of p.field shard.rows ++ option_to_list p.other

-- the key that a code stands for
abbrev pub key_of : Columns → PreparedTerms → ℤ → Key
key_of shard p code = key_at (content_in shard p.field) (code_words shard p) code

-- whether a number stands for a key
abbrev pub is_code : Columns → PreparedTerms → ℤ → Bool
is_code shard p code = is_code_at (content_in shard p.field) (length (code_words shard p)) code

-- whether the code is in the set
abbrev pub has_code : Codes → ℤ → Bool
has_code (codes.Ordinals ordinals) code = has_number ordinals code
has_code (codes.Numbers numbers) code = is_among numbers.keys code

-- whether the prepared aggregation includes the code, and does not exclude it
abbrev pub allows : PreparedTerms → ℤ → Bool
allows p code = option_map_or (λ set. has_code set code) p.include true && not (option_map_or (λ set. has_code set code) p.exclude false)
