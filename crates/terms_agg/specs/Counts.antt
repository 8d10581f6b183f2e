-- Counters of the words of a field, and what rows make of them (Elasticsearch Reference 8, 'Terms aggregation', execution hint:
-- global ordinals).
use Rattle.std.specs.Prelude.{◌≡◌, ℕ, zero, suc, ◌+◌, ◌<◌, Bool, not, List, [], ◌∷◌, length, map, filter, slice_index_or, sum_by, None}
use Rattle.agg_model.specs.Options.{TermsOptions, terms_kind}
use Rattle.agg_model.specs.declared.aggregation.Agg.{Agg, out-Agg}
use Rattle.agg_model.specs.declared.costs.TheConstants.{BUCKET_BYTES}
use Rattle.agg_model.specs.declared.key.Key.{Key}
use Rattle.agg_model.specs.declared.key.Key.TheVariants.{Word}
use Rattle.agg_model.specs.declared.partial.Bucket.{Bucket}
use Rattle.agg_model.specs.declared.partial.Node.{Node}
use Rattle.agg_model.specs.declared.partial.Node.TheVariants.{Keyed}
use Rattle.agg_model.specs.ValueKeys.{scalar_key}
use Rattle.agg_evaluation.specs.Cost.{key_bytes}
use Rattle.agg_evaluation.specs.KeyOrder.{has_key}
use Rattle.agg_evaluation.specs.Keys.{distinct_keys}
use Rattle.agg_evaluation.specs.Rows.{PlacedRow, values_of}
use Rattle.shard_columns.specs.Values.{Words}

-- the word at a place, as a key
abbrev pub word_key : Words → ℕ → Key
word_key words place = Word (slice_index_or words place [])

-- the words whose counters are not 0, as keys, each with its counter
abbrev pub counted : Words → List ℕ → List (Key × ℕ)
counted [] counters = []
counted (w ∷ ws) [] = []
counted (w ∷ ws) (zero ∷ cs) = counted ws cs
counted (w ∷ ws) (suc n ∷ cs) = (Word w, suc n) ∷ counted ws cs

-- the keys of what a row has of a field, each once and ascending
abbrev pub keys_in_row : ℕ → PlacedRow → List Key
keys_in_row field row = distinct_keys (map scalar_key (values_of field row))

-- whether a key has a counter
abbrev pub is_counted : List (Key × ℕ) → Key → Bool
is_counted counters key = has_key key (map (λ c. c.0) counters)

abbrev pub bucket_bytes : Key → ℕ
bucket_bytes key = BUCKET_BYTES + key_bytes key

-- the bytes of the buckets of those keys that have no counter yet
abbrev pub new_bucket_bytes : List (Key × ℕ) → List Key → ℕ
new_bucket_bytes counters keys = sum_by bucket_bytes (filter (λ key. not (is_counted counters key)) keys)

-- a bucket without children that counts a key
abbrev pub counted_bucket : Key × ℕ → Bucket
counted_bucket c = record { key = c.0; count = c.1; covered = 0; children = [] }

-- the buckets of the counters, of which none was cut
abbrev pub counted_node : List (Key × ℕ) → Node
counted_node counters = Keyed (map counted_bucket counters) 0 0 0

-- a terms aggregation of this field that has no children, and takes each value of a row and none for a missing one
pub record IsPlainTerms (field : ℕ) (a : Agg) : Type 0 where
  pub options : TermsOptions
  pub kind_is : (out-Agg a).kind ≡ terms_kind options
  pub field_is : options.field ≡ field
  pub all_included : options.include ≡ None
  pub none_excluded : options.exclude ≡ []
  pub none_for_missing : options.missing ≡ None
  pub no_children : (out-Agg a).children ≡ []

-- how many rows have the key
abbrev pub rows_with : ℕ → List PlacedRow → Key → ℕ
rows_with field rows key = length (filter (λ row. has_key key (keys_in_row field row)) rows)

-- each counter is the number of rows that have its word
abbrev pub AreSizes : ℕ → Words → List PlacedRow → List ℕ → Type 0
AreSizes field words rows counters = (n : ℕ) → n < length words → slice_index_or counters n 0 ≡ rows_with field rows (word_key words n)
