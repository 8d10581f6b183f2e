-- A terms aggregation that is prepared for a shard (Elasticsearch Reference 8, 'Terms aggregation').
use Rattle.std.specs.Prelude.{◌≡◌, ℕ, ℤ, ◌<◌, ◌++◌, Bool, true, false, List, length, map, filter, slice_get, Option, Some, option_to_list}
use Rattle.std.specs.List.{list_all}
use Rattle.std.specs.Option.{option_map_or}
use Rattle.agg_model.specs.Options.{Options, TermsOptions, options_of, terms_kind}
use Rattle.agg_model.specs.ValueKeys.{scalar_key, probe_key}
use Rattle.agg_model.specs.declared.key.Key.{Key}
use Rattle.agg_model.specs.declared.aggregation.Kind.{Kind}
use Rattle.agg_model.specs.declared.query.Probe.{Probe}
use Rattle.agg_model.specs.declared.row.Scalar.{Scalar}
use Rattle.agg_evaluation.specs.KeyOrder.{key_eq, has_key}
use Rattle.agg_evaluation.specs.Keys.{distinct_keys, is_included}
use Rattle.shard_columns.specs.Columns.{Columns}
use Rattle.shard_columns.specs.Dictionary.{words_of}
use Rattle.shard_columns.specs.Values.{Words}
use Rattle.column_query.specs.Numbers.{is_number, is_among}
use Rattle.terms_agg.specs.declared.content.Content.{Content}
use Rattle.terms_agg.specs.declared.code_sets.Codes.{Codes}
use Rattle.terms_agg.specs.declared.prepared.PreparedTerms.{PreparedTerms}
use Rattle.terms_agg.specs.Codes.{content_in, is_content, is_code_at, is_code, has_code, key_at, key_of, allows}

-- the field is one of the shard's, and what stands for a missing value is of its kind
pub record IsTermsOf (shard : Columns) (field : ℕ) (missing : Option Scalar) : Type 0 where
  pub known : field < length shard.kinds
  pub missing_fits : (v : Scalar) → missing ≡ Some v → is_content (content_in shard field) v ≡ true

-- a terms aggregation of a field of the shard
abbrev pub IsTerms : Columns → Kind → Type 0
IsTerms shard k = elim (options_of k) [
  | Options.Terms t ↦ IsTermsOf shard t.field t.missing
  | Options.Histogram h ↦ ⊥
  | Options.Filters names filters other ↦ ⊥
  | Options.Filter query ↦ ⊥
  | Options.Missing field ↦ ⊥
  | Options.Global ↦ ⊥
  | Options.Nested context ↦ ⊥
  | Options.ReverseNested context ↦ ⊥
  | Options.Composite sources size after ↦ ⊥
  | Options.Metric m ↦ ⊥
]

-- the number is the code of the key that the probe asks for, or there is none among these words
pub record StandsFor (content : Content) (words : Words) (probe : Probe) (number : Option ℤ) : Type 0 where
  pub same : (c : ℤ) → is_code_at content (length words) c ≡ true → is_number number c ≡ key_eq (key_at content words c) (probe_key probe)

-- the numbers are the codes of the keys that the probes ask for, of those that have codes
pub record StandForEach (content : Content) (words : Words) (probes : List Probe) (numbers : List ℤ) : Type 0 where
  pub same : (c : ℤ) → is_code_at content (length words) c ≡ true → is_among numbers c ≡ has_key (key_at content words c) (map probe_key probes)

-- the set has the codes of the keys that the probes ask for
pub record StandForAll (content : Content) (words : Words) (probes : List Probe) (set : Codes) : Type 0 where
  pub same : (c : ℤ) → is_code_at content (length words) c ≡ true → has_code set c ≡ has_key (key_at content words c) (map probe_key probes)

-- the keys of these values, as a terms aggregation takes them
abbrev pub keys_of_values : TermsOptions → List Scalar → List Key
keys_of_values t values = filter (is_included t.include t.exclude) (distinct_keys (map scalar_key values))

-- The prepared form stands for these options in the shard: it allows the codes whose keys they include and do not exclude, has
-- the code of what stands for a missing value where that is included, and gives a word that no row has a code of its own.
pub record IsReadyFor (shard : Columns) (t : TermsOptions) (p : PreparedTerms) : Type 0 where
  pub known : p.field < length shard.kinds
  pub field_is : p.field ≡ t.field
  pub allowed : (c : ℤ) → is_code_at (content_in shard p.field) (length (words_of p.field shard.rows)) c ≡ true → allows p c ≡ is_included t.include t.exclude (key_of shard p c)
  pub missing : map (key_of shard p) (option_to_list p.missing) ≡ keys_of_values t (option_to_list t.missing)
  pub missing_code : list_all (is_code shard p) (option_to_list p.missing) ≡ true
  pub other : (n : ℕ) (w : List ℕ) → slice_get (words_of p.field shard.rows) n ≡ Some w → p.other ≡ Some w → ⊥

-- the prepared form stands for the aggregation
pub record IsReady (shard : Columns) (kind : Kind) (p : PreparedTerms) : Type 0 where
  pub options : TermsOptions
  pub kind_is : kind ≡ terms_kind options
  pub ready : IsReadyFor shard options p

-- the code of a value of the field, where words stand for their places among these and, behind them, the other word, which is
-- not among these
pub record IsCodeOfValue (content : Content) (words : Words) (value : Scalar) (code : ℤ) (other : Option (List ℕ)) : Type 0 where
  pub key_is : key_at content (words ++ option_to_list other) code ≡ scalar_key value
  pub is_code : is_code_at content (length (words ++ option_to_list other)) code ≡ true
  pub absent : (n : ℕ) (w : List ℕ) → slice_get words n ≡ Some w → other ≡ Some w → ⊥

-- the code of what stands for a missing value, where that is included
pub record IsCodeOfMissing (content : Content) (words : Words) (included : Key → Bool) (missing : Option Scalar) (code : Option ℤ) (other : Option (List ℕ)) : Type 0 where
  pub keys_are : map (key_at content (words ++ option_to_list other)) (option_to_list code) ≡ filter included (map scalar_key (option_to_list missing))
  pub are_codes : list_all (is_code_at content (length (words ++ option_to_list other))) (option_to_list code) ≡ true
  pub absent : (n : ℕ) (w : List ℕ) → slice_get words n ≡ Some w → other ≡ Some w → ⊥

-- the set, if there is one, includes the codes of the keys that a list includes
pub record IncludesAsAll (content : Content) (words : Words) (include : Option (List Probe)) (set : Option Codes) : Type 0 where
  pub same : (c : ℤ) → is_code_at content (length words) c ≡ true →
      option_map_or (λ s. has_code s c) set true ≡ option_map_or (λ ps. has_key (key_at content words c) (map probe_key ps)) include true

-- the set, if there is one, has the codes of the keys that a list excludes
pub record ExcludesAsAll (content : Content) (words : Words) (exclude : List Probe) (set : Option Codes) : Type 0 where
  pub same : (c : ℤ) → is_code_at content (length words) c ≡ true → option_map_or (λ s. has_code s c) set false ≡ has_key (key_at content words c) (map probe_key exclude)
