-- The keys that codes stand for (Elasticsearch Reference 8, 'Bucket aggregations').
use Rattle.std.specs.Prelude.{◌≡◌, Bool, true, false, ℤ, pos, negsuc, List, [], ◌∷◌}
use Rattle.agg_model.specs.declared.key.Key.{Key}
use Rattle.agg_model.specs.declared.key.Key.TheVariants as key
use Rattle.shard_columns.specs.Columns.{Columns}
use Rattle.date_agg.specs.Codes.{key_of as period_key_of}
use Rattle.histogram_agg.specs.Codes.{key_of as interval_key_of}
use Rattle.terms_agg.specs.Codes.{is_code, key_of}
use Rattle.growing_tree.specs.declared.ready.ReadyKind.{ReadyKind}
use Rattle.growing_tree.specs.declared.ready.ReadyKind.TheVariants.{Single, Metric, Terms, Filters, Histogram, DateHistogram, Composite}

-- a list that shows a number, and costs nothing
abbrev pub number_keys : ℤ → List Key
number_keys (pos n) = key.Fixed n ∷ []
number_keys (negsuc n) = key.Fixed n ∷ key.Fixed 0 ∷ []

-- a number that is no code stands for a key of its own that no row has
abbrev pub no_key : ℤ → Key → Key
no_key code k = key.Many (k ∷ number_keys code)

-- the key of a bucket that exists from the start
abbrev pub fixed_key : ℤ → Key
fixed_key (pos n) = key.Fixed n
fixed_key (negsuc n) = no_key (negsuc n) (key.Fixed 0)

-- the key of a code, where it is one
abbrev pub key_where : Bool → ℤ → Key → Key
key_where true code k = k
key_where false code k = no_key code k

-- the key that a code stands for
abbrev pub code_key : Columns → ReadyKind → ℤ → Key
code_key shard Single code = fixed_key code
code_key shard Metric code = fixed_key code
code_key shard (Terms p) code = key_where (is_code shard p code) code (key_of shard p code)
code_key shard (Filters p) code = fixed_key code
code_key shard (Histogram p) code = interval_key_of p code
code_key shard (DateHistogram p) code = period_key_of p code
code_key shard Composite code = fixed_key code

-- the codes are numbers of buckets that exist from the start
abbrev pub HasFixedKeys : Columns → ReadyKind → Type 0
HasFixedKeys shard kind = (code : ℤ) → code_key shard kind code ≡ fixed_key code
