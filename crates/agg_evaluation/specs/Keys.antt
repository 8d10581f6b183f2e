-- The keys of a row at an aggregation: the buckets that it falls into (Elasticsearch Reference 8, 'Terms', 'Histogram', 'Date
-- histogram', 'Filters', 'Filter', 'Missing' and 'Composite aggregation').
use Rattle.std.specs.Prelude.{ℕ, not, ◌&&◌, Bool, true, false, if◌then◌else◌, List, [], ◌∷◌, ◌++◌, length, map, filter, flat_map, Option, None, option_to_list, is_some, int_le}
use Rattle.std.specs.List.{list_any, enumerate_from}
use Rattle.std.specs.Option.{option_map_or}
use Rattle.agg_model.specs.declared.key.Key.{Key}
use Rattle.agg_model.specs.declared.key.Key.TheVariants.{Null, Whole, Flag, Word, Fixed, Many, Many'}
use Rattle.agg_model.specs.declared.row.Scalar.{Scalar}
use Rattle.agg_model.specs.declared.query.Probe.{Probe}
use Rattle.agg_model.specs.declared.query.Query.{Query}
use Rattle.agg_model.specs.declared.aggregation.Bounds.{Bounds}
use Rattle.agg_model.specs.declared.aggregation.Spacing.{Spacing}
use Rattle.agg_model.specs.declared.aggregation.Spacing.TheVariants.{Numbers}
use Rattle.agg_model.specs.declared.aggregation.Kind.{Kind}
use Rattle.agg_model.specs.declared.aggregation.CompositeSource.{CompositeSource}
use Rattle.agg_model.specs.declared.row.Scalar.TheVariants as scalar
use Rattle.list_laws.specs.Sorting.{ascending}
use Rattle.agg_model.specs.Options.{Options, options_of}
use Rattle.agg_evaluation.specs.KeyOrder.{key_cmp, has_key}
use Rattle.agg_model.specs.ValueKeys.{scalar_key, probe_key}
use Rattle.agg_evaluation.specs.Rows.{PlacedRow, values_of, has_value}
use Rattle.agg_evaluation.specs.Matching.{matches}
use Rattle.agg_evaluation.specs.Spacings.{interval_start}

-- the distinct keys of a list, ascending
abbrev pub distinct_keys : List Key → List Key
distinct_keys = ascending key_cmp

-- the values, or the one that stands for a missing value
abbrev pub or_missing : Option Scalar → List Scalar → List Scalar
or_missing missing [] = option_to_list missing
or_missing missing (v ∷ vs) = v ∷ vs

abbrev pub values_or : ℕ → Option Scalar → PlacedRow → List Scalar
values_or field missing row = or_missing missing (values_of field row)

-- the key is in `include`, where that is given, and not in `exclude`
abbrev pub is_included : Option (List Probe) → List Probe → Key → Bool
is_included include exclude k = option_map_or (λ ps. has_key k (map probe_key ps)) include true && not (has_key k (map probe_key exclude))

abbrev pub term_keys : ℕ → Option (List Probe) → List Probe → Option Scalar → PlacedRow → List Key
term_keys field include exclude missing row =
    filter (is_included include exclude) (distinct_keys (map scalar_key (values_or field missing row)))

-- a number or an instant has the start of its interval
abbrev pub interval_key : Spacing → Scalar → List Key
interval_key spacing (scalar.Whole n) = Whole (interval_start spacing n) ∷ []
interval_key spacing (scalar.Word w) = []
interval_key spacing (scalar.Flag b) = []

-- whether the key lies within the bounds that are given
abbrev pub is_between : Bounds → Key → Bool
is_between bounds Null = false
is_between bounds (Whole n) = option_map_or (λ least. int_le least n) bounds.min true && option_map_or (λ greatest. int_le n greatest) bounds.max true
is_between bounds (Flag b) = false
is_between bounds (Word w) = false
is_between bounds (Fixed n) = false
is_between bounds (Many' n parts) = false

abbrev pub histogram_keys : ℕ → Spacing → Bounds → Option Scalar → PlacedRow → List Key
histogram_keys field spacing hard missing row =
    filter (is_between hard) (distinct_keys (flat_map (interval_key spacing) (values_or field missing row)))

-- the one key of a single-bucket aggregation, where the row falls into its bucket
abbrev pub single_key : Bool → List Key
single_key b = if b then Fixed 0 ∷ [] else []

-- the places of the filters that match, or where none does the place behind them, if there is an other bucket
abbrev pub filter_keys : (Query → Bool) → List Query → Option (List ℕ) → List Key
filter_keys holds filters other =
    map (λ q. Fixed q.0) (filter (λ q. holds q.1) (enumerate_from 0 filters))
    ++ (if is_some other && not (list_any holds filters) then Fixed (length filters) ∷ [] else [])

-- null, where a source has no key and takes rows without a value
abbrev pub or_null : Bool → List Key → List Key
or_null missing_bucket [] = if missing_bucket then Null ∷ [] else []
or_null missing_bucket (k ∷ ks) = k ∷ ks

abbrev pub no_bounds : Bounds
no_bounds = record { min = None; max = None }

-- a source with an interval is a histogram of offset 0, and one without has the row's values
abbrev pub source_keys : PlacedRow → CompositeSource → List Key
source_keys row s =
    or_null s.missing_bucket (option_map_or (λ interval. histogram_keys s.field (Numbers interval 0) no_bounds None row) s.interval (term_keys s.field None [] None row))

-- one item of each list, in all ways
abbrev pub combinations : List (List Key) → List (List Key)
combinations [] = [] ∷ []
combinations (ks ∷ kss) = flat_map (λ k. map (λ more. k ∷ more) (combinations kss)) ks

abbrev pub composite_keys : List CompositeSource → PlacedRow → List Key
composite_keys sources row = distinct_keys (map Many (combinations (map (source_keys row) sources)))

-- The distinct keys of a row, ascending. Under nested, reverse nested and global each row that is handed on has the one key.
-- Metrics have no buckets.
abbrev pub keys : List PlacedRow → Kind → PlacedRow → List Key
keys all k row = elim (options_of k) [
  | Options.Terms t ↦ term_keys t.field t.include t.exclude t.missing row
  | Options.Histogram h ↦ histogram_keys h.field h.spacing h.hard h.missing row
  | Options.Filters names filters other ↦ filter_keys (λ q. matches all q row) filters other
  | Options.Filter query ↦ single_key (matches all query row)
  | Options.Missing field ↦ single_key (not (has_value field row))
  | Options.Global ↦ single_key true
  | Options.Nested context ↦ single_key true
  | Options.ReverseNested context ↦ single_key true
  | Options.Composite sources size after ↦ composite_keys sources row
  | Options.Metric m ↦ []
]
