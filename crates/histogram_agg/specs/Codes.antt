-- Codes: whole numbers that stand for the keys of a histogram, each for the start of so many intervals above the offset
-- (Elasticsearch Reference 8, 'Histogram aggregation').
use Rattle.std.specs.Prelude.{◌≡◌, ℕ, ◌<◌, ◌^◌, ℤ, List, map, filter, flat_map, option_to_list}
use Rattle.agg_model.specs.declared.aggregation.Kind.{Kind}
use Rattle.agg_model.specs.declared.aggregation.Spacing.{Spacing}
use Rattle.agg_model.specs.declared.aggregation.Spacing.TheVariants.{Numbers, Dates}
use Rattle.agg_model.specs.declared.key.Key.{Key}
use Rattle.agg_model.specs.declared.key.Key.TheVariants.{Whole}
use Rattle.agg_model.specs.declared.row.Scalar.{Scalar}
use Rattle.agg_model.specs.Options.{Options, HistogramOptions, options_of, histogram_kind}
use Rattle.agg_evaluation.specs.Keys.{distinct_keys, interval_key, is_between}
use Rattle.agg_evaluation.specs.Spacings.{start_at}
use Rattle.histogram_agg.specs.declared.prepared.PreparedHistogram.{PreparedHistogram}

-- an offset below its interval, which has 63 bits
abbrev pub IsSpacedBy : Spacing → Type 0
IsSpacedBy (Numbers interval offset) = (offset < interval) × (interval < 2 ^ 63)
IsSpacedBy (Dates period zone) = ⊥

-- a histogram of such numbers
abbrev pub IsSpaced : Kind → Type 0
IsSpaced k = elim (options_of k) [
  | Options.Terms t ↦ ⊥
  | Options.Histogram h ↦ IsSpacedBy h.spacing
  | Options.Filters names filters other ↦ ⊥
  | Options.Filter query ↦ ⊥
  | Options.Missing field ↦ ⊥
  | Options.Global ↦ ⊥
  | Options.Nested context ↦ ⊥
  | Options.ReverseNested context ↦ ⊥
  | Options.Composite sources size after ↦ ⊥
  | Options.Metric m ↦ ⊥
]

-- so many intervals above the offset
abbrev pub start_of : ℕ → ℕ → ℤ → ℤ
start_of interval offset code = start_at (Numbers interval offset) code

-- the key that a code stands for
abbrev pub key_of : PreparedHistogram → ℤ → Key
key_of p code = Whole (start_of p.interval p.offset code)

-- the keys of these values, as a histogram takes them
abbrev pub keys_of_values : HistogramOptions → List Scalar → List Key
keys_of_values h values = filter (is_between h.hard) (distinct_keys (flat_map (interval_key h.spacing) values))

-- the prepared form stands for the histogram
pub record IsReady (kind : Kind) (p : PreparedHistogram) : Type 0 where
  pub options : HistogramOptions
  pub kind_is : kind ≡ histogram_kind options
  pub field_is : p.field ≡ options.field
  pub spacing_is : options.spacing ≡ Numbers p.interval p.offset
  pub hard_is : p.hard ≡ options.hard
  pub missing : map (key_of p) (option_to_list p.missing) ≡ keys_of_values options (option_to_list options.missing)
