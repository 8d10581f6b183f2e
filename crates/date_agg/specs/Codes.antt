-- Codes: whole numbers that stand for the keys of a date histogram, each for the start of the period of this number
-- (Elasticsearch Reference 8, 'Date histogram aggregation').
use Rattle.std.specs.Prelude.{◌≡◌, ◌^◌, ℤ, pos, ◌+ℤ◌, ◌*ℤ◌, int_le, Bool, ◌&&◌, if◌then◌else◌, Option, IsTrue, map, option_to_list}
use Rattle.date_spec.specs.declared.period.Period.{Period}
use Rattle.date_periods.specs.Reach.{IsCode}
use Rattle.agg_model.specs.declared.aggregation.Bounds.{Bounds}
use Rattle.agg_model.specs.declared.aggregation.Kind.{Kind}
use Rattle.agg_model.specs.declared.aggregation.Spacing.{Spacing}
use Rattle.agg_model.specs.declared.aggregation.Spacing.TheVariants.{Numbers, Dates}
use Rattle.agg_model.specs.declared.key.Key.{Key}
use Rattle.agg_model.specs.declared.key.Key.TheVariants.{Whole}
use Rattle.agg_model.specs.declared.mapping.FieldKind.TheVariants.{Date}
use Rattle.agg_model.specs.declared.row.Scalar.{Scalar}
use Rattle.agg_model.specs.Options.{Options, HistogramOptions, options_of, histogram_kind}
use Rattle.agg_evaluation.specs.Keys.{is_between}
use Rattle.agg_evaluation.specs.SearchFits.{is_missing}
use Rattle.agg_evaluation.specs.Spacings as spacings
use Rattle.histogram_agg.specs.Codes.{keys_of_values}
use Rattle.date_agg.specs.declared.prepared.PreparedDateHistogram.{PreparedDateHistogram}

-- the period and the zone are such as there are, and the hard bounds and what stands for a missing value are instants
abbrev pub is_dated : Period → ℤ → Bounds → Option Scalar → Bool
is_dated period zone hard missing = spacings.is_period period && (spacings.is_zone zone && (spacings.are_instants hard && is_missing Date missing))

abbrev pub IsDatedAt : Spacing → Bounds → Option Scalar → Type 0
IsDatedAt (Numbers interval offset) hard missing = ⊥
IsDatedAt (Dates period zone) hard missing = IsTrue (is_dated period zone hard missing)

-- such a date histogram
abbrev pub IsDated : Kind → Type 0
IsDated k = elim (options_of k) [
  | Options.Terms t ↦ ⊥
  | Options.Histogram h ↦ IsDatedAt h.spacing h.hard h.missing
  | Options.Filters names filters other ↦ ⊥
  | Options.Filter query ↦ ⊥
  | Options.Missing field ↦ ⊥
  | Options.Global ↦ ⊥
  | Options.Nested context ↦ ⊥
  | Options.ReverseNested context ↦ ⊥
  | Options.Composite sources size after ↦ ⊥
  | Options.Metric m ↦ ⊥
]

-- the number of the period that holds an instant
abbrev pub number_at : PreparedDateHistogram → ℤ → ℤ
number_at p instant = spacings.number_at (Dates p.period p.zone) instant

-- the instant at which the period of this number begins
abbrev pub start_at : PreparedDateHistogram → ℤ → ℤ
start_at p code = spacings.start_at (Dates p.period p.zone) code

abbrev pub is_from_to : ℤ → ℤ → ℤ → Bool
is_from_to first last code = int_le first code && int_le code last

-- a number is the code of a key within the hard bounds
abbrev pub is_code : PreparedDateHistogram → ℤ → Bool
is_code p code = is_from_to p.first p.last code

-- the key that a code stands for; a number that is no code stands for one that no row has, since instants have 63 bits
abbrev pub key_of : PreparedDateHistogram → ℤ → Key
key_of p code = Whole (if is_code p code then start_at p code else ((code *ℤ pos (2 ^ 64)) +ℤ pos (2 ^ 63)))

-- the prepared form stands for the date histogram: its codes are those whose keys lie within the hard bounds
pub record IsReady (kind : Kind) (p : PreparedDateHistogram) : Type 0 where
  pub options : HistogramOptions
  pub kind_is : kind ≡ histogram_kind options
  pub field_is : p.field ≡ options.field
  pub spacing_is : options.spacing ≡ Dates p.period p.zone
  pub codes_are : (code : ℤ) → IsCode p.period p.zone code → is_code p code ≡ is_between options.hard (Whole (start_at p code))
  pub missing : map (key_of p) (option_to_list p.missing) ≡ keys_of_values options (option_to_list options.missing)
