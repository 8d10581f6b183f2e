-- The period and the zone of a date histogram, by which its keys follow one another (Elasticsearch Reference 8, 'Date histogram
-- aggregation').
use Rattle.std.specs.Prelude.{ℤ}
use Rattle.date_spec.specs.declared.period.Period.{Period}
use Rattle.agg_model.specs.declared.aggregation.Kind.{Kind}
use Rattle.agg_model.specs.declared.aggregation.Spacing.{Spacing}
use Rattle.agg_model.specs.declared.aggregation.Spacing.TheVariants.{Numbers, Dates}
use Rattle.agg_model.specs.Options.{Options, options_of}

abbrev pub OfSpacing : (Period → ℤ → Type 0) → Spacing → Type 0
OfSpacing holds (Numbers interval offset) = ⊥
OfSpacing holds (Dates period zone) = holds period zone

abbrev pub OfOptions : (Period → ℤ → Type 0) → Options → Type 0
OfOptions holds (Options.Terms t) = ⊥
OfOptions holds (Options.Histogram h) = OfSpacing holds h.spacing
OfOptions holds (Options.Filters names filters other) = ⊥
OfOptions holds (Options.Filter query) = ⊥
OfOptions holds (Options.Missing field) = ⊥
OfOptions holds Options.Global = ⊥
OfOptions holds (Options.Nested context) = ⊥
OfOptions holds (Options.ReverseNested context) = ⊥
OfOptions holds (Options.Composite sources size after) = ⊥
OfOptions holds (Options.Metric m) = ⊥

-- the aggregation is a date histogram, of whose period and zone this holds
abbrev pub OfDates : (Period → ℤ → Type 0) → Kind → Type 0
OfDates holds k = OfOptions holds (options_of k)
