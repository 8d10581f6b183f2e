-- What holds of the period and the zone of a date histogram holds of it.
use Rattle.std.specs.Prelude.{◌≡◌, ℤ}
use Rattle.std.proofs.Common.{subst}
use Rattle.date_spec.specs.declared.period.Period.{Period}
use Rattle.agg_model.specs.declared.aggregation.Kind.{Kind}
use Rattle.agg_model.specs.declared.aggregation.Spacing.{Spacing}
use Rattle.agg_model.specs.declared.aggregation.Spacing.TheVariants.{Numbers, Dates}
use Rattle.agg_model.specs.Options.{Options, options_of}
use Rattle.date_agg.specs.Grid.{OfDates, OfOptions, OfSpacing}

module _ (holds : Period → ℤ → Type 0) (g : Period × ℤ) where
  to_spacing : (s : Spacing) → OfSpacing (λ p z. g ≡ (p, z)) s → holds g.0 g.1 → OfSpacing holds s
  to_spacing (Numbers interval offset) is h = absurd is
  to_spacing (Dates period zone) is h = subst (λ (x : Period × ℤ). holds x.0 x.1) is h

  to_options : (o : Options) → OfOptions (λ p z. g ≡ (p, z)) o → holds g.0 g.1 → OfOptions holds o
  to_options (Options.Terms t) is h = absurd is
  to_options (Options.Histogram o) is h = to_spacing o.spacing is h
  to_options (Options.Filters names filters other) is h = absurd is
  to_options (Options.Filter query) is h = absurd is
  to_options (Options.Missing field) is h = absurd is
  to_options Options.Global is h = absurd is
  to_options (Options.Nested context) is h = absurd is
  to_options (Options.ReverseNested context) is h = absurd is
  to_options (Options.Composite sources size after) is h = absurd is
  to_options (Options.Metric m) is h = absurd is

  -- what holds of these holds of the date histogram
  pub of-dates : (k : Kind) → OfDates (λ p z. g ≡ (p, z)) k → holds g.0 g.1 → OfDates holds k
  of-dates k is h = to_options (options_of k) is h
