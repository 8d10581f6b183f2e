-- A histogram of numbers that is made for a mapping has its offset below its interval, which has 63 bits.
use Rattle.std.proofs.Common.{◌≡◌, ℕ, ◌<◌, ◌^◌, true, List, sym, ap, ◌∙◌}
use Rattle.std.specs.Prelude.{nat_le, nat_lt}
use Rattle.std.proofs.lemmas.Bool.{and_parts, ltb-true}
use Rattle.agg_model.specs.declared.aggregation.Kind.{Kind}
use Rattle.agg_model.specs.declared.aggregation.Spacing.{Spacing}
use Rattle.agg_model.specs.declared.aggregation.Spacing.TheVariants.{Numbers, Dates}
use Rattle.agg_model.specs.declared.mapping.Mapping.{Mapping}
use Rattle.agg_model.specs.Options.{HistogramOptions, histogram_kind}
use Rattle.agg_evaluation.specs.SearchFits.{histogram_made, is_divided_field, is_interval, spacing_made}
use Rattle.histogram_agg.specs.Codes.{IsSpaced, IsSpacedBy}
use Rattle.histogram_agg.proofs.RowKeys.{with_spacing}

module _ (m : Mapping) (children : List Kind) (h : HistogramOptions) (interval offset : ℕ) (is : h.spacing ≡ Numbers interval offset) (made : histogram_made m children h ≡ true) where
  spacing-made : spacing_made h.spacing h.extended h.hard ≡ true
  spacing-made = (and_parts (spacing_made h.spacing h.extended h.hard) _ (and_parts (is_divided_field m h.spacing h.field h.missing) _ made).1).0

  pub made-spaced : (offset < interval) × (interval < 2 ^ 63)
  made-spaced =
      let parts = and_parts (is_interval interval) (nat_lt offset interval) (ap (λ (s : Spacing). spacing_made s h.extended h.hard) (sym is) ∙ spacing-made) in
      (ltb-true offset interval parts.1, ltb-true interval (2 ^ 63) (and_parts (nat_le 1 interval) (nat_lt interval (2 ^ 63)) parts.0).1)

pub spaced-kind : (h : HistogramOptions) → IsSpacedBy h.spacing → IsSpaced (histogram_kind h)
spaced-kind h = elim h.spacing as (λ s. IsSpacedBy s → IsSpaced (histogram_kind (with_spacing h s))) [
  | Numbers interval offset ↦ λ is. is
  | Dates period zone ↦ λ is. absurd is
]
