use Rattle.std.proofs.Common.{sym, subst}
use Rattle.agg_model.specs.declared.aggregation.Spacing.{Spacing}
use Rattle.date_agg.specs.Codes.{IsDatedAt}
use Rattle.date_agg.proofs.Made.{dated-kind, made-dated, made-dates}
use Rattle.date_agg.proofs.preparing.made_date_histograms_can_be_prepared.Goals as goal

pub returns-clause-prepared : goal.returns-clause-prepared
returns-clause-prepared c m children h p zone is made = dated-kind h (subst (λ (s : Spacing). IsDatedAt s h.hard h.missing) (sym is) (made-dated m children h p zone is made))

pub returns-clause-dates : goal.returns-clause-dates
returns-clause-dates c = made-dates
