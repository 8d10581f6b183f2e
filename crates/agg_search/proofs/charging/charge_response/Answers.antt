use Rattle.agg_model.specs.declared.breaker.Which.TheVariants as which
use Rattle.agg_search.proofs.charging.charge_response.Goals as goal

pub returns-in-Response-clause-fielddata : goal.returns-in-Response-clause-fielddata
returns-in-Response-clause-fielddata c = c.charge.ensures.others which.Fielddata (λ e. cc) (λ e. cc)
