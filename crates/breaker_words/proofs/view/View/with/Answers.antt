use Rattle.agg_model.specs.declared.breaker.Which.TheVariants.{Request, Fielddata, Inflight, Parent}
use Rattle.breaker_words.proofs.view.View.with.Goals as goal

pub with-requires : goal.with-requires
with-requires c = record { hold = c.requires.holds Request; most = c.requires.mosts Request }

pub with-requires-2 : goal.with-requires-2
with-requires-2 c = record { hold = c.requires.holds Fielddata; most = c.requires.mosts Fielddata }

pub with-requires-3 : goal.with-requires-3
with-requires-3 c = record { hold = c.requires.holds Inflight; most = c.requires.mosts Inflight }

pub with-requires-4 : goal.with-requires-4
with-requires-4 c = record { hold = c.requires.holds Parent; most = c.requires.mosts Parent }
