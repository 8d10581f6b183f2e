-- Why a search stops before it has a whole.
use Rattle.std.specs.Prelude.{⊤}
use Rattle.agg_model.specs.declared.breaker.Tripped.{Tripped}
use Rattle.agg_search.specs.declared.stop.Stop.{Stop}
use Rattle.agg_search.specs.declared.stop.Stop.TheVariants.{Refused, Memory}

-- a breaker's refusal, of which P holds
abbrev pub IfRefused : Stop → (Tripped → Type 0) → Type 0
IfRefused (Refused t) P = P t
IfRefused Memory P = ⊤
