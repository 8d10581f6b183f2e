-- The line of the breakers' numbers (the `breakers` section of 'Nodes stats API').
use Rattle.std.specs.Prelude.{ℕ, List, [], ◌∷◌, codes}
use Rattle.serde_json.specs.Written.{compact_text}
use Rattle.agg_model.specs.declared.breaker.BreakerStats.{BreakerStats}
use Rattle.agg_model.specs.declared.breaker.Totals.{Totals}
use Rattle.agg_model.specs.declared.breaker.Which.{Which}
use Rattle.agg_model.specs.declared.breaker.Which.TheVariants.{Request, Fielddata, Inflight, Parent}
use Rattle.agg_spec.specs.Json.{Member, object_of, count}
use Rattle.agg_spec.specs.ErrorLines.{breaker_name}

abbrev pub breaker_member : Which → BreakerStats → Member
breaker_member which b = (
  breaker_name which,
  object_of (
      (codes "estimated_size_in_bytes", count b.estimated)
      ∷ (codes "granted_size_in_bytes", count b.granted)
      ∷ (codes "limit_size_in_bytes", count b.limit)
      ∷ (codes "overhead_percent", count b.overhead)
      ∷ (codes "tripped", count b.tripped) ∷ []),
)

abbrev pub statistics_line : Totals → List ℕ
statistics_line t = compact_text (object_of ((
  codes "breakers",
  object_of (
      breaker_member Fielddata t.fielddata ∷ breaker_member Inflight t.inflight ∷ breaker_member Parent t.parent ∷ breaker_member Request t.request ∷ []),
) ∷ []))
