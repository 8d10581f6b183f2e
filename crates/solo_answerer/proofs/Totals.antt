-- The statistics of one worker.
use Rattle.std.specs.Prelude.{◌≡◌, ◌+◌, ℕ, Bool, List, flat_map}
use Rattle.std.proofs.Common.{refl, ◌∙◌, sym, ap, subst, arith}
use Rattle.agg_model.specs.Breakers.{limit_of, overhead_of}
use Rattle.agg_model.specs.declared.breaker.BreakerStats.{BreakerStats}
use Rattle.agg_model.specs.declared.breaker.Limits.{Limits}
use Rattle.agg_model.specs.declared.breaker.Totals.{Totals}
use Rattle.agg_model.specs.declared.breaker.Which.{Which}
use Rattle.agg_model.specs.declared.breaker.Which.TheVariants as at
use Rattle.agg_model.specs.declared.settings.Settings.{Settings}
use Rattle.agg_spec.specs.Answers.{Recent}
use Rattle.agg_spec.specs.Charges.{Run, amount_at}
use Rattle.agg_spec.specs.Index.{Index}
use Rattle.agg_spec.specs.Rounds.{Round}
use Rattle.agg_spec.specs.Solo.{columns_held, idle, after_requests}
use Rattle.agg_spec.specs.Statistics.{AreTotals, AreTotalsBy, solo_totals}
use Rattle.breaker_tree.specs.Statistics.{stats_of, totals_of}
use Rattle.breaker_words.specs.Breakers.{counter_value}
use Rattle.breaker_words.specs.Views.{hold_of, granted_of, trips_of}
use Rattle.breaker_words.specs.declared.view.View.{View}
use Rattle.solo_answerer.specs.Worked.{HasAnswered, IsForOne}
use Rattle.solo_answerer.proofs.Rounds.{is-solo}
use Rattle.solo_answerer.proofs.SameHolds.{after-all-like}

-- a breaker shows what the pass has there
pub stats-are : (l : Limits) (v : View) (x : Which) (held granted trips : ℕ) → hold_of v x ≡ held → granted_of v x ≡ granted → trips_of v x ≡ trips
    → stats_of l v x ≡ record { limit = limit_of l x; estimated = held; granted = granted; overhead = overhead_of x; tripped = trips }
stats-are l v x held granted trips holds grants trip =
    ap (λ (n : ℕ). record { limit = limit_of l x; estimated = n; granted = granted_of v x; overhead = overhead_of x; tripped = trips_of v x }) holds
    ∙ ap (λ (n : ℕ). record { limit = limit_of l x; estimated = held; granted = n; overhead = overhead_of x; tripped = trips_of v x }) grants
    ∙ ap (λ (n : ℕ). record { limit = limit_of l x; estimated = held; granted = granted; overhead = overhead_of x; tripped = n }) trip

-- the four breakers, one by one
pub totals-by : (a b c d e f g h : BreakerStats) → a ≡ e → b ≡ f → c ≡ g → d ≡ h
    → ◌≡◌ {A = Totals} (record { request = a; fielddata = b; inflight = c; parent = d }) (record { request = e; fielddata = f; inflight = g; parent = h })
totals-by a b c d e f g h first second third fourth =
    ap (λ (x : BreakerStats). record { request = x; fielddata = b; inflight = c; parent = d }) first
    ∙ ap (λ (x : BreakerStats). record { request = e; fielddata = x; inflight = c; parent = d }) second
    ∙ ap (λ (x : BreakerStats). record { request = e; fielddata = f; inflight = x; parent = d }) third
    ∙ ap (λ (x : BreakerStats). record { request = e; fielddata = f; inflight = g; parent = x }) fourth

pub zero-plus : (n : ℕ) → counter_value (0 + n) ≡ counter_value n
zero-plus n = ap counter_value (omega arith)

module _ (settings : Settings) (index : Index) (columns : ℕ) (v : View) (rounds : List Round) (has : HasAnswered settings index columns v rounds) where
  abbrev at_end : Run
  at_end = after_requests settings index (idle columns) (flat_map (λ (round : Round). round.requests) rounds)

  holds-columns : (x : Which) → hold_of v x ≡ amount_at x (columns_held columns)
  holds-columns x = has.holds x ∙ ap (amount_at x) (after-all-like settings index (idle columns) (idle columns) (flat_map (λ (round : Round). round.requests) rounds) (record { holds = refl; refused = refl }) refl).holds

  trips-are : (x : Which) → trips_of v x ≡ counter_value (amount_at x at_end.trips)
  trips-are at.Request = has.counts.trips_are at.Request ∙ zero-plus at_end.trips.request
  trips-are at.Fielddata = has.counts.trips_are at.Fielddata ∙ zero-plus at_end.trips.fielddata
  trips-are at.Inflight = has.counts.trips_are at.Inflight ∙ zero-plus at_end.trips.inflight
  trips-are at.Parent = has.counts.trips_are at.Parent ∙ zero-plus at_end.trips.parent

  pub totals-are : (l : Limits) → l ≡ settings.limits → totals_of l v ≡ solo_totals settings index columns rounds
  totals-are l same =
      ap (λ (m : Limits). totals_of m v) same
      ∙ totals-by _ _ _ _ _ _ _ _
      (stats-are settings.limits v at.Request _ _ _ (holds-columns at.Request) (has.counts.granted_is at.Request) (trips-are at.Request))
      (stats-are settings.limits v at.Fielddata _ _ _ (holds-columns at.Fielddata) (has.counts.granted_is at.Fielddata) (trips-are at.Fielddata))
      (stats-are settings.limits v at.Inflight _ _ _ (holds-columns at.Inflight) (has.counts.granted_is at.Inflight) (trips-are at.Inflight))
      (stats-are settings.limits v at.Parent _ _ _ (holds-columns at.Parent) (has.counts.granted_is at.Parent) (trips-are at.Parent))

pub worker-totals : (settings : Settings) (index : Index) (columns : ℕ) (v : View) (recent : Recent) (l : Limits) → IsForOne settings → l ≡ settings.limits → recent.settings ≡ settings
    → HasAnswered settings index columns v recent.rounds → AreTotals recent.settings index columns recent.rounds (totals_of l v)
worker-totals settings index columns v recent l one limits same has =
    subst (λ (s : Settings). AreTotals s index columns recent.rounds (totals_of l v)) (sym same)
    (subst (λ (b : Bool). AreTotalsBy settings index columns b recent.rounds (totals_of l v)) (sym (is-solo settings one))
    (totals-are settings index columns v recent.rounds has l limits))
