-- What the statistics line may say after all searches ('Circuit breaker settings'; 'Nodes stats API', breakers).
use Rattle.std.specs.Prelude.{◌≡◌, ℕ, ◌==◌, ◌&&◌, Bool, true, false, min, List, flat_map}
use Rattle.agg_model.specs.declared.breaker.Limits.{Limits}
use Rattle.agg_model.specs.declared.breaker.BreakerStats.{BreakerStats}
use Rattle.agg_model.specs.declared.breaker.Totals.{Totals}
use Rattle.agg_model.specs.declared.breaker.Which.{Which}
use Rattle.agg_model.specs.declared.breaker.Which.TheVariants as at
use Rattle.agg_model.specs.declared.settings.Settings.{Settings}
use Rattle.agg_model.specs.Breakers.{limit_of, overhead_of}
use Rattle.agg_spec.specs.Index.{Index}
use Rattle.agg_spec.specs.BucketCount.{greatest_count}
use Rattle.agg_spec.specs.Charges.{Amounts, amount_at, amounts_sum}
use Rattle.agg_spec.specs.Solo.{columns_held, idle, after_requests}
use Rattle.agg_spec.specs.Rounds.{Round}
use Rattle.agg_spec.specs.Rises.{all_rises, RoseBy}

-- totals stop at the greatest number of 64 bits
abbrev pub total : ℕ → ℕ
total n = min n greatest_count

abbrev pub breaker_stats : Limits → Which → ℕ → Amounts → Amounts → BreakerStats
breaker_stats limits which held granted trips = record {
  limit = limit_of limits which;
  estimated = held;
  granted = total (amount_at which granted);
  overhead = overhead_of which;
  tripped = total (amount_at which trips);
}

-- the statistics at the end, when the columns' charge alone is held
abbrev pub totals_of : Limits → ℕ → Amounts → Amounts → Totals
totals_of limits held granted trips = record {
  request = breaker_stats limits at.Request 0 granted trips;
  fielddata = breaker_stats limits at.Fielddata held granted trips;
  inflight = breaker_stats limits at.Inflight 0 granted trips;
  parent = breaker_stats limits at.Parent held granted trips;
}

-- one worker that runs one search at a time
abbrev pub is_solo : Settings → Bool
is_solo settings = (settings.workers == 1) && (settings.width == 1)

module _ (settings : Settings) (index : Index) (columns : ℕ) where
  -- the columns' charge, and what these rounds were granted and refused
  abbrev pub totals_after : Amounts → Amounts → Totals
  totals_after granted trips = totals_of settings.limits columns (amounts_sum (columns_held columns) granted) trips

  -- where one worker runs one search at a time, the totals are those of its charges
  abbrev pub solo_totals : List Round → Totals
  solo_totals rounds =
      let worked = after_requests settings index (idle columns) (flat_map (λ r. r.requests) rounds) in
      totals_after worked.granted worked.trips

  -- else they are totals by which the breakers can have risen
  pub record AreRises (rounds : List Round) (t : Totals) : Type 0 where
    pub granted : Amounts
    pub trips : Amounts
    pub rose : RoseBy (all_rises index columns rounds) granted trips
    pub totals : t ≡ totals_after granted trips

  abbrev pub AreTotalsBy : Bool → List Round → Totals → Type 0
  AreTotalsBy true rounds t = t ≡ solo_totals rounds
  AreTotalsBy false rounds t = AreRises rounds t

  -- the totals after these rounds, which ran since the settings came into force
  abbrev pub AreTotals : List Round → Totals → Type 0
  AreTotals rounds t = AreTotalsBy (is_solo settings) rounds t
