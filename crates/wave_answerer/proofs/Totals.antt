-- The statistics of many workers.
use Rattle.std.specs.Prelude.{◌≡◌, ◌+◌, ℕ, Bool, false, List}
use Rattle.std.proofs.Common.{◌∙◌, sym, ap, subst, arith}
use Rattle.agg_model.specs.declared.breaker.Limits.{Limits}
use Rattle.agg_model.specs.declared.breaker.Which.TheVariants as at
use Rattle.agg_model.specs.declared.settings.Settings.{Settings}
use Rattle.agg_spec.specs.Answers.{Recent}
use Rattle.agg_spec.specs.Index.{Index}
use Rattle.agg_spec.specs.Rounds.{Round}
use Rattle.agg_spec.specs.Statistics.{AreRises, AreTotals, AreTotalsBy, is_solo, totals_after}
use Rattle.breaker_tree.specs.Statistics.{totals_of}
use Rattle.breaker_words.specs.Breakers.{counter_value}
use Rattle.breaker_words.specs.Soundness.{IsBounded}
use Rattle.breaker_words.specs.Views.{granted_of}
use Rattle.breaker_words.specs.declared.view.View.{View}
use Rattle.solo_answerer.proofs.Totals.{stats-are, totals-by}
use Rattle.wave_answerer.specs.Worked.{HasAnswered}

none-before : (n : ℕ) → counter_value n ≡ counter_value (0 + n)
none-before n = ap counter_value (omega arith)

none-behind : (n k : ℕ) → k ≡ 0 → counter_value n ≡ counter_value (n + k)
none-behind n k none = ap counter_value (omega (arith, none))

-- what the children were granted together
together : (parent request fielddata inflight a b columns both : ℕ) → parent ≡ counter_value (request + fielddata + inflight) → request ≡ counter_value a
    → fielddata ≡ counter_value columns → inflight ≡ counter_value b → both ≡ a + b → parent ≡ counter_value (columns + both)
together parent request fielddata inflight a b columns both is first second third sum = omega (arith, is, first, second, third, sum)

module _ (settings : Settings) (index : Index) (columns : ℕ) (v : View) (rounds : List Round) (l : Limits) (bounded : IsBounded l v)
    (has : HasAnswered index columns v rounds) where
  totals-so : totals_of settings.limits v ≡ totals_after settings index columns has.counted.granted has.counted.trips
  totals-so =
      let counted = has.counted in
      totals-by _ _ _ _ _ _ _ _
      (stats-are settings.limits v at.Request _ _ _ (has.holds at.Request) (counted.at_request ∙ none-before counted.granted.request) (counted.trips_are at.Request))
      (stats-are settings.limits v at.Fielddata _ _ _ (has.holds at.Fielddata)
      (counted.at_fielddata ∙ none-behind columns counted.granted.fielddata counted.rose.fielddata.0) (counted.trips_are at.Fielddata))
      (stats-are settings.limits v at.Inflight _ _ _ (has.holds at.Inflight) (counted.at_inflight ∙ none-before counted.granted.inflight) (counted.trips_are at.Inflight))
      (stats-are settings.limits v at.Parent _ _ _ (has.holds at.Parent)
      (together (granted_of v at.Parent) (granted_of v at.Request) (granted_of v at.Fielddata) (granted_of v at.Inflight) counted.granted.request counted.granted.inflight columns
      counted.granted.parent bounded.together counted.at_request counted.at_fielddata counted.at_inflight counted.rose.parent) (counted.trips_are at.Parent))

  are-rises : (m : Limits) → m ≡ settings.limits → AreRises settings index columns rounds (totals_of m v)
  are-rises m same = record {
    granted = has.counted.granted;
    trips = has.counted.trips;
    rose = has.counted.rose;
    totals = ap (λ (k : Limits). totals_of k v) same ∙ totals-so;
  }

-- the totals are some by which the breakers can have risen
pub crew-totals : (settings : Settings) (index : Index) (columns : ℕ) (v : View) (recent : Recent) (l : Limits) → is_solo settings ≡ false → l ≡ settings.limits
    → IsBounded l v → recent.settings ≡ settings → HasAnswered index columns v recent.rounds → AreTotals recent.settings index columns recent.rounds (totals_of l v)
crew-totals settings index columns v recent l several limits bounded same has =
    subst (λ (s : Settings). AreTotals s index columns recent.rounds (totals_of l v)) (sym same)
    (subst (λ (b : Bool). AreTotalsBy settings index columns b recent.rounds (totals_of l v)) (sym several)
    (are-rises settings index columns v recent.rounds l bounded has l limits))
