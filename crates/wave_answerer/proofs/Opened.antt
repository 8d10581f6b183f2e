-- Breakers that were opened for the columns alone: no search was answered yet.
use Rattle.std.specs.Prelude.{◌≡◌, ◌≤◌, ℕ, []}
use Rattle.std.proofs.Common.{refl, ◌∙◌, arith}
use Rattle.agg_model.specs.declared.breaker.Limits.{Limits}
use Rattle.agg_model.specs.declared.breaker.Which.{Which}
use Rattle.agg_model.specs.declared.breaker.Which.TheVariants as at
use Rattle.agg_spec.specs.Charges.{amount_at, no_amounts}
use Rattle.agg_spec.specs.Index.{Index}
use Rattle.agg_spec.specs.Rises.{RoseBy, all_rises}
use Rattle.agg_spec.specs.Solo.{columns_held}
use Rattle.breaker_tree.specs.Reopening.{HoldsColumns, columns_at}
use Rattle.breaker_words.specs.Breakers.{counter_value}
use Rattle.breaker_words.specs.Passes.{PassModel, WordsModel}
use Rattle.wave_answerer.specs.Worked.{HasAnswered}

none-rose : (index : Index) (columns : ℕ) → RoseBy (all_rises index columns []) no_amounts no_amounts
none-rose index columns = record {
  fielddata = (refl, refl);
  inflight = (refl, refl);
  searches = omega arith;
  exactly = λ is. refl;
  parent = refl;
  request_trips = omega arith;
  parent_trips = omega arith;
  no_trips = λ is. refl;
}

columns-are : (columns : ℕ) (x : Which) → columns_at columns x ≡ amount_at x (columns_held columns)
columns-are columns at.Request = refl
columns-are columns at.Fielddata = refl
columns-are columns at.Inflight = refl
columns-are columns at.Parent = refl

none-tripped : (x : Which) → 0 ≡ counter_value (amount_at x no_amounts)
none-tripped at.Request = refl
none-tripped at.Fielddata = refl
none-tripped at.Inflight = refl
none-tripped at.Parent = refl

fits-counter : (n : ℕ) → n ≤ 18446744073709551615 → n ≡ counter_value n
fits-counter n few = omega (arith, few)

pub nothing-answered : (l : Limits) (columns : ℕ) (words : WordsModel) (pass : PassModel) (index : Index) → HoldsColumns l columns words pass
    → columns ≤ 18446744073709551615 → HasAnswered index columns pass.view []
nothing-answered l columns words pass index holds few = record {
  holds = λ x. holds.holds x ∙ columns-are columns x;
  counted = record {
    granted = no_amounts;
    trips = no_amounts;
    rose = none-rose index columns;
    at_request = holds.granted at.Request;
    at_fielddata = holds.granted at.Fielddata ∙ fits-counter columns few;
    at_inflight = holds.granted at.Inflight;
    trips_are = λ x. holds.trips x ∙ none-tripped x;
  };
}
