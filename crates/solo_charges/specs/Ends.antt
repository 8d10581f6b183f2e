-- What some steps of a run come to, for the pass that makes them.
use Rattle.std.specs.Prelude.{◌≡◌, Some, Result, Ok, Err}
use Rattle.agg_model.specs.declared.breaker.Tripped.{Tripped}
use Rattle.agg_spec.specs.Charges.{Run}
use Rattle.breaker_words.specs.declared.view.View.{View}
use Rattle.solo_charges.specs.Standing.{Before, Counts, StandsAt}

-- a breaker has ended the run with this refusal; what the pass holds is not told
pub record IsEnded (before : Before) (v : View) (r : Run) (t : Tripped) : Type 0 where
  pub refused : r.refused ≡ Some t
  pub counts : Counts before v r

-- the run is at its end, or a breaker ended it
abbrev pub EndsAs : Before → View → Run → Result (Unit {0}) Tripped → Type 0
EndsAs before v r (Ok done) = StandsAt before v r
EndsAs before v r (Err t) = IsEnded before v r t
