-- Some steps of a run, from wherever the pass stands before.
use Rattle.std.specs.Prelude.{List}
use Rattle.agg_model.specs.declared.breaker.Limits.{Limits}
use Rattle.agg_model.specs.declared.breaker.Tripped.{Tripped}
use Rattle.agg_spec.specs.Charges.{Run, Step, run}
use Rattle.breaker_words.specs.declared.view.View.{View}
use Rattle.solo_charges.specs.Ends.{IsEnded}
use Rattle.solo_charges.specs.Standing.{Before, StandsAt}

module _ (limits : Limits) (steps : List Step) (v u : View) where
  abbrev pub Runs : Type 0
  Runs = (before : Before) (r : Run) → StandsAt before v r → StandsAt before u (run limits r steps)

  abbrev pub StopsRunning : Tripped → Type 0
  StopsRunning t = (before : Before) (r : Run) → StandsAt before v r → IsEnded before u (run limits r steps) t
