-- The lines of a wave, of a settings line and of the statistics, as far as they are written.
use Rattle.std.specs.Prelude.{◌≡◌, ℕ, List, [], ◌∷◌, Result, OnOk}
use Rattle.serde_json.specs.Data.{Data}
use Rattle.agg_model.specs.declared.breaker.Totals.{Totals}
use Rattle.agg_model.specs.declared.settings.Settings.{Settings}
use Rattle.agg_settings.specs.Changes.{changed}
use Rattle.agg_spec.specs.Index.{Index}
use Rattle.agg_spec.specs.Outcome.{Request}
use Rattle.agg_spec.specs.Rounds.{Round}
use Rattle.agg_spec.specs.Statistics.{AreTotals}
use Rattle.agg_spec.specs.Answers.{Recent, IsAllowed, AreRounds, with_rounds, changed_by}
use Rattle.agg_spec.specs.Written.{settings, statistics, round_lines}
use Rattle.script_answers.specs.Outputs.{Output}
use Rattle.script_answers.specs.Puts.{Puts}
use Rattle.script_answers.specs.declared.stop.Stop.{Stop}

-- the lines of rounds that are allowed, which count from now on
pub record PutsWave {X : Type 0} (index : Index) (columns : ℕ) (recent : Recent) (requests : List Request) (before after : Output) (now : Recent)
    (result : Result X Stop) : Type 0 where
  pub rounds : List Round
  pub are : AreRounds index columns (IsAllowed index columns) recent.settings requests rounds
  pub puts : Puts before after (round_lines rounds) result
  pub recent_is : OnOk result (now ≡ with_rounds rounds recent)

-- the line of the statistics
pub record PutsTotals {X : Type 0} (index : Index) (columns : ℕ) (recent : Recent) (before after : Output) (result : Result X Stop) : Type 0 where
  pub totals : Totals
  pub are : AreTotals recent.settings index columns recent.rounds totals
  pub puts : Puts before after (statistics totals ∷ []) result

-- the line that answers a settings line
abbrev pub PutsChange : {X : Type 0} → Settings → Index → ℕ → Recent → Data → Output → Output → Result X Stop → Type 0
PutsChange words index columns recent line before after result = Puts before after (settings (changed_by changed words index columns recent line) ∷ []) result
