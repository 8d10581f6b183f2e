-- What who answers does to the settings in force and the rounds since they are ('Multi search API', 'Cluster update settings API').
use Rattle.std.specs.Prelude.{◌≡◌, ℕ, List, [], ◌++◌, flat_map, None, Some}
use Rattle.agg_model.specs.declared.settings.Settings.{Settings}
use Rattle.agg_model.specs.declared.outcome.Answered.{Answered}
use Rattle.agg_spec.specs.Index.{Index}
use Rattle.agg_spec.specs.Outcome.{Request}
use Rattle.agg_spec.specs.Columns.{columns_refusal}
use Rattle.agg_spec.specs.Rounds.{Round}
use Rattle.agg_spec.specs.Answers.{Recent, IsAllowed, AreRounds}
use Rattle.script_answers.specs.declared.answerer.Reopening.{Reopening}
use Rattle.script_answers.specs.declared.answerer.Reopening.TheVariants.{Taken, TooHeavy, Memory}

-- What may have been answered: the settings are those in force, and these rounds may have run since they are.
pub record MayBe (in_force : Settings) (answered : List Round → Type 0) (recent : Recent) : Type 0 where
  pub settings_are : recent.settings ≡ in_force
  pub rounds_are : answered recent.rounds

-- these settings in force, and no round since they are
abbrev pub fresh_with : Settings → Recent
fresh_with settings = record { settings = settings; rounds = [] }

-- these searches were answered in rounds that are allowed, which count from then on
pub record AnswersRound (index : Index) (columns : ℕ) (recent : Recent) (requests : List Request) (answered_now : List Round → Type 0)
    (answers : List Answered) : Type 0 where
  pub rounds : List Round
  pub are : AreRounds index columns (IsAllowed index columns) recent.settings requests rounds
  pub answered : answers ≡ flat_map (λ round. round.answers) rounds
  pub count : answered_now (recent.rounds ++ rounds)

-- nothing changes: the same settings are in force, and what may have been answered may have been answered still
pub record Stays (old : Settings) (was : List Round → Type 0) (now : Settings) (is : List Round → Type 0) : Type 0 where
  pub settings_stay : now ≡ old
  pub rounds_stay : (rounds : List Round) → was rounds → is rounds

-- New settings are in force, and nothing is answered yet, exactly where their limits hold the columns, unless memory ran out.
abbrev pub Reopens : ℕ → Settings → Settings → (List Round → Type 0) → Reopening → Settings → (List Round → Type 0) → Type 0
Reopens columns settings old was Taken now is = (columns_refusal settings.limits columns ≡ None) × (now ≡ settings) × is []
Reopens columns settings old was (TooHeavy t) now is = (columns_refusal settings.limits columns ≡ Some t) × Stays old was now is
Reopens columns settings old was Memory now is = Stays old was now is
