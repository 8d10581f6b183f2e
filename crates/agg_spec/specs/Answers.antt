-- The answers to the searches and settings lines of a script, in their order ('Multi search API').
use Rattle.std.specs.Prelude.{◌≡◌, ◌⊎◌, ⊤, ℕ, true, false, List, [], ◌∷◌, ◌++◌, map, option_to_list, Option, Some, None, Result, Ok, Err}
use Rattle.std.specs.List.{AllByRecursion}
use Rattle.serde_json.specs.Data.{Data}
use Rattle.agg_model.specs.declared.breaker.Tripped.{Tripped}
use Rattle.agg_model.specs.declared.settings.Settings.{Settings}
use Rattle.agg_model.specs.declared.outcome.Answered.{Answered}
use Rattle.agg_model.specs.declared.outcome.Outcome.TheVariants as ended
use Rattle.agg_spec.specs.Index.{Index}
use Rattle.agg_spec.specs.Outcome.{Request}
use Rattle.agg_spec.specs.Columns.{columns_refusal}
use Rattle.agg_spec.specs.Pages.{next_page}
use Rattle.agg_spec.specs.Requests.{Segment}
use Rattle.agg_spec.specs.Rounds.{Round}
use Rattle.agg_spec.specs.Reduction.{batches}
use Rattle.agg_spec.specs.Solo.{idle, solo_answer}
use Rattle.agg_spec.specs.Wave.{MayAnswerWave}
use Rattle.agg_spec.specs.Statistics.{is_solo}

-- The settings that a settings line gives, or the name that it refuses: by the settings in force, those of the program's words, and
-- the line. The grammar of its values is that of the words.
abbrev pub Change : Type 0
Change = Settings → Settings → Data → Result Settings (List ℕ)

-- what a settings line comes to
pub data Changed : Type 0 where
  accepted : Settings → Changed
  refused : List ℕ → Changed
  -- the columns are beyond a new limit
  too_heavy : Tripped → Changed

abbrev pub if_light : Settings → Option Tripped → Changed
if_light settings None = accepted settings
if_light settings (Some t) = too_heavy t

abbrev pub changed_to : ℕ → Result Settings (List ℕ) → Changed
changed_to columns (Ok settings) = if_light settings (columns_refusal settings.limits columns)
changed_to columns (Err name) = refused name

module _ (index : Index) (columns : ℕ) where
  -- With one worker that runs one search at a time there is one answer, unless memory runs out.
  abbrev pub IsSolo : Settings → List Request → List Answered → Type 0
  IsSolo settings (r ∷ []) (a ∷ []) = (a ≡ solo_answer settings index (idle columns) r) ⊎ (a.outcome ≡ ended.Memory)
  IsSolo settings _ _ = ⊥

  -- a round may be answered so
  abbrev pub IsAllowed : Round → Type 0
  IsAllowed round =
      elim (is_solo round.settings) [
        | true ↦ IsSolo round.settings round.requests round.answers
        | false ↦ MayAnswerWave round.settings index columns round.requests round.answers
      ]

  -- the page after an answered page
  abbrev pub page_after : Request → List Answered → Option Request
  page_after r (a ∷ []) = next_page index r a.outcome a.failures
  page_after r _ = None

  -- in a scan each page is a round; the next page of a search comes before the searches behind it
  abbrev pub ArePages : List Request → List Round → Type 0
  ArePages [] [] = ⊤
  ArePages (r ∷ rest) (round ∷ rounds) = (round.requests ≡ r ∷ []) × ArePages (option_to_list (page_after r round.answers) ++ rest) rounds
  ArePages _ _ = ⊥

  -- else each wave is a round
  abbrev pub AreWaves : ℕ → List Request → List Round → Type 0
  AreWaves width requests rounds = map (λ round. round.requests) rounds ≡ batches width requests

  abbrev pub AreFormed : Settings → List Request → List Round → Type 0
  AreFormed settings requests rounds = elim settings.scan [ true ↦ ArePages requests rounds | false ↦ AreWaves settings.width requests rounds ]

  -- The rounds in which these searches ran with these settings, of each of which P holds.
  pub record AreRounds (P : Round → Type 0) (settings : Settings) (requests : List Request) (rounds : List Round) : Type 0 where
    pub form : AreFormed settings requests rounds
    pub each : AllByRecursion (λ round. (round.settings ≡ settings) × P round) rounds

-- the settings in force, and the rounds since they are
pub record Recent : Type 0 where
  pub settings : Settings
  pub rounds : List Round

abbrev pub with_rounds : List Round → Recent → Recent
with_rounds rounds recent = record recent { rounds = recent.rounds ++ rounds }

-- an accepted settings line starts the statistics anew
abbrev pub after_change : Changed → Recent → Recent
after_change (accepted settings) recent = record { settings = settings; rounds = [] }
after_change (refused name) recent = recent
after_change (too_heavy t) recent = recent

-- `words` are the settings of the program's words
module _ (change : Change) (words : Settings) (index : Index) (columns : ℕ) where
  abbrev pub changed_by : Recent → Data → Changed
  changed_by recent line = changed_to columns (change recent.settings words line)

  abbrev pub after_line : Option Data → Recent → Recent
  after_line None recent = recent
  after_line (Some line) recent = after_change (changed_by recent line) recent

  -- each segment ran with the settings in force
  abbrev pub AreAnswered : (Round → Type 0) → Recent → List Segment → List (List Round) → Type 0
  AreAnswered P recent [] [] = ⊤
  AreAnswered P recent (s ∷ rest) (rounds ∷ later) =
      AreRounds index columns P recent.settings s.requests rounds × AreAnswered P (after_line s.change (with_rounds rounds recent)) rest later
  AreAnswered P recent _ _ = ⊥

  -- the settings in force at the end
  abbrev pub latest : Recent → List Segment → List (List Round) → Recent
  latest recent (s ∷ rest) (rounds ∷ later) = latest (after_line s.change (with_rounds rounds recent)) rest later
  latest recent _ _ = recent
