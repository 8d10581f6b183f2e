-- The output of a script from some place of its third section on: behind the lines so far, by the settings that are in force there
-- and the rounds since they are ('Multi search API', 'Cluster update settings API').
use Rattle.std.specs.Prelude.{◌≡◌, ◌⊎◌, ℕ, List, [], ◌∷◌, ◌++◌, Option, Some, None}
use Rattle.agg_model.specs.declared.breaker.Totals.{Totals}
use Rattle.agg_model.specs.declared.settings.Settings.{Settings}
use Rattle.agg_reading.specs.Entries.{Entries}
use Rattle.agg_reading.specs.Lines.{ScriptRefusal}
use Rattle.agg_spec.specs.Index.{Index}
use Rattle.agg_spec.specs.Requests.{Segment, segments, cut_short}
use Rattle.agg_spec.specs.Rounds.{Round}
use Rattle.agg_spec.specs.Statistics.{AreTotals}
use Rattle.agg_spec.specs.Answers.{Change, Recent, IsAllowed, AreAnswered, latest}
use Rattle.agg_spec.specs.Written.{Line, statistics, answer_lines}
use Rattle.agg_spec.specs.Output.{refusal_line}

module _ (change : Change) (words : Settings) (index : Index) (columns : ℕ) where
  -- these lines answer these segments
  pub record Answers (recent : Recent) (parts : List Segment) (written : List Line) (at_end : Recent) : Type 0 where
    pub rounds : List (List Round)
    pub allowed : AreAnswered change words index columns (IsAllowed index columns) recent parts rounds
    pub lines : written ≡ answer_lines change words index columns recent parts rounds
    pub ended : at_end ≡ latest change words index columns recent parts rounds

  -- all that is left is answered, and the statistics follow
  pub record EndsWell (recent : Recent) (left : Entries) (written : List Line) : Type 0 where
    pub answers : List Line
    pub at_end : Recent
    pub totals : Totals
    pub whole : left.refused ≡ None
    pub answered : Answers recent (segments index left.entries) answers at_end
    pub total : AreTotals at_end.settings index columns at_end.rounds totals
    pub lines : written ≡ answers ++ statistics totals ∷ []

  -- all but a short last wave is answered, and these lines follow
  pub record EndsEarly (recent : Recent) (left : Entries) (last written : List Line) : Type 0 where
    pub answers : List Line
    pub at_end : Recent
    pub answered : Answers recent (cut_short words.width (segments index left.entries)) answers at_end
    pub lines : written ≡ answers ++ last

  abbrev pub EndsRefused : Recent → Entries → Option ScriptRefusal → List Line → Type 0
  EndsRefused recent left None written = ⊥
  EndsRefused recent left (Some r) written = EndsEarly recent left (refusal_line r ∷ []) written

  -- what follows, and the status with which it ends, where neither source nor sink fails and memory is enough
  abbrev pub IsRest : Recent → Entries → ℕ → List Line → Type 0
  IsRest recent left status written =
      ((status ≡ 0) × EndsWell recent left written) ⊎ ((status ≡ 5) × EndsRefused recent left left.refused written)

  -- such a rest ends behind these lines, within or before the next one
  pub record IsCut (recent : Recent) (left : Entries) (written : List Line) (next : Line) : Type 0 where
    pub later : List Line
    pub status : ℕ
    pub rest : IsRest recent left status (written ++ next ∷ later)
