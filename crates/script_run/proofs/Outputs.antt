-- The output of a script that was loaded: the line of its bulk actions, and behind it that of its third section.
use Rattle.std.specs.Prelude.{◌≡◌, ℕ, List, [], ◌∷◌, ◌++◌, Option, Some, None, is_some, Result, Ok, Err, codes}
use Rattle.std.proofs.Common.{inl, inr, refl, ◌∙◌, sym, ap, subst}
use Rattle.agg_model.specs.declared.breaker.Tripped.{Tripped}
use Rattle.agg_model.specs.declared.settings.Settings.{Settings}
use Rattle.agg_reading.specs.Entries.{Entries, entries}
use Rattle.agg_reading.specs.Lines.{ScriptRefusal}
use Rattle.agg_reading.specs.Script.{Loaded}
use Rattle.agg_settings.specs.Changes.{changed}
use Rattle.agg_spec.specs.Answers.{Recent}
use Rattle.agg_spec.specs.BulkLine.{bulk_line}
use Rattle.agg_spec.specs.Columns.{columns_refusal}
use Rattle.agg_spec.specs.Output.{answered, if_light, script_from, refusal_line, EndsWell, EndsEarly, EndsRefused, HasAnswers, IsWholeOf}
use Rattle.agg_spec.specs.Requests.{LoadedScript, Segment, segments, cut_short, loaded_script}
use Rattle.agg_spec.specs.Written.{Line, bulk, error}
use Rattle.agg_spec.specs.ErrorLines.{exception_line}
use Rattle.script_answers.specs.Rest as rest
use Rattle.script_answers.proofs.Completing.{some-rest}
use Rattle.script_run.specs.Runs.{IsCutOf}

module _ (words : Settings) (s : LoadedScript) where
  -- nothing is answered yet
  abbrev pub fresh : Recent
  fresh = record { settings = words; rounds = [] }

  abbrev pub first_line : Line
  first_line = bulk (bulk_line s.index.name s.items (is_some words.generate))

  abbrev Answered : List Segment → List Line → Recent → Type 0
  Answered = rest.Answers changed words s.index s.columns fresh

  has-answers : (parts : List Segment) (answers : List Line) (at_end : Recent) → Answered parts answers at_end → HasAnswers changed words s parts (first_line ∷ answers) at_end
  has-answers parts answers at_end are = record {
    rounds = are.rounds;
    allowed = are.allowed;
    lines = ap (λ (ls : List Line). first_line ∷ ls) are.lines;
    recent = are.ended;
  }

  module _ (left : Entries) (segments_are : s.segments ≡ segments s.index left.entries) (refused_is : s.refused ≡ left.refused) where
    pub ends-well : (written : List Line) → rest.EndsWell changed words s.index s.columns fresh left written → EndsWell changed words s (first_line ∷ written)
    ends-well written well = record {
      answers = first_line ∷ well.answers;
      at_end = well.at_end;
      totals = well.totals;
      whole = refused_is ∙ well.whole;
      answered = has-answers s.segments well.answers well.at_end (subst (λ (parts : List Segment). Answered parts well.answers well.at_end) (sym segments_are) well.answered);
      total = well.total;
      lines = ap (λ (ls : List Line). first_line ∷ ls) well.lines;
    }

    pub ends-early : (last written : List Line) → rest.EndsEarly changed words s.index s.columns fresh left last written → EndsEarly changed words s last (first_line ∷ written)
    ends-early last written early = record {
      answers = first_line ∷ early.answers;
      at_end = early.at_end;
      answered = has-answers (cut_short words.width s.segments) early.answers early.at_end
          (subst (λ (parts : List Segment). Answered (cut_short words.width parts) early.answers early.at_end) (sym segments_are) early.answered);
      lines = ap (λ (ls : List Line). first_line ∷ ls) early.lines;
    }

    refused-by : (r : Option ScriptRefusal) (written : List Line) → rest.EndsRefused changed words s.index s.columns fresh left r written → EndsRefused changed words s r (first_line ∷ written)
    refused-by None written ends = absurd ends
    refused-by (Some r) written ends = ends-early (refusal_line r ∷ []) written ends

    pub ends-refused : (written : List Line) → rest.EndsRefused changed words s.index s.columns fresh left left.refused written → EndsRefused changed words s s.refused (first_line ∷ written)
    ends-refused written ends = subst (λ (r : Option ScriptRefusal). EndsRefused changed words s r (first_line ∷ written)) (sym refused_is) (refused-by left.refused written ends)

    whole-rest : (status : ℕ) (written : List Line) → rest.IsRest changed words s.index s.columns fresh left status written → IsWholeOf changed words (answered s) status (first_line ∷ written)
    whole-rest status written (inl (at, well)) = inl (at, ends-well written well)
    whole-rest status written (inr (at, ends)) = inr (inl (at, ends-refused written ends))

    pub cut-rest : (written : List Line) (next : Line) → rest.IsCut changed words s.index s.columns fresh left written next → IsCutOf words (answered s) (first_line ∷ written) next
    cut-rest written next cut = record { later = cut.later; status = cut.status; whole = whole-rest cut.status (written ++ next ∷ cut.later) cut.rest }

    -- the first line was not written
    pub cut-first : IsCutOf words (answered s) [] first_line
    cut-first =
        let more = some-rest changed words s.index s.columns fresh left in
        record { later = more.next ∷ more.cut.later; status = more.cut.status; whole = whole-rest more.cut.status (more.next ∷ more.cut.later) more.cut.rest }

-- what is left of a script behind its bulk actions
abbrev pub left_of : Loaded → Entries
left_of l = entries l.place l.rest

some-if : (words : Settings) (l : Loaded) (o : Option Tripped) → (next : Line) × IsCutOf words (if_light (loaded_script l) o) [] next
some-if words l None = (first_line words (loaded_script l), cut-first words (loaded_script l) (left_of l) refl refl)
some-if words l (Some t) = (error (exception_line t (codes "columns") 6 []), record { later = []; status = 6; whole = inr (inr (refl, refl)) })

-- from its start on a script has an output
pub some-output : (words : Settings) (read : Result Loaded ScriptRefusal) → (next : Line) × IsCutOf words (script_from words read) [] next
some-output words (Err r) = (refusal_line r, record { later = []; status = 5; whole = inr (inl (refl, refl)) })
some-output words (Ok l) = some-if words l (columns_refusal words.limits (loaded_script l).columns)
