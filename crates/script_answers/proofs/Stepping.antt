-- One step of an output behind another, and where a step is cut short.
use Rattle.std.specs.Prelude.{◌≡◌, ℕ, List, [], ◌∷◌, ◌++◌, Option, Some, None}
use Rattle.std.proofs.Common.{inl, inr, ◌∙◌, sym, ap, subst, append_assoc, ⊎_elim}
use Rattle.agg_model.specs.declared.settings.Settings.{Settings}
use Rattle.agg_reading.specs.Entries.{Entry, Entries}
use Rattle.agg_reading.specs.Lines.{ScriptRefusal}
use Rattle.agg_spec.specs.Index.{Index}
use Rattle.agg_spec.specs.Answers.{Change, Recent}
use Rattle.agg_spec.specs.Written.{Line}
use Rattle.agg_spec.specs.Output.{refusal_line}
use Rattle.script_lines.specs.Reading.{behind}
use Rattle.script_answers.specs.Rest.{EndsWell, EndsEarly, EndsRefused, IsRest, IsCut}
use Rattle.script_answers.specs.Steps.{Leads}
use Rattle.script_answers.proofs.Completing.{some-rest}

module _ (change : Change) (words : Settings) (index : Index) (columns : ℕ) where
  pub nothing-leads : (recent : Recent) → Leads change words index columns recent [] [] recent
  nothing-leads recent = record { well = λ left later ends. ends; early = λ left last later ends. ends }

  module _ (recent now : Recent) (answered : List Entry) (lines : List Line) (leads : Leads change words index columns recent answered lines now) where
    pub refused-behind : (left : Entries) (later : List Line) (refused : Option ScriptRefusal) → EndsRefused change words index columns now left refused later
        → EndsRefused change words index columns recent (behind answered left) refused (lines ++ later)
    refused-behind left later None ends = absurd ends
    refused-behind left later (Some r) ends = leads.early left (refusal_line r ∷ []) later ends

    pub rest-behind : (left : Entries) (status : ℕ) (later : List Line) → IsRest change words index columns now left status later
        → IsRest change words index columns recent (behind answered left) status (lines ++ later)
    rest-behind left status later rest =
        ⊎_elim (λ w. inl (w.0, leads.well left later w.1)) (λ w. inr (w.0, refused-behind left later left.refused w.1)) rest

    -- the output is cut behind these lines
    pub cut-behind : (left : Entries) (done : List Line) (next : Line) → IsCut change words index columns now left done next
        → IsCut change words index columns recent (behind answered left) (lines ++ done) next
    cut-behind left done next cut = record {
      later = cut.later;
      status = cut.status;
      rest = subst (IsRest change words index columns recent (behind answered left) cut.status) (sym (append_assoc lines done (next ∷ cut.later)))
          (rest-behind left cut.status (done ++ next ∷ cut.later) cut.rest);
    }

    -- the output is cut within these lines
    pub cut-within : (left : Entries) (done others : List Line) (next : Line) → lines ≡ done ++ next ∷ others
        → IsCut change words index columns recent (behind answered left) done next
    cut-within left done others next are =
        let more = some-rest change words index columns now left in
        let whole = rest-behind left more.cut.status (more.next ∷ more.cut.later) more.cut.rest in
        record {
          later = others ++ more.next ∷ more.cut.later;
          status = more.cut.status;
          rest = subst (IsRest change words index columns recent (behind answered left) more.cut.status)
              (ap (λ ls. ls ++ more.next ∷ more.cut.later) are ∙ append_assoc done (next ∷ others) (more.next ∷ more.cut.later)) whole;
        }

    -- more entries behind these
    pub leads-on : (later : List Entry) (more : List Line) (then : Recent) → Leads change words index columns now later more then
        → Leads change words index columns recent (answered ++ later) (lines ++ more) then
    leads-on later more then leads_later = record {
      well = λ left rest ends.
          subst (λ es. EndsWell change words index columns recent (record { entries = es; refused = left.refused }) ((lines ++ more) ++ rest)) (sym (append_assoc answered later left.entries))
          (subst (EndsWell change words index columns recent (behind answered (behind later left))) (sym (append_assoc lines more rest))
          (leads.well (behind later left) (more ++ rest) (leads_later.well left rest ends)));
      early = λ left last rest ends.
          subst (λ es. EndsEarly change words index columns recent (record { entries = es; refused = left.refused }) last ((lines ++ more) ++ rest)) (sym (append_assoc answered later left.entries))
          (subst (EndsEarly change words index columns recent (behind answered (behind later left)) last) (sym (append_assoc lines more rest))
          (leads.early (behind later left) last (more ++ rest) (leads_later.early left last rest ends)));
    }
