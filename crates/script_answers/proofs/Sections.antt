-- A whole third section: what was written of it so far, and how it ends.
use Rattle.std.specs.Prelude.{◌≡◌, ℕ, Bool, List, [], ◌∷◌, ◌++◌, take, Option, Some}
use Rattle.std.proofs.Common.{◌∙◌, sym, ap, subst, append_assoc, append-nil}
use Rattle.agg_model.specs.Lines.{Line as InputLine, lines}
use Rattle.agg_model.specs.declared.settings.Settings.{Settings}
use Rattle.agg_reading.specs.Entries.{Entry, Entries, entries, no_more, refused_with}
use Rattle.agg_reading.specs.Lines.{Place, ScriptRefusal}
use Rattle.agg_settings.specs.Changes.{changed}
use Rattle.agg_spec.specs.Index.{Index}
use Rattle.agg_spec.specs.Answers.{Recent}
use Rattle.agg_spec.specs.Written.{Line}
use Rattle.agg_spec.specs.Output.{refusal_line, whole_lines}
use Rattle.script_lines.specs.Reading.{behind, GoesOnAt, Ends, then_entries}
use Rattle.script_lines.proofs.EntryLemmas.{all}
use Rattle.script_lines.specs.Faults.{refusal_of}
use Rattle.script_lines.specs.declared.fault.ScriptFault.{ScriptFault}
use Rattle.script_lines.specs.declared.fault.ScriptFault.TheVariants as fault
use Rattle.script_answers.specs.Ends.{end_of, PutsLast, EndsAt}
use Rattle.script_answers.specs.Outputs.{Output}
use Rattle.script_answers.specs.Rest.{EndsEarly, EndsWell, EndsRefused}
use Rattle.script_answers.specs.Stepping.{bodies_of, IsReady, TakesEntry, StopsAt, Finishes}
use Rattle.script_answers.specs.Steps.{Leads, WroteLines, Wrote}
use Rattle.script_answers.specs.declared.end.ScriptEnd.{ScriptEnd}
use Rattle.script_answers.specs.declared.end.ScriptEnd.TheVariants as ended
use Rattle.script_answers.specs.declared.stop.Stop.{Stop}
use Rattle.script_answers.specs.declared.stop.Stop.TheVariants.{Write, Memory}
use Rattle.script_answers.proofs.Ending.{stops-here, stops-later, short-unanswered, refusal-stops}
use Rattle.script_answers.proofs.Putting.{wrote-nothing, wrote-append}
use Rattle.script_answers.proofs.Stepping.{nothing-leads, leads-on}

module _ (words : Settings) (index : Index) (columns : ℕ) where
  -- the entries that were answered, and their lines
  pub record SoFar (whole : List InputLine → Entries) (bytes : List ℕ) (start now : Recent) (wave : List (List ℕ)) (before after : Output) (place : Place)
      (left : Option (List ℕ)) (count : ℕ) (is_ended : Bool) : Type 0 where
    pub answered : List Entry
    pub written : List Line
    pub leads : Leads changed words index columns start answered written now
    pub wrote : WroteLines before after written
    pub read : GoesOnAt whole bytes (then_entries (answered ++ bodies_of wave) place) left count is_ended

  -- nothing was answered yet
  pub so-started : (whole : List InputLine → Entries) (bytes : List ℕ) (start : Recent) (before : Output) (place : Place) (left : Option (List ℕ)) (count : ℕ) (is_ended : Bool)
      → GoesOnAt whole bytes (then_entries [] place) left count is_ended → SoFar whole bytes start start [] before before place left count is_ended
  so-started whole bytes start before place left count is_ended read = record {
    answered = [];
    written = [];
    leads = nothing-leads changed words index columns start;
    wrote = wrote-nothing before;
    read = read;
  }

  stop-wrote : (start : Recent) (left read : Entries) (before after : Output) (stop : Stop) → StopsAt words index columns start left before after stop
      → Wrote changed words index columns start left read (end_of stop) before after
  stop-wrote start left read before after Write stops = stops
  stop-wrote start left read before after Memory stops = stops

  module _ (whole : List InputLine → Entries) (bytes : List ℕ) (start now : Recent) (wave : List (List ℕ)) (before mid : Output) (place : Place)
      (left : Option (List ℕ)) (count : ℕ) (is_ended : Bool) (so : SoFar whole bytes start now wave before mid place left count is_ended) where
    -- the same entries, those that wait taken apart from those that were answered
    apart : (es : List Entry) (later : Entries) → behind ((so.answered ++ bodies_of wave) ++ es) later ≡ behind so.answered (behind (bodies_of wave ++ es) later)
    apart es later = ap (λ (xs : List Entry). record { entries = xs; refused = later.refused })
        (ap (λ (xs : List Entry). xs ++ later.entries) (append_assoc so.answered (bodies_of wave) es) ∙ append_assoc so.answered (bodies_of wave ++ es) later.entries)

    apart-here : (later : Entries) → behind (so.answered ++ bodies_of wave) later ≡ behind so.answered (behind (bodies_of wave) later)
    apart-here later = ap (λ (xs : List Entry). record { entries = xs; refused = later.refused }) (append_assoc so.answered (bodies_of wave) later.entries)

    stopped-later : (after : Output) (rest read : Entries) (stop : Stop) → whole (lines bytes) ≡ behind so.answered rest → StopsAt words index columns now rest mid after stop
        → Wrote changed words index columns start (whole (lines bytes)) read (end_of stop) before after
    stopped-later after rest read stop is stops =
        stop-wrote start (whole (lines bytes)) read before after stop
        (subst (λ es. StopsAt words index columns start es before after stop) (sym is)
        (stops-later words index columns start now so.answered so.written before mid after stop rest so.leads so.wrote stops))

    -- one more entry
    pub so-more : (e : Entry) (next : Recent) (still : List (List ℕ)) (after : Output) (here : Place) (new_left : Option (List ℕ)) (new_count : ℕ) (now_ended : Bool)
        → GoesOnAt whole bytes (then_entries ((so.answered ++ bodies_of wave) ++ e ∷ []) here) new_left new_count now_ended
        → TakesEntry words index columns now wave e mid after next still → SoFar whole bytes start next still before after here new_left new_count now_ended
    so-more e next still after here new_left new_count now_ended read takes = record {
      answered = so.answered ++ takes.answered;
      written = so.written ++ takes.written;
      leads = leads-on changed words index columns start now so.answered so.written so.leads takes.answered takes.written next takes.leads;
      wrote = wrote-append before mid after so.written takes.written so.wrote takes.wrote;
      read = subst (λ (es : List Entry). GoesOnAt whole bytes (then_entries es here) new_left new_count now_ended)
          (append_assoc so.answered (bodies_of wave) (e ∷ []) ∙ ap (λ (es : List Entry). so.answered ++ es) takes.entries ∙ sym (append_assoc so.answered takes.answered (bodies_of still))) read;
    }

    -- one more entry, whose lines were not all written
    pub so-stopped : (e : Entry) (after : Output) (here : Place) (new_left : Option (List ℕ)) (new_count : ℕ) (now_ended : Bool) (read : Entries) (stop : Stop)
        → GoesOnAt whole bytes (then_entries ((so.answered ++ bodies_of wave) ++ e ∷ []) here) new_left new_count now_ended
        → ((rest : Entries) → StopsAt words index columns now (behind (bodies_of wave ++ e ∷ []) rest) mid after stop)
        → Wrote changed words index columns start (whole (lines bytes)) read (end_of stop) before after
    so-stopped e after here new_left new_count now_ended read stop goes_on stops =
        let later = entries here (lines goes_on.handed.rest) in
        stopped-later after (behind (bodies_of wave ++ e ∷ []) later) read stop
        (all whole bytes _ new_left new_count now_ended goes_on ∙ apart (e ∷ []) later) (stops later)

    -- the end of the script
    pub so-finished : (after : Output) (read : Entries) → whole (lines bytes) ≡ behind (so.answered ++ bodies_of wave) no_more
        → Finishes words index columns now (behind (bodies_of wave) no_more) mid after → Wrote changed words index columns start (whole (lines bytes)) read ended.Finished before after
    so-finished after read is finishes = (
      so.written ++ finishes.0,
      wrote-append before mid after so.written finishes.0 so.wrote finishes.1,
      subst (λ es. EndsWell changed words index columns start es (so.written ++ finishes.0)) (sym (is ∙ apart-here no_more)) (so.leads.well (behind (bodies_of wave) no_more) finishes.0 finishes.2),
    )

    pub so-unfinished : (after : Output) (read : Entries) (stop : Stop) → whole (lines bytes) ≡ behind (so.answered ++ bodies_of wave) no_more
        → StopsAt words index columns now (behind (bodies_of wave) no_more) mid after stop → Wrote changed words index columns start (whole (lines bytes)) read (end_of stop) before after
    so-unfinished after read stop is stops = stopped-later after (behind (bodies_of wave) no_more) read stop (is ∙ apart-here no_more) stops

    -- a refused script
    refused-early : (r : ScriptRefusal) → IsReady words now wave → EndsEarly changed words index columns start (behind so.answered (behind (bodies_of wave) (refused_with r))) (refusal_line r ∷ []) (so.written ++ refusal_line r ∷ [])
    refused-early r ready = so.leads.early (behind (bodies_of wave) (refused_with r)) (refusal_line r ∷ []) (refusal_line r ∷ [])
        (short-unanswered words index columns now wave (Some r) (refusal_line r ∷ []) ready)

    pub so-refused : (after : Output) (read : Entries) (r : ScriptRefusal) (end : ScriptEnd) → IsReady words now wave
        → whole (lines bytes) ≡ behind (so.answered ++ bodies_of wave) (refused_with r) → PutsLast (refusal_line r) mid after end
        → Wrote changed words index columns start (whole (lines bytes)) read end before after
    so-refused after read r ended.Refused ready is puts = (
      so.written ++ refusal_line r ∷ [],
      wrote-append before mid after so.written (refusal_line r ∷ []) so.wrote puts,
      subst (λ es. EndsRefused changed words index columns start es es.refused (so.written ++ refusal_line r ∷ [])) (sym (is ∙ apart-here (refused_with r))) (refused-early r ready),
    )
    so-refused after read r ended.Write ready is puts =
        stopped-later after (behind (bodies_of wave) (refused_with r)) read Write (is ∙ apart-here (refused_with r)) (refusal-stops words index columns now wave r mid after Write ready puts)
    so-refused after read r ended.Memory ready is puts =
        stopped-later after (behind (bodies_of wave) (refused_with r)) read Memory (is ∙ apart-here (refused_with r)) (refusal-stops words index columns now wave r mid after Memory ready puts)
    so-refused after read r ended.Finished ready is puts = absurd puts
    so-refused after read r ended.Read ready is puts = absurd puts

    -- the source failed
    pub so-unread : (after : Output) (read : Entries) (end : ScriptEnd) → IsReady words now wave → read.entries ≡ so.answered ++ bodies_of wave → (end ≡ ended.Read) × (after ≡ mid)
        → Wrote changed words index columns start (whole (lines bytes)) read end before after
    so-unread after read end ready is (at, same) =
        let early = so.leads.early (behind (bodies_of wave) (record { entries = []; refused = read.refused })) [] [] (short-unanswered words index columns now wave read.refused [] ready) in
        let here : so.answered ++ (bodies_of wave ++ []) ≡ read.entries = ap (λ (es : List Entry). so.answered ++ es) (append-nil (bodies_of wave)) ∙ sym is in
        subst (λ e. Wrote changed words index columns start (whole (lines bytes)) read e before after) (sym at) (
          so.written,
          subst (λ (o : Output). WroteLines before o so.written) (sym same) so.wrote,
          subst (EndsEarly changed words index columns start read []) (append-nil so.written)
              (subst (λ (es : List Entry). EndsEarly changed words index columns start (record { entries = es; refused = read.refused }) [] (so.written ++ [])) here early),
        )

    -- there was no memory for the next entry
    pub so-wanting : (after : Output) (read : Entries) (end : ScriptEnd) → (end ≡ ended.Memory) × (after ≡ mid)
        → Wrote changed words index columns start (whole (lines bytes)) read end before after
    so-wanting after read end (at, same) =
        let later = entries place (lines so.read.handed.rest) in
        subst (λ e. Wrote changed words index columns start (whole (lines bytes)) read e before after) (sym at)
        (subst (λ (o : Output). Wrote changed words index columns start (whole (lines bytes)) read ended.Memory before o) (sym same)
        (stopped-later mid (behind (bodies_of wave) later) read Memory (all whole bytes _ left count is_ended so.read ∙ apart-here later)
        (stops-here words index columns now (behind (bodies_of wave) later) mid)))

    -- why there is no further entry
    pub so-ended : (after : Output) (count_read : ℕ) (fault : ScriptFault) (end : ScriptEnd) → IsReady words now wave → Ends whole bytes (so.answered ++ bodies_of wave) fault count_read
        → EndsAt fault mid after end → Wrote changed words index columns start (whole (lines bytes)) (whole (whole_lines (take count_read bytes))) end before after
    so-ended after count_read (fault.Refused r) end ready is ends = so-refused after (whole (whole_lines (take count_read bytes))) (refusal_of r) end ready is ends
    so-ended after count_read fault.Read end ready is ends = so-unread after (whole (whole_lines (take count_read bytes))) end ready is ends
    so-ended after count_read fault.Memory end ready is ends = so-wanting after (whole (whole_lines (take count_read bytes))) end ends
