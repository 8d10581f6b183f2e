-- What was written where a script is not loaded.
use Rattle.std.specs.Prelude.{◌≡◌, ℕ, List, [], ◌∷◌, ◌++◌, take, Some, codes, Result, Ok, Err, ⊤}
use Rattle.std.proofs.Common.{inl, inr, refl, ◌∙◌, sym, ap, subst}
use Rattle.agg_bulk.specs.Loading.{IsRefused}
use Rattle.agg_model.specs.Lines.{lines}
use Rattle.agg_model.specs.declared.breaker.Tripped.{Tripped}
use Rattle.agg_model.specs.declared.settings.Settings.{Settings}
use Rattle.agg_reading.specs.Lines.{ScriptRefusal}
use Rattle.agg_reading.specs.Script.{Loaded, loaded}
use Rattle.agg_settings.specs.Changes.{changed}
use Rattle.agg_spec.specs.Columns.{columns_charge, columns_refusal}
use Rattle.agg_spec.specs.ErrorLines.{exception_line}
use Rattle.agg_spec.specs.Output.{Script, refused, too_heavy, if_light, script_from, refusal_line, whole_lines, IsWholeOf, At3}
use Rattle.agg_spec.specs.Requests.{loaded_script, loaded_index}
use Rattle.agg_spec.specs.Written.{Line, error}
use Rattle.script_answers.specs.Outputs.{Output}
use Rattle.script_answers.specs.Puts.{Puts}
use Rattle.script_answers.specs.Steps.{WroteLines}
use Rattle.script_answers.specs.declared.stop.Stop.{Stop}
use Rattle.script_answers.specs.declared.stop.Stop.TheVariants.{Write, Memory}
use Rattle.script_answers.proofs.Putting.{wrote-nothing}
use Rattle.script_run.specs.Ends.{ended_by}
use Rattle.script_run.specs.Runs.{WroteBy, WroteOf, script_of, script_read, IsCutOf}
use Rattle.script_run.specs.declared.status.Status.{Status}
use Rattle.script_run.specs.declared.status.Status.TheVariants as status
use Rattle.script_run.proofs.Outputs.{some-output}

-- the one line of a script that is not loaded
abbrev heavy_line : Tripped → Line
heavy_line t = error (exception_line t (codes "columns") 6 [])

single : (done others : List Line) (line next : Line) → line ∷ [] ≡ done ++ next ∷ others → (done ≡ []) × (next ≡ line)
single [] others line next is_one = (refl, cc)
single (d ∷ []) others line next is_one = absurd (let no : ⊥ = cc in no)
single (d ∷ e ∷ ds) others line next is_one = absurd (let no : ⊥ = cc in no)

module _ (words : Settings) (script read : Script) (before after : Output) (line : Line) (code : ℕ) (whole : IsWholeOf changed words script code (line ∷ [])) where
  cut-line : (done : List Line) (next : Line) → (done ≡ []) × (next ≡ line) → IsCutOf words script done next
  cut-line done next (none, same) =
      subst (λ (ls : List Line). IsCutOf words script ls next) (sym none)
      (subst (λ (n : Line). IsCutOf words script [] n) (sym same) (record { later = []; status = code; whole = whole }))

  -- one line is all of the output
  pub line-ends : (end : Status) (result : Result ⊤ Stop) → ((wrote : WroteLines before after (line ∷ [])) → WroteBy words script read end before after)
      → Puts before after (line ∷ []) result → WroteBy words script read (ended_by result end) before after
  line-ends end (Ok done) all puts = all puts
  line-ends end (Err Write) all puts = (puts.done, puts.next, puts.wrote, cut-line puts.done puts.next (single puts.done puts.others line puts.next puts.are))
  line-ends end (Err Memory) all puts = (puts.done, puts.next, puts.wrote, cut-line puts.done puts.next (single puts.done puts.others line puts.next puts.are))

module _ (words : Settings) (bytes : List ℕ) (read : ℕ) (before after : Output) where
  abbrev seen : Script
  seen = script_read words bytes read

  -- the script is refused
  pub refused-ends : (r : ScriptRefusal) (result : Result ⊤ Stop) → loaded (lines bytes) ≡ Err r → Puts before after (refusal_line r ∷ []) result → WroteOf words bytes read (ended_by result status.Refused) before after
  refused-ends r result is puts =
      subst (λ (x : Script). WroteBy words x seen (ended_by result status.Refused) before after) (sym (ap (script_from words) is))
      (line-ends words (refused r) seen before after (refusal_line r) 5 (inr (inl (refl, refl))) status.Refused result
      (λ wrote. (refusal_line r ∷ [], wrote, inr (inl (refl, refl)))) puts)

  -- the columns are beyond a limit
  pub heavy-ends : (t : Tripped) (defined : Loaded) (result : Result ⊤ Stop) → loaded (lines bytes) ≡ Ok defined → columns_refusal words.limits (columns_charge (loaded_index defined)) ≡ Some t
      → Puts before after (heavy_line t ∷ []) result → WroteOf words bytes read (ended_by result status.TooHeavy) before after
  heavy-ends t defined result is heavy puts =
      let script : script_of words bytes ≡ too_heavy t = ap (script_from words) is ∙ ap (if_light (loaded_script defined)) heavy in
      subst (λ (x : Script). WroteBy words x seen (ended_by result status.TooHeavy) before after) (sym script)
      (line-ends words (too_heavy t) seen before after (heavy_line t) 6 (inr (inr (refl, refl))) status.TooHeavy result
      (λ wrote. (heavy_line t ∷ [], wrote, inr (inr (refl, refl)))) puts)

  unread-by : (r : Result Loaded ScriptRefusal) → IsRefused r → At3 changed words (script_from words r) []
  unread-by (Ok l) is = absurd is
  unread-by (Err r) is = refl

  -- the source failed
  pub unread-ends : IsRefused (loaded (whole_lines (take read bytes))) → after ≡ before → WroteOf words bytes read status.ReadFault before after
  unread-ends is same = ([], subst (λ (o : Output). WroteLines before o []) (sym same) (wrote-nothing before), unread-by (loaded (whole_lines (take read bytes))) is)

  -- there was no memory
  pub wanting-ends : after ≡ before → WroteOf words bytes read status.Memory before after
  wanting-ends same =
      let some = some-output words (loaded (lines bytes)) in
      ([], some.0, subst (λ (o : Output). WroteLines before o []) (sym same) (wrote-nothing before), some.1)
