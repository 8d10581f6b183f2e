-- The output of a run, from what was written of its script.
use Rattle.std.specs.Prelude.{◌≡◌, ℕ, Bool, List, [], ◌∷◌, ◌++◌, drop, Option, Some, None, Result, Ok, Err, ⊤}
use Rattle.std.specs.Io.KnownBytes.{append_known}
use Rattle.std.specs.Option.{option_map_or}
use Rattle.std.proofs.Common.{inl, inr, refl, ◌∙◌, sym, ap, subst, append-nil}
use Rattle.agg_model.specs.Lines.{lines}
use Rattle.agg_model.specs.declared.settings.Generate.{Generate}
use Rattle.agg_model.specs.declared.settings.Settings.{Settings}
use Rattle.agg_model.specs.declared.settings.Usage.{Usage}
use Rattle.agg_reading.specs.Script.{loaded}
use Rattle.agg_settings.specs.Changes.{changed}
use Rattle.agg_settings.specs.Settings.{settings_of}
use Rattle.agg_spec.specs.EndLines.{usage_line}
use Rattle.agg_spec.specs.Generator.{generated}
use Rattle.agg_spec.specs.Output.{text_read, IsWholeOf, IsWhole, IsCut, IsStopped, At3}
use Rattle.agg_spec.specs.Written.{Line, error, text_of}
use Rattle.script_answers.specs.Outputs.{Output}
use Rattle.script_answers.specs.Puts.{Puts}
use Rattle.script_answers.specs.Steps.{WroteLines, WroteFront}
use Rattle.script_answers.specs.declared.stop.Stop.{Stop}
use Rattle.script_answers.specs.declared.stop.Stop.TheVariants.{Write, Memory}
use Rattle.script_answers.proofs.Putting.{wrote-nothing}
use Rattle.script_run.specs.Ends.{ended_by}
use Rattle.script_run.specs.Runs.{WroteOf, WroteAll, script_of, script_read, IsCutOf, Runs}
use Rattle.script_run.specs.Statuses.{code_of}
use Rattle.script_run.specs.declared.status.Status.{Status}
use Rattle.script_run.specs.declared.status.Status.TheVariants as status
use Rattle.script_run.proofs.Outputs.{some-output}

all-text : (before after : Output) (written : List Line) → WroteLines before after written → after.bytes ≡ append_known before.bytes (text_of written ++ [])
all-text before after written wrote = wrote.text ∙ ap (append_known before.bytes) (sym (append-nil (text_of written)))

-- where no read failed, what was read does not matter
pub unread-wrote : (words : Settings) (bytes : List ℕ) (read : ℕ) (before after : Output) (end : Status) → (end ≡ status.ReadFault → ⊥)
    → WroteOf words bytes read end before after → WroteOf words bytes 0 end before after
unread-wrote words bytes read before after status.Finished not wrote = wrote
unread-wrote words bytes read before after status.Usage not wrote = wrote
unread-wrote words bytes read before after status.ReadFault not wrote = absurd (not refl)
unread-wrote words bytes read before after status.WriteFault not wrote = wrote
unread-wrote words bytes read before after status.Refused not wrote = wrote
unread-wrote words bytes read before after status.TooHeavy not wrote = wrote
unread-wrote words bytes read before after status.Memory not wrote = wrote

module _ (several : Bool) (words : List (List ℕ)) (input : List ℕ) (left : Option (List ℕ)) (before after : Output) (read : ℕ) (rest : left ≡ Some (drop read input)) where
  -- an output whose whole is this
  pub whole-runs : (status : ℕ) (written : List Line) → WroteLines before after written → IsWhole changed (settings_of several words) input status written → Runs several words input left status before after
  whole-runs status written wrote whole = record {
    read = read;
    rest = rest;
    written = written;
    piece = [];
    output = record { printed = wrote.printed; by_status = inl (whole, refl) };
    text = all-text before after written wrote;
    heard = wrote.heard;
  }

  -- the sink failed
  pub front-runs : (written : List Line) (next : Line) → WroteFront before after written next → IsCut changed (settings_of several words) input written next → Runs several words input left 4 before after
  front-runs written next front cut = record {
    read = read;
    rest = rest;
    written = written;
    piece = front.piece;
    output = record {
      printed = front.printed;
      by_status = inr (inr (inl (
        refl,
        record { next = next; cut = cut; printed = front.next_printed; left = front.left; some_left = front.some_left; front = front.front },
      )));
    };
    text = front.text;
    heard = front.heard;
  }

  -- memory ran out
  pub wanting-runs : (written : List Line) (next : Line) → WroteLines before after written → IsCut changed (settings_of several words) input written next → Runs several words input left 7 before after
  wanting-runs written next wrote cut = record {
    read = read;
    rest = rest;
    written = written;
    piece = [];
    output = record { printed = wrote.printed; by_status = inr (inr (inr (refl, record { next = next; cut = cut }, refl))) };
    text = all-text before after written wrote;
    heard = wrote.heard;
  }

  module _ (settings : Settings) (given : settings_of several words ≡ Ok settings) (bytes : List ℕ) (text : bytes ≡ text_read settings input) where
    whole-output : (status : ℕ) (written : List Line) → IsWholeOf changed settings (script_of settings bytes) status written → IsWhole changed (settings_of several words) input status written
    whole-output status written whole =
        subst (λ (r : Result Settings Usage). IsWhole changed r input status written) (sym given)
        (subst (λ (bs : List ℕ). IsWholeOf changed settings (script_of settings bs) status written) text whole)

    cut-output : (written : List Line) (next : Line) → IsCutOf settings (script_of settings bytes) written next → IsCut changed (settings_of several words) input written next
    cut-output written next cut = record { later = cut.later; status = cut.status; whole = whole-output cut.status (written ++ next ∷ cut.later) cut.whole }

    all-runs : (code : ℕ) → WroteAll settings (script_of settings bytes) code before after → Runs several words input left code before after
    all-runs code (written, wrote, whole) = whole-runs code written wrote (whole-output code written whole)

    input-is : settings.generate ≡ None → bytes ≡ input
    input-is none = text ∙ ap (λ (g : Option Generate). option_map_or generated g input) none

    stopped : settings.generate ≡ None → (written : List Line) → At3 changed settings (script_read settings bytes read) written → IsStopped changed (settings_of several words) input read written
    stopped none written at =
        subst (λ (r : Result Settings Usage). IsStopped changed r input read written) (sym given)
        (none, subst (λ (bs : List ℕ). At3 changed settings (script_read settings bs read) written) (input-is none) at)

    -- what was written of the script is written of the run
    pub script-runs : (end : Status) → WroteOf settings bytes read end before after → (end ≡ status.ReadFault → settings.generate ≡ None) → Runs several words input left (code_of end) before after
    script-runs status.Finished out unread = all-runs 0 out
    script-runs status.Refused out unread = all-runs 5 out
    script-runs status.TooHeavy out unread = all-runs 6 out
    script-runs status.Usage out unread = absurd out
    script-runs status.WriteFault out unread = front-runs out.0 out.1 out.2 (cut-output out.0 out.1 out.3)
    script-runs status.Memory out unread = wanting-runs out.0 out.1 out.2 (cut-output out.0 out.1 out.3)
    script-runs status.ReadFault out unread = record {
      read = read;
      rest = rest;
      written = out.0;
      piece = [];
      output = record { printed = out.1.printed; by_status = inr (inl (refl, stopped (unread refl) out.0 out.2, refl)) };
      text = all-text before after out.0 out.1;
      heard = out.1.heard;
    }

  -- the words are outside the grammar
  module _ (usage : Usage) (given : settings_of several words ≡ Err usage) where
    abbrev usage_last : Line
    usage_last = error (usage_line usage)

    usage-whole : IsWhole changed (settings_of several words) input 2 (usage_last ∷ [])
    usage-whole = subst (λ (r : Result Settings Usage). IsWhole changed r input 2 (usage_last ∷ [])) (sym given) (refl, refl)

    single : (done others : List Line) (next : Line) → usage_last ∷ [] ≡ done ++ next ∷ others → (done ≡ []) × (next ≡ usage_last)
    single [] others next is_one = (refl, cc)
    single (d ∷ []) others next is_one = absurd (let no : ⊥ = cc in no)
    single (d ∷ e ∷ ds) others next is_one = absurd (let no : ⊥ = cc in no)

    usage-cut : (done : List Line) (next : Line) → (done ≡ []) × (next ≡ usage_last) → IsCut changed (settings_of several words) input done next
    usage-cut done next (none, same) =
        subst (λ (ls : List Line). IsCut changed (settings_of several words) input ls next) (sym none)
        (subst (λ (n : Line). IsCut changed (settings_of several words) input [] n) (sym same) (record { later = []; status = 2; whole = usage-whole }))

    pub usage-runs : (result : Result ⊤ Stop) → Puts before after (usage_last ∷ []) result → Runs several words input left (code_of (ended_by result status.Usage)) before after
    usage-runs (Ok done) puts = whole-runs 2 (usage_last ∷ []) puts usage-whole
    usage-runs (Err Write) puts = front-runs puts.done puts.next puts.wrote (usage-cut puts.done puts.next (single puts.done puts.others puts.next puts.are))
    usage-runs (Err Memory) puts = wanting-runs puts.done puts.next puts.wrote (usage-cut puts.done puts.next (single puts.done puts.others puts.next puts.are))

  -- there was no memory for the words
  some-whole : (r : Result Settings Usage) → (next : Line) × IsCut changed r input [] next
  some-whole (Err usage) = (error (usage_line usage), record { later = []; status = 2; whole = (refl, refl) })
  some-whole (Ok settings) =
      let some = some-output settings (loaded (lines (text_read settings input))) in
      (some.0, record { later = some.1.later; status = some.1.status; whole = some.1.whole })

  pub nothing-runs : after ≡ before → Runs several words input left 7 before after
  nothing-runs same =
      let some = some-whole (settings_of several words) in
      wanting-runs [] some.0 (subst (λ (o : Output). WroteLines before o []) (sym same) (wrote-nothing before)) some.1
