-- What is written of the output of a script, step by step, and where it ends.
use Rattle.std.specs.Prelude.{◌≡◌, ◌≢◌, ℕ, List, [], ◌++◌, IsTrue}
use Rattle.std.specs.Io.KnownBytes.{append_known}
use Rattle.agg_model.specs.declared.settings.Settings.{Settings}
use Rattle.agg_reading.specs.Entries.{Entry, Entries}
use Rattle.agg_spec.specs.Index.{Index}
use Rattle.agg_spec.specs.Answers.{Change, Recent}
use Rattle.agg_spec.specs.Written.{Line, line_text, ended_line, is_printed, all_printed, text_of}
use Rattle.script_lines.specs.Reading.{behind}
use Rattle.script_answers.specs.Outputs.{Output, after_all}
use Rattle.script_answers.specs.Rest.{EndsWell, EndsEarly, EndsRefused, IsCut}
use Rattle.script_answers.specs.declared.end.ScriptEnd.{ScriptEnd}
use Rattle.script_answers.specs.declared.end.ScriptEnd.TheVariants.{Finished, Refused, Read, Write, Memory}

-- these whole lines were written, and listeners heard of the answers among them
pub record WroteLines (before after : Output) (written : List Line) : Type 0 where
  pub printed : IsTrue (all_printed written)
  pub text : after.bytes ≡ append_known before.bytes (text_of written)
  pub heard : after.hearing ≡ after_all written before.hearing

-- these whole lines, and a front of the next one that is not all of it
pub record WroteFront (before after : Output) (written : List Line) (next : Line) : Type 0 where
  pub printed : IsTrue (all_printed written)
  pub next_printed : IsTrue (is_printed next)
  pub piece : List ℕ
  pub left : List ℕ
  pub some_left : left ≢ []
  pub front : ended_line (line_text next) ≡ piece ++ left
  pub text : after.bytes ≡ append_known before.bytes (text_of written ++ piece)
  pub heard : after.hearing ≡ after_all written before.hearing

module _ (change : Change) (words : Settings) (index : Index) (columns : ℕ) where
  -- What was written of the output from some place on, by how it ended. `left` are the entries from there on, and `read` those of
  -- the whole lines that were read.
  abbrev pub Wrote : Recent → Entries → Entries → ScriptEnd → Output → Output → Type 0
  Wrote recent left read Finished before after =
      (written : List Line) × WroteLines before after written × EndsWell change words index columns recent left written
  Wrote recent left read Refused before after =
      (written : List Line) × WroteLines before after written × EndsRefused change words index columns recent left left.refused written
  Wrote recent left read Read before after =
      (written : List Line) × WroteLines before after written × EndsEarly change words index columns recent read [] written
  Wrote recent left read Write before after =
      (written : List Line) × (next : Line) × WroteFront before after written next × IsCut change words index columns recent left written next
  Wrote recent left read Memory before after =
      (written : List Line) × (next : Line) × WroteLines before after written × IsCut change words index columns recent left written next

  -- These lines answer these entries, and bring other settings and rounds: whatever follows behind them follows them.
  pub record Leads (recent : Recent) (answered : List Entry) (written : List Line) (now : Recent) : Type 0 where
    pub well : (left : Entries) (later : List Line) → EndsWell change words index columns now left later
        → EndsWell change words index columns recent (behind answered left) (written ++ later)
    pub early : (left : Entries) (last later : List Line) → EndsEarly change words index columns now left last later
        → EndsEarly change words index columns recent (behind answered left) last (written ++ later)
