-- What a run writes, by its status: whole lines of an output of its words and its input, and where the sink fails a front of the
-- next one.
use Rattle.std.specs.Prelude.{◌≡◌, ℕ, Bool, List, ◌∷◌, ◌++◌, Option, Some, take, drop}
use Rattle.std.specs.Io.KnownBytes.{append_known}
use Rattle.agg_model.specs.declared.settings.Settings.{Settings}
use Rattle.agg_model.specs.Lines.{lines}
use Rattle.agg_reading.specs.Script.{loaded}
use Rattle.agg_settings.specs.Changes.{changed}
use Rattle.agg_settings.specs.Settings.{settings_of}
use Rattle.agg_spec.specs.Output.{Script, script_from, whole_lines, IsWholeOf, At3, IsOutput}
use Rattle.agg_spec.specs.Written.{Line, text_of}
use Rattle.script_answers.specs.Outputs.{Output, after_all}
use Rattle.script_answers.specs.Steps.{WroteLines, WroteFront}
use Rattle.script_run.specs.Statuses.{code_of}
use Rattle.script_run.specs.declared.status.Status.{Status}
use Rattle.script_run.specs.declared.status.Status.TheVariants.{Usage, ReadFault, WriteFault, Memory}

-- the script of these bytes
abbrev pub script_of : Settings → List ℕ → Script
script_of words bytes = script_from words (loaded (lines bytes))

-- an output of the script ends behind these lines, within or before the next one
pub record IsCutOf (words : Settings) (script : Script) (written : List Line) (next : Line) : Type 0 where
  pub later : List Line
  pub status : ℕ
  pub whole : IsWholeOf changed words script status (written ++ next ∷ later)

-- whole lines that are all of an output
abbrev pub WroteAll : Settings → Script → ℕ → Output → Output → Type 0
WroteAll words script status before after = (written : List Line) × WroteLines before after written × IsWholeOf changed words script status written

-- What was written of the output of a script, by the status. Where the source failed, it is that of `read`, the script of the whole
-- lines that were read.
abbrev pub WroteBy : Settings → Script → Script → Status → Output → Output → Type 0
WroteBy words script read Usage before after = ⊥
WroteBy words script read ReadFault before after = (written : List Line) × WroteLines before after written × At3 changed words read written
WroteBy words script read WriteFault before after =
    (written : List Line) × (next : Line) × WroteFront before after written next × IsCutOf words script written next
WroteBy words script read Memory before after =
    (written : List Line) × (next : Line) × WroteLines before after written × IsCutOf words script written next
WroteBy words script read status before after = WroteAll words script (code_of status) before after

-- the script of the whole lines among the bytes that were read of these
abbrev pub script_read : Settings → List ℕ → ℕ → Script
script_read words bytes read = script_from words (loaded (whole_lines (take read bytes)))

-- what was written of the script of an input of which so many bytes were read
abbrev pub WroteOf : Settings → List ℕ → ℕ → Status → Output → Output → Type 0
WroteOf words bytes read status before after = WroteBy words (script_of words bytes) (script_read words bytes read) status before after

-- What a run with these words wrote, given this input, of which so much is left: an output that its status allows. `several` says
-- whether several workers and searches at a time are in the grammar of the words.
pub record Runs (several : Bool) (words : List (List ℕ)) (input : List ℕ) (left : Option (List ℕ)) (status : ℕ) (before after : Output) : Type 0 where
  pub read : ℕ
  pub rest : left ≡ Some (drop read input)
  pub written : List Line
  pub piece : List ℕ
  pub output : IsOutput changed (settings_of several words) input read status written piece
  pub text : after.bytes ≡ append_known before.bytes (text_of written ++ piece)
  pub heard : after.hearing ≡ after_all written before.hearing
