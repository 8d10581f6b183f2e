use Rattle.std.proofs.Common.{◌≡◌, ◌≤◌, ◌-◌, ℕ, List, [], None}
use Rattle.agg_base.specs.Lines.{source_of, source_name, kept, unread, position, has_ended, Gave}
use Rattle.agg_model.specs.Lines.{Line}
use Rattle.agg_model.specs.declared.limits.TheConstants.{MAX_INPUT}
use Rattle.agg_reading.specs.Entries.{Entries}
use Rattle.script_lines.specs.Reading.{HasRead}
use Rattle.script_lines.specs.Steps.{place_of}
use Rattle.agg_spec.specs.Answers.{Recent}
use Rattle.script_answers.specs.Answering.{MayBe, fresh_with}
use Rattle.script_answers.specs.Outputs.{so_far}
use Rattle.script_answers.specs.Stepping.{IsReady}
use Rattle.script_answers.proofs.Sections.{SoFar}
use Rattle.script_answers.proofs.running.answer_script.Given as goal

-- what was read and written so far
pub record Answering (g : goal.Over) (l : goal.Live-loop-entry g) : Type 0 where
  pub kept : kept l.lines ≡ None
  pub ready : IsReady l.words (fresh_with (g.A.Answerer.in_force l.waiting.answerer)) l.waiting.wave
  pub same_index : g.A.Answerer.index l.waiting.answerer ≡ g.A.Answerer.index l.fn.answerer
  pub same_columns : g.A.Answerer.columns l.waiting.answerer ≡ g.A.Answerer.columns l.fn.answerer
  pub reads_never_fall : g.S.Source.faults (source_of l.fn.lines) ≤ g.S.Source.faults (source_of l.lines)
  pub writes_never_fall : g.K.Sink.faults l.fn.sink ≤ g.K.Sink.faults l.sink
  pub gave : Gave l.fn.lines l.lines
  pub same_source : source_name l.lines ≡ source_name l.fn.lines
  pub so_far : (start : Recent) → MayBe (g.A.Answerer.in_force l.fn.answerer) (g.A.Answerer.answered l.fn.answerer) start
      → (bytes : List ℕ) (whole : List Line → Entries) → HasRead whole bytes [] l.fn.lines → (now : Recent)
      × SoFar l.words (g.A.Answerer.index l.fn.answerer) (g.A.Answerer.columns l.fn.answerer) whole bytes start now l.waiting.wave
      (so_far (g.K.Sink.written l.fn.sink) l.fn.audience) (so_far (g.K.Sink.written l.sink) l.audience) (place_of l.lines) (unread l.lines) (position l.lines) (has_ended l.lines)
      × MayBe (g.A.Answerer.in_force l.waiting.answerer) (g.A.Answerer.answered l.waiting.answerer) now

abbrev pub invariant-loop-entry : goal.invariant-loop-entry
invariant-loop-entry g l = Answering g l

abbrev pub decreases-loop-entry : goal.decreases-loop-entry
decreases-loop-entry g l = MAX_INPUT - position l.lines
