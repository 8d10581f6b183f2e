use Rattle.std.proofs.Common.{◌≡◌, ◌≤◌, ◌-◌, ℕ, List, None}
use Rattle.agg_base.specs.Lines.{source_of, source_name, kept, position, Gave}
use Rattle.agg_model.specs.Lines.{Line}
use Rattle.agg_model.specs.declared.limits.TheConstants.{MAX_INPUT}
use Rattle.agg_reading.specs.Entries.{Entries}
use Rattle.agg_reading.specs.Entries.{Entry as Defined}
use Rattle.script_lines.specs.Reading.{HasRead}
use Rattle.script_lines.proofs.reader.next_header.Given as goal

-- empty lines were passed over so far
pub record Passing (g : goal.Over) (l : goal.Live-loop-line g) : Type 0 where
  pub kept : kept l.lines ≡ None
  pub never_falls : g.S.Source.faults (source_of l.fn.lines) ≤ g.S.Source.faults (source_of l.lines)
  pub same_source : source_name l.lines ≡ source_name l.fn.lines
  pub gave : Gave l.fn.lines l.lines
  pub goes_on : position l.fn.lines ≤ position l.lines
  pub within : position l.lines ≤ MAX_INPUT
  pub so_far : (bytes : List ℕ) (whole : List Line → Entries) (before : List Defined) → HasRead whole bytes before l.fn.lines → HasRead whole bytes before l.lines

abbrev pub invariant-loop-line : goal.invariant-loop-line
invariant-loop-line g l = Passing g l

abbrev pub decreases-loop-line : goal.decreases-loop-line
decreases-loop-line g l = MAX_INPUT - position l.lines
