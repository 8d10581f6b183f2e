use Rattle.std.proofs.Common.{◌≡◌, Some, drop, ◌∙◌, ap, rules}
use Rattle.agg_base.specs.Lines.{bytes_read, source_of}
use Rattle.agg_base.proofs.Gave.{left_behind}
use Rattle.script_answers.proofs.Putting.{same-bytes}
use Rattle.script_run.proofs.Unloaded.{wanting-ends}
use Rattle.script_run.proofs.running.answer_source.Goals as goal

pub returns-in_default-clause-output : goal.returns-in_default-clause-output
returns-in_default-clause-output g c = λ input before left known. (0, left, wanting-ends c.args.settings input 0 _ _ (same-bytes _ _ _ known))

pub returns-clause-output : goal.returns-clause-output
returns-clause-output g c = λ input before left known.
    let rest : g.S.Source.left (source_of c.answer_lines-status.new.lines) ≡ Some (drop (bytes_read c.answer_lines-status.new.lines) input) =
    left_behind input c.answer_lines-status.ensures.gave (ap g.S.Source.left c.new-lines.ensures.source ∙ left) c.new-lines.ensures.bytes_read in (
      bytes_read c.answer_lines-status.new.lines,
      search (rules, rest),
      c.answer_lines-status.ensures.output input before (c.new-lines.ensures.unread ∙ left) known,
    )
