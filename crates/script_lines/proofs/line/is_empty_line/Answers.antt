use Rattle.std.proofs.Common.{◌∙◌, ℕ, List, sym, ap}
use Rattle.std.specs.Str.{bytes_eq}
use Rattle.std.proofs.lemmas.Bool.{or_left}
use Rattle.agg_reading.specs.Lines.{is_empty_line}
use Rattle.script_lines.proofs.LineLemmas.{no_bytes, or-false}
use Rattle.script_lines.proofs.line.is_empty_line.Goals as goal

pub returns-then-is_empty : goal.returns-then-is_empty
unfolding is_empty_line
returns-then-is_empty c = c.if-is_empty.true ∙ sym (or_left _ _ (sym (no_bytes _) ∙ sym c.is_empty.ensures ∙ c.if-is_empty.true))

pub returns-else-is_empty : goal.returns-else-is_empty
unfolding is_empty_line
returns-else-is_empty c = c.eq.ensures ∙ ap (λ (t : List ℕ). bytes_eq c.args.line.now t) c.as_slice.ensures ∙ sym (or-false _ _ (sym (no_bytes _) ∙ sym c.is_empty.ensures ∙ c.if-is_empty.false))
