use Rattle.std.proofs.Common.{◌∙◌, sym, ap}
use Rattle.std.proofs.lemmas.Result.{err_from_is_err_and}
use Rattle.agg_reading.specs.Lines.{is_empty_line}
use Rattle.script_lines.specs.Steps.{place_of}
use Rattle.agg_bulk.proofs.StepLemmas.{took, ends}
use Rattle.agg_bulk.proofs.SectionLemmas.{source_section, source_read, source_missing}
use Rattle.agg_bulk.proofs.actions.source_line.Goals as goal

pub returns-in_err-line-clause-script : goal.returns-in_err-line-clause-script
returns-in_err-line-clause-script g c bytes now heading goes_on =
    let p = err_from_is_err_and c.from_residual.result c.from_residual.ensures.1 in
    rw (p.1, p.2) (ends bytes _ _ _ _ goes_on _ _ _ (source_section heading now (place_of c.args.lines.now)) _ _ _ _ c.in_err-line.ensures.line (c.in_err-line.ensures.front bytes))

pub returns-then-is_empty_line-clause-script : goal.returns-then-is_empty_line-clause-script
returns-then-is_empty_line-clause-script g c bytes now heading goes_on =
    let taken = took bytes _ _ _ _ goes_on _ _ _ (source_section heading now (place_of c.args.lines.now)) _ _ _ _ _ _ c.in_ok-line.ensures.line (c.in_ok-line.ensures.front bytes goes_on.front goes_on.handed) in
    rw (c.refused.ensures, c.line_number-action_line.ensures)
    (source_missing bytes _ _ _ _ _ _ _ _ taken (ap is_empty_line (sym c.as_slice.ensures) ∙ sym c.is_empty_line.ensures ∙ c.if-is_empty_line.true))

pub returns-else-is_empty_line-clause-script : goal.returns-else-is_empty_line-clause-script
returns-else-is_empty_line-clause-script g c bytes now heading goes_on =
    let taken = took bytes _ _ _ _ goes_on _ _ _ (source_section heading now (place_of c.args.lines.now)) _ _ _ _ _ _ c.in_ok-line.ensures.line (c.in_ok-line.ensures.front bytes goes_on.front goes_on.handed) in
    source_read bytes _ _ _ _ _ _ _ _ taken (ap is_empty_line (sym c.as_slice.ensures) ∙ sym c.is_empty_line.ensures ∙ c.if-is_empty_line.false)
