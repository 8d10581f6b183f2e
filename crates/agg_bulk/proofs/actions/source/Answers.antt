use Rattle.std.proofs.Common.{◌∙◌, sym, ap}
use Rattle.agg_reading.specs.Script.{is_delete}
use Rattle.agg_bulk.proofs.SectionLemmas.{with_source_line, without_source_line}
use Rattle.agg_bulk.proofs.actions.source.Goals as goal

pub returns-then-is_delete-clause-script : goal.returns-then-is_delete-clause-script
returns-then-is_delete-clause-script g c bytes now heading kind goes_on =
    rw c.no_bytes.ensures (without_source_line bytes heading now _ _ _ _ (ap is_delete kind ∙ sym c.is_delete.ensures ∙ c.if-is_delete.true) goes_on)

pub returns-clause-script : goal.returns-clause-script
returns-clause-script g c bytes now heading kind goes_on =
    c.source_line.ensures.script bytes now heading (with_source_line bytes heading now _ _ _ _ (ap is_delete kind ∙ sym c.is_delete.ensures ∙ c.if-is_delete.false) goes_on)
