-- No place before the first begins an offset.
use Rattle.std.proofs.Common.{◌∙◌, sym, arith}
use Rattle.date_spec.specs.DateTexts.{begins_offset}
use Rattle.date_text.proofs.MillisLemmas.{position_none, position_more, position_found}
use Rattle.date_text.proofs.reading.offset_place.Goals as goal

pub returns-then-begins_offset-clause-place : goal.returns-then-begins_offset-clause-place
returns-then-begins_offset-clause-place c =
    sym (position_found begins_offset c.args.text.now c.loop-index.index (omega arith) c.loop-index.invariant (sym c.begins_offset.ensures ∙ c.if-begins_offset.true))

pub loop-index-init : goal.loop-index-init
loop-index-init c = position_none begins_offset c.args.text.now

pub loop-index-preserved : goal.loop-index-preserved
loop-index-preserved c =
    position_more begins_offset c.args.text.now c.loop-index.index (omega arith) c.loop-index.invariant (sym c.begins_offset.ensures ∙ c.if-begins_offset.false)
