use Rattle.std.proofs.Common.{◌∙◌}
use Rattle.column_query.proofs.Ready.{ids-more}
use Rattle.column_query.proofs.preparing.ids_of.Goals as goal

pub loop-value-preserved : goal.loop-value-preserved
loop-value-preserved c =
    ids-more c.args.values.now c.loop-value.value-index c.value-item.result c.loop-value.ids.keys c.insert.new.self.keys c.in_ok-from_slice.field-0 c.loop-value-test.true c.value-item.is
    (c.in_ok-from_slice.ensures.items ∙ (c.as_bytes.ensures.value ∙ c.as_str.ensures)) c.in_ok-insert.ensures.keys c.loop-value.invariant
