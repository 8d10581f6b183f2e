use Rattle.bulk_items.specs.Items.{refusal_in}
use Rattle.bulk_items.proofs.Keeping.{no-items}
use Rattle.bulk_items.proofs.items.Items.new.Goals as goal

pub invariant_of-result : goal.invariant_of-result
invariant_of-result c = (no-items (refusal_in c.new-3.result) c.new.result c.new-2.result.items c.new.ensures c.new-2.ensures.items).1

pub returns : goal.returns
returns c = (no-items (refusal_in c.new-3.result) c.new.result c.new-2.result.items c.new.ensures c.new-2.ensures.items).0
