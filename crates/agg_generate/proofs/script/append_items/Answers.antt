use Rattle.std.proofs.Common.{arith}
use Rattle.agg_generate.proofs.Items.{begun, next}
use Rattle.agg_generate.proofs.script.append_items.Goals as goal

pub loop-place-init : goal.loop-place-init
loop-place-init c =
    begun _ _ _ _ _ _ (omega arith) c.append_item.ensures.draws c.in_ok-append_item.ensures.text

pub loop-place-preserved : goal.loop-place-preserved
loop-place-preserved c =
    next _ _ _ _ _ _ _ _ _ (omega arith) c.in_ok-push_str.ensures.bytes c.in_ok-append_item-2.ensures.text c.append_item-in-loop-place.ensures.draws c.loop-place.invariant
