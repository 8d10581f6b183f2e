use Rattle.std.proofs.Common.{◌+◌, take, refl, sym, subst}
use Rattle.shard_columns.specs.declared.values.Draft.{Draft}
use Rattle.shard_columns.proofs.Drafting.{AreNew, AreNew-next}
use Rattle.shard_columns.proofs.values.Drafts.new.Goals as goal

pub loop-kind-preserved : goal.loop-kind-preserved
loop-kind-preserved c =
    let d : Draft = record { held = c.new.result; typed = c.no_values.result } in
    subst (AreNew (take (c.loop-kind.kind-index + 1) c.args.kinds.now)) (sym c.in_ok-push.ensures.items)
    (AreNew-next c.args.kinds.now c.loop-kind.columns.items c.loop-kind.kind-index _ _ d c.loop-kind.invariant c.no_values.ensures.typed c.new.ensures c.no_values.ensures.none c.loop-kind-test.true refl)
