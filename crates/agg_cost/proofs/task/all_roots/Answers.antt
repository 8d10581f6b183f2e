use Rattle.std.proofs.Common.{◌<◌, length, subst, sym}
use Rattle.std.proofs.lemmas.List.Elements.{All-push}
use Rattle.agg_evaluation.specs.Rows.{roots}
use Rattle.agg_cost.specs.Paths.{AreBelow}
use Rattle.agg_cost.specs.declared.paths.RowPaths.{RowPaths}
use Rattle.agg_cost.proofs.CollectedRoots.{all-next, one_path}
use Rattle.agg_cost.proofs.task.all_roots.Goals as goal

pub loop-place-preserved : goal.loop-place-preserved
loop-place-preserved c =
    let rows = c.args.shard.now.rows in
    let old = c.loop-place.found.items in
    let n = c.root.result in (
      all-next rows old c.push.new.self.items n (roots rows) c.loop-place.place c.in_ok-push.ensures.items c.root.ensures.row c.loop-place.invariant.0,
      subst (AreBelow (length rows)) (sym c.in_ok-push.ensures.items) (All-push (λ (r : RowPaths). r.row < length rows) old (one_path n) c.loop-place.invariant.1 c.root.ensures.number),
    )
