use Rattle.std.proofs.Common.{◌≡◌, ◌<◌, List, length, subst, sym, ◌∙◌, ap, arith, take, filter, map, true, false}
use Rattle.std.specs.Prelude.{Bool, Some, slice_get}
use Rattle.std.proofs.lemmas.List.Elements.{All-push}
use Rattle.agg_evaluation.specs.Matching.{matches}
use Rattle.agg_evaluation.specs.Rows.{roots, row_of, no_row}
use Rattle.agg_cost.specs.Paths.{AreBelow, reached_by}
use Rattle.agg_cost.specs.Roots.{once_each}
use Rattle.agg_cost.specs.declared.paths.RowPaths.{RowPaths}
use Rattle.agg_cost.proofs.CollectedRoots.{reached-next, passed-next, failed-next, one_path}
use Rattle.agg_cost.proofs.task.matched_roots.Goals.{then-get+in_ok-push, else-get}
use Rattle.agg_cost.proofs.task.matched_roots.Goals as goal

pub loop-place-preserved : goal.loop-place-preserved
loop-place-preserved c =
    let rows = c.args.shard.now.rows in
    let p = matches rows c.args.query.now in
    let old = c.loop-place.found.items in
    let place = c.loop-place.place in
    let below : place < length (roots rows) = omega (arith, c.loop-place-test.true, c.roots-place-end.ensures) in
    let asked = c.in_ok-bits.ensures in
    elim c.if-get.branch [
      | then-get+in_ok-push w ↦
          let n = w.root.result in
          let pushed = ap (λ v. v.items) w.found-is ∙ w.in_ok-push.ensures.items in
          let said : slice_get (map p (roots rows)) place ≡ Some true = subst (λ (bs : List Bool). slice_get bs place ≡ Some true) asked w.if-get.ensures in (
            reached-next rows old c.if-get.found.items n (filter p (take place (roots rows))) pushed c.loop-place.invariant.0
                ∙ ap once_each (sym (passed-next p (roots rows) place below (row_of rows n) w.root.ensures.row said)),
            subst (AreBelow (length rows)) (sym pushed) (All-push (λ (r : RowPaths). r.row < length rows) old (one_path n) c.loop-place.invariant.1 w.root.ensures.number),
          )
      | else-get w ↦
          let same = ap (λ v. v.items) w.found-is in
          let said : slice_get (map p (roots rows)) place ≡ Some false = subst (λ (bs : List Bool). slice_get bs place ≡ Some false) asked w.if-get.ensures in (
            ap (reached_by rows) same ∙ (c.loop-place.invariant.0 ∙ ap once_each (sym (failed-next p (roots rows) place below no_row said))),
            subst (AreBelow (length rows)) (sym same) c.loop-place.invariant.1,
          )
    ]
