use Rattle.std.proofs.Common.{◌++◌, ◌∷◌, [], sym, ◌∙◌}
use Rattle.agg_evaluation.specs.Rows.{roots, row_of}
use Rattle.column_query.specs.Prepared.{says}
use Rattle.column_query.proofs.Lists.{map_step}
use Rattle.column_query.proofs.matched_rows.said.Goals as goal

pub loop-place-preserved : goal.loop-place-preserved
loop-place-preserved c =
    let rows = c.args.shard.now.rows in
    c.in_ok-push.ensures.items
    ∙ ((λ i. c.loop-place.invariant i ++ c.is_match.ensures i ∷ [])
    ∙ sym (map_step (says rows c.args.query.now) (roots rows) c.loop-place.place (row_of rows c.root.result) c.root.ensures.row))
