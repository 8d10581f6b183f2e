use Rattle.std.proofs.Common.{◌∙◌, sym, ap, arith, ◌<◌, ◌∷◌, [], map, take, length, get_or}
use Rattle.std.proofs.lemmas.Option.{slice_get-get_or}
use Rattle.list_laws.proofs.Lists.{map-append}
use Rattle.agg_evaluation.specs.Rows.{row_of}
use Rattle.growth_laws.specs.Gathering.{gathered_metric}
use Rattle.growth_laws.specs.Growth.{metric_with}
use Rattle.growing_tree.proofs.Counting.{metric-more}
use Rattle.growing_tree.proofs.Steps.{take-more}
use Rattle.growing_tree.proofs.kinds.take_rows.Goals as goal

pub loop-row-preserved : goal.loop-row-preserved
loop-row-preserved c =
    let k = c.args.kind.now in
    let items = c.args.rows.now in
    let i = c.loop-row.row-index in
    let row = get_or items i 0 in
    let row_at = row_of c.args.shard.now.rows in
    let l : i < length items = omega (arith, c.loop-row-test.true) in
    c.in_ok-take_row-in-Number.ensures ∙ ap (metric_with k (row_at row)) c.loop-row.invariant
    ∙ sym (ap (λ rs. gathered_metric k (map row_at rs) c.in-Number.taken) (take-more items i row (slice_get-get_or items i 0 l))
    ∙ ap (λ rs. gathered_metric k rs c.in-Number.taken) (map-append row_at (take i items) (row ∷ [])) ∙ metric-more k (map row_at (take i items)) (row_at row) c.in-Number.taken)
