use Rattle.std.proofs.Common.{sym, ◌∙◌, ap, arith, ◌≡◌, ◌<◌, length, get_or, set}
use Rattle.std.proofs.Math.Seq.{map-set_same}
use Rattle.std.proofs.lemmas.List.{map-set}
use Rattle.std.proofs.lemmas.Option.{slice_get-get_or, slice_get-map}
use Rattle.std.specs.Prelude.{Some, option_map, slice_get}
use Rattle.agg_evaluation.specs.Rows.{row_of}
use Rattle.growing_tree.specs.Measures.{metrics_at, metrics_with, taken_at}
use Rattle.growing_tree.proofs.AllMetrics.{metric-at}
use Rattle.growing_tree.proofs.Children.{take-full}
use Rattle.growing_tree.proofs.MeasuredBuckets.{next-metric}
use Rattle.growing_tree.proofs.Steps.{item-at}
use Rattle.growing_tree.proofs.measured.take_in_columns.Goals as goal

pub take_in_column-requires-clause-metric : goal.take_in_column-requires-clause-metric
take_in_column-requires-clause-metric c =
    let child = c.loop-child.child in
    let aggs = c.args.aggs.now in
    let a = c.index-as_slice-child.result in
    let below : child < length aggs = omega (arith, c.loop-child-test.true, c.len-child-end.ensures) in
    metric-at aggs child (get_or c.as_slice.result.now child a) c.requires.metrics (slice_get-get_or aggs child a below ∙ ap (λ xs. Some (get_or xs child a)) (sym c.as_slice.ensures))

pub loop-child-preserved : goal.loop-child-preserved
loop-child-preserved c =
    let child = c.loop-child.child in
    let aggs = c.args.aggs.now in
    let row = row_of c.args.shard.now.rows c.args.row in
    let place = c.args.place in
    let columns = c.loop-child.columns.items in
    let a = c.index-as_slice-child.result in
    let column = c.index_mut.result.now in
    let more = c.take_in_column.new.column in
    let below : child < length aggs = omega (arith, c.loop-child-test.true, c.len-child-end.ensures) in
    let there : child < length columns = omega (arith, c.if-child-len.false, c.len.ensures, c.loop-child.columns.ok) in
    let agg = get_or c.as_slice.result.now child a in
    let agg_is : slice_get aggs child ≡ Some agg = slice_get-get_or aggs child a below ∙ ap (λ xs. Some (get_or xs child a)) (sym c.as_slice.ensures) in
    let column_is = item-at columns child column there c.index_mut.ensures.value in
    let took = c.in_ok-take_in_column.ensures in
    let so_far = c.loop-child.invariant.here in
    let before = metrics_at c.args.columns.now.items place in
    (record {
      here = map-set (λ column. taken_at column place) columns child more ∙ (λ j. set (so_far j) child (took.here j))
          ∙ sym (next-metric aggs row before child agg (taken_at column place) agg_is
          (ap (λ ms. slice_get ms child) (sym so_far) ∙ slice_get-map (λ column. taken_at column place) columns child ∙ ap (option_map (λ column. taken_at column place)) column_is));
      others = λ n other. map-set_same (λ column. taken_at column n) columns child more column (took.others n other ∙ ap (λ x. taken_at x n) c.index_mut.ensures.value) ∙ c.loop-child.invariant.others n other;
    })

pub returns-clause-here : goal.returns-clause-here
returns-clause-here c =
    c.loop-child.invariant.here
    ∙ ap (λ aggs. metrics_with aggs (row_of c.args.shard.now.rows c.args.row) (metrics_at c.args.columns.now.items c.args.place)) (take-full c.args.aggs.now c.loop-child.child (omega (arith, c.loop-child-test.false, c.len-child-end.ensures)))
