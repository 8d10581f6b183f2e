use Rattle.std.proofs.Common.{◌-◌, ◌^◌, ◌∙◌, List, ap, arith, map, min, sym}
use Rattle.std.specs.Prelude.{sum_by}
use Rattle.std.proofs.lemmas.List.{take_all}
use Rattle.agg_model.specs.declared.aggregation.Agg.{Agg, out-Agg}
use Rattle.agg_evaluation.specs.Cost.{node_cost}
use Rattle.agg_evaluation.specs.Whole.{empty_node}
use Rattle.growing_tree.specs.Starting.{start_count}
use Rattle.growing_tree.proofs.EmptyCosts.{empty-cost, tree-capped}
use Rattle.growing_tree.proofs.ReadyLaws.{bytes-more}
use Rattle.growing_tree.proofs.empty_trees.+empty.Goals as goal

pub empty_bytes-loop-agg-preserved : goal.empty_bytes-loop-agg-preserved
empty_bytes-loop-agg-preserved t c =
    let more = bytes-more c.as_slice-agg-items.result.now c.loop-agg.agg-index c.agg-item.result c.loop-agg-test.true c.agg-item.is in
    omega (arith, more, c.loop-agg.invariant, c.tree_bytes-tree.ensures, c.saturating_add-bytes.ensures)

pub empty_bytes-returns : goal.empty_bytes-returns
empty_bytes-returns t c =
    let all = take_all c.loop-agg.agg-index c.as_slice-agg-items.result.now c.loop-agg-test.false ∙ c.as_slice-agg-items.ensures in
    c.loop-agg.invariant ∙ ap (λ (xs : List Agg). min (sum_by node_cost (map empty_node xs)) (2 ^ 64 - 1)) all

pub tree_bytes-returns : goal.tree_bytes-returns
tree_bytes-returns t c =
    let a = c.args.agg.now in
    tree-capped (start_count (out-Agg a).kind) (sum_by node_cost (map empty_node (out-Agg a).children)) c.empty_bytes-below.result c.saturating_add-bucket.result c.start_count-count.result c.saturating_mul-buckets.result c.saturating_add.result
    c.empty_bytes-below.ensures c.saturating_add-bucket.ensures c.start_count-count.ensures c.saturating_mul-buckets.ensures c.saturating_add.ensures
    ∙ ap (λ n. min n (2 ^ 64 - 1)) (sym (empty-cost a))
