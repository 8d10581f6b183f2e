use Rattle.std.proofs.Common.{◌≡◌, ◌+◌, refl, ◌∙◌, ap, sym, sum_by, ⊎_elim}
use Rattle.agg_evaluation.specs.Cost.{node_cost}
use Rattle.partial_result.specs.Costs.{cost_of_bucket}
use Rattle.partial_result.proofs.CostLevels.{node_cost-Keyed, node_cost-Fixed}
use Rattle.partial_result.proofs.costing.+costs.Goals as goal

pub cost_of_node-loop-bucket-init : goal.cost_of_node-loop-bucket-init
cost_of_node-loop-bucket-init t c =
    let level : node_cost c.args.node.now ≡ 512 + sum_by cost_of_bucket c.in-Keyed.buckets =
    ⊎_elim (λ h. ap node_cost h.3 ∙ node_cost-Keyed c.in-Keyed.buckets h.0 h.1 h.2) (λ h. ap node_cost h ∙ node_cost-Fixed c.in-Keyed.buckets) c.in-Keyed.is in
    (record { is = refl; all = level ∙ ap (λ bs. 512 + sum_by cost_of_bucket bs) (sym c.as_slice-bucket-items.ensures) })
