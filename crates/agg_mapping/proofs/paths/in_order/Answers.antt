use Rattle.std.proofs.Common.{rules}
use Rattle.agg_mapping.proofs.PathOrder.{sorted_by_path}
use Rattle.agg_mapping.proofs.paths.in_order.Goals as goal

pub returns : goal.returns
returns g c =
    let is = sorted_by_path g.T.HasPath.path_of _ _ c.in_ok-sort_by.ensures.sorted c.in_ok-sort_by.ensures.stable (λ a r f k. search rules) in
    record { value = search (rules, is.0); ascends = search (rules, is.1) }
