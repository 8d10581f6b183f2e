use Rattle.std.proofs.Common.{◌∙◌, ap}
use Rattle.std.specs.Prelude.{ℕ, max}
use Rattle.agg_cost.proofs.KeyNumbers.{more-combinations}
use Rattle.agg_cost.proofs.width.most_combinations.Goals as goal

pub loop-source-preserved : goal.loop-source-preserved
loop-source-preserved c =
    let rows = c.args.shard.now.rows in
    let items = c.as_slice-source-items.result.now in
    let keys = c.max-keys.ensures ∙ ap (λ (n : ℕ). max n 1) c.from.ensures in
    more-combinations rows items c.loop-source.source-index c.source-item.result c.loop-source.most c.most_values.result c.max-keys.result c.in_ok-most.most c.loop-source-test.true c.source-item.is
    c.loop-source.invariant (λ i low. c.most_values.ensures.each i) keys c.in_ok-most.ensures.1
