use Rattle.std.proofs.Common.{◌≡◌, ◌≤◌, ◌+◌, ◌-◌, ap, arith, ◌∙◌, subst, sym}
use Rattle.std.specs.Prelude.{IfOk}
use Rattle.agg_model.specs.declared.aggregation.Kind.TheVariants as kind
use Rattle.agg_evaluation.specs.Ceiling.{handed_on}
use Rattle.filters_agg.specs.Filtering.{IsMadeFor}
use Rattle.nested_agg.specs.Nesting.{goes_by_nesting}
use Rattle.agg_cost.specs.Paths.{reached_by, AreAlike}
use Rattle.agg_cost.proofs.Conditions.{nested-above}
use Rattle.agg_cost.proofs.handing_on.hand_on.Goals as goal

pub overflow_sub-path : goal.overflow_sub-path
overflow_sub-path c = nested-above c.args.shard.now c.in-Nested.context (subst (IsMadeFor c.args.shard.now) c.in-Nested.is c.requires.made)

pub by_nesting-requires-clause-nesting : goal.by_nesting-requires-clause-nesting
by_nesting-requires-clause-nesting c = ap goes_by_nesting c.in-ReverseNested.is

pub returns-in-Nested-clause-paths : goal.returns-in-Nested-clause-paths
returns-in-Nested-clause-paths c =
    let shard = c.args.shard.now in
    let reached = reached_by shard.rows c.args.reached.now in
    let context = c.in-Nested.context in
    let above : 1 ≤ context = nested-above shard context (subst (IsMadeFor shard) c.in-Nested.is c.requires.made) in
    let same : (context - 1) + 1 ≡ context = omega (arith, above) in
    subst (λ k. IfOk c.by_path.result (λ found. AreAlike (reached_by shard.rows found.items) (handed_on shard.kinds shard.rows k reached)))
    (ap kind.Nested same ∙ sym c.in-Nested.is) c.by_path.ensures.paths
