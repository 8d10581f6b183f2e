use Rattle.std.proofs.Common.{length, map, subst, sym, ◌∙◌, ap}
use Rattle.std.specs.Prelude.{nat_lt}
use Rattle.std.specs.List.{list_any}
use Rattle.agg_model.specs.declared.aggregation.Kind.{Kind}
use Rattle.agg_model.specs.declared.aggregation.Kind.TheVariants as kind
use Rattle.agg_evaluation.specs.Ceiling.{greatest_combinations, is_wide_at}
use Rattle.agg_evaluation.specs.Keys.{keys}
use Rattle.agg_evaluation.specs.Rows.{row_of}
use Rattle.composite_agg.specs.Sources.{IsComposite}
use Rattle.filters_agg.specs.Filtering.{IsMadeFor}
use Rattle.agg_cost.specs.declared.paths.RowPaths.{RowPaths}
use Rattle.agg_cost.proofs.CollectedRoots.{wide-rows}
use Rattle.agg_cost.proofs.Conditions.{countable}
use Rattle.agg_cost.proofs.task.is_wide.Goals as goal

pub has_wide_row-requires-clause-composite : goal.has_wide_row-requires-clause-composite
has_wide_row-requires-clause-composite c =
    let shard = c.args.shard.now in
    let composite = kind.Composite c.in-Composite.sources c.in-Composite.size c.in-Composite.after in
    subst IsComposite (sym c.in-Composite.is) (countable shard composite (subst (IsMadeFor shard) c.in-Composite.is c.requires.made))

pub returns-in-Composite : goal.returns-in-Composite
returns-in-Composite c =
    let rows = c.args.shard.now.rows in
    let reached = c.args.reached.now in
    c.has_wide_row.ensures
    ∙ (ap (λ (k : Kind). list_any (λ (r : RowPaths). nat_lt greatest_combinations (length (keys rows k (row_of rows r.row)))) reached) c.in-Composite.is
    ∙ (wide-rows rows c.in-Composite.sources c.in-Composite.size c.in-Composite.after reached
    ∙ ap (λ (k : Kind). is_wide_at k (map (λ (r : RowPaths). row_of rows r.row) reached)) (sym c.in-Composite.is)))
