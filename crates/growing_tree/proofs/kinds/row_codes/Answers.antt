use Rattle.std.proofs.Common.{◌∙◌, ap, subst, map}
use Rattle.agg_evaluation.specs.Rows.{row_of}
use Rattle.filters_agg.specs.PreparedFilters.{numbers_of_row}
use Rattle.growing_tree.specs.Codes.{code_key}
use Rattle.growing_tree.specs.Readiness.{IsKindReady}
use Rattle.growing_tree.specs.declared.ready.ReadyKind.TheVariants.{Filters}
use Rattle.growing_tree.proofs.Codes.{filter-codes, where-codes}
use Rattle.growing_tree.proofs.kinds.row_codes.Goals as goal

pub returns-in_ok-codes-in-Terms : goal.returns-in_ok-codes-in-Terms
returns-in_ok-codes-in-Terms c =
    let ready = subst (IsKindReady c.args.shard.now c.args.kind.now) c.in-Terms.is c.requires.ready in
    let codes = c.codes.new.codes.items in
    ap (λ r. map (code_key c.args.shard.now r) codes) c.in-Terms.is
    ∙ where-codes c.args.shard.now c.in-Terms.terms codes (c.in_ok-codes-in-Terms.ensures.codes c.args.kind.now ready)
    ∙ c.in_ok-codes-in-Terms.ensures.keys c.args.kind.now ready

pub returns-in_ok-codes-in-Filters : goal.returns-in_ok-codes-in-Filters
returns-in_ok-codes-in-Filters c =
    let shard = c.args.shard.now in
    let filters = c.in-Filters.filters in
    let ready = subst (IsKindReady shard c.args.kind.now) c.in-Filters.is c.requires.ready in
    let codes = c.codes-in-Filters.new.codes.items in
    ap (λ r. map (code_key shard r) codes) c.in-Filters.is
    ∙ ap (map (code_key shard (Filters filters))) c.in_ok-codes-in-Filters.ensures.numbers
    ∙ filter-codes shard filters (numbers_of_row shard.rows filters (row_of shard.rows c.args.row))
    ∙ ready.same c.args.row

pub codes-requires-in-DateHistogram-clause-dates : goal.codes-requires-in-DateHistogram-clause-dates
codes-requires-in-DateHistogram-clause-dates c = (subst (IsKindReady c.args.shard.now c.args.kind.now) c.in-DateHistogram.is c.requires.ready).1
