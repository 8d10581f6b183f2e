use Rattle.std.proofs.Common.{◌≡◌, ◌+◌, true, append-nil, length, take, get_or, sym, ◌∙◌, ap, add-one, refl}
use Rattle.agg_model.specs.declared.aggregation.Kind.TheVariants as kind
use Rattle.agg_evaluation.specs.Rows.{beneath, row_of}
use Rattle.nested_agg.specs.Nesting.{goes_by_nesting}
use Rattle.agg_cost.specs.Paths.{reached_by, over_paths}
use Rattle.agg_cost.specs.declared.paths.RowPaths.{RowPaths}
use Rattle.agg_cost.proofs.Handing.{carried, row-more, rows-all, all-carried}
use Rattle.agg_cost.proofs.handing_on.by_path.Goals as goal

pub loop-row-preserved : goal.loop-row-preserved
loop-row-preserved c =
    let rows = c.args.shard.now.rows in
    let k = kind.Nested (c.args.path + 1) in
    let reached = c.args.reached.now in
    let i = c.loop-from.from-index in
    let items = c.children-row-items.result.now in
    let j = c.loop-row.row-index in
    let first : RowPaths = get_or reached i (record { row = 0; paths = 0 }) in (
      row-more rows k c.loop-row.found.items c.put.new.found.items (λ f. over_paths (carried rows k f) (reached_by rows (take i reached))) items j first.paths c.loop-row-test.true (c.in_ok-put.ensures.paths rows) c.loop-row.invariant.0,
      c.in_ok-put.ensures.in_range (length rows) (c.children-row-items.ensures.numbers j c.loop-row-test.true) c.loop-row.invariant.1,
    )

pub loop-from-preserved : goal.loop-from-preserved
loop-from-preserved c =
    let rows = c.args.shard.now.rows in
    let k = kind.Nested (c.args.path + 1) in
    let reached = c.args.reached.now in
    let i = c.loop-from.from-index in
    let first : RowPaths = get_or reached i (record { row = 0; paths = 0 }) in
    let items = c.children-row-items.result.now in
    let down : goes_by_nesting k ≡ true = ap (λ n. goes_by_nesting (kind.Nested n)) (add-one c.args.path) in
    let given = c.children-row-items.ensures.rows ∙ sym (append-nil (beneath rows (c.args.path + 1) (row_of rows first.row))) in (
      rows-all rows k down c.loop-row.found.items reached i (record { row = 0; paths = 0 }) items items c.loop-row.row-index c.loop-from-test.true c.loop-row-test.false refl given c.loop-row.invariant.0,
      c.loop-row.invariant.1,
    )

pub returns-clause-paths : goal.returns-clause-paths
returns-clause-paths c =
    all-carried c.args.shard.now.kinds c.args.shard.now.rows (kind.Nested (c.args.path + 1)) c.loop-from.found.items c.args.reached.now c.loop-from.from-index c.loop-from.invariant.0 c.loop-from-test.false
