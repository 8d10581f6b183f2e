use Rattle.std.proofs.Common.{◌<◌, ◌++◌, ◌∷◌, [], ℕ, List, length, map, take, get_or, ◌∙◌, ap}
use Rattle.std.proofs.lemmas.List.Elements.{All-same}
use Rattle.agg_evaluation.specs.Groups.{under}
use Rattle.agg_evaluation.specs.Rows.{roots, row_of}
use Rattle.agg_cost.specs.Paths.{reached_by, over_paths}
use Rattle.agg_cost.specs.declared.paths.RowPaths.{RowPaths}
use Rattle.agg_cost.proofs.Handing.{carried, row-more, rows-all, all-carried}
use Rattle.agg_cost.proofs.handing_on.by_nesting.Goals as goal

pub loop-row-preserved : goal.loop-row-preserved
loop-row-preserved c =
    let rows = c.args.shard.now.rows in
    let k = c.args.kind.now in
    let reached = c.args.reached.now in
    let i = c.loop-from.from-index in
    let items = c.as_slice-row-items.result.now in
    let j = c.loop-row.row-index in
    let first : RowPaths = get_or reached i (record { row = 0; paths = 0 }) in
    let known = All-same (λ n. n < length rows) items c.in_ok-rows.rows c.as_slice-row-items.ensures c.in_ok-rows.ensures.in_range in (
      row-more rows k c.loop-row.found.items c.put.new.found.items (λ f. over_paths (carried rows k f) (reached_by rows (take i reached))) items j first.paths c.loop-row-test.true (c.in_ok-put.ensures.paths rows) c.loop-row.invariant.0,
      c.in_ok-put.ensures.in_range (length rows) (known j 0 c.loop-row-test.true) c.loop-row.invariant.1,
    )

pub loop-from-preserved : goal.loop-from-preserved
loop-from-preserved c =
    let rows = c.args.shard.now.rows in
    let k = c.args.kind.now in
    let reached = c.args.reached.now in
    let i = c.loop-from.from-index in
    let first : RowPaths = get_or reached i (record { row = 0; paths = 0 }) in
    let given = c.in_ok-rows.ensures.rows ∙ ap (λ (ns : List ℕ). under rows (roots rows) k (map (row_of rows) ns)) (c.in_ok-push.ensures.ok ∙ ap (λ (ns : List ℕ). ns ++ first.row ∷ []) c.new-one.ensures) in (
      rows-all rows k c.requires.nesting c.loop-row.found.items reached i (record { row = 0; paths = 0 }) c.in_ok-rows.rows c.as_slice-row-items.result.now c.loop-row.row-index c.loop-from-test.true c.loop-row-test.false c.as_slice-row-items.ensures given c.loop-row.invariant.0,
      c.loop-row.invariant.1,
    )

pub returns-clause-paths : goal.returns-clause-paths
returns-clause-paths c =
    all-carried c.args.shard.now.kinds c.args.shard.now.rows c.args.kind.now c.loop-from.found.items c.args.reached.now c.loop-from.from-index c.loop-from.invariant.0 c.loop-from-test.false
