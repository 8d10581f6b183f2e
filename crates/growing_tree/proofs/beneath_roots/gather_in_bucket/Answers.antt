use Rattle.std.proofs.Common.{◌∙◌, sym, arith}
use Rattle.std.proofs.lemmas.List.{length-map}
use Rattle.agg_evaluation.specs.Rows.{row_of}
use Rattle.growth_laws.specs.Gathering.{gathered_children}
use Rattle.growing_tree.specs.Gathered.{gatherers, rows_at, shown_children}
use Rattle.growing_tree.proofs.Steady.{children-steady, steady-each}
use Rattle.growing_tree.proofs.beneath_roots.gather_in_bucket.Goals as goal

pub returns-clause-bucket : goal.returns-clause-bucket
returns-clause-bucket c =
    let shard = c.args.shard.now in
    let gs = gatherers shard c.args.aggs.now in
    let ns = shown_children shard c.args.ready.now c.args.bucket.now.children.items in
    record {
      count = omega (arith, length-map c.args.rows.now (row_of shard.rows), c.in_ok-bucket.ensures);
      children = c.in_ok-gather_all_simple.ensures.trees ∙ sym (steady-each (gathered_children gs) ns (children-steady gs ns c.in_ok-gather_all_simple.ensures.steady) (rows_at shard c.args.rows.now));
    }
