use Rattle.std.proofs.Common.{◌∙◌, sym, ap, length, zero-add}
use Rattle.agg_evaluation.specs.Rows.{row_of}
use Rattle.growing_tree.proofs.Levels.{empties-are}
use Rattle.growth_laws.specs.Gathering.{gathered_children}
use Rattle.growing_tree.specs.Gathered.{gatherers, rows_at}
use Rattle.growing_page.proofs.Moves.{length-mapped}
use Rattle.growing_page.proofs.gathering.new_bucket.Goals as goal

pub returns-clause-bucket : goal.returns-clause-bucket
returns-clause-bucket c =
    let shard = c.args.shard.now in
    let rows = rows_at shard c.args.rows.now in
    let gs = gatherers shard c.args.aggs.now in
    let many = sym (length-mapped (row_of shard.rows) c.args.rows.now) ∙ sym (zero-add (length rows)) in
    let children = c.in_ok-added.ensures.trees ∙ ap (gathered_children gs rows) (c.in_ok-children.ensures shard ∙ empties-are shard.rows c.args.aggs.now) in
    (λ i. record { key = c.args.key; count = many i; covered = 0; children = children i })
