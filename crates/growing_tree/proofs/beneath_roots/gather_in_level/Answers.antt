use Rattle.std.proofs.Common.{◌≡◌, sym, subst, arith, length}
use Rattle.std.proofs.Math.ListN.{set}
use Rattle.std.proofs.lemmas.List.{length-map}
use Rattle.agg_model.specs.declared.aggregation.Agg.{out-Agg}
use Rattle.agg_model.specs.declared.partial.Node.TheVariants as node
use Rattle.agg_evaluation.specs.Rows.{row_of}
use Rattle.growing_tree.specs.Decoded.{decoded}
use Rattle.growing_tree.specs.Gathered.{gatherers, rows_at, shown_children}
use Rattle.growing_tree.specs.GatheredEach.{AreRises}
use Rattle.growing_tree.specs.LoneBuckets.{GrowsAlone}
use Rattle.growing_tree.specs.SideBySide.{side_cost}
use Rattle.growing_tree.specs.Trees.{level_node, numbered_buckets}
use Rattle.growing_tree.specs.declared.ready.Ready.{out-Ready}
use Rattle.growing_tree.specs.declared.tree.Level.{Level}
use Rattle.growing_tree.proofs.Levels.{children-ready}
use Rattle.growing_tree.proofs.Nesting.{lone-grows}
use Rattle.growing_tree.proofs.beneath_roots.gather_in_level.Goals as goal

pub gather_in_bucket-requires-clause-ready : goal.gather_in_bucket-requires-clause-ready
gather_in_bucket-requires-clause-ready c = children-ready c.args.shard.now c.args.agg.now c.args.ready.now c.requires.ready

pub returns-in_ok-gather_in_bucket-in-Fixed-clause-level : goal.returns-in_ok-gather_in_bucket-in-Fixed-clause-level
returns-in_ok-gather_in_bucket-in-Fixed-clause-level c =
    let shard = c.args.shard.now in
    let r = c.args.ready.now in
    let gs = gatherers shard (out-Agg c.args.agg.now).children in
    let rows = rows_at shard c.args.rows.now in
    let new = c.gather_in_bucket.new.bucket in
    let done = c.in_ok-gather_in_bucket-in-Fixed.ensures in
    let many = length-map c.args.rows.now (row_of shard.rows) in
    let one : length c.in-Fixed.buckets.items ≡ 1 = omega (arith, c.if-len-ne1.false, c.len.ensures, c.in-Fixed.buckets.ok) in
    let grown = lone-grows shard r gs rows c.args.added.now.items c.gather_in_bucket.new.added.items c.in-Fixed.buckets.items c.index_mut.result.now new one c.index_mut.ensures.value
    done.bucket done.steady (subst (λ n. AreRises (side_cost gs rows (shown_children shard (out-Ready r).children c.index_mut.result.now.children.items)) n c.args.added.now.items c.gather_in_bucket.new.added.items) (sym many) done.rises) in
    subst (λ (l : Level). GrowsAlone gs rows (decoded shard r (level_node l)) (decoded shard r (node.Fixed (numbered_buckets 0 (set c.in-Fixed.buckets.items 0 new)))) c.args.added.now.items c.gather_in_bucket.new.added.items) (sym c.in-Fixed.is) grown
