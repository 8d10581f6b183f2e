use Rattle.std.proofs.Common.{◌≡◌, ◌+◌, ◌∙◌, ℕ, List, sym, ap, subst, arith, get_or, length, map, flat_map}
use Rattle.std.specs.Prelude.{replicate}
use Rattle.std.proofs.lemmas.List.{length-map, length-replicate}
use Rattle.agg_model.specs.declared.aggregation.Agg.{out-Agg}
use Rattle.agg_model.specs.declared.key.Key.TheVariants as key
use Rattle.agg_evaluation.specs.Cost.{key_bytes}
use Rattle.agg_evaluation.specs.Rows.{PlacedRow, beneath, row_of}
use Rattle.growth_laws.specs.Gathering.{gathered_children}
use Rattle.growing_tree.specs.Decoded.{decoded}
use Rattle.growing_tree.specs.Gathered.{gatherers, rows_at}
use Rattle.growing_tree.specs.GatheredEach.{AreRises, after_each, cost_after, gathered_one}
use Rattle.growing_tree.specs.LoneBuckets.{lone_node}
use Rattle.growing_tree.specs.SideBySide.{AreCharges, side_cost}
use Rattle.nested_agg.specs.Ends.{AreEnds, beneath_first}
use Rattle.growing_tree.proofs.Nesting.{roots-cost, roots-gathered}
use Rattle.growing_tree.proofs.Rises.{rises-above}
use Rattle.growing_tree.proofs.Steady.{children-steady, zero-at}
use Rattle.growing_tree.proofs.beneath_roots.gather_beneath.Goals as goal

pub returns : goal.returns
returns c =
    let shard = c.args.shard.now in
    let a = c.args.agg.now in
    let gs = gatherers shard (out-Agg a).children in
    let roots = rows_at shard c.args.rows.now in
    let grown = c.in_ok-gather_in_level.ensures.level in
    let steady = children-steady gs grown.children grown.steady in
    let inner = ap (λ (rs : List ℕ). map (row_of shard.rows) rs) c.as_slice.ensures.value ∙ c.in_ok-inner.ensures.rows in
    let old = ap (decoded shard c.args.ready.now) (sym c.tree.view_is) ∙ grown.old_is in
    let all = flat_map (beneath shard.rows (c.args.path + 1)) roots in
    let cost_at = side_cost gs all grown.children in
    let amounts = c.gather_in_level.new.added.items in
    let rose : AreRises cost_at (length all) c.in_ok-amounts.amounts.items amounts =
    subst (λ (rs : List PlacedRow). AreRises (side_cost gs rs grown.children) (length rs) c.in_ok-amounts.amounts.items amounts) inner grown.rises in
    let zeros : List ℕ = replicate c.len.result 0 in
    let all_zeros : length zeros ≡ c.len.result = length-replicate {A = ℕ} c.len.result 0 in
    let beneath_all = sym (length-map c.in_ok-inner.inner.rows.items (row_of shard.rows)) ∙ ap length c.in_ok-inner.ensures.rows in
    let counted : length zeros ≡ length all = omega (arith, all_zeros, beneath_all, c.len.ensures, c.in_ok-inner.inner.rows.ok) in
    let charges : AreCharges cost_at amounts = λ n below.
    let each = rose.each n (omega (arith, below, rose.many, ap length c.in_ok-amounts.ensures, counted)) in
    let zero = ap (λ xs. get_or xs n 0) c.in_ok-amounts.ensures ∙ zero-at c.len.result n in
    omega (arith, each, zero) in
    let end_of = λ (n : ℕ). length (beneath_first shard.rows (c.args.path + 1) roots n) in
    let ends = subst (AreEnds end_of) (sym c.as_slice-2.ensures.value) c.in_ok-inner.ensures.ends in
    let as_many : length c.as_slice-2.result.now ≡ length c.args.rows.now = ap length c.as_slice-2.ensures.value ∙ c.in_ok-inner.ensures.many in
    let shared = c.in_ok-share_out.ensures.rises cost_at end_of (subst (AreCharges cost_at) (sym c.as_slice-3.ensures.value) charges) ends in
    record {
      tree = grown.new_is ∙ ap (λ (rs : List PlacedRow). lone_node (grown.count + length rs) (gathered_children gs rs grown.children)) inner
          ∙ sym (ap (after_each (gathered_one shard.rows a) roots) old ∙ roots-gathered shard.rows a (c.args.path + 1) c.requires.nested roots grown.count grown.children steady);
      rises = subst (λ n. AreRises (cost_after (gathered_one shard.rows a) roots n) (length c.args.rows.now) c.args.added.now.items c.share_out.new.added.items) (sym old)
          (rises-above (λ n. cost_at (end_of n)) (cost_after (gathered_one shard.rows a) roots (lone_node grown.count grown.children)) (640 + key_bytes (key.Fixed 0)) (length c.args.rows.now)
          c.args.added.now.items c.share_out.new.added.items (λ n. roots-cost shard.rows a (c.args.path + 1) c.requires.nested roots grown.count grown.children n steady)
          (subst (λ m. AreRises (λ n. cost_at (end_of n)) m c.args.added.now.items c.share_out.new.added.items) as_many shared));
    }

pub share_out-requires : goal.share_out-requires
share_out-requires c = record { many = c.requires.many ∙ sym (ap length c.as_slice-2.ensures.value ∙ c.in_ok-inner.ensures.many) }
