use Rattle.std.proofs.Common.{◌≡◌, ◌+◌, ◌<◌, ℕ, List, sym, ◌∙◌, ap, arith, length, get_or}
use Rattle.std.proofs.lemmas.List.{get_or-replicate, length-replicate}
use Rattle.agg_evaluation.specs.Cost.{cost}
use Rattle.agg_evaluation.specs.Rows.{row_of}
use Rattle.agg_evaluation.specs.Trace.{built}
use Rattle.growth_laws.specs.Steps.{tree_after}
use Rattle.collect_tree.specs.Blocks.{before_root}
use Rattle.collect_tree.specs.Tops.{AreNodes}
use Rattle.collect_tree.proofs.Blocks.{block-cost, whole-block}
use Rattle.collect_tree.proofs.Composites.{few-keys}
use Rattle.collect_tree.proofs.Made.{is-apart, is-shard}
use Rattle.collect_tree.proofs.Tops.{grown-bytes, sum-tops}
use Rattle.collect_tree.proofs.growth.Growth.collect.Goals as goal

pub collect_in_all-requires-clause-built : goal.collect_in_all-requires-clause-built
collect_in_all-requires-clause-built c = is-shard c.args.shard.now c.args.search.now c.requires.made

pub collect_in_all-requires-clause-apart : goal.collect_in_all-requires-clause-apart
collect_in_all-requires-clause-apart c = is-apart c.args.shard.now c.args.search.now c.requires.made

pub collect_in_all-requires-clause-in_range : goal.collect_in_all-requires-clause-in_range
collect_in_all-requires-clause-in_range c = c.requires.block.in_range

pub collect_in_all-requires-clause-few : goal.collect_in_all-requires-clause-few
collect_in_all-requires-clause-few c =
    let shard = c.args.shard.now in
    λ i a there n below.
    few-keys shard c.args.search.now c.requires.ceiling.0 c.requires.ceiling.1 i a c.args.phase (c.args.first + n) (row_of shard.rows (get_or c.args.rows.now n 0)) there (c.requires.block.roots n below)

pub returns : goal.returns
returns c =
    let shard = c.args.shard.now in
    let search = c.args.search.now in
    let phase = c.args.phase in
    let first = c.args.first in
    let rows = c.args.rows.now in
    let block = c.requires.block in
    let made = c.requires.made in
    let n = before_root search shard.rows phase first in
    let grown = c.requires.grown in
    let cost_at : ℕ → ℕ = λ (k : ℕ). cost (built search shard.rows (n + k)) in
    let all = c.in_ok-collect_in_all.ensures in
    let changes = all.changes (λ a. tree_after search shard.rows a n) grown.nodes in
    let zeros = ap (λ (xs : List ℕ). length xs) c.in_ok-costs.ensures in
    let size = length-replicate {A = ℕ} (length rows) 0 in
    let many_added = changes.many_added in
    let many : length c.collect_in_all.new.added.items ≡ length rows = omega (arith, many_added, zeros, size) in
    let start : c.args.self.now.bytes ≡ cost_at 0 = grown-bytes shard search n c.args.self.now grown ∙ ap (λ (k : ℕ). cost (built search shard.rows k)) (let e : n ≡ n + 0 = omega arith in e) in
    let steps : (k : ℕ) → k < length c.collect_in_all.new.added.items → cost_at k + get_or c.collect_in_all.new.added.items k 0 ≡ get_or c.as_slice.result.now k 0 + cost_at (k + 1) = λ k below.
    (let there : k < length rows = omega (arith, below, many) in
    let here = block-cost shard search made phase first rows block k (omega (arith, below, many)) in
    let next = block-cost shard search made phase first rows block (k + 1) (omega (arith, below, many)) in
    let change = changes.each k (omega (arith, below, many)) in
    let none = ap (λ (xs : List ℕ). get_or xs k 0) c.in_ok-costs.ensures ∙ get_or-replicate {A = ℕ} (length rows) k 0 0 there in
    let taken = ap (λ (xs : List ℕ). get_or xs k 0) c.as_slice.ensures.value in
    let none_taken = ap (λ (xs : List ℕ). get_or xs k 0) c.in_ok-removed.ensures ∙ get_or-replicate {A = ℕ} (length rows) k 0 0 there in
    omega (arith, here, next, change, none, none_taken, taken)) in
    let last = c.in_ok-self.ensures.last cost_at start steps in
    let nodes : AreNodes shard search.aggs (λ place a. tree_after search shard.rows a (n + length rows)) c.collect_in_all.new.trees.items = λ i a top at there. all.nodes (λ a. tree_after search shard.rows a n) grown.nodes i a top at there ∙ whole-block shard search made phase first rows block i a at in
    record {
      grown = record {
        ready = all.ready;
        nodes = nodes;
        bytes_are = last ∙ ap cost_at many ∙ sym (sum-tops shard (λ a. tree_after search shard.rows a (n + length rows)) search.aggs c.collect_in_all.new.trees.items all.ready.count nodes);
      };
      costs = record {
        many = c.in_ok-self.ensures.many ∙ many;
        each = λ k below. c.in_ok-self.ensures.costs cost_at start steps k (omega (arith, below, many)) ∙ ap (λ (m : ℕ). cost (built search shard.rows m)) (let e : n + (k + 1) ≡ n + k + 1 = omega arith in e);
      };
    }

pub add_up-requires : goal.add_up-requires
add_up-requires c =
    let search = c.args.search.now in
    let n = before_root search c.args.shard.now.rows c.args.phase c.args.first in
    let changes = c.in_ok-collect_in_all.ensures.changes (λ a. tree_after search c.args.shard.now.rows a n) c.requires.grown.nodes in
    let many_added = changes.many_added in
    let many_removed = changes.many_removed in
    let zeros = ap (λ (xs : List ℕ). length xs) c.in_ok-costs.ensures in
    let zeros_removed = ap (λ (xs : List ℕ). length xs) c.in_ok-removed.ensures in
    let size = length-replicate {A = ℕ} (length c.args.rows.now) 0 in
    let slice = ap (λ (xs : List ℕ). length xs) c.as_slice.ensures.value in
    record { many = omega (arith, many_added, many_removed, zeros, zeros_removed, size, slice) }
