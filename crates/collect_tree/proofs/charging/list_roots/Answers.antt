use Rattle.std.proofs.Common.{◌≡◌, ◌+◌, ◌∷◌, [], ℕ, List, length, sym, ◌∙◌, ap, subst, arith, length-append}
use Rattle.std.specs.Prelude.{Some, slice_get}
use Rattle.agg_evaluation.specs.Rows.{PlacedRow, row_of}
use Rattle.agg_evaluation.specs.Trace.{global_roots}
use Rattle.collect_tree.specs.Blocks.{IsBlock}
use Rattle.collect_tree.specs.declared.phase.Phase.TheVariants.{Global}
use Rattle.collect_tree.proofs.Listing.{all-global, block-more, block-none}
use Rattle.collect_tree.proofs.charging.list_roots.Goals as goal

pub loop-place-init : goal.loop-place-init
loop-place-init c = record {
  block = subst (IsBlock c.args.shard.now c.args.search.now Global c.args.start) (sym c.clear.ensures.items) (block-none c.args.shard.now c.args.search.now Global c.args.start);
  many = let none = ap (λ (rows : List ℕ). length rows) c.clear.ensures.items in omega (arith, none);
}

pub loop-place-preserved : goal.loop-place-preserved
loop-place-preserved c =
    let shard = c.args.shard.now in
    let search = c.args.search.now in
    let rows = c.loop-place.rows.items in
    let block = c.loop-place.invariant.block in
    let many = c.loop-place.invariant.many in
    let here : slice_get (global_roots search shard.rows) (c.args.start + length rows) ≡ Some (row_of shard.rows c.root.result) = ap (λ (n : ℕ). slice_get (global_roots search shard.rows) n) many
    ∙ ap (λ (rs : List PlacedRow). slice_get rs c.loop-place.place) (all-global search shard.rows c.requires.global) ∙ c.root.ensures.row in
    let longer = ap (λ (rs : List ℕ). length rs) c.in_ok-push.ensures.items in
    let parts = length-append rows (c.root.result ∷ []) in
    record {
      block = subst (IsBlock shard search Global c.args.start) (sym c.in_ok-push.ensures.items) (block-more shard search Global c.args.start rows c.root.result block c.root.ensures.number here);
      many = omega (arith, many, longer, parts);
    }
