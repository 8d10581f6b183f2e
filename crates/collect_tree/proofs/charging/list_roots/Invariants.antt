use Rattle.std.proofs.Common.{◌≡◌, ◌+◌, length}
use Rattle.collect_tree.specs.Blocks.{IsBlock}
use Rattle.collect_tree.specs.declared.phase.Phase.TheVariants.{Global}
use Rattle.collect_tree.proofs.charging.list_roots.Given as goal

abbrev pub invariant-loop-place : goal.invariant-loop-place
invariant-loop-place l = record {
  block : IsBlock l.shard l.search Global l.start l.rows.items;
  many : l.start + length l.rows.items ≡ l.place;
}
