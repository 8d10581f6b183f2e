use Rattle.std.proofs.Common.{◌≡◌, ◌<◌, ◌+◌, ℕ, All, flat_map, get_or, length, map, take}
use Rattle.agg_evaluation.specs.Rows.{beneath, row_of}
use Rattle.nested_agg.specs.Ends.{beneath_first}
use Rattle.nested_agg.proofs.beneath.beneath_each.Given as goal

abbrev pub invariant-loop-row : goal.invariant-loop-row
invariant-loop-row l = record {
  rows : map (row_of l.shard.rows) l.found.items ≡ flat_map (beneath l.shard.rows (l.path + 1)) (map (row_of l.shard.rows) (take l.row-index l.rows));
  in_range : All (λ n. n < length l.shard.rows) l.found.items;
  many : length l.ends.items ≡ l.row-index;
  ends : (n : ℕ) → n < l.row-index → get_or l.ends.items n 0 ≡ length (beneath_first l.shard.rows (l.path + 1) (map (row_of l.shard.rows) l.rows) (n + 1));
}
