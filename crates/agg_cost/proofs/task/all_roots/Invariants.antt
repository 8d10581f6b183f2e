use Rattle.std.proofs.Common.{◌≡◌, length, take}
use Rattle.agg_evaluation.specs.Rows.{roots}
use Rattle.agg_cost.specs.Paths.{reached_by, AreBelow}
use Rattle.agg_cost.specs.Roots.{once_each}
use Rattle.agg_cost.proofs.task.all_roots.Given as goal

abbrev pub invariant-loop-place : goal.invariant-loop-place
invariant-loop-place l =
    (reached_by l.shard.rows l.found.items ≡ once_each (take l.place (roots l.shard.rows))) × AreBelow (length l.shard.rows) l.found.items
