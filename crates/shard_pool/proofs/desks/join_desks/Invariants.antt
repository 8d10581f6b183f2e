use Rattle.shard_pool.proofs.Ended.{AreJoined}
use Rattle.shard_pool.proofs.desks.join_desks.Given as goal

abbrev pub invariant-loop-desk : goal.invariant-loop-desk
invariant-loop-desk g l = AreJoined l.table l.joined l.desks.items

abbrev pub decreases-loop-desk : goal.decreases-loop-desk
decreases-loop-desk g l = goal.left-loop-desk g l
