use Rattle.collect_tree.specs.Phases.{collected_before}
use Rattle.collect_tree.specs.declared.phase.Phase.TheVariants.{Matched}
use Rattle.collect_tree.proofs.Listing.{HasListed}
use Rattle.collect_tree.proofs.charging.list_matched.Given as goal

abbrev pub invariant-loop-place : goal.invariant-loop-place
invariant-loop-place l = HasListed l.shard l.search (collected_before l.search l.shard.rows Matched l.start) (collected_before l.search l.shard.rows Matched l.place) l.rows.items
