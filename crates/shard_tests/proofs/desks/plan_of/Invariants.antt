use Rattle.std.proofs.Common.{◌≡◌, take}
use Rattle.shard_tests.proofs.desks.plan_of.Given as goal

abbrev pub invariant-loop-search : goal.invariant-loop-search
invariant-loop-search l = l.tasks ≡ take l.search-index l.searches
