use Rattle.std.proofs.Common.{◌≡◌, ◌-◌, ◌^◌}
use Rattle.agg_search.proofs.Onward.{IsSoFar}
use Rattle.agg_search.proofs.pages.search_pages.Given as goal

-- the pages so far, of the shards of the index
abbrev pub invariant-loop-page : goal.invariant-loop-page
invariant-loop-page l = IsSoFar l.settings l.index l.body l.words l.fn.pass l.pass l.search l.answers.items × (l.shards.index.now ≡ l.index)

-- the room that is left for answers
abbrev pub decreases-loop-page : goal.decreases-loop-page
decreases-loop-page l = 2 ^ 64 - l.answers.len
