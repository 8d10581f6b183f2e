use Rattle.std.proofs.Common.{◌-◌, ◌^◌}
use Rattle.search_wave.proofs.Following.{IsSoFar}
use Rattle.search_wave.proofs.pages.search_pages.Given as goal

abbrev pub invariant-loop-answers : goal.invariant-loop-answers
invariant-loop-answers g l = IsSoFar l.settings l.index l.body l.words l.fn.pass l.pass l.read l.answers.items

-- the room that is left for answers
abbrev pub decreases-loop-answers : goal.decreases-loop-answers
decreases-loop-answers g l = 2 ^ 64 - l.answers.len
