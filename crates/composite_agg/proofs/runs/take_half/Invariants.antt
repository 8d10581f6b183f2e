use Rattle.std.proofs.Common.{◌≡◌, ◌++◌, ◌+◌, ◌≤◌, length, reverse}
use Rattle.composite_agg.proofs.runs.take_half.Given as goal

-- what was taken out, last first, and room for what is still to be taken
abbrev pub invariant-loop-moved : goal.invariant-loop-moved
invariant-loop-moved g l = (l.run.items ++ reverse l.tail.items ≡ l.fn.run.items) × (length l.run.items + l._moved ≡ length l.fn.run.items) × (length l.tail.items ≡ l._moved) × (l.half ≤ l.tail.cap)
