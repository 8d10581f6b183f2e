use Rattle.std.proofs.Common.{◌≡◌, ℕ, [], length, take}
use Rattle.pipeline_agg.specs.Placed.{AreParts, part_of, pipes_of}
use Rattle.pipeline_agg.proofs.placed.within_each.Given as goal

-- so many places, at which there is nothing
abbrev pub invariant-loop : goal.invariant-loop
invariant-loop l = record {
  many : length l.parts.items ≡ l.counter;
  none : (i : ℕ) → part_of l.parts.items i ≡ [];
}

-- the pipelines so far are told apart
abbrev pub invariant-loop-placed : goal.invariant-loop-placed
invariant-loop-placed l = AreParts (pipes_of (take l.placed-index l.pipes)) l.aggs l.parts.items
