use Rattle.std.proofs.Common.{◌≡◌, ◌++◌, map, drop}
use Rattle.program_tests.specs.SampleGaps.{counted_bucket}
use Rattle.program_tests.proofs.gaps.buckets.Given as goal

-- the buckets so far, and then those of the keys that are left
abbrev pub invariant-loop-key : goal.invariant-loop-key
invariant-loop-key l = record {
  rest : l.buckets ++ map counted_bucket (drop l.key-index l.keys) ≡ map counted_bucket l.keys;
}
