use Rattle.std.proofs.Common.{ℕ, ltb, subst, sym, rules}
use Rattle.std.specs.List.Sorted.{IsNonDecreasingBy, IsStrictlyIncreasing}
use Rattle.std.proofs.lemmas.List.Sorted.{IsPartitionPoint-from_clause, IsPartitionedBy-ltb}
use Rattle.shard_columns.proofs.Searching.{IsNonDecreasingBy-rising, map-same}
use Rattle.shard_columns.proofs.search.count_below.Goals as goal

pub returns-clause-below : goal.returns-clause-below
returns-clause-below c =
    let xs = c.args.numbers.now in
    let up : IsNonDecreasingBy (λ (n : ℕ). n) xs = IsNonDecreasingBy-rising (λ (n : ℕ). n) xs (subst IsStrictlyIncreasing (sym (map-same xs)) c.requires.ascend) in
    IsPartitionPoint-from_clause (λ (n : ℕ). ltb n c.args.bound) xs _ c.partition_point.ensures.partitioned (IsPartitionedBy-ltb (λ (n : ℕ). n) xs c.args.bound up) (λ a r f k. search rules)
