use Rattle.std.proofs.Common.{◌≡◌, ◌++◌, map, take, drop}
use Rattle.shard_columns.specs.Values.{ranked}
use Rattle.shard_columns.proofs.values.rank_words.Given as goal

abbrev pub invariant-loop-one : goal.invariant-loop-one
invariant-loop-one l = l.one-items ≡ map (ranked l.ranks) (take l.one-index l.fn.words.items) ++ drop l.one-index l.fn.words.items
