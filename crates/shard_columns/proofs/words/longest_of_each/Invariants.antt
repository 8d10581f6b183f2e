use Rattle.std.proofs.Common.{◌≡◌, length, map, take}
use Rattle.agg_evaluation.specs.Ceiling.{greatest_of}
use Rattle.shard_columns.proofs.words.longest_of_each.Given as goal

abbrev pub invariant-loop-list : goal.invariant-loop-list
invariant-loop-list l = l.all.items ≡ map (λ ws. greatest_of (map length ws)) (take l.list-index l.words)
