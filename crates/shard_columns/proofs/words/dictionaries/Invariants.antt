use Rattle.std.proofs.Common.{◌≡◌, ◌++◌, length}
use Rattle.shard_columns.proofs.Ranking.{AreMade}
use Rattle.shard_columns.proofs.words.dictionaries.Given as goal

abbrev pub invariant-loop-words : goal.invariant-loop-words
invariant-loop-words l = record {
  made : AreMade l.fn.numbers (length l.yielded) l.all.items l.ranks.items;
  rest : l.fn.numbers.by_field.items ≡ l.yielded ++ l.words-iterator.rest.items;
}
