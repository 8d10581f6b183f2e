use Rattle.std.proofs.Common.{◌≡◌, ◌++◌}
use Rattle.shard_columns.specs.Numbered.{all_entries}
use Rattle.shard_columns.proofs.Ranking.{IsRankedSoFar}
use Rattle.shard_columns.proofs.words.dictionary.Given as goal

abbrev pub invariant-loop-word : goal.invariant-loop-word
invariant-loop-word l = record {
  ranked : IsRankedSoFar (all_entries l.initial.word-iterator.rest.items) (all_entries l.yielded) l.texts l.fn.ranks.items l.ranks.items;
  rest : l.initial.word-iterator.rest.items ≡ l.yielded ++ l.word-iterator.rest.items;
}
