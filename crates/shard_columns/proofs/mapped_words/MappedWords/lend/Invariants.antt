use Rattle.std.proofs.Common.{◌≡◌, ◌++◌, map}
use Rattle.std.specs.Map.Iter.{deref_pair}
use Rattle.shard_columns.specs.Numbered.{all_entries, found_in, other_entries, AreBegun}
use Rattle.shard_columns.proofs.mapped_words.MappedWords.lend.Given as goal

abbrev pub invariant-loop-found : goal.invariant-loop-found
invariant-loop-found l = record {
  added : all_entries l.words.items ≡ all_entries l.fn.words.items ++ map (λ f. found_in l.self-inside.texts f.now) l.yielded;
  begun : AreBegun l.words.items;
}

abbrev pub invariant-loop-text : goal.invariant-loop-text
invariant-loop-text l = record {
  added : all_entries l.words.items ≡ all_entries l.initial.words.items ++ other_entries (map deref_pair l.yielded);
  begun : AreBegun l.words.items;
}
