use Rattle.std.proofs.Common.{◌≡◌, ◌++◌, take}
use Rattle.shard_columns.specs.Numbered.{all_entries, later_entries, AreBegun}
use Rattle.shard_columns.proofs.field_words.lend_later.Given as goal

abbrev pub invariant-loop-place : goal.invariant-loop-place
invariant-loop-place l = record {
  added : all_entries l.words.items ≡ all_entries l.fn.words.items ++ later_entries (take l.place l.fn.texts) (take l.place l.fn.numbers);
  begun : AreBegun l.words.items;
}
