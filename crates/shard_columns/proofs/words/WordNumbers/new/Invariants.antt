use Rattle.std.proofs.Common.{◌≡◌, ℕ, length, get_or}
use Rattle.shard_columns.specs.Numbered.{none_known, HasNone}
use Rattle.shard_columns.proofs.words.WordNumbers.new.Given as goal

abbrev pub invariant-loop-field : goal.invariant-loop-field
invariant-loop-field l = (length l.by_field.items ≡ l._field) × ((f : ℕ) → HasNone (get_or l.by_field.items f none_known))
