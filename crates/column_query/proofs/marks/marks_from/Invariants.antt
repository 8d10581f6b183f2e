use Rattle.std.proofs.Common.{◌≡◌, ℤ, ◌-ℤ◌, length, take}
use Rattle.column_query.specs.Numbers.{is_among}
use Rattle.column_query.specs.NumberSets.{has_place}
use Rattle.column_query.proofs.marks.marks_from.Given as goal

abbrev pub invariant-loop-number : goal.invariant-loop-number
invariant-loop-number l = record {
  many : length l.bits.items ≡ l.words;
  marks : (x : ℤ) → has_place l.bits.items (x -ℤ l.first) ≡ is_among (take l.number-index l.numbers) x;
}
