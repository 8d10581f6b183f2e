use Rattle.std.proofs.Common.{◌≤◌, ◌-◌, length}
use Rattle.shard_columns.specs.Dictionary.{words_of}
use Rattle.column_query.specs.Numbers.{place_among}
use Rattle.column_query.proofs.bounds.place_of_word.Given as goal

abbrev pub invariant-loop-low : goal.invariant-loop-low
invariant-loop-low l = record {
  low : l.low ≤ place_among (words_of l.field l.shard.rows) l.word;
  high : place_among (words_of l.field l.shard.rows) l.word ≤ l.high;
  in_range : l.high ≤ length (words_of l.field l.shard.rows);
}

abbrev pub decreases-loop-low : goal.decreases-loop-low
decreases-loop-low l = l.high - l.low
