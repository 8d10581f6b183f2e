use Rattle.std.proofs.Common.{take}
use Rattle.shard_columns.specs.Values.{words_for}
use Rattle.shard_columns.specs.Words.{Notes}
use Rattle.shard_columns.specs.Storing.{AddsRowValues}
use Rattle.shard_columns.proofs.values.Drafts.push_row.Given as goal

abbrev pub invariant-loop-field : goal.invariant-loop-field
invariant-loop-field l = record {
  notes : Notes l.fn.numbers l.numbers (λ f. words_for f (take l.field-index l.field-items));
  adds : AddsRowValues l.numbers l.fn.self l.self l.row (take l.field-index l.field-items);
}
