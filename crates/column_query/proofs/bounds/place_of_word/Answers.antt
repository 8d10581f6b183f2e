use Rattle.std.proofs.Common.{◌+◌, ◌-◌, ◌/◌, sym, ◌∙◌, ap, arith}
use Rattle.std.specs.Ordering.{is_lt}
use Rattle.shard_columns.specs.Dictionary.{words_of}
use Rattle.shard_columns.proofs.Dictionaries.{words_of-strict}
use Rattle.column_query.proofs.Places.{place-few, search-behind, search-before}
use Rattle.column_query.proofs.bounds.place_of_word.Goals as goal

pub loop-low-init : goal.loop-low-init
loop-low-init c =
    let ws = words_of c.args.field c.args.shard.now.rows in
    let few = place-few ws c.args.word.now in
    record { low = omega arith; high = omega (arith, few, c.words-high.ensures); in_range = omega (arith, c.words-high.ensures) }

pub loop-low-preserved-then-is_lt : goal.loop-low-preserved-then-is_lt
loop-low-preserved-then-is_lt c =
    let ws = words_of c.args.field c.args.shard.now.rows in
    record {
      low = search-behind ws (words_of-strict c.args.field c.args.shard.now.rows) c.args.word.now (c.loop-low.low + (c.loop-low.high - c.loop-low.low) / 2) c.word.result.now c.word.ensures (ap is_lt (sym c.cmp.ensures) ∙ (sym c.is_lt.ensures ∙ c.if-is_lt.true));
      high = c.loop-low.invariant.high;
      in_range = c.loop-low.invariant.in_range;
    }

pub loop-low-preserved : goal.loop-low-preserved
loop-low-preserved c =
    let ws = words_of c.args.field c.args.shard.now.rows in
    record {
      low = c.loop-low.invariant.low;
      high = search-before ws c.args.word.now (c.loop-low.low + (c.loop-low.high - c.loop-low.low) / 2) c.word.result.now c.word.ensures (ap is_lt (sym c.cmp.ensures) ∙ (sym c.is_lt.ensures ∙ c.if-is_lt.false));
      in_range = omega (arith, c.loop-low.invariant.in_range, c.loop-low-test.true);
    }
