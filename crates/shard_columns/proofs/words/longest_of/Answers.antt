use Rattle.std.proofs.Common.{length, map, ◌∙◌, ap, arith}
use Rattle.std.proofs.lemmas.List.{take_all}
use Rattle.agg_evaluation.specs.Ceiling.{greatest_of}
use Rattle.shard_columns.specs.Values.{Words}
use Rattle.shard_columns.proofs.Counting.{greatest-more, sized}
use Rattle.shard_columns.proofs.words.longest_of.Goals as goal

pub loop-place-preserved : goal.loop-place-preserved
loop-place-preserved c =
    let words = c.args.words.now in
    let place = c.loop-place.place in
    let here = sized words place c.size.result c.size.ensures in
    greatest-more length words place here.0 c.loop-place.longest c.size.result c.max-longest.result (omega (arith, c.loop-place-test.true, c.len-place-end.ensures)) here.1.0 here.1.1 c.loop-place.invariant c.max-longest.ensures

pub returns : goal.returns
returns c =
    c.loop-place.invariant ∙ ap (λ (ws : Words). greatest_of (map length ws)) (take_all c.loop-place.place c.args.words.now (omega (arith, c.loop-place-test.false, c.len-place-end.ensures)))
