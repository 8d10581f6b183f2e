use Rattle.std.proofs.Common.{◌≡◌, ◌<◌, ◌++◌, ℤ, List, length, map, take, sym, ap, ◌∙◌, arith}
use Rattle.std.specs.Prelude.{option_map}
use Rattle.agg_model.specs.declared.row.Scalar.{Scalar}
use Rattle.agg_model.specs.declared.row.Scalar.TheVariants.{Whole}
use Rattle.agg_evaluation.specs.Rows.{values_of, row_of}
use Rattle.agg_evaluation.specs.Shard.{metric_of}
use Rattle.shard_columns.specs.Cell.{scalar_of}
use Rattle.shard_columns.specs.Lent.{wholes_in}
use Rattle.metric_agg.proofs.MoreValues.{seen_more, some-values, wholes-are}
use Rattle.metric_agg.proofs.taking.take.Goals as goal

pub loop-place-preserved : goal.loop-place-preserved
loop-place-preserved c =
    let values = values_of c.args.field (row_of c.args.shard.now.rows c.args.row) in
    let count = c.with_value-in-loop-place.ensures.count in
    let before = c.loop-place.invariant.1 in (
      λ seen e. c.with_value-in-loop-place.ensures.values (seen ++ take c.loop-place.place values) (c.loop-place.invariant.0 seen e) ∙ ap metric_of (seen_more seen values c.loop-place.place (scalar_of c.value.result) c.value.ensures),
      omega arith,
      c.with_value-in-loop-place.ensures.bounded,
    )

pub returns-then-numbers-count-clause-values : goal.returns-then-numbers-count-clause-values
returns-then-numbers-count-clause-values c seen e =
    let values = values_of c.args.field (row_of c.args.shard.now.rows c.args.row) in
    let lent : length c.numbers-numbers.result.now ≡ length (wholes_in values) = ap (λ (ns : List ℤ). length ns) c.numbers-numbers.ensures.exact in
    let all : length (wholes_in values) ≡ length values = omega (arith, c.value_count-count.ensures, c.if-numbers-count.true) in
    let some : 0 < length values = omega (arith, c.value_count-count.ensures, c.if-count-eq0.false) in
    c.take_numbers.ensures.values seen e
    ∙ ap (λ (vs : List Scalar). metric_of (seen ++ vs)) (ap (map Whole) c.numbers-numbers.ensures.exact ∙ wholes-are values all ∙ sym (some-values (option_map scalar_of c.args.missing) values some))
