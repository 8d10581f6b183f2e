use Rattle.std.proofs.Common.{◌≡◌, ◌<◌, ◌++◌, ◌∙◌, List, length, map, take, get_or, Some, pos, sym, ap, arith, rules, to_z, of_z}
use Rattle.std.specs.Prelude.{option_map}
use mir.Syntax.{w64}
use Rattle.std.proofs.lemmas.Int.{to_z-of_z}
use Rattle.std.proofs.lemmas.List.{length-map}
use Rattle.std.proofs.lemmas.Option.{slice_get-get_or, slice_get-map}
use Rattle.agg_model.specs.declared.row.Scalar.{Scalar}
use Rattle.agg_model.specs.declared.row.Scalar.TheVariants.{Whole}
use Rattle.agg_evaluation.specs.Shard.{metric_of}
use Rattle.metric_agg.proofs.MoreValues.{all-seen, seen_more}
use Rattle.metric_agg.proofs.taking.take_numbers.Goals as goal

pub loop-number-preserved : goal.loop-number-preserved
loop-number-preserved c =
    let numbers = c.args.numbers.now in
    let i = c.loop-number.number-index in
    let number = get_or numbers i (pos 0) in
    let below : i < length numbers = omega (arith, c.loop-number-test.true) in
    let plain : to_z w64 (of_z w64 number) ≡ number = to_z-of_z w64 number (search rules) in
    let there = slice_get-map Whole numbers i ∙ ap (option_map Whole) (slice_get-get_or numbers i (pos 0) below ∙ ap Some (sym plain)) in
    let count = c.with_value.ensures.count in
    let before = c.loop-number.invariant.count in
    record {
      values = λ seen e. c.with_value.ensures.values (seen ++ take i (map Whole numbers)) (c.loop-number.invariant.values seen e)
          ∙ ap metric_of (seen_more seen (map Whole numbers) i (Whole (to_z w64 (of_z w64 number))) there);
      count = omega arith;
      bounded = c.with_value.ensures.bounded;
    }

pub returns-clause-values : goal.returns-clause-values
returns-clause-values c seen e =
    let numbers = c.args.numbers.now in
    c.loop-number.invariant.values seen e ∙ ap (λ (vs : List Scalar). metric_of (seen ++ vs)) (all-seen (map Whole numbers) c.loop-number.number-index (omega (arith, length-map numbers Whole, c.loop-number-test.false)))
