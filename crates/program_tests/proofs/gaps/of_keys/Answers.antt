use Rattle.std.proofs.Common.{◌∙◌, ap, refl, []}
use Rattle.agg_model.specs.declared.aggregation.Agg.{out-Agg}
use Rattle.agg_evaluation.specs.Finishable.{is_finishable}
use Rattle.program_tests.specs.SampleGaps.{IsHistogram, no_bounds}
use Rattle.program_tests.proofs.GapSamples.{histogram-made, keys-finishable}
use Rattle.agg_model.specs.declared.partial.Node.TheVariants.{Keyed}
use Rattle.program_tests.proofs.gaps.of_keys.Goals as goal

pub of_one-requires : goal.of_one-requires
of_one-requires c =
    let agg = c.in_ok-agg.agg in
    let asked = c.requires in
    let is : IsHistogram c.args.interval c.args.offset no_bounds [] (out-Agg agg) = (c.in_ok-agg.ensures.0, c.in_ok-agg.ensures.1 ∙ c.new.ensures) in
    record {
      made = histogram-made c.args.interval c.args.offset no_bounds agg [] is asked.positive asked.below asked.offset refl refl refl;
      node = ap (is_finishable agg) c.node.ensures ∙ ap (λ bs. is_finishable agg (Keyed bs 0 0 0)) c.in_ok-buckets.ensures ∙ keys-finishable c.args.interval c.args.offset no_bounds agg c.args.keys.now is asked.ascending asked.keys;
    }
