use Rattle.std.proofs.Common.{◌∙◌, ap, arith}
use Rattle.agg_evaluation.specs.Finishable.{is_finishable}
use Rattle.program_tests.proofs.SampleLaws.{first-made, sample_can_finish}
use Rattle.program_tests.proofs.finals.sample_of.Goals as goal

pub of_one-requires : goal.of_one-requires
of_one-requires c =
    let agg = c.in_ok-agg.agg in
    let terms = c.in_ok-agg.ensures in
    record {
      made = first-made c.args.descending agg terms;
      node = ap (is_finishable agg) c.in_ok-node.ensures
          ∙ sample_can_finish c.args.descending agg c.args.a c.args.a_covered c.args.b c.args.b_covered c.args.cut terms (omega (arith, c.ranges.a.fits)) (omega (arith, c.ranges.a_covered.fits)) (omega (arith, c.ranges.b.fits)) (omega (arith, c.ranges.b_covered.fits)) (omega (arith, c.ranges.cut.fits));
    }
