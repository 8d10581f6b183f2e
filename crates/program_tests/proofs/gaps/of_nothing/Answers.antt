use Rattle.std.proofs.Common.{◌∙◌, ap, refl, false, None, arith}
use Rattle.std.proofs.lemmas.Bool.{and_from}
use Rattle.std.specs.List.{list_all}
use Rattle.agg_model.specs.declared.aggregation.Kind.TheVariants as kind
use Rattle.agg_model.specs.declared.partial.Node.TheVariants.{Keyed}
use Rattle.agg_evaluation.specs.Finishable.{is_finishable}
use Rattle.agg_evaluation.specs.SearchFits.{agg_fits}
use Rattle.program_tests.specs.SampleMapping.{sample_mapping}
use Rattle.program_tests.proofs.GapSamples.{histogram-made, nothing-finishable}
use Rattle.program_tests.proofs.SampleLaws.{alone-made}
use Rattle.program_tests.proofs.gaps.of_nothing.Goals as goal

pub of_one-requires : goal.of_one-requires
of_one-requires c =
    let agg = c.in_ok-agg.agg in
    let sum = c.in_ok-sum in
    record {
      made = histogram-made 10 0 _ agg _ c.in_ok-agg.ensures (omega arith) (omega arith) (omega arith) refl refl
          (ap (list_all (agg_fits sample_mapping false 0)) c.in_ok-children.ensures ∙ and_from _ _ (alone-made false _ (kind.Sum 1 None) sum.ensures.kind sum.ensures.alone refl) refl);
      node = ap (is_finishable agg) c.node.ensures ∙ ap (λ bs. is_finishable agg (Keyed bs 0 0 0)) c.new.ensures ∙ nothing-finishable 10 0 _ agg _ c.in_ok-agg.ensures;
    }
