use Rattle.std.proofs.Common.{◌≡◌, ◌∙◌, ap, refl, true}
use Rattle.agg_model.specs.Contexts.{is_in_context}
use Rattle.agg_evaluation.specs.SearchFits.{agg_fits}
use Rattle.agg_evaluation.proofs.Computing.{computing}
use Rattle.shard_tests.specs.Example.{example_agg, example_mapping}
use Rattle.shard_tests.proofs.trees.a_document_becomes_the_tree_of_its_shard.Goals as goal

example-fits : agg_fits example_mapping true 0 example_agg ≡ true
unfolding computing is_in_context
example-fits = refl

pub prepare-requires-clause-made : goal.prepare-requires-clause-made
prepare-requires-clause-made g c = ∣ (example_mapping, (true, (0, (c.in_ok-shard.ensures.built, ap (agg_fits example_mapping true 0) c.in_ok-agg.ensures ∙ example-fits)))) ∣₁
