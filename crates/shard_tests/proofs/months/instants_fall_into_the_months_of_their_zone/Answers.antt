use Rattle.std.proofs.Common.{◌≡◌, ◌∙◌, ap, refl, true}
use Rattle.agg_evaluation.specs.SearchFits.{agg_fits}
use Rattle.agg_evaluation.proofs.Computing.{computing}
use Rattle.shard_tests.specs.Months.{months_agg, dated_mapping}
use Rattle.shard_tests.proofs.months.instants_fall_into_the_months_of_their_zone.Goals as goal

months-fit : agg_fits dated_mapping true 0 months_agg ≡ true
unfolding computing
months-fit = refl

pub node_of_first-requires-clause-made : goal.node_of_first-requires-clause-made
node_of_first-requires-clause-made g c = ∣ (dated_mapping, (true, (0, (c.in_ok-shard.ensures.built, ap (agg_fits dated_mapping true 0) c.in_ok-agg.ensures ∙ months-fit)))) ∣₁
