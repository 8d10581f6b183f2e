use Rattle.std.proofs.Common.{◌∙◌, ap, map, pos}
use Rattle.agg_model.specs.declared.answer.NodeAnswer.{roll-NodeAnswer}
use Rattle.agg_evaluation.specs.Trees.{pass_each}
use Rattle.final_reduce.specs.Standing.{builder, is_standing}
use Rattle.final_reduce.specs.Selection.{chosen_bucket, chosen_pass, finish_chosen}
use Rattle.final_reduce.specs.declared.select.Chosen.{Chosen}
use Rattle.list_laws.proofs.Lists.{map-map}
use Rattle.final_reduce.proofs.SelectLaws.{list_all-map}
use Rattle.final_reduce.proofs.select.select_buckets.Goals as goal

pub returns-clause-answer : goal.returns-clause-answer
returns-clause-answer c =
    let builders = map builder c.args.children.now in
    λ name i. roll-NodeAnswer (record {
      name = name;
      buckets = (ap (map (finish_chosen builders)) c.in_ok-without_errors.ensures ∙ map-map (finish_chosen builders) chosen_bucket c.args.buckets) i;
      error = pos 0;
      other = 0;
      metric = c.no_metric.ensures i;
    })

pub returns-clause-children : goal.returns-clause-children
returns-clause-children c =
    let tests = map is_standing c.args.children.now in
    ap (chosen_pass tests) c.in_ok-without_errors.ensures ∙ list_all-map (λ (c : Chosen). pass_each tests c.bucket.children) chosen_bucket c.args.buckets ∙ c.requires.children
