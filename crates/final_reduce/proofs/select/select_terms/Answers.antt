use Rattle.std.proofs.Common.{◌≡◌, ◌∙◌, ap, map, arith, w64}
use mir.Val.{to_z, of_z}
use Rattle.std.proofs.lemmas.Int.{ints, to_z-of_z}
use Rattle.agg_spec.specs.CountErrors.{precision_of, count_error}
use Rattle.agg_model.specs.declared.answer.NodeAnswer.{roll-NodeAnswer}
use Rattle.agg_evaluation.specs.Trees.{pass_each}
use Rattle.final_reduce.specs.Standing.{builder, is_standing}
use Rattle.final_reduce.specs.Selection.{chosen_term, chosen_pass, finish_chosen}
use Rattle.final_reduce.specs.declared.select.Chosen.{Chosen}
use Rattle.list_laws.proofs.Lists.{map-map}
use Rattle.final_reduce.proofs.SelectLaws.{list_all-map}
use Rattle.final_reduce.proofs.select.select_terms.Goals as goal

pub returns-clause-answer : goal.returns-clause-answer
returns-clause-answer c =
    let builders = map builder c.args.children.now in
    let as_chosen = chosen_term c.args.order.now c.args.parts.error c.args.parts.full in
    let error_is : to_z w64 (of_z w64 c.count_error-error.result) ≡ count_error (precision_of c.args.order.now) c.args.parts.error 0 c.args.parts.full = first_of (search (arith, ints, to_z-of_z, c.count_error-error.ensures), grind (arith, to_z-of_z, c.count_error-error.ensures)) in
    λ name i. roll-NodeAnswer (record {
      name = name;
      buckets = (ap (map (finish_chosen builders)) c.in_ok-with_errors.ensures ∙ map-map (finish_chosen builders) as_chosen c.args.parts.buckets) i;
      error = error_is i;
      other = c.args.parts.cut;
      metric = c.no_metric.ensures i;
    })

pub returns-clause-children : goal.returns-clause-children
returns-clause-children c =
    let tests = map is_standing c.args.children.now in
    let as_chosen = chosen_term c.args.order.now c.args.parts.error c.args.parts.full in
    ap (chosen_pass tests) c.in_ok-with_errors.ensures ∙ list_all-map (λ (c : Chosen). pass_each tests c.bucket.children) as_chosen c.args.parts.buckets ∙ c.requires.children
