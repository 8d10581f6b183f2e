use Rattle.std.proofs.Common.{◌≡◌, ◌∙◌, ap, arith, subst, map, length, sum_by}
use Rattle.agg_model.specs.declared.partial.Node.TheVariants.{Number}
use Rattle.agg_evaluation.specs.Orders.{bucket_count}
use Rattle.growing_tree.specs.Frequent.{IsLeast}
use Rattle.growing_tree.specs.Measures.{measures_of, metrics_at}
use Rattle.growing_tree.specs.Trees.{measured_buckets}
use Rattle.growing_tree.proofs.Choosing.{all-rows, coded-counts, least-suffices, measures-counts}
use Rattle.growing_tree.proofs.MeasuredBuckets.{length-measures}
use Rattle.growing_tree.proofs.chosen.choose_measured.Goals as goal

pub returns : goal.returns
returns c =
    let m = c.args.measured in
    let all = measured_buckets m.places (measures_of m) in
    let counts = m.counts.items in
    let at = metrics_at m.columns.items in
    let few = c.requires.aligned.few in
    let many : length (measures_of m) ≡ length counts = length-measures at 0 counts in
    let are : map bucket_count all ≡ counts =
    coded-counts (λ g. g.count) (λ g. map Number g.metrics) m.places (measures_of m) (omega (arith, few, many)) ∙ measures-counts at 0 counts in
    record {
      total_is = c.in_ok-total_count.ensures ∙ ap (sum_by (λ n. n)) c.as_slice-counts.ensures.value ∙ all-rows all counts are;
      suffices =
          least-suffices all counts are c.args.kind.now c.least_count-least.result _
          (subst (λ ns. IsLeast c.args.kind.now ns c.least_count-least.result) c.as_slice-counts.ensures.value c.least_count-least.ensures)
          c.in_ok-with_trees.ensures;
    }
