use Rattle.std.proofs.Common.{◌≡◌, ◌∙◌, sym, ap, subst, map, sum_by}
use Rattle.agg_evaluation.specs.Orders.{bucket_count}
use Rattle.growing_tree.specs.Frequent.{IsLeast}
use Rattle.growing_tree.specs.Trees.{coded_buckets}
use Rattle.growing_tree.specs.declared.tree.Growing.{Growing}
use Rattle.growing_tree.proofs.Choosing.{all-rows, coded-counts, least-suffices}
use Rattle.growing_tree.proofs.chosen.choose.Goals as goal

pub returns : goal.returns
returns c =
    let keyed = c.args.keyed in
    let all = coded_buckets keyed.places keyed.buckets.items in
    let counts = c.in_ok-counts.counts.items in
    let are : map bucket_count all ≡ counts =
    coded-counts (λ g. g.count) (λ g. g.children.items) keyed.places keyed.buckets.items c.requires.aligned.few ∙ sym (c.in_ok-counts.ensures ∙ ap (map (λ (g : Growing). g.count)) c.as_slice.ensures.value) in
    record {
      total_is = c.in_ok-total_count.ensures ∙ ap (sum_by (λ n. n)) c.as_slice-3.ensures.value ∙ all-rows all counts are;
      suffices =
          least-suffices all counts are c.args.kind.now c.least_count-least.result _
          (subst (λ ns. IsLeast c.args.kind.now ns c.least_count-least.result) c.as_slice-2.ensures.value c.least_count-least.ensures)
          c.in_ok-with_codes.ensures;
    }
