use Rattle.std.proofs.Common.{◌≡◌, ◌∙◌, ap, subst, sum_by}
use Rattle.growing_tree.specs.Frequent.{IsLeast, frequent}
use Rattle.growing_tree.specs.Trees.{counter_buckets}
use Rattle.growing_tree.proofs.CountersChosen.{counted-rows, counted-suffices}
use Rattle.growing_tree.proofs.chosen.choose_counted.Goals as goal

pub returns : goal.returns
returns c =
    let kind = c.args.kind.now in
    let counters = c.args.counts.now in
    let least = c.least_count-least.result in
    let lent : c.counters-counters.result.now ≡ counters = c.counters-counters.ensures in
    record {
      total_is = c.in_ok-total_count.ensures ∙ ap (sum_by (λ n. n)) lent ∙ counted-rows 0 counters;
      suffices =
          counted-suffices kind counters least _ (subst (λ ns. IsLeast kind ns least) lent c.least_count-least.ensures)
          (c.in_ok-with_counters.ensures ∙ ap (λ ns. frequent least (counter_buckets 0 ns)) lent);
    }
