use Rattle.std.proofs.Common.{◌≡◌, ◌∙◌, ◌+◌, ◌*◌, List, sym, ap, map, length, min, arith, rules, zero-add}
use Rattle.std.proofs.lemmas.Grind.{common_steps}
use Rattle.agg_model.specs.declared.aggregation.Agg.{Agg, out-Agg}
use Rattle.agg_evaluation.specs.Trees.{have_children}
use Rattle.agg_evaluation.specs.Whole.{parts}
use Rattle.agg_evaluation.specs.Finishable.{has_histogram_keys}
use Rattle.agg_spec.specs.BucketCount.{greatest_count}
use Rattle.agg_spec.specs.GapCount.{below_empty}
use Rattle.final_reduce.specs.Standing.{form_of, is_standing}
use Rattle.final_reduce.specs.Counts.{gap_count, member_number, tally, tally_below, tally_from, below_from}
use Rattle.final_reduce.proofs.AggSizes.{children_less}
use Rattle.final_reduce.proofs.CountLaws.{tally_from-min, below_from-min, none-below}
use Rattle.final_reduce.proofs.FinishableLaws.{intervals-at, keys-stand, standing-opened}
use Rattle.final_reduce.proofs.TallyLaws.{tally-level}
use Rattle.final_reduce.proofs.count.+tally.Goals as goal

pub count_node-count_in_gaps-filling-requires : goal.count_node-count_in_gaps-filling-requires
count_node-count_in_gaps-filling-requires t c =
    let k = (out-Agg c.args.agg.now).kind in
    record {
      intervals = c.requires.intervals;
      keys = ap (has_histogram_keys k) c.buckets_of-buckets.ensures ∙ keys-stand k (parts c.args.node.now) (standing-opened c.args.agg.now c.args.node.now c.requires.node).1;
    }

pub count_node-count_below-below-requires : goal.count_node-count_below-below-requires
count_node-count_below-below-requires t c =
    let tests = map is_standing (out-Agg c.args.agg.now).children in (
      omega (arith, c.decreases, children_less c.args.agg.now),
      ((intervals-at c.args.agg.now c.requires.intervals).1, ap (have_children tests) c.buckets_of-buckets.ensures ∙ (standing-opened c.args.agg.now c.args.node.now c.requires.node).0),
    )

pub count_node-returns : goal.count_node-returns
count_node-returns t c =
    let a = out-Agg c.args.agg.now in
    let k = a.kind in
    let ps = map tally a.children in
    let bs = (parts c.args.node.now).buckets in
    let more = gap_count (form_of k) bs * (1 + below_empty ps) in
    let members : c.member_count-members.result ≡ member_number k (length bs) = c.member_count-members.ensures ∙ ap (λ bs. member_number k (length bs)) c.buckets_of-buckets.ensures in
    let below : c.count_below-below.result ≡ min (tally_below ps bs) greatest_count = c.count_below-below.ensures ∙ ap (λ bs. min (tally_below ps bs) greatest_count) c.buckets_of-buckets.ensures in
    let gaps : c.count_in_gaps-filling.result ≡ min more greatest_count = c.count_in_gaps-filling.ensures ∙ ap (λ bs. min (gap_count (form_of k) bs * (1 + below_empty ps)) greatest_count) c.buckets_of-buckets.ensures in
    let all : min (min (member_number k (length bs) + min (tally_below ps bs) greatest_count) greatest_count + min more greatest_count) greatest_count
    ≡ min ((member_number k (length bs) + tally_below ps bs) + more) greatest_count = omega arith in
    c.saturating_add-2.ensures ∙ (λ i. min ((c.saturating_add.ensures ∙ (λ j. min (members j + below j) greatest_count)) i + gaps i) greatest_count) ∙ all
    ∙ ap (λ n. min n greatest_count) (sym (tally-level c.args.agg.now c.args.node.now c.requires.intervals c.requires.node))

pub count_below-returns-then-is_empty : goal.count_below-returns-then-is_empty
count_below-returns-then-is_empty t c =
    let none : tally_below (map tally c.args.children.now) c.args.buckets.now ≡ 0 = ap (λ (children : List Agg). tally_below (map tally children) c.args.buckets.now) (c.is_empty.ensures.0 c.if-is_empty.true) ∙ none-below c.args.buckets.now in
    omega (arith, none)

pub count_below-returns : goal.count_below-returns
count_below-returns t c =
    let ps = map tally c.args.children.now in
    let counted : c.loop-bucket.count ≡ below_from ps 0 c.args.buckets.now = first_of (search rules, grind (arith, common_steps)) in
    counted ∙ below_from-min ps 0 c.args.buckets.now ∙ ap (λ n. min n greatest_count) (zero-add _)

pub count_each-returns-in-None : goal.count_each-returns-in-None
count_each-returns-in-None t c =
    let ps = map tally c.args.aggs.now in
    let counted : c.loop-agg.count ≡ tally_from 0 ps c.args.nodes.now = first_of (search rules, grind (arith, common_steps)) in
    counted ∙ tally_from-min 0 ps c.args.nodes.now ∙ ap (λ n. min n greatest_count) (zero-add _)

pub count_each-returns : goal.count_each-returns
count_each-returns t c =
    let ps = map tally c.args.aggs.now in
    let counted : c.loop-agg.count ≡ tally_from 0 ps c.args.nodes.now = first_of (search rules, grind (arith, common_steps)) in
    counted ∙ tally_from-min 0 ps c.args.nodes.now ∙ ap (λ n. min n greatest_count) (zero-add _)
