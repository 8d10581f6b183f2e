use Rattle.std.proofs.Common.{◌≡◌, ◌∙◌, sym, [], ◌+◌, ◌*◌, ap, map, min, arith, rules, zero-add}
use Rattle.std.proofs.lemmas.Grind.{common_steps}
use Rattle.agg_model.specs.declared.aggregation.Agg.{out-Agg}
use Rattle.agg_spec.specs.BucketCount.{greatest_count}
use Rattle.agg_spec.specs.GapCount.{below_empty}
use Rattle.final_reduce.specs.Standing.{form_of}
use Rattle.final_reduce.specs.Counts.{fixed_count, gap_count, member_number, nothing_from, tally}
use Rattle.final_reduce.proofs.CountLaws.{nothing_from-min, product-min, member_number-min}
use Rattle.final_reduce.proofs.AggSizes.{children_less}
use Rattle.final_reduce.proofs.FinishableLaws.{intervals-at, no_keys}
use Rattle.final_reduce.proofs.CutAgrees.{nothing-stands-at}
use Rattle.final_reduce.proofs.TallyLaws.{nothing-level}
use Rattle.final_reduce.proofs.count.+nothing.Goals as goal

pub count_of_no_row-returns : goal.count_of_no_row-returns
count_of_no_row-returns t c =
    let a = out-Agg c.args.agg.now in
    let k = a.kind in
    let below = below_empty (map tally a.children) in
    let fixed = fixed_count k in
    let gaps = gap_count (form_of k) [] in
    let members : c.member_count.result ≡ min (member_number k fixed) greatest_count = c.member_count.ensures ∙ ap (member_number k) c.fixed_number-fixed.ensures ∙ member_number-min greatest_count k fixed in
    let inside : c.saturating_mul.result ≡ min (fixed * below) greatest_count = c.saturating_mul.ensures ∙ (λ i. min (c.fixed_number-fixed.ensures i * c.count_of_nothing-below.ensures i) greatest_count) ∙ product-min greatest_count fixed below in
    let more : c.saturating_add-2.result ≡ min (1 + below) greatest_count = omega (arith, c.saturating_add-2.ensures, c.count_of_nothing-below.ensures) in
    let filling : c.saturating_mul-2.result ≡ min (gaps * (1 + below)) greatest_count = c.saturating_mul-2.ensures ∙ (λ i. min (c.gap_count-gaps.ensures i * more i) greatest_count) ∙ product-min greatest_count gaps (1 + below) in
    let all : min (min (min (member_number k fixed) greatest_count + min (fixed * below) greatest_count) greatest_count + min (gaps * (1 + below)) greatest_count) greatest_count ≡ min ((member_number k fixed + fixed * below) + gaps * (1 + below)) greatest_count = omega arith in
    c.saturating_add-3.ensures ∙ (λ i. min ((c.saturating_add.ensures ∙ (λ j. min (members j + inside j) greatest_count)) i + filling i) greatest_count) ∙ all ∙ ap (λ n. min n greatest_count) (sym (nothing-level c.args.agg.now c.requires (nothing-stands-at c.args.agg.now)))

pub count_of_no_row-count_of_nothing-below-requires : goal.count_of_no_row-count_of_nothing-below-requires
count_of_no_row-count_of_nothing-below-requires t c = (omega (arith, c.decreases, children_less c.args.agg.now), (intervals-at c.args.agg.now c.requires).1)

pub count_of_no_row-gap_count-gaps-requires : goal.count_of_no_row-gap_count-gaps-requires
count_of_no_row-gap_count-gaps-requires t c = record { interval = (intervals-at c.args.agg.now c.requires).0; keys = no_keys (out-Agg c.args.agg.now).kind }

pub count_of_nothing-returns : goal.count_of_nothing-returns
count_of_nothing-returns t c =
    let counted : c.loop-agg.count ≡ nothing_from 0 (map tally c.args.aggs.now) = first_of (search rules, grind (arith, common_steps)) in
    counted ∙ nothing_from-min 0 (map tally c.args.aggs.now) ∙ ap (λ n. min n greatest_count) (zero-add _)
