use Rattle.std.proofs.Common.{◌≡◌, ◌∙◌, refl, sym, ap, map, min, arith}
use Rattle.std.specs.Prelude.{Some, option_map, string_bytes}
use Rattle.agg_evaluation.specs.Trees.{pass_each}
use Rattle.agg_evaluation.proofs.MadeSearches.{made_intervals}
use Rattle.agg_spec.specs.BucketCount.{counter, count_each, greatest_count, total_buckets}
use Rattle.agg_spec.specs.Final.{final, finisher, finish_each}
use Rattle.agg_spec.specs.RangeCheck.{checker, check_each, first_path}
use Rattle.final_reduce.specs.Standing.{builder, is_standing}
use Rattle.final_reduce.proofs.CutAgrees.{standing-answers, standing-stands}
use Rattle.final_reduce.proofs.TallyLaws.{tally-each}
use Rattle.final_reduce.proofs.finishing.finish.Goals as goal

pub count_each-count-requires : goal.count_each-count-requires
count_each-count-requires c =
    let aggs = c.args.search.now.aggs in
    record {
      intervals = made_intervals c.args.search.now c.requires.made;
      nodes = ap (pass_each (map is_standing aggs)) c.in_ok-standing.ensures ∙ standing-stands aggs c.args.whole.nodes c.requires.whole;
    }

pub finish_each-requires : goal.finish_each-requires
finish_each-requires c =
    let aggs = c.args.search.now.aggs in
    record {
      intervals = made_intervals c.args.search.now c.requires.made;
      nodes = ap (pass_each (map is_standing aggs)) c.in_ok-standing.ensures ∙ standing-stands aggs c.args.whole.nodes c.requires.whole;
    }

pub returns-then-count-max_buckets-clause-fault : goal.returns-then-count-max_buckets-clause-fault
returns-then-count-max_buckets-clause-fault c =
    let aggs = c.args.search.now.aggs in
    let built = ap (finish_each (map builder aggs)) c.in_ok-standing.ensures ∙ standing-answers aggs c.args.whole.nodes in
    let count : c.count_each-count.result ≡ total_buckets c.args.search.now (final c.args.search.now c.args.whole) = c.count_each-count.ensures ∙ ap (λ n. min n greatest_count) (tally-each aggs c.in_ok-standing.standing ∙ ap (count_each (map counter aggs)) built) in
    (count, refl, omega (arith, count, c.if-count-max_buckets.true))

pub returns-in-Some-clause-fault : goal.returns-in-Some-clause-fault
returns-in-Some-clause-fault c =
    let aggs = c.args.search.now.aggs in
    let built = ap (finish_each (map builder aggs)) c.in_ok-standing.ensures ∙ standing-answers aggs c.args.whole.nodes in
    let count : c.count_each-count.result ≡ total_buckets c.args.search.now (final c.args.search.now c.args.whole) = c.count_each-count.ensures ∙ ap (λ n. min n greatest_count) (tally-each aggs c.in_ok-standing.standing ∙ ap (count_each (map counter aggs)) built) in
    let nodes : c.in_ok-nodes.nodes ≡ finish_each (map finisher aggs) c.args.whole.nodes = c.in_ok-nodes.ensures ∙ built in (
      omega (arith, count, c.if-count-max_buckets.false),
      ap (λ ns. first_path (check_each (map checker aggs) ns)) (sym nodes) ∙ sym c.in_ok-path.ensures ∙ ap (option_map string_bytes) c.in-Some.is ∙ ap Some (sym c.from_string.ensures),
    )

pub returns-clause-answer : goal.returns-clause-answer
returns-clause-answer c =
    let aggs = c.args.search.now.aggs in
    let built = ap (finish_each (map builder aggs)) c.in_ok-standing.ensures ∙ standing-answers aggs c.args.whole.nodes in
    λ i. record { hits = c.args.whole.hits; nodes = (c.in_ok-nodes.ensures ∙ built) i }

pub returns-clause-within_limits : goal.returns-clause-within_limits
returns-clause-within_limits c =
    let aggs = c.args.search.now.aggs in
    let built = ap (finish_each (map builder aggs)) c.in_ok-standing.ensures ∙ standing-answers aggs c.args.whole.nodes in
    let count : c.count_each-count.result ≡ total_buckets c.args.search.now (final c.args.search.now c.args.whole) = c.count_each-count.ensures ∙ ap (λ n. min n greatest_count) (tally-each aggs c.in_ok-standing.standing ∙ ap (count_each (map counter aggs)) built) in
    let same = ap (λ ns. min (count_each (map counter aggs) ns) greatest_count) (c.in_ok-nodes.ensures ∙ built) in
    (omega (arith, count, same, c.if-count-max_buckets.false), sym c.in_ok-path.ensures ∙ ap (option_map string_bytes) c.in_default.is)
