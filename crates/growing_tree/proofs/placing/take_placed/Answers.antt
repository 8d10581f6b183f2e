use Rattle.std.proofs.Common.{sym, ◌∙◌, ap, arith, ◌<◌, ◌+◌, ◌∷◌, [], length, take, get_or, set}
use Rattle.std.proofs.lemmas.Option.{slice_get-get_or}
use Rattle.agg_evaluation.specs.Rows.{row_of}
use Rattle.growing_tree.specs.Placements.{counts_with, taken_with}
use Rattle.growing_tree.specs.Measures.{metrics_at}
use Rattle.growing_tree.specs.declared.placing.Placement.{Placement}
use Rattle.growing_tree.proofs.Placements.{counted-more, one-is, taken-more, taken-same}
use Rattle.growing_tree.proofs.Steps.{take-more}
use Rattle.growing_tree.proofs.placing.take_placed.Goals as goal

pub loop-place-preserved : goal.loop-place-preserved
loop-place-preserved c =
    let aggs = c.args.aggs.now in
    let row_at = row_of c.args.shard.now.rows in
    let placements = c.args.placements.now in
    let i = c.loop-place.place in
    let none : Placement = record { row = 0; place = 0 } in
    let placement = get_or placements i none in
    let below : i < length placements = omega (arith, c.loop-place-test.true) in
    let next = take-more placements i placement (slice_get-get_or placements i none below) in
    let took = c.in_ok-take_measured.ensures in
    let first = metrics_at c.args.columns.now.items in
    let before = metrics_at c.loop-place.columns.items in
    let after = metrics_at c.take_measured.new.columns.items in
    let counts = c.args.counts.now.items in
    record {
      counts = took.count ∙ ap (λ ns. set ns placement.place (get_or ns placement.place 0 + 1)) c.loop-place.invariant.counts ∙ sym (ap (λ hs. counts_with hs counts) next ∙ counted-more (take i placements) placement counts);
      metrics = λ n.
          one-is aggs row_at placement before after took.here took.others n
          ∙ taken-same aggs row_at (placement ∷ []) (taken_with aggs row_at (take i placements) first) before c.loop-place.invariant.metrics n
          ∙ sym (ap (λ hs. taken_with aggs row_at hs first n) next ∙ taken-more aggs row_at (take i placements) placement first n);
    }
