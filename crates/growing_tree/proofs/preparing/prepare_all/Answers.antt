use Rattle.std.proofs.Common.{◌<◌, List, length, ◌∙◌, ap, arith, subst, sym, get_or}
use Rattle.std.proofs.lemmas.List.{length_push, take_all}
use Rattle.agg_model.specs.declared.aggregation.Agg.{Agg}
use Rattle.shard_columns.specs.Made.{IsAggFor}
use Rattle.growing_tree.specs.Readiness.{AreReadyFor}
use Rattle.growing_tree.specs.declared.ready.Ready.{Ready}
use Rattle.growing_tree.proofs.ReadyLaws.{ready-more}
use Rattle.growing_tree.proofs.preparing.prepare_all.Goals as goal

pub prepare_within-requires-clause-made : goal.prepare_within-requires-clause-made
prepare_within-requires-clause-made c =
    let i = c.loop-agg.agg-index in
    let agg = c.agg-item.result in
    let aggs = c.as_slice-agg-items.ensures in
    let within : i < length c.args.aggs.now = subst (λ (xs : List Agg). i < length xs) aggs c.loop-agg-test.true in
    subst (IsAggFor c.args.shard.now) (sym (c.agg-item.is ∙ ap (λ (xs : List Agg). get_or xs i agg) aggs)) (c.requires.made i agg within)

pub loop-agg-preserved : goal.loop-agg-preserved
loop-agg-preserved c =
    let i = c.loop-agg.agg-index in
    let items = c.as_slice-agg-items.result.now in
    let before = c.loop-agg.invariant in
    let pushed = c.in_ok-push.ensures.ok in (
    record {
      ready = ready-more c.args.shard.now items i c.agg-item.result c.loop-agg.all c.push.new.self c.in_ok-ready.ready c.loop-agg-test.true c.agg-item.is before.many pushed before.ready c.in_ok-ready.ensures.ready;
      many =
          let grown = ap (λ (rs : List Ready). length rs) pushed in
          let one = length_push c.loop-agg.all c.in_ok-ready.ready in
          omega (arith, before.many);
    }
    )

pub returns : goal.returns
returns c =
    let items = c.as_slice-agg-items.result.now in
    let all = take_all c.loop-agg.agg-index items c.loop-agg-test.false ∙ c.as_slice-agg-items.ensures in
    record {
      ready = subst (λ (xs : List Agg). AreReadyFor c.args.shard.now xs c.loop-agg.all) all c.loop-agg.invariant.ready;
      many = omega (arith, c.loop-agg.invariant.many, c.loop-agg-test.false, c.loop-agg.auto.agg-index-end, ap (λ (xs : List Agg). length xs) c.as_slice-agg-items.ensures);
    }
