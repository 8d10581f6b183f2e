use Rattle.std.proofs.Common.{◌<◌, List, length, get_or, ◌∙◌, ap, subst, arith}
use Rattle.std.proofs.lemmas.List.{length_push, take_all}
use Rattle.agg_model.specs.declared.aggregation.Agg.{Agg, out-Agg}
use Rattle.filters_agg.proofs.MadeAggs.{kind-made, child-made}
use Rattle.growing_tree.specs.Readiness.{AreReadyFor}
use Rattle.growing_tree.specs.declared.ready.Ready.{Ready}
use Rattle.growing_tree.proofs.ReadyLaws.{child-smaller, made-ready, ready-more}
use Rattle.growing_tree.proofs.preparing.+prepare_within.Goals as goal

pub prepare_within-requires : goal.prepare_within-requires
prepare_within-requires t c =
    let agg = c.args.agg.now in
    let i = c.loop-child.child-index in
    let child = c.child-item.result in
    let children = c.as_slice-child-items.ensures in
    let within : i < length (out-Agg agg).children = subst (λ (cs : List Agg). i < length cs) children c.loop-child-test.true in
    let is = c.child-item.is ∙ ap (λ (cs : List Agg). get_or cs i child) children in
    (omega (arith, c.decreases, child-smaller agg i child within is), (c.requires.built, child-made c.args.shard.now agg i child c.requires.made within is))

pub loop-child-preserved : goal.loop-child-preserved
loop-child-preserved t c =
    let i = c.loop-child.child-index in
    let items = c.as_slice-child-items.result.now in
    let child = c.child-item.result in
    let before = c.loop-child.invariant in
    let pushed = c.in_ok-push.ensures.ok in (
    record {
      kind = before.kind;
      ready = ready-more c.args.shard.now items i child c.loop-child.children c.push.new.self c.in_ok-ready.ready c.loop-child-test.true c.child-item.is before.many pushed before.ready c.in_ok-ready.ensures.ready;
      many =
          let grown = ap (λ (rs : List Ready). length rs) pushed in
          let one = length_push c.loop-child.children c.in_ok-ready.ready in
          omega (arith, before.many);
    }
    )

pub prepare_kind-requires : goal.prepare_kind-requires
prepare_kind-requires t c = kind-made c.args.shard.now c.args.agg.now c.requires.made

pub returns : goal.returns
returns t c =
    let shard = c.args.shard.now in
    let items = c.as_slice-child-items.result.now in
    let all = take_all c.loop-child.child-index items c.loop-child-test.false ∙ c.as_slice-child-items.ensures in
    record {
      ready = made-ready shard c.args.agg.now (record { kind = c.loop-child.kind-1; table = c.table_of-table.result; child_bytes = c.in_ok-bytes.bytes; children = c.loop-child.children }) c.loop-child.invariant.kind c.in_ok-bytes.ensures
          (omega (arith, c.loop-child.invariant.many, c.loop-child-test.false, c.loop-child.auto.child-index-end, ap (λ (xs : List Agg). length xs) c.as_slice-child-items.ensures))
          (subst (λ (xs : List Agg). AreReadyFor shard xs c.loop-child.children) all c.loop-child.invariant.ready);
    }
