use Rattle.std.proofs.Common.{◌≡◌, ◌<◌, sym, ap, subst, ◌∙◌, List, slice_index_or}
use Rattle.pipeline_agg.specs.declared.summaries.Known.{Known}
use Rattle.search_equality.proofs.EqualPipes.{kind-one}
use Rattle.pipeline_agg.proofs.SummaryLaws.{read-same}
use Rattle.pipeline_agg.proofs.summaries.Siblings.find.Goals as goal

pub loop-place-init : goal.loop-place-init
loop-place-init c = c.deref-known-items.ensures.value

pub returns-then-eq-clause-kind : goal.returns-then-eq-clause-kind
returns-then-eq-clause-kind c d =
    let item = c.known-item.result in
    let is = kind-one item.kind.now c.args.kind.now (sym c.eq.ensures ∙ c.if-eq.true) in
    ap (λ (k : Known). k.kind.now) (ap (λ (ks : List Known). slice_index_or ks c.loop-place.place d) (sym c.loop-place.invariant)
    ∙ read-same c.deref-known-items.result.now c.loop-place.place d item c.loop-place-test.true ∙ sym c.known-item.is) ∙ is

pub loop-place-preserved : goal.loop-place-preserved
loop-place-preserved c = c.loop-place.invariant
