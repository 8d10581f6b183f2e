use Rattle.std.proofs.Common.{◌≡◌, ◌∙◌, sym, ap, subst, length, drop, Equal, rules}
use Rattle.agg_evaluation.specs.CompositeKeys.{is_composite_of}
use Rattle.std.specs.Prelude.{T, ◌==◌}
use Rattle.std.specs.Ordering.{ordering_index}
use Rattle.std.proofs.lemmas.Bool.{false≢true}
use Rattle.composite_agg.proofs.Steps.{drop-at}
use Rattle.list_laws.proofs.Booleans.{holds, true_is}
use Rattle.composite_agg.specs.InOrder.{page_cmp}
use Rattle.composite_agg.proofs.PageSteps.{tied}
use Rattle.composite_agg.proofs.InOrder.{after_all, order-drop}
use Rattle.composite_agg.proofs.PlaceOrder.{at}
use Rattle.composite_agg.proofs.places.find.Goals as goal

pub returns-then-eq-clause-found : goal.returns-then-eq-clause-found
returns-then-eq-clause-found g c =
    let sources = c.args.sources.now in
    let xs = c.args.items.now in
    let i = c.place_of-place.result in
    let l = c.in-Some.ensures.lookup in
    let tie : page_cmp sources (g.T.HasKey.key_of c.in-Some.item.now) (g.K.Sought.sought c.args.key.now) ≡ Equal = search rules in
    let parts = true_is _ (subst (λ x. T (is_composite_of (length sources) (g.T.HasKey.key_of x))) (sym l.1) (at (λ x. is_composite_of (length sources) (g.T.HasKey.key_of x)) xs i c.in-Some.item.now l.3.0 (holds _ c.requires.parts))) in
    let same = tied sources (g.T.HasKey.key_of c.in-Some.item.now) (g.K.Sought.sought c.args.key.now) parts c.requires.key_parts tie in
    (l.3.0, λ d. ap g.T.HasKey.key_of (sym (l.3.1 d)) ∙ same)

pub returns-else-eq-clause-absent : goal.returns-else-eq-clause-absent
returns-else-eq-clause-absent g c =
    let sources = c.args.sources.now in
    let xs = c.args.items.now in
    let i = c.place_of-place.result in
    let l = c.in-Some.ensures.lookup in
    let front = drop-at xs i c.in-Some.item.now l.3.0 l.1 in
    let other : page_cmp sources (g.T.HasKey.key_of c.in-Some.item.now) (g.K.Sought.sought c.args.key.now) ≡ Equal → ⊥ = (λ tie. false≢true (sym c.if-eq.false ∙ c.eq.ensures ∙ ap (λ o. ordering_index o == 1) (c.compare.ensures ∙ ap (λ k. page_cmp sources k (g.K.Sought.sought c.args.key.now)) c.key.ensures ∙ tie))) in (
      c.place_of-place.ensures.within,
      c.place_of-place.ensures.before,
      true_is _ (after_all g.T.HasKey.key_of sources (g.K.Sought.sought c.args.key.now) (drop i xs) (order-drop g.T.HasKey.key_of sources xs i c.requires.order) c.place_of-place.ensures.behind
          (λ x rest e tie. let first : x ≡ c.in-Some.item.now = cc (e, front) in other (ap (λ y. page_cmp sources (g.T.HasKey.key_of y) (g.K.Sought.sought c.args.key.now)) (sym first) ∙ tie))),
    )
