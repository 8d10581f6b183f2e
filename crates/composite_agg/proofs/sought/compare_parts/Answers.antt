use Rattle.std.proofs.Common.{◌≡◌, ◌∙◌, ◌+◌, Equal, sym, ap, drop, rules}
use Rattle.std.specs.Prelude.{List, option_map}
use Rattle.agg_model.specs.declared.aggregation.CompositeSource.{CompositeSource}
use Rattle.bucket_order.specs.Composites.{any_parts_cmp, part_cmp}
use Rattle.composite_agg.specs.Odometer.{shown_key, shown_parts}
use Rattle.composite_agg.proofs.Shown.{got-item, other-then, parts-from, tie-then}
use Rattle.composite_agg.proofs.Steps.{drop-whole}
use Rattle.composite_agg.proofs.sought.compare_parts.Goals as goal

pub loop-place-preserved : goal.loop-place-preserved
loop-place-preserved c =
    let sources = c.args.sources.now in
    let parts = c.args.parts.now in
    let wheels = c.args.wheels.now in
    let i = c.loop-place.place in
    let s = c.index-sources-place.result in
    let part = got-item parts i c.get.result c.get.ensures.lookup in
    let wheel = got-item wheels i c.get-in-loop-place.result c.get-in-loop-place.ensures.lookup in
    let tie : c.compare_shown-ordering.result ≡ Equal = search rules in
    let own = sym (λ n. part_cmp s.descending (part n) (option_map shown_key (wheel n))) ∙ sym c.compare_shown-ordering.ensures ∙ tie in
    sym (parts-from sources parts wheels i s c.loop-place-test.true c.index-sources-place.is ∙ tie-then _ _ own) ∙ c.loop-place.invariant

pub returns-then-ne : goal.returns-then-ne
returns-then-ne c =
    let sources = c.args.sources.now in
    let parts = c.args.parts.now in
    let wheels = c.args.wheels.now in
    let i = c.loop-place.place in
    let s = c.index-sources-place.result in
    let part = got-item parts i c.get.result c.get.ensures.lookup in
    let wheel = got-item wheels i c.get-in-loop-place.result c.get-in-loop-place.ensures.lookup in
    let other : c.compare_shown-ordering.result ≡ Equal → ⊥ = search rules in
    let own = c.compare_shown-ordering.ensures ∙ (λ n. part_cmp s.descending (part n) (option_map shown_key (wheel n))) in
    own ∙ sym (other-then _ (any_parts_cmp (drop (i + 1) sources) (drop (i + 1) parts) (drop (i + 1) (shown_parts wheels))) (λ e. other (own ∙ e)))
    ∙ sym (parts-from sources parts wheels i s c.loop-place-test.true c.index-sources-place.is) ∙ c.loop-place.invariant

pub returns : goal.returns
returns c =
    let wheels = c.args.wheels.now in
    let i = c.loop-place.place in
    let none = drop-whole c.args.sources.now i c.loop-place-test.false in
    ap (λ (ss : List CompositeSource). any_parts_cmp ss (drop i c.args.parts.now) (drop i (shown_parts wheels))) (sym none) ∙ c.loop-place.invariant
