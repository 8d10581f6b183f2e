use Rattle.std.proofs.Common.{◌<◌, ◌∙◌, ap, arith, rules, get_or, length}
use Rattle.std.specs.Prelude.{IsTrue}
use Rattle.growing_tree.specs.Steady.{is_simple as is_simple_agg}
use Rattle.growing_tree.proofs.Steady.{simple-all, simple-more}
use Rattle.growing_tree.proofs.Steps.{item-at}
use Rattle.growing_tree.proofs.beneath_roots.are_simple.Goals as goal

pub loop-place-init : goal.loop-place-init
loop-place-init c = λ n a r below. absurd (omega arith)

pub loop-place-preserved : goal.loop-place-preserved
loop-place-preserved c =
    let place = c.loop-place.place in
    let a = c.index-as_slice-place.result in
    let r = c.index-as_slice-place-in-loop-place.result in
    let below : place < length c.args.aggs.now = omega (arith, c.loop-place-test.true, c.len-place-end.ensures) in
    let there : place < length c.args.ready.now = omega (arith, c.if-place-len.false, c.len.ensures) in
    let a_get = c.index-as_slice-place.is ∙ ap (λ xs. get_or xs place a) c.as_slice.ensures in
    let r_get = c.index-as_slice-place-in-loop-place.is ∙ ap (λ xs. get_or xs place r) c.as_slice-in-loop-place.ensures in
    let simple : IsTrue (is_simple_agg a r) = search rules in
    simple-more c.args.aggs.now c.args.ready.now place a r (item-at c.args.aggs.now place a below a_get) (item-at c.args.ready.now place r there r_get) simple c.loop-place.invariant

pub returns : goal.returns
returns c = λ yes. simple-all c.args.aggs.now c.args.ready.now c.loop-place.place (omega (arith, c.loop-place-test.false, c.len-place-end.ensures)) c.loop-place.invariant
