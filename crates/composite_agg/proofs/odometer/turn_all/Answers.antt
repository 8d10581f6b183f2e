use Rattle.std.proofs.Common.{◌≡◌, ◌∙◌, ◌-◌, suc, length, vec_len, sym, subst, arith}
use Rattle.composite_agg.proofs.Turning.{IsTurnedTo, ended-at, not-turned, turned-at}
use Rattle.composite_agg.proofs.odometer.turn_all.Goals as goal

pub loop-left-init : goal.loop-left-init
loop-left-init c =
    let ws = c.args.wheels.now in
    let whole : length ws.items ≡ vec_len ws = omega (arith, ws.ok.0) in
    subst (IsTurnedTo ws.items ws.items) (whole ∙ sym c.len-left.ensures) (not-turned ws.items)

pub loop-left-preserved : goal.loop-left-preserved
loop-left-preserved c =
    let old = c.args.wheels.now.items in
    let now = c.loop-left.wheels.items in
    let left = c.loop-left.left in
    let some = c.loop-left-test.true in
    let next : left ≡ suc (left - 1) = omega (arith, some) in
    let t = subst (IsTurnedTo old now) next c.loop-left.invariant in
    ended-at old now (left - 1) t c.index_mut.result.now c.turn.new.wheel c.index_mut.ensures.value c.turn.ensures.kept (c.turn.ensures.last c.if-turn.false) (c.turn.ensures.again c.if-turn.false)

pub returns-then-turn-clause-next : goal.returns-then-turn-clause-next
returns-then-turn-clause-next c says =
    let old = c.args.wheels.now.items in
    let now = c.loop-left.wheels.items in
    let left = c.loop-left.left in
    let some = c.loop-left-test.true in
    let next : left ≡ suc (left - 1) = omega (arith, some) in
    let t = subst (IsTurnedTo old now) next c.loop-left.invariant in
    turned-at old now (left - 1) t c.index_mut.result.now c.turn.new.wheel c.index_mut.ensures.value c.turn.ensures.kept (c.turn.ensures.next c.if-turn.true)
