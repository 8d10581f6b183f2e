use Rattle.std.proofs.Common.{◌≡◌, refl, ◌+◌, ◌<◌, ℕ, pos, length, take, get_or, sym, ◌∙◌, ap, subst, arith}
use Rattle.std.specs.Prelude.{◌-ℤ◌, Some}
use Rattle.std.proofs.lemmas.Result.{err_from_is_err_and}
use Rattle.agg_evaluation.specs.Cost.{cost}
use Rattle.agg_evaluation.specs.Trace.{built}
use Rattle.growth_laws.specs.Amounts.{amounts, row_count}
use Rattle.task_charges.specs.Charged.{HasPaid}
use Rattle.collect_tree.specs.Blocks.{before_root}
use Rattle.collect_tree.specs.Room.{HoldsTask}
use Rattle.collect_tree.specs.Stops.{PaysOn}
use Rattle.collect_tree.proofs.Amounting.{held-sum, next-amount, paid-next, stopped-next}
use Rattle.collect_tree.proofs.Rooms.{low, tree-room}
use Rattle.collect_tree.proofs.charging.charge_block.Goals as goal

pub overflow_add-wanted : goal.overflow_add-wanted
overflow_add-wanted c =
    let shard = c.args.shard.now in
    let search = c.args.search.now in
    let n = before_root search shard.rows c.args.phase c.args.first + c.loop-place.place in
    let is = c.requires.costs.each c.loop-place.place (omega (arith, c.loop-place-test.true)) in
    let tree = tree-room shard search c.requires.made c.requires.held.ceiling c.requires.held.is (n + 1) in
    let top = low shard search c.requires.made c.requires.held.ceiling c.requires.held.is in
    omega (arith, is, tree, top)

pub settle_change-requires-clause-room : goal.settle_change-requires-clause-room
settle_change-requires-clause-room c =
    let shard = c.args.shard.now in
    let search = c.args.search.now in
    let holds = c.loop-place.invariant.holds in
    let n = before_root search shard.rows c.args.phase c.args.first + c.loop-place.place in
    let is = c.loop-place.invariant.held_is in
    let is_next = c.requires.costs.each c.loop-place.place (omega (arith, c.loop-place-test.true)) in
    let tree = tree-room shard search c.requires.made holds.ceiling holds.is n in
    let next = tree-room shard search c.requires.made holds.ceiling holds.is (n + 1) in
    omega (arith, is, is_next, tree, next, holds.fits)

pub loop-place-init : goal.loop-place-init
loop-place-init c =
    let shard = c.args.shard.now in
    let search = c.args.search.now in
    let n = before_root search shard.rows c.args.phase c.args.first in
    let none : n ≡ n + 0 = omega arith in
    record {
      of = c.requires.of;
      rest = c.requires.rest;
      cap = refl;
      held_is = c.requires.before ∙ ap (λ (k : ℕ). 4096 + cost (built search shard.rows k)) none;
      holds = c.requires.held;
      paid = subst (λ (k : ℕ). PaysOn c.args.words.now.limits (amounts search shard.rows) n k c.args.pass.now.view c.args.pass.now.view) none (λ v paid. paid);
    }

pub loop-place-preserved : goal.loop-place-preserved
loop-place-preserved c =
    let shard = c.args.shard.now in
    let search = c.args.search.now in
    let l = c.args.words.now.limits in
    let inv = c.loop-place.invariant in
    let start = before_root search shard.rows c.args.phase c.args.first in
    let n = start + c.loop-place.place in
    let below : c.loop-place.place < length c.args.costs.now = omega (arith, c.loop-place-test.true) in
    let within : n < row_count search shard.rows = omega (arith, below, c.requires.within) in
    let is_next = c.requires.costs.each c.loop-place.place below in
    let wanted = 4096 + get_or c.args.costs.now c.loop-place.place 0 in
    let settled = c.in_ok-settle_change.ensures in
    let here = next-amount search shard.rows n within ∙ (λ i. Some (pos (4096 + sym is_next i) -ℤ pos (sym inv.held_is i))) in
    let later : n + 1 ≡ start + (c.loop-place.place + 1) = omega arith in
    record {
      of = settled.of;
      rest = settled.trial;
      cap = settled.cap ∙ inv.cap;
      held_is = ap (λ (k : ℕ). 4096 + k) is_next ∙ ap (λ (k : ℕ). 4096 + cost (built search shard.rows k)) later;
      holds = record {
        holds = let held = settled.held in let was = inv.holds.holds in omega (arith, held, was);
        ceiling = inv.holds.ceiling;
        is = inv.holds.is;
        fits = let held = settled.held_at_parent in let was = inv.holds.fits in omega (arith, held, was, settled.cap);
      };
      paid = λ v paid. subst (λ (k : ℕ). HasPaid l v c.settle_change.new.pass.view (take (k + 1) (amounts search shard.rows))) later
          (paid-next l c.loop-place.pass.view c.settle_change.new.pass.view (amounts search shard.rows) (n + 1) c.loop-place.held wanted here settled.ok v (inv.paid v paid));
    }

pub returns-in_err-settle_change-clause-stopped : goal.returns-in_err-settle_change-clause-stopped
returns-in_err-settle_change-clause-stopped c =
    let shard = c.args.shard.now in
    let search = c.args.search.now in
    let l = c.args.words.now.limits in
    let inv = c.loop-place.invariant in
    let n = before_root search shard.rows c.args.phase c.args.first + c.loop-place.place in
    let below : c.loop-place.place < length c.args.costs.now = omega (arith, c.loop-place-test.true) in
    let within : n < row_count search shard.rows = omega (arith, below, c.requires.within) in
    let is_next = c.requires.costs.each c.loop-place.place below in
    let wanted = 4096 + get_or c.args.costs.now c.loop-place.place 0 in
    let here = next-amount search shard.rows n within ∙ (λ i. Some (pos (4096 + sym is_next i) -ℤ pos (sym inv.held_is i))) in
    let p = err_from_is_err_and c.from_residual.result c.from_residual.ensures.1 in
    rw (p.1, p.2) (λ v paid. stopped-next l c.loop-place.pass.view c.settle_change.new.pass.view (amounts search shard.rows) (n + 1) c.loop-place.held wanted here _ c.in_err-settle_change.ensures.err
    (ap pos inv.held_is ∙ held-sum search shard.rows n (omega (arith, within))) v (inv.paid v paid))

pub returns-clause-held : goal.returns-clause-held
returns-clause-held c =
    let shard = c.args.shard.now in
    let search = c.args.search.now in
    let inv = c.loop-place.invariant in
    let start = before_root search shard.rows c.args.phase c.args.first in
    let end : start + c.loop-place.place ≡ start + length c.args.costs.now = omega (arith, c.loop-place-test.false, c.loop-place.auto.place-end) in
    subst (λ (h : ℕ). HoldsTask shard search h c.loop-place.pass.view) (inv.held_is ∙ ap (λ (k : ℕ). 4096 + cost (built search shard.rows k)) end) inv.holds

pub returns-clause-paid : goal.returns-clause-paid
returns-clause-paid c =
    let shard = c.args.shard.now in
    let search = c.args.search.now in
    let start = before_root search shard.rows c.args.phase c.args.first in
    let end : start + c.loop-place.place ≡ start + length c.args.costs.now = omega (arith, c.loop-place-test.false, c.loop-place.auto.place-end) in
    subst (λ (k : ℕ). PaysOn c.args.words.now.limits (amounts search shard.rows) start k c.args.pass.now.view c.loop-place.pass.view) end c.loop-place.invariant.paid
