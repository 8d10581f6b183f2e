use Rattle.std.proofs.Common.{◌≡◌, ◌+◌, ◌<◌, ℕ, ◌∙◌, ap, arith, length, get_or}
use Rattle.std.proofs.lemmas.List.{get_or-set_other, get_or_read, length-set}
use Rattle.collect_tree.proofs.Changes.{set-more}
use Rattle.collect_tree.proofs.growth.add_up.Goals as goal

pub loop-place-preserved : goal.loop-place-preserved
loop-place-preserved c =
    let place = c.loop-place.place in
    let was = c.args.added.now.items in
    let now = c.loop-place.added.items in
    let more = c.in_ok-more.more in
    let below : place < length was = omega (arith, c.loop-place-test.true, c.len-place-end.ensures, c.args.added.now.ok) in
    let within : place < length now = omega (arith, below, c.loop-place.invariant.many) in
    let old = c.loop-place.invariant.rest place (omega arith) in
    let read = get_or_read now place c.index.result.now within c.index.ensures 0 in
    let next : (cost_at : ℕ → ℕ) → c.args.cost ≡ cost_at 0 → ((n : ℕ) → n < length was → cost_at n + get_or was n 0 ≡ get_or c.args.removed.now n 0 + cost_at (n + 1)) → more ≡ cost_at (place + 1) = λ cost_at start steps.
    (let here = c.loop-place.invariant.last cost_at start steps in
    let step = steps place below in
    let change = c.in_ok-more.ensures in
    omega (arith, here, step, change, old, read)) in
    (record {
      many = length-set now place more ∙ c.loop-place.invariant.many;
      rest = λ n above. get_or-set_other now place n more 0 (λ (same : n ≡ place). omega arith) ∙ c.loop-place.invariant.rest n (omega (arith, above));
      last = next;
      costs = λ cost_at start steps. set-more (λ n. cost_at (n + 1)) now place more within (next cost_at start steps) (c.loop-place.invariant.costs cost_at start steps);
    })

pub returns-clause-costs : goal.returns-clause-costs
returns-clause-costs c =
    let all : length c.args.added.now.items ≡ c.loop-place.place = omega (arith, c.loop-place-test.false, c.loop-place.auto.place-end, c.len-place-end.ensures, c.args.added.now.ok) in
    λ cost_at start steps n below. c.loop-place.invariant.costs cost_at start steps n (omega (arith, below, all))

pub returns-clause-last : goal.returns-clause-last
returns-clause-last c =
    let all : c.loop-place.place ≡ length c.args.added.now.items = omega (arith, c.loop-place-test.false, c.loop-place.auto.place-end, c.len-place-end.ensures, c.args.added.now.ok) in
    λ cost_at start steps. c.loop-place.invariant.last cost_at start steps ∙ ap cost_at all
