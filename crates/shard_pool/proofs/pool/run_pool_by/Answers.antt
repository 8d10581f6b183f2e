use Rattle.std.specs.Prelude.{◌≡◌, refl, ◌*◌, length, sum, sum_by}
use Rattle.std.proofs.Common.{sym, ap, subst, ◌∙◌, arith}
use Rattle.shard_pool.proofs.Plans.{plan-known}
use Rattle.shard_pool.specs.Closed.{IsPlanOf}
use Rattle.shard_pool.specs.Desks.{claims_of}
use Rattle.shard_pool.specs.Ends.{HasRun, over_tasks}
use Rattle.shard_pool.proofs.Knowing.{pool-known}
use Rattle.pool_results.specs.Pools.{ceiling_at}
use Rattle.shard_pool.proofs.Running.{ceiling-count, ceilings-over-tasks, desks-back, pool-over, run-from, same-claims}
use Rattle.shard_pool.specs.PoolOf.{pool_of}
use Rattle.shard_pool.proofs.pool.run_pool_by.Goals as goal

pub open_pool-requires-clause-number : goal.open_pool-requires-clause-number
open_pool-requires-clause-number g c =
    let p = pool_of c.args.words.now c.args.index.now c.args.searches.now c.args.ceilings.now in
    let is = pool-over c.args.words.now c.args.index.now c.args.searches.now c.args.ceilings.now p refl c.requires.made c.requires.ceilings in
    ap length c.as_slice.ensures ∙ ceiling-count c.args.index.now p is ∙ (λ i. sym c.len-2.ensures i * sym c.len-3.ensures i)

pub work_all-requires-clause-fits : goal.work_all-requires-clause-fits
work_all-requires-clause-fits g c κs within =
    pool-known c.args.index.now g.J.PoolCall.pool
    (pool-over c.args.words.now c.args.index.now c.args.searches.now c.args.ceilings.now g.J.PoolCall.pool c.requires.pool c.requires.made c.requires.ceilings)

pub close_pool-requires-clause-plan : goal.close_pool-requires-clause-plan
close_pool-requires-clause-plan g c =
    let p = g.J.PoolCall.pool in
    subst (λ plan. IsPlanOf p plan.batch plan) (sym c.in_ok-table.ensures.plan) (plan-known p c.args.size)

pub close_pool-requires-clause-cap : goal.close_pool-requires-clause-cap
close_pool-requires-clause-cap g c =
    let p = g.J.PoolCall.pool in
    let is = pool-over c.args.words.now c.args.index.now c.args.searches.now c.args.ceilings.now p c.requires.pool c.requires.made c.requires.ceilings in
    let all : over_tasks p (ceiling_at p) ≡ sum c.args.ceilings.now = ceilings-over-tasks c.args.index.now p is ∙ ap (λ q. sum q.ceilings) c.requires.pool in
    let same : sum c.as_slice.result.now ≡ sum c.args.ceilings.now = ap sum c.as_slice.ensures in
    let cap = ap (λ (m : _). m.view.cap) c.in_ok-table.ensures.lent in
    let total = ap (λ (m : _). m.view.total) c.in_ok-table.ensures.lent in
    let whole = c.requires.whole in
    let left = c.requires.left in
    omega (arith, all, same, cap, total, whole, left)

pub close_pool-requires-clause-claims : goal.close_pool-requires-clause-claims
close_pool-requires-clause-claims g c =
    let olds = c.as_mut_slice.result.now in
    let news = c.work_all.new.desks in
    let number : length news ≡ length olds = c.work_all.ensures.number in
    ap (sum_by claims_of) (desks-back c.in_ok-table.field-0.desks.len c.in_ok-table.field-0.desks.items news (number ∙ c.as_mut_slice.ensures.len))
    ∙ same-claims c.in_ok-table.field-0.table olds news number c.work_all.ensures.worked
    ∙ ap (sum_by claims_of) c.as_mut_slice.ensures.value
    ∙ c.in_ok-table.ensures.claims

pub returns-clause-run : goal.returns-clause-run
returns-clause-run g c =
    let p = g.J.PoolCall.pool in
    let size = ap (λ plan. plan.batch) c.in_ok-table.ensures.plan in
    let new = c.close_pool.new.pass in
    let ends = c.close_pool.result in
    run-from p c.args.size c.args.pass.now new (sum c.as_slice.result.now) ends
    (subst (λ o. HasRun p c.args.size o new ends) c.in_ok-table.ensures.lent
    (subst (λ b. HasRun p b c.open_pool.new.pass new ends) size c.close_pool.ensures.run))
