use Rattle.std.proofs.Common.{◌≡◌, ℕ, ◌-◌, ◌*◌, ◌<◌, min, ◌∷◌, [], false, sym, ap, ◌∙◌, subst, arith}
use Rattle.arrival_moves.specs.declared.item.Item.TheVariants.{Batch}
use Rattle.arrival_moves.specs.declared.plan.Plan.{Plan}
use Rattle.arrival_moves.specs.Labels.{no_label}
use Rattle.arrival_moves.specs.Lists.{numbers_from}
use Rattle.arrival_moves.specs.Plans.{batch_size, tasks_of}
use Rattle.arrival_moves.proofs.Words.{of_search_le}
use Rattle.arrival_table.proofs.OneItem.{claimed_has}
use Rattle.pool_results.proofs.Pooling.{shards-are}
use Rattle.pool_worker.proofs.Tasks.{task-count, task-search}
use Rattle.pool_worker.proofs.working.run_claimed.Goals as goal

pub take_task-load-requires-clause-claimed : goal.take_task-load-requires-clause-claimed
take_task-load-requires-clause-claimed g c = claimed_has c.args.task c.args.desk.now.view c.requires.claimed

pub run_or_skip-outcome-requires-clause-search : goal.run_or_skip-outcome-requires-clause-search
run_or_skip-outcome-requires-clause-search g c =
    let l = c.take_task-load.result in task-search g.J.PoolCall.pool c.args.size c.args.table.now.plan l.search l.shard c.args.task c.requires.plan l.task c.take_task-load.ensures.load

pub deliver-whole-requires-clause-search : goal.deliver-whole-requires-clause-search
deliver-whole-requires-clause-search g c =
    let l = c.take_task-load.result in task-search g.J.PoolCall.pool c.args.size c.args.table.now.plan l.search l.shard c.args.task c.requires.plan l.task c.take_task-load.ensures.load

-- the batch begins among the search's tasks, which are as many as the shards
module _ (plan : Plan) (size q b n : ℕ) (same : plan.batch ≡ size) (count : tasks_of plan q ≡ n) (real : b * plan.batch < tasks_of plan q) where
  begins : b * size < n
  begins = subst (λ m. b * size < m) count (subst (λ k. b * k < tasks_of plan q) same real)

  size-is : batch_size plan q b ≡ min size (n - b * size)
  size-is = (λ i. min (same i) (count i - b * same i))

pub batch_len-count-requires : goal.batch_len-count-requires
batch_len-count-requires g c =
    let p = g.J.PoolCall.pool in let plan = c.args.table.now.plan in let l = c.take_task-load.result in
    let n : tasks_of plan l.search ≡ c.len.result = task-count p c.args.size plan l.search c.requires.plan l.task.search ∙ shards-are c.args.index.now p c.requires.pool ∙ sym c.len.ensures in
    record { begins = begins plan c.args.size l.search c.in-Some.batch c.len.result (ap (λ (z : Plan). z.batch) c.requires.plan) n c.in-Some.ensures.batch }

pub merge-requires-clause-some : goal.merge-requires-clause-some
merge-requires-clause-some g c =
    let p = g.J.PoolCall.pool in let plan = c.args.table.now.plan in let l = c.take_task-load.result in
    let n : tasks_of plan l.search ≡ c.len.result = task-count p c.args.size plan l.search c.requires.plan l.task.search ∙ shards-are c.args.index.now p c.requires.pool ∙ sym c.len.ensures in
    let low = begins plan c.args.size l.search c.in-Some.batch c.len.result (ap (λ (z : Plan). z.batch) c.requires.plan) n c.in-Some.ensures.batch in
    let m : ℕ = c.in-Some.batch * c.args.size in let e = c.batch_len-count.ensures in let two = c.requires.batch in
    omega (arith, low, e, two)

pub merge-requires-clause-few : goal.merge-requires-clause-few
merge-requires-clause-few g c =
    let p = g.J.PoolCall.pool in let plan = c.args.table.now.plan in let l = c.take_task-load.result in
    let n : tasks_of plan l.search ≡ c.len.result = task-count p c.args.size plan l.search c.requires.plan l.task.search ∙ shards-are c.args.index.now p c.requires.pool ∙ sym c.len.ensures in
    let low = begins plan c.args.size l.search c.in-Some.batch c.len.result (ap (λ (z : Plan). z.batch) c.requires.plan) n c.in-Some.ensures.batch in
    let m : ℕ = c.in-Some.batch * c.args.size in let e = c.batch_len-count.ensures in
    let all = of_search_le l.search plan.tasks in let few = c.requires.few in
    omega (arith, low, e, n, all, few)

pub merge-requires-clause-held : goal.merge-requires-clause-held
merge-requires-clause-held g c =
    let p = g.J.PoolCall.pool in let plan = c.args.table.now.plan in let l = c.take_task-load.result in let b = c.in-Some.batch in
    let n : tasks_of plan l.search ≡ c.len.result = task-count p c.args.size plan l.search c.requires.plan l.task.search ∙ shards-are c.args.index.now p c.requires.pool ∙ sym c.len.ensures in
    let same : plan.batch ≡ c.args.size = ap (λ (z : Plan). z.batch) c.requires.plan in
    let size = size-is plan c.args.size l.search b c.len.result same n c.in-Some.ensures.batch ∙ sym c.batch_len-count.ensures in
    c.in-Some.ensures.last ∙ (λ i. Batch (record { search = l.search; batch = b; due = numbers_from (b * same i) (size i); taken = no_label; at_slot = false }) ∷ [])
