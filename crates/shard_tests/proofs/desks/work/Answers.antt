use Rattle.std.proofs.Common.{◌≡◌, ℕ, ◌*◌, ◌-◌, ◌<◌, ◌≤◌, ap, ◌∙◌, arith}
use Rattle.std.proofs.Math.Nat.{min-le_left}
use Rattle.arrival_moves.specs.declared.plan.Plan.{Plan}
use Rattle.arrival_moves.specs.Plans.{IsPlan, tasks_of, batch_size}
use Rattle.arrival_moves.proofs.BatchRanges.{batch_some}
use Rattle.arrival_moves.proofs.Words.{of_search_le}
use Rattle.shard_tests.proofs.desks.work.Goals as goal

pub merge-requires-clause-range : goal.merge-requires-clause-range
merge-requires-clause-range c = let p : Plan = c.args.table.now.plan in let b = c.in-Some-last.batch in let q = c.search_of-search.result in let real = c.in-Some-last.ensures.batch in let two = c.requires.two in let good : IsPlan p = c.requires.whole in let few = good.few in
    let bn : ℕ = b * p.batch in let begins : bn < tasks_of p q = real in let twice : bn ≡ b * 2 = ap (λ n. b * n) two in let all = of_search_le q p.tasks in let some_one = batch_some p good q b real in
    let size : c.size_of.result ≡ batch_size p q b = c.size_of.ensures ∙ ap (λ (z : Plan). batch_size z q b) c.requires.plan in
    let most : batch_size p q b ≤ p.batch = min-le_left p.batch (tasks_of p q - bn) in (omega arith, omega arith, omega arith)
