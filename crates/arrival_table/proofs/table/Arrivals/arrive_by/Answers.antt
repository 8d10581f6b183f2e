use Rattle.std.proofs.Common.{rules, arith, suc, ◌+◌, ◌<◌, ◌≤◌, sym, subst, ◌≡◌}
use Rattle.arrival_moves.specs.declared.limits.TheConstants.{MAX_TASKS}
use Rattle.arrival_moves.specs.declared.plan.Plan.{Plan}
use Rattle.arrival_moves.specs.Plans.{search_of, task_count}
use Rattle.arrival_moves.proofs.Words.{of_search_le}
use Rattle.arrival_table.proofs.Allowed.{allows_arrive_at}
use Rattle.arrival_table.proofs.table.Arrivals.arrive_by.Goals as goal

pub fetch_add-ticket-requires : goal.fetch_add-ticket-requires
fetch_add-ticket-requires g c = let s : c.search_of.result ≡ search_of c.self.inside.places c.args.task = search rules in let v = c.self.invariant.1.tasks c.args.task (search rules) in let w : 1 + c.search_of.result ≡ suc (search_of c.self.inside.places c.args.task) = omega arith in (
  search rules,
  omega (arith, c.self.invariant.2),
  allows_arrive_at _ _ c.self.inside.places c.self.invariant.1 _ g.Z.Given.plan _ _ c.args.task _ _ c.desk.inside.seat.me c.requires.loaded.0 c.self.invariant.0 (search rules) c.requires.task w (search rules),
)

pub overflow_cast-result : goal.overflow_cast-result
overflow_cast-result g c = let p : Plan = g.Z.Given.plan in let e : p ≡ c.self.inside.places = search rules in let t = c.fetch_add-ticket.ensures.2.3 in let a = of_search_le (search_of p g.Z.Given.task) p.tasks in
    let b : task_count p ≤ MAX_TASKS = subst (λ (z : Plan). task_count z ≤ MAX_TASKS) (sym e) c.self.invariant.1.few in let small : c.fetch_add-ticket.result < 4294967296 = omega arith in search rules
