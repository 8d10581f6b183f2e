use Rattle.std.proofs.Common.{arith, ◌≤◌, sym, ap, subst, ◌∙◌}
use Rattle.arrival_moves.specs.declared.limits.TheConstants.{MAX_TASKS}
use Rattle.arrival_moves.specs.declared.plan.Plan.{Plan}
use Rattle.arrival_moves.specs.Plans.{first_of, task_count}
use Rattle.arrival_moves.proofs.Starts.{or_some, start_within}
use Rattle.arrival_moves.proofs.places.Places.start.Goals as goal

pub returns-clause-value : goal.returns-clause-value
returns-clause-value c = let p : Plan = c.self.inside.plan in let q = c.args.search in let fits : q ≤ p.searches = subst (λ (z : Plan). q ≤ z.searches) (sym c.self.view_is) c.requires.range in
    c.index.ensures ∙ (or_some c.self.inside.starts.items q (first_of p q) _ (c.self.invariant.2 q fits) ∙ ap (λ (z : Plan). first_of z q) c.self.view_is)

pub returns-clause-range : goal.returns-clause-range
returns-clause-range c = let e = returns-clause-value c in let a = start_within c.args.self.now c.args.search in omega arith

pub returns-clause-few : goal.returns-clause-few
returns-clause-few c = let e = returns-clause-value c in let a = start_within c.args.self.now c.args.search in let few : task_count c.args.self.now ≤ MAX_TASKS = subst (λ (z : Plan). task_count z ≤ MAX_TASKS) c.self.view_is c.self.invariant.0.few in omega arith
