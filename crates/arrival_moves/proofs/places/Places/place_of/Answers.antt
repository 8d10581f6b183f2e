use Rattle.std.proofs.Common.{rules, arith, ◌+◌, ◌<◌, ◌≤◌, ◌≡◌, length, sym, ap, subst, ◌∙◌}
use Rattle.arrival_moves.specs.declared.limits.TheConstants.{MAX_TASKS}
use Rattle.arrival_moves.specs.declared.plan.Plan.{Plan}
use Rattle.arrival_moves.specs.Plans.{task_count, place_of, tasks_of, first_of}
use Rattle.arrival_moves.proofs.TaskPlaces.{place_within}
use Rattle.arrival_moves.proofs.Starts.{search_valid, or_some}
use Rattle.arrival_moves.proofs.places.Places.place_of.Goals as goal

pub index-requires : goal.index-requires
index-requires c = let p : Plan = c.self.inside.plan in let n : c.args.number < tasks_of p c.args.search = subst (λ (z : Plan). c.args.number < tasks_of z c.args.search) (sym c.self.view_is) c.requires.range in
    let a = search_valid p c.self.invariant.0 c.args.search c.args.number n in let l : length c.self.inside.starts.items ≡ p.searches + 1 = c.self.invariant.1 in let b : c.args.search < length c.self.inside.starts.items = omega arith in search rules

pub overflow_add-result : goal.overflow_add-result
overflow_add-result c = let p : Plan = c.self.inside.plan in let n : c.args.number < tasks_of p c.args.search = subst (λ (z : Plan). c.args.number < tasks_of z c.args.search) (sym c.self.view_is) c.requires.range in
    let a = search_valid p c.self.invariant.0 c.args.search c.args.number n in let s : c.index.result.now ≡ first_of p c.args.search = c.index.ensures ∙ or_some c.self.inside.starts.items c.args.search (first_of p c.args.search) _ (c.self.invariant.2 c.args.search (omega arith)) in
    let w = place_within p c.args.search c.args.number n in let few : task_count p ≤ MAX_TASKS = c.self.invariant.0.few in let small : c.index.result.now + c.args.number ≤ MAX_TASKS = omega arith in search rules

pub returns-clause-value : goal.returns-clause-value
returns-clause-value c = let p : Plan = c.self.inside.plan in let n : c.args.number < tasks_of p c.args.search = subst (λ (z : Plan). c.args.number < tasks_of z c.args.search) (sym c.self.view_is) c.requires.range in
    let a = search_valid p c.self.invariant.0 c.args.search c.args.number n in let s : c.index.result.now ≡ first_of p c.args.search = c.index.ensures ∙ or_some c.self.inside.starts.items c.args.search (first_of p c.args.search) _ (c.self.invariant.2 c.args.search (omega arith)) in
    ap (λ z. z + c.args.number) s ∙ ap (λ (z : Plan). place_of z c.args.search c.args.number) c.self.view_is

pub returns-clause-range : goal.returns-clause-range
returns-clause-range c = let a = place_within c.args.self.now c.args.search c.args.number c.requires.range in let s = returns-clause-value c in omega arith

pub returns-clause-few : goal.returns-clause-few
returns-clause-few c = let a = place_within c.args.self.now c.args.search c.args.number c.requires.range in let s = returns-clause-value c in let few : task_count c.args.self.now ≤ MAX_TASKS = subst (λ (z : Plan). task_count z ≤ MAX_TASKS) c.self.view_is c.self.invariant.0.few in omega arith
