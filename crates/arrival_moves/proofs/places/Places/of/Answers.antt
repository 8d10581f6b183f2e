use Rattle.std.proofs.Common.{rules, ◌≡◌, ◌+◌, ◌<◌, ◌≤◌, ℕ, [], ◌∷◌, ◌++◌, length, get_or, refl, sym, subst, ◌∙◌, ap, arith}
use Rattle.arrival_moves.specs.declared.limits.TheConstants.{MAX_TASKS}
use Rattle.arrival_moves.specs.declared.plan.Plan.{Plan}
use Rattle.arrival_moves.specs.Plans.{first_of}
use Rattle.arrival_moves.specs.Counts.{AreCounts}
use Rattle.arrival_moves.proofs.Starts.{AreStarts, starts_one, starts_more, first_start, start_counted, start_within}
use Rattle.arrival_moves.proofs.places.Places.of.Goals as goal

pub loop-count-init : goal.loop-count-init
loop-count-init c = let is : c.push.new.self.items ≡ 0 ∷ [] = search rules in (subst (AreStarts c.args.plan 1) (sym is) (starts_one c.args.plan), sym (first_start c.args.plan))

pub overflow_add-start : goal.overflow_add-start
overflow_add-start c = let p : Plan = c.args.plan in let q : ℕ = c.loop-count.count-index in let i = c.loop-count.invariant in let n : ℕ = get_or c.as_slice-count-items.result.now q 0 in
    let counts : AreCounts p c.as_slice-count-items.result.now = search rules in let low : q < length c.as_slice-count-items.result.now = search rules in
    let a = start_counted p q n c.as_slice-count-items.result.now counts low refl in let b = start_within p (q + 1) in let few = c.requires.plan.few in let at = i.1 in
    let small : c.loop-count.start + n ≤ MAX_TASKS = omega arith in search rules

pub loop-count-preserved : goal.loop-count-preserved
loop-count-preserved c = let p : Plan = c.args.plan in let q : ℕ = c.loop-count.count-index in let i = c.loop-count.invariant in let n : ℕ = get_or c.as_slice-count-items.result.now q 0 in
    let counts : AreCounts p c.as_slice-count-items.result.now = search rules in let low : q < length c.as_slice-count-items.result.now = search rules in
    let next : c.loop-count.start + n ≡ first_of p (q + 1) = ap (λ k. k + n) i.1 ∙ start_counted p q n c.as_slice-count-items.result.now counts low refl in
    let is : c.push-in-loop-count.new.self.items ≡ c.loop-count.starts.items ++ (c.loop-count.start + n) ∷ [] = search rules in
    (subst (AreStarts p (q + 1 + 1)) (sym is) (starts_more p (q + 1) (c.loop-count.start + n) c.loop-count.starts.items next i.0), next)
