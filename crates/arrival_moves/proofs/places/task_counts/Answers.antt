use Rattle.std.proofs.Common.{rules, ◌≡◌, ◌<◌, ◌≤◌, ℕ, get_or, subst, arith}
use Rattle.arrival_moves.specs.declared.limits.TheConstants.{MAX_TASKS}
use Rattle.arrival_moves.specs.declared.plan.Plan.{Plan}
use Rattle.arrival_moves.specs.Plans.{task_count, search_of}
use Rattle.arrival_moves.proofs.Starts.{AreDrawn, drawn_none, drawn_more, drawn_few, drawn_all}
use Rattle.arrival_moves.proofs.places.task_counts.Goals as goal

pub loop-search-init : goal.loop-search-init
loop-search-init c = subst (AreDrawn c.args.plan.now 0) (search rules) (drawn_none c.args.plan.now)

pub index_mut-requires : goal.index_mut-requires
index_mut-requires c = let p : Plan = c.args.plan.now in let d = c.loop-search.invariant in let k : c.loop-search.search-index < task_count p = search rules in let s = c.requires.plan.tasks c.loop-search.search-index k in let n = d.size in search rules

pub overflow_add-index_mut : goal.overflow_add-index_mut
overflow_add-index_mut c = let p : Plan = c.args.plan.now in let d = c.loop-search.invariant in let k : c.loop-search.search-index < task_count p = search rules in let s = c.requires.plan.tasks c.loop-search.search-index k in
    let found : c.index_mut.result.now ≡ get_or c.loop-search.counts.items (search_of p c.loop-search.search-index) c.index_mut.result.now = search rules in
    let few = drawn_few p c.requires.plan c.loop-search.search-index (search_of p c.loop-search.search-index) c.index_mut.result.now c.loop-search.counts.items s found d in let most = c.requires.plan.few in
    let small : c.index_mut.result.now ≤ MAX_TASKS = omega arith in search rules

pub loop-search-preserved : goal.loop-search-preserved
loop-search-preserved c = let p : Plan = c.args.plan.now in let d = c.loop-search.invariant in let k : c.loop-search.search-index < task_count p = search rules in
    let s : ℕ = get_or c.as_slice-search-items.result.now c.loop-search.search-index 0 in let is : s ≡ search_of p c.loop-search.search-index = search rules in
    drawn_more p c.loop-search.search-index s c.index_mut.result.now c.loop-search.counts.items k is (search rules) d

pub returns : goal.returns
returns c = let p : Plan = c.args.plan.now in let d = c.loop-search.invariant in drawn_all p c.loop-search.counts.items (subst (λ k. AreDrawn p k c.loop-search.counts.items) (search rules) d)
