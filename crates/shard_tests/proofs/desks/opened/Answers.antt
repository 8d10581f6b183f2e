use Rattle.std.proofs.Common.{◌≡◌, ◌<◌, length, sym, ap, subst, ◌∙◌, arith}
use Rattle.std.proofs.lemmas.List.{length-map}
use Rattle.list_laws.proofs.Places.{there_below}
use Rattle.arrival_moves.specs.declared.plan.Plan.{Plan}
use Rattle.arrival_moves.specs.Plans.{search_of}
use Rattle.arrival_table.specs.declared.opening.Task.{Task}
use Rattle.shard_tests.specs.declared.desks.Numbered.{Numbered}
use Rattle.shard_tests.proofs.desks.opened.Goals as goal

pub open-requires-clause-searches : goal.open-requires-clause-searches
open-requires-clause-searches c = λ k t e. let ts = c.in_ok-tasks.tasks in let made = c.in_ok-plan.ensures in
    let as_many : length ts ≡ length c.args.searches.now = sym (length-map ts (λ (u : Task Numbered). u.search)) ∙ (ap length c.in_ok-tasks.ensures.plan ∙ ap (λ (p : Plan). length p.tasks) made) in
    let low : k < length ts = there_below ts k t e in
    let is = (c.in_ok-tasks.ensures.loads k t e).0 ∙ ap (λ (p : Plan). search_of p k) made in
    subst (λ q. q < c.args.count) (sym is) (c.requires.searches k 0 (omega arith))
