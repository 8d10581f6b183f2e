use Rattle.std.proofs.Common.{◌≡◌, ◌+◌, ◌++◌, ◌∷◌, [], ℕ, List, ◌∙◌, ap, sym, sum_by, append_assoc}
use Rattle.std.specs.Vec.Iter.{into_iter_items}
use Rattle.std.proofs.lemmas.List.Sums.{sum_by_push}
use Rattle.arrival_table.specs.declared.opening.Task.{Task}
use Rattle.breaker_words.specs.Passes.{PassModel}
use Rattle.pool_results.specs.declared.load.Load.{Load}
use Rattle.pool_results.specs.Pools.{ceiling_at}
use Rattle.shard_pool.proofs.Lent.{joined-more, with_more}
use Rattle.shard_pool.proofs.Rows.{all-at}
use Rattle.shard_pool.proofs.lending.join_all.Goals as goal

pub join-requires-clause-of : goal.join-requires-clause-of
join-requires-clause-of g c = let is = c.loop-task.invariant.joined in (ap (λ (a : PassModel). a.table) is ∙ c.requires.of.0, ap (λ (a : PassModel). a.view.limits) is ∙ c.requires.of.1)

pub join-requires-clause-rest : goal.join-requires-clause-rest
join-requires-clause-rest g c = ap (λ (a : PassModel). a.view.trial) c.loop-task.invariant.joined ∙ c.requires.rest

pub loop-task-preserved : goal.loop-task-preserved
loop-task-preserved g c =
    let T : Type 0 = Task (Load g.row.J.Denot g.J.PoolCall) in
    let cap : T → ℕ = λ t. t.load.pass.view.cap in
    let old = c.args.pass.now in let yielded = c.loop-task.yielded in let t = c.in-Some.task in let rest : List T = into_iter_items c.next.new.self in
    let steps : into_iter_items c.loop-task.task-iterator ≡ t ∷ rest = c.in-Some.ensures.steps.0 in
    let left : yielded ++ t ∷ rest ≡ c.args.tasks = ap (λ (xs : List T). yielded ++ xs) (sym steps) ∙ c.loop-task.invariant.left in
    let total = all-at (λ (u : T). u.load.pass.view.total ≡ old.view.total) c.args.tasks yielded t rest left c.requires.totals in
    record {
      left = append_assoc yielded (t ∷ []) rest ∙ left;
      joined =
          joined-more old c.loop-task.pass c.join.new.pass t.load.pass g.J.PoolCall.pool.words.limits (sum_by cap yielded) (ceiling_at g.J.PoolCall.pool t.load.search t.load.shard)
          c.loop-task.invariant.joined c.join.ensures t.load.fresh.is total c.requires.rest c.requires.bounded.granted c.requires.bounded.trips c.requires.unseen
          ∙ ap (with_more old) (sym (sum_by_push cap yielded t));
    }
