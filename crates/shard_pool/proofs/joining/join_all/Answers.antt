use Rattle.std.proofs.Common.{rules, ◌≡◌, ◌++◌, ◌∷◌, [], sym, ap, subst, ◌∙◌, append_assoc}
use Rattle.std.specs.Vec.Iter.{into_iter_items}
use Rattle.shard_pool.specs.Results.{results_of}
use Rattle.shard_pool.proofs.Taking.{AreTaken, held-low, results-more, taken-more}
use Rattle.shard_pool.proofs.joining.join_all.Goals as goal

pub join_one-requires-clause-held : goal.join_one-requires-clause-held
join_one-requires-clause-held g c =
    held-low g.J.PoolCall.pool c.args.pass.now.view (results_of c.loop-merged.yielded (λ o. record { work = o.work; pass = o.pass })) c.loop-merged.pass c.loop-merged.gathered.items c.loop-merged.invariant.taken
    c.in-Some.merged.result.work.search c.in-Some.merged.result.carried.runs.search

pub loop-merged-preserved : goal.loop-merged-preserved
loop-merged-preserved g c =
    let split : into_iter_items c.loop-merged.merged-iterator ≡ c.in-Some.merged ∷ into_iter_items c.next.new.self = search rules in
    record {
      next = tt;
      finite = tt;
      taken = subst (λ rs. AreTaken g.J.PoolCall.pool c.args.pass.now.view rs c.join_one.new.pass c.join_one.new.gathered.items) (sym (results-more c.loop-merged.yielded c.in-Some.merged (λ o. record { work = o.work; pass = o.pass })))
          (taken-more g.J.PoolCall.pool c.args.pass.now.view (results_of c.loop-merged.yielded (λ o. record { work = o.work; pass = o.pass })) c.loop-merged.pass c.join_one.new.pass c.loop-merged.gathered.items c.join_one.new.gathered.items
          c.in-Some.merged.result.work c.in-Some.merged.result.pass c.loop-merged.invariant.taken c.in-Some.merged.result.carried c.join_one.ensures.pass c.join_one.ensures.added);
      rest = append_assoc c.loop-merged.yielded (c.in-Some.merged ∷ []) (into_iter_items c.next.new.self) ∙ ap (λ ms. c.loop-merged.yielded ++ ms) (sym split) ∙ c.loop-merged.invariant.rest;
    }
