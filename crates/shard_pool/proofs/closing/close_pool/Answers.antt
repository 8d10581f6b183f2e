use Rattle.std.proofs.Common.{sym, ap, subst, ◌∙◌, slice_index_or}
use Rattle.breaker_words.specs.Passes.{PassModel}
use Rattle.shard_pool.specs.Ends.{HasRun, MayEnd}
use Rattle.shard_pool.specs.Results.{results_of}
use Rattle.shard_pool.proofs.Known.{search-ends}
use Rattle.shard_pool.proofs.ClosingRun.{has-run}
use Rattle.shard_pool.proofs.Searches.{ends-length}
use Rattle.shard_pool.proofs.Whole.{carried-runs, closed-tasks, is-closed, lost-held}
use Rattle.shard_pool.proofs.closing.close_pool.Goals as goal

pub settle_all-ends-requires-clause-held : goal.settle_all-ends-requires-clause-held
settle_all-ends-requires-clause-held g c =
    lost-held g.J.PoolCall.pool c.look.new.pass.view (results_of c.close-results.result (λ o. record { work = o.work; pass = o.pass })) c.join_all.new.pass c.join_all.new.gathered.items
    (record { joined = c.join_all.ensures.joined; gathered = c.join_all.ensures.gathered; carried = c.join_all.ensures.carried })
    (closed-tasks g.J.PoolCall.pool c.args.table.plan.batch c.args.table.plan c.requires.plan c.close-results.result (λ o. record { work = o.work; pass = o.pass })
    (record { batches = c.close-results.ensures.batches; whole = c.close-results.ensures.whole; once = c.close-results.ensures.once; skipped = c.close-results.ensures.skipped; runs = carried-runs g.J.PoolCall.pool c.close-results.result (λ o. record { work = o.work; pass = o.pass }) c.join_all.ensures.carried }))

pub returns-clause-number : goal.returns-clause-number
returns-clause-number g c = ends-length c.join_all.new.gathered.items c.settle_all-ends.result c.settle_all-ends.ensures.ends ∙ c.join_all.ensures.gathered.number

pub returns-clause-ends : goal.returns-clause-ends
returns-clause-ends g c q d low =
    subst (λ (a : PassModel). MayEnd g.J.PoolCall.pool q c.args.table.plan.batch a.view (slice_index_or c.settle_all-ends.result q d)) (sym c.look-2.ensures.same)
    (search-ends g.J.PoolCall.pool c.args.table.plan.batch c.look.new.pass.view (results_of c.close-results.result (λ o. record { work = o.work; pass = o.pass })) c.join_all.new.pass c.join_all.new.gathered.items c.settle_all-ends.new.pass c.settle_all-ends.result
    (is-closed g.J.PoolCall.pool c.args.words.now c.requires.words c.args.table.plan c.requires.batch c.requires.plan c.close-results.result (λ o. record { work = o.work; pass = o.pass })
    (record { batches = c.close-results.ensures.batches; whole = c.close-results.ensures.whole; once = c.close-results.ensures.once; skipped = c.close-results.ensures.skipped; runs = carried-runs g.J.PoolCall.pool c.close-results.result (λ o. record { work = o.work; pass = o.pass }) c.join_all.ensures.carried })
    c.args.pass.now c.look.new.pass c.join_all.new.pass c.settle_all-ends.new.pass c.join_all.new.gathered.items c.settle_all-ends.result c.look.ensures.same c.requires.cap
    (record { joined = c.join_all.ensures.joined; gathered = c.join_all.ensures.gathered; carried = c.join_all.ensures.carried })
    c.settle_all-ends.ensures.of c.settle_all-ends.ensures.given c.settle_all-ends.ensures.ends c.look.ensures.bounded c.look-2.ensures.bounded c.look-2.ensures.seen)
    q low d)

pub returns-clause-run : goal.returns-clause-run
returns-clause-run g c =
    subst (λ (a : PassModel). HasRun g.J.PoolCall.pool c.args.table.plan.batch c.args.pass.now a c.settle_all-ends.result) (sym c.look-2.ensures.same)
    (has-run g.J.PoolCall.pool c.args.table.plan.batch c.look.new.pass.view (results_of c.close-results.result (λ o. record { work = o.work; pass = o.pass })) c.join_all.new.pass c.join_all.new.gathered.items c.settle_all-ends.new.pass c.settle_all-ends.result
    (is-closed g.J.PoolCall.pool c.args.words.now c.requires.words c.args.table.plan c.requires.batch c.requires.plan c.close-results.result (λ o. record { work = o.work; pass = o.pass })
    (record { batches = c.close-results.ensures.batches; whole = c.close-results.ensures.whole; once = c.close-results.ensures.once; skipped = c.close-results.ensures.skipped; runs = carried-runs g.J.PoolCall.pool c.close-results.result (λ o. record { work = o.work; pass = o.pass }) c.join_all.ensures.carried })
    c.args.pass.now c.look.new.pass c.join_all.new.pass c.settle_all-ends.new.pass c.join_all.new.gathered.items c.settle_all-ends.result c.look.ensures.same c.requires.cap
    (record { joined = c.join_all.ensures.joined; gathered = c.join_all.ensures.gathered; carried = c.join_all.ensures.carried })
    c.settle_all-ends.ensures.of c.settle_all-ends.ensures.given c.settle_all-ends.ensures.ends c.look.ensures.bounded c.look-2.ensures.bounded c.look-2.ensures.seen)
    c.args.pass.now (ap (λ (a : PassModel). a.view) (sym c.look.ensures.same)))
