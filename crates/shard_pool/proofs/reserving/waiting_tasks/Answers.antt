use Rattle.std.proofs.Common.{◌≡◌, ◌++◌, ◌∙◌, ap, sym, arith, rules}
use Rattle.std.proofs.lemmas.List.{append-nil}
use Rattle.shard_pool.specs.Tasks.{task_places}
use Rattle.shard_pool.proofs.Rows.{place-more, places-more, row}
use Rattle.shard_pool.proofs.reserving.waiting_tasks.Goals as goal

pub loop-shard-init : goal.loop-shard-init
loop-shard-init c = c.loop-search.invariant ∙ sym (append-nil (task_places c.loop-search.search c.args.shards))

pub loop-shard-preserved : goal.loop-shard-preserved
loop-shard-preserved c = place-more c.loop-shard.tasks.items c.push.new.self.items c.in_ok-task.task c.loop-search.search c.args.shards c.loop-search.search c.loop-shard.shard
    (search rules) c.in_ok-task.ensures c.loop-shard.invariant

pub loop-search-preserved : goal.loop-search-preserved
loop-search-preserved c =
    let all : c.loop-shard.shard ≡ c.args.shards = omega arith in
    c.loop-shard.invariant ∙ ap (λ k. task_places c.loop-search.search c.args.shards ++ row k c.loop-search.search) all ∙ places-more c.loop-search.search c.args.shards
