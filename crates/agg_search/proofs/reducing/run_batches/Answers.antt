use Rattle.std.proofs.Common.{◌≡◌, ◌+◌, ◌-◌, ◌*◌, ◌/◌, ◌<◌, ◌≤◌, ℕ, ap, subst, sym, ◌∙◌, arith}
use Rattle.std.specs.Prelude.{length, min}
use Rattle.std.proofs.lemmas.Result.{err_from_is_err_and}
use Rattle.fitting_laws.specs.Indexes.{index_of}
use Rattle.agg_search.specs.Reached.{HasReached}
use Rattle.shard_columns.specs.declared.index.Index.{Index as ShardIndex}
use Rattle.agg_search.proofs.Batching.{all-follow, as-chunk, as-chunk-stops, batch-stopped, end-covers, one-batch-more, rows-count, start-within}
use Rattle.agg_search.proofs.reducing.run_batches.Goals as goal

pub run_batch-requires-clause-reached : goal.run_batch-requires-clause-reached
run_batch-requires-clause-reached g c =
    let n = c.loop-number.number in
    let size = c.args.size in
    let k = length (g.T.Tasks.index c.args.tasks.now).shards in
    let below : n < (k + size - 1) / size = subst (λ (x : ℕ). n < (x + size - 1) / size) (c.len-shards.ensures ∙ ap (λ (i : ShardIndex). length i.shards) c.index.ensures) c.loop-number-test.true in
    let within = start-within n size k c.requires.some below in
    let same : min k (n * size) ≡ n * size = omega arith in
    rw c.loop-number.invariant.same_index
    (subst (λ (x : ℕ). HasReached (index_of (g.T.Tasks.index c.args.tasks.now)) c.args.search.now x c.loop-number.progress) same c.loop-number.invariant.reached)

pub returns-in_err-run_batch-clause-stops : goal.returns-in_err-run_batch-clause-stops
returns-in_err-run_batch-clause-stops g c =
    let p = err_from_is_err_and c.from_residual.result c.from_residual.ensures.1 in
    let n = c.loop-number.number in
    let size = c.args.size in
    let l = c.args.words.now.limits in
    let capacity = g.T.Tasks.capacity c.args.tasks.now in
    let entries = g.T.Tasks.entries in
    let index = g.T.Tasks.index c.args.tasks.now in
    let search = c.args.search.now in
    let k = length index.shards in
    let some = c.requires.some in
    let below : n < (k + size - 1) / size = subst (λ (x : ℕ). n < (x + size - 1) / size) (c.len-shards.ensures ∙ ap (λ (i : ShardIndex). length i.shards) c.index.ensures) c.loop-number-test.true in
    let to_is : c.min-to.result ≡ min k (n * size + size) = c.min-to.ensures ∙ ap (λ (x : ℕ). min x (n * size + size)) (c.len-shards.ensures ∙ ap (λ (i : ShardIndex). length i.shards) c.index.ensures) in
    let count = rows-count index in
    let next : n + 1 ≤ (length (index_of index).shards + size - 1) / size = subst (λ (x : ℕ). n + 1 ≤ (x + size - 1) / size) (sym count) (let le : n + 1 ≤ (k + size - 1) / size = omega (arith, below) in le) in
    rw (p.1, p.2)
    (batch-stopped l (index_of index) search capacity size some c.args.pass.now.view c.loop-number.pass.view c.run_batch.new.pass.view c.args.progress.now c.loop-number.progress c.run_batch.new.progress
    (entries c.args.tasks.now) (entries c.loop-number.tasks) (entries c.run_batch.new.tasks) n (n + 1) (omega arith) c.loop-number.invariant.follows c.in_err-run_batch.field-0.0 next
    (as-chunk-stops capacity l index search size some n c.min-to.result below to_is c.in_err-run_batch.field-0.0 c.loop-number.pass.view c.run_batch.new.pass.view c.loop-number.progress c.run_batch.new.progress
    (entries c.loop-number.tasks) (entries c.run_batch.new.tasks) (rw (c.loop-number.invariant.same_index, c.loop-number.invariant.same_capacity) at c.in_err-run_batch.ensures.stops)))

pub loop-number-preserved : goal.loop-number-preserved
loop-number-preserved g c =
    let n = c.loop-number.number in
    let size = c.args.size in
    let l = c.args.words.now.limits in
    let capacity = g.T.Tasks.capacity c.args.tasks.now in
    let entries = g.T.Tasks.entries in
    let index = g.T.Tasks.index c.args.tasks.now in
    let search = c.args.search.now in
    let k = length index.shards in
    let some = c.requires.some in
    let below : n < (k + size - 1) / size = subst (λ (x : ℕ). n < (x + size - 1) / size) (c.len-shards.ensures ∙ ap (λ (i : ShardIndex). length i.shards) c.index.ensures) c.loop-number-test.true in
    let to_is : c.min-to.result ≡ min k (n * size + size) = c.min-to.ensures ∙ ap (λ (x : ℕ). min x (n * size + size)) (c.len-shards.ensures ∙ ap (λ (i : ShardIndex). length i.shards) c.index.ensures) in
    let next : c.min-to.result ≡ min k ((n + 1) * size) = to_is ∙ ap (min k) (let e : n * size + size ≡ (n + 1) * size = omega arith in e) in
    record {
      alone = c.run_batch.ensures.alone;
      same_index = c.run_batch.ensures.index ∙ c.loop-number.invariant.same_index;
      same_capacity = c.run_batch.ensures.capacity ∙ c.loop-number.invariant.same_capacity;
      fielddata = c.run_batch.ensures.fielddata ∙ c.loop-number.invariant.fielddata;
      inflight = c.run_batch.ensures.inflight ∙ c.loop-number.invariant.inflight;
      reached = subst (λ (x : ℕ). HasReached (index_of index) search x c.run_batch.new.progress) next (rw c.loop-number.invariant.same_index at c.in_ok-run_batch.ensures.reached);
      merged = c.in_ok-run_batch.ensures.merged;
      held = c.in_ok-run_batch.ensures.held;
      follows = one-batch-more l (index_of index) search capacity size some c.args.pass.now.view c.loop-number.pass.view c.run_batch.new.pass.view c.args.progress.now c.loop-number.progress c.run_batch.new.progress
          (entries c.args.tasks.now) (entries c.loop-number.tasks) (entries c.run_batch.new.tasks) n (n + 1) (omega arith) c.loop-number.invariant.follows
          (as-chunk capacity l index search size some n c.min-to.result below to_is c.loop-number.pass.view c.run_batch.new.pass.view c.loop-number.progress c.run_batch.new.progress
          (entries c.loop-number.tasks) (entries c.run_batch.new.tasks) (rw (c.loop-number.invariant.same_index, c.loop-number.invariant.same_capacity) at c.in_ok-run_batch.ensures.follows));
    }

pub returns-clause-follows : goal.returns-clause-follows
returns-clause-follows g c =
    let n = c.loop-number.number in
    let size = c.args.size in
    let index = g.T.Tasks.index c.args.tasks.now in
    let k = length index.shards in
    let low : (k + size - 1) / size ≤ n = subst (λ (x : ℕ). (x + size - 1) / size ≤ n) (c.len-shards.ensures ∙ ap (λ (i : ShardIndex). length i.shards) c.index.ensures) c.loop-number-test.false in
    let high : n ≤ (k + size - 1) / size = subst (λ (x : ℕ). n ≤ (x + size - 1) / size) (c.len-shards.ensures ∙ ap (λ (i : ShardIndex). length i.shards) c.index.ensures) c.loop-number.auto.number-end in
    let end : n ≡ (length (index_of index).shards + size - 1) / size = subst (λ (x : ℕ). n ≡ (x + size - 1) / size) (sym (rows-count index)) (let e : n ≡ (k + size - 1) / size = omega (arith, low, high) in e) in
    all-follow c.args.words.now.limits (index_of index) c.args.search.now (g.T.Tasks.capacity c.args.tasks.now) size c.requires.some n c.args.pass.now.view c.loop-number.pass.view c.args.progress.now c.loop-number.progress
    (g.T.Tasks.entries c.args.tasks.now) (g.T.Tasks.entries c.loop-number.tasks) end c.loop-number.invariant.follows

pub returns-clause-reached : goal.returns-clause-reached
returns-clause-reached g c =
    let n = c.loop-number.number in
    let size = c.args.size in
    let index = g.T.Tasks.index c.args.tasks.now in
    let k = length index.shards in
    let low : (k + size - 1) / size ≤ n = subst (λ (x : ℕ). (x + size - 1) / size ≤ n) (c.len-shards.ensures ∙ ap (λ (i : ShardIndex). length i.shards) c.index.ensures) c.loop-number-test.false in
    let covers = end-covers size k c.requires.some in
    let more : ((k + size - 1) / size) * size ≤ n * size = grind (arith, low) in
    let same : min k (n * size) ≡ k = omega (arith, covers, more) in
    subst (λ (x : ℕ). HasReached (index_of index) c.args.search.now x c.loop-number.progress) same c.loop-number.invariant.reached
