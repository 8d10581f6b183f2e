use Rattle.std.proofs.Common.{◌≡◌, ◌<◌, ℕ, List, length, ap, sym, subst, ◌∙◌, arith}
use Rattle.std.specs.Prelude.{Some, slice_get, take}
use Rattle.agg_cost.proofs.Summing.{here}
use Rattle.agg_evaluation.specs.Rows.{PlacedRow}
use Rattle.agg_evaluation.specs.Shard.{shard_answer}
use Rattle.agg_evaluation.specs.Trace.{trace}
use Rattle.agg_model.specs.declared.aggregation.Search.{Search}
use Rattle.agg_spec.specs.Index.{rows_in}
use Rattle.breaker_words.specs.Passes.{IsOf, WordsModel}
use Rattle.collect_tree.specs.Ends.{IfDone, IfMemory, IfRefused}
use Rattle.growth_laws.specs.Amounts.{amounts}
use Rattle.pool_results.specs.Carried.{IsCarried}
use Rattle.pool_results.specs.Pools.{search_at}
use Rattle.shard_columns.specs.Columns.{Columns}
use Rattle.task_charges.specs.Ended.{IsDone, IsGivenUp, IsRefused}
use Rattle.pool_results.proofs.Ending.{carried-after, fresh-cap, fresh-hold}
use Rattle.pool_results.proofs.Pooling.{ceiling-some, room-is, rows-are, search-fits, search-is, shards-are}
use Rattle.pool_results.proofs.running.run.Goals as goal

pub run_task-end-requires-clause-made : goal.run_task-end-requires-clause-made
run_task-end-requires-clause-made g c =
    let p = g.J.PoolCall.pool in let index = c.args.index.now in let q = c.args.load.search in let s = c.args.load.shard in
    let search = c.index-as_slice-search.result in let shard = c.index-as_slice-shard.result in
    let asked : slice_get p.searches q ≡ Some search = subst (λ (xs : List Search). slice_get xs q ≡ Some search) (c.as_slice.ensures ∙ c.requires.searches)
    (here c.as_slice.result.now q search (subst (λ (xs : List Search). q < length xs) (sym (c.as_slice.ensures ∙ c.requires.searches)) c.args.load.task.search) c.index-as_slice-search.is) in
    let at : slice_get index.shards s ≡ Some shard = subst (λ (xs : List Columns). slice_get xs s ≡ Some shard) c.as_slice-2.ensures
    (here c.as_slice-2.result.now s shard (subst (λ (xs : List Columns). s < length xs) (sym c.as_slice-2.ensures) (subst (λ n. s < n) (shards-are index p c.requires.pool) c.args.load.task.shard)) c.index-as_slice-shard.is) in
    search-fits index p c.requires.pool q s search shard asked at

pub run_task-end-requires-clause-room : goal.run_task-end-requires-clause-room
run_task-end-requires-clause-room g c =
    let p = g.J.PoolCall.pool in let index = c.args.index.now in let q = c.args.load.search in let s = c.args.load.shard in
    let search = c.index-as_slice-search.result in let shard = c.index-as_slice-shard.result in
    let asked : slice_get p.searches q ≡ Some search = subst (λ (xs : List Search). slice_get xs q ≡ Some search) (c.as_slice.ensures ∙ c.requires.searches)
    (here c.as_slice.result.now q search (subst (λ (xs : List Search). q < length xs) (sym (c.as_slice.ensures ∙ c.requires.searches)) c.args.load.task.search) c.index-as_slice-search.is) in
    let at : slice_get index.shards s ≡ Some shard = subst (λ (xs : List Columns). slice_get xs s ≡ Some shard) c.as_slice-2.ensures
    (here c.as_slice-2.result.now s shard (subst (λ (xs : List Columns). s < length xs) (sym c.as_slice-2.ensures) (subst (λ n. s < n) (shards-are index p c.requires.pool) c.args.load.task.shard)) c.index-as_slice-shard.is) in
    let task = room-is index p c.requires.pool q s search shard asked at in
    record {
      ceiling = task.bytes;
      is = task.is;
      fits = let cap = fresh-cap p q s c.args.load.pass c.args.load.fresh in let hold = fresh-hold p q s c.args.load.pass c.args.load.fresh in let low = task.low in omega (arith, cap, hold, low);
    }

pub invariant_of-result : goal.invariant_of-result
invariant_of-result g c =
    let p = g.J.PoolCall.pool in let index = c.args.index.now in let q = c.args.load.search in let s = c.args.load.shard in
    let search = c.index-as_slice-search.result in let shard = c.index-as_slice-shard.result in
    let asked : slice_get p.searches q ≡ Some search = subst (λ (xs : List Search). slice_get xs q ≡ Some search) (c.as_slice.ensures ∙ c.requires.searches)
    (here c.as_slice.result.now q search (subst (λ (xs : List Search). q < length xs) (sym (c.as_slice.ensures ∙ c.requires.searches)) c.args.load.task.search) c.index-as_slice-search.is) in
    let at : slice_get index.shards s ≡ Some shard = subst (λ (xs : List Columns). slice_get xs s ≡ Some shard) c.as_slice-2.ensures
    (here c.as_slice-2.result.now s shard (subst (λ (xs : List Columns). s < length xs) (sym c.as_slice-2.ensures) (subst (λ n. s < n) (shards-are index p c.requires.pool) c.args.load.task.shard)) c.index-as_slice-shard.is) in
    let a = c.args.load.pass.view in let u = c.run_task-end.new.pass in let end = c.run_task-end.result in let e = c.run_task-end.ensures in
    let asks = sym (search-is index p c.requires.pool q s search shard asked at) in let rows = sym (rows-are index p c.requires.pool q s search shard asked at) in
    let Q : WordsModel × Search × List PlacedRow → Type 0 = λ z. IfDone end (λ x. IsDone z.0.limits a u.view z.1 z.2) × IfRefused end (λ t. IsRefused z.0.limits a u.view (trace z.1 z.2) t)
    × IfMemory end ((n : ℕ) × IsGivenUp a u.view (take n (amounts z.1 z.2))) × IfDone end (λ x. x ≡ shard_answer z.1 z.2) in
    let told : Q (p.words, search_at p q, rows_in p.index s) = subst Q (λ i. (c.requires.words i, asks i, rows i)) (e.done, e.refused, e.memory, e.answer) in
    record {
      carried = subst (λ w. IsCarried p w u) (sym c.work_of-work.ensures)
          (carried-after p q s c.args.load.task c.args.load.pass c.args.load.fresh (ceiling-some index p c.requires.pool q s search shard asked at) end u
          (subst (λ m. IsOf m u) c.requires.words e.of) told.3 told.0 told.1 told.2 search.partial (ap (λ (z : Search). z.partial) (sym asks)));
    }
