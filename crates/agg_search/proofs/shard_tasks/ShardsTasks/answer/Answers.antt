use Rattle.std.proofs.Common.{◌≡◌, ◌<◌, List, length, ap, sym, subst}
use Rattle.std.specs.Prelude.{Some, ℕ, slice_get, take}
use Rattle.agg_cost.proofs.Summing.{here}
use Rattle.agg_evaluation.specs.Rows.{PlacedRow}
use Rattle.agg_evaluation.specs.Shard.{shard_answer}
use Rattle.agg_evaluation.specs.Trace.{trace}
use Rattle.agg_spec.specs.Index.{rows_in}
use Rattle.collect_tree.specs.Ends.{IfDone, IfMemory, IfRefused}
use Rattle.fitting_laws.specs.Indexes.{index_of}
use Rattle.growth_laws.specs.Amounts.{amounts}
use Rattle.shard_columns.specs.Columns.{Columns}
use Rattle.task_charges.specs.Ended.{IsGivenUp, IsRefused}
use Rattle.agg_search.proofs.KeptTask.{gives-up}
use Rattle.agg_search.proofs.ShardLists.{rows-here}
use Rattle.agg_search.proofs.shard_tasks.ShardsTasks.answer.Goals as goal

pub returns-clause-answer : goal.returns-clause-answer
returns-clause-answer c =
    let index = c.args.self.now.index.now in
    let s = c.index-as_slice-shard.result in
    let at : slice_get index.shards c.args.shard ≡ Some s =
    subst (λ (xs : List Columns). slice_get xs c.args.shard ≡ Some s) c.as_slice.ensures
    (here c.as_slice.result.now c.args.shard s (subst (λ (xs : List Columns). c.args.shard < length xs) (sym c.as_slice.ensures) c.requires.place) c.index-as_slice-shard.is) in
    let rows : s.rows ≡ rows_in (index_of index) c.args.shard = sym (rows-here index.shards c.args.shard s at) in
    subst (λ (rs : List PlacedRow). IfDone c.run_task.result (λ p. p ≡ shard_answer c.args.search.now rs)) rows c.run_task.ensures.answer

pub returns-clause-refused : goal.returns-clause-refused
returns-clause-refused c =
    let index = c.args.self.now.index.now in
    let s = c.index-as_slice-shard.result in
    let at : slice_get index.shards c.args.shard ≡ Some s =
    subst (λ (xs : List Columns). slice_get xs c.args.shard ≡ Some s) c.as_slice.ensures
    (here c.as_slice.result.now c.args.shard s (subst (λ (xs : List Columns). c.args.shard < length xs) (sym c.as_slice.ensures) c.requires.place) c.index-as_slice-shard.is) in
    let rows : s.rows ≡ rows_in (index_of index) c.args.shard = sym (rows-here index.shards c.args.shard s at) in
    subst (λ (rs : List PlacedRow). IfRefused c.run_task.result (λ t. IsRefused c.args.words.now.limits c.args.pass.now.view c.run_task.new.pass.view (trace c.args.search.now rs) t)) rows
    c.run_task.ensures.refused

pub returns-clause-memory : goal.returns-clause-memory
returns-clause-memory c =
    let index = c.args.self.now.index.now in
    let s = c.index-as_slice-shard.result in
    let at : slice_get index.shards c.args.shard ≡ Some s =
    subst (λ (xs : List Columns). slice_get xs c.args.shard ≡ Some s) c.as_slice.ensures
    (here c.as_slice.result.now c.args.shard s (subst (λ (xs : List Columns). c.args.shard < length xs) (sym c.as_slice.ensures) c.requires.place) c.index-as_slice-shard.is) in
    let rows : s.rows ≡ rows_in (index_of index) c.args.shard = sym (rows-here index.shards c.args.shard s at) in
    gives-up _ _ c.run_task.result (subst (λ (rs : List PlacedRow). IfMemory c.run_task.result ((k : ℕ) × IsGivenUp c.args.pass.now.view c.run_task.new.pass.view (take k (amounts c.args.search.now rs)))) rows
    c.run_task.ensures.memory)
