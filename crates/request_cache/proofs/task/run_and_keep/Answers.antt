use Rattle.std.proofs.Common.{◌≡◌, ◌∙◌, sym, ap, subst}
use Rattle.agg_evaluation.specs.Cost.{cost as cost_of}
use Rattle.agg_evaluation.specs.Shard.{shard_answer}
use Rattle.agg_model.specs.declared.aggregation.Search.{Search}
use Rattle.agg_model.specs.declared.breaker.Child.TheVariants as child
use Rattle.agg_spec.specs.Index.{rows_in}
use Rattle.breaker_tree.specs.Charge.{IsGivenBack}
use Rattle.cache_spec.specs.declared.shard_search.ShardSearch.{ShardSearch}
use Rattle.fitting_laws.specs.Indexes.{index_of}
use Rattle.std.specs.Prelude.{ℕ}
use Rattle.request_cache.proofs.PaidInFull.{done-given-up}
use Rattle.request_cache.proofs.task.run_and_keep.Goals as goal

pub keep-requires : goal.keep-requires
keep-requires c =
    let index = index_of c.args.cache.now.index.now in
    let e = c.args.entry in
    c.in-Done.ensures.answer
    ∙ ap (shard_answer c.args.search.now) c.requires.rows
    ∙ ap (λ (s : Search). shard_answer s (rows_in index e.shard)) (sym (ap (λ (f : ShardSearch). f.search) c.requires.entry))

pub returns-then-is_err-clause-memory : goal.returns-then-is_err-clause-memory
returns-then-is_err-clause-memory c =
    let bytes : c.cost.result ≡ cost_of (shard_answer c.args.search.now c.args.shard.now.rows) = c.cost.ensures ∙ ap cost_of c.in-Done.ensures.answer in
    done-given-up c.args.search.now c.args.shard.now.rows c.args.words.now.limits c.args.pass.now.view c.run_task.new.pass.view c.give_back.new.pass.view
    c.in-Done.ensures.done
    (subst (λ (n : ℕ). IsGivenBack c.run_task.new.pass.view child.Request n c.give_back.new.pass.view) bytes c.give_back.ensures.given)
