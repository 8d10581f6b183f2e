use Rattle.std.proofs.Common.{◌≡◌, ◌∙◌, subst}
use Rattle.agg_spec.specs.Failures.{unfailed}
use Rattle.agg_spec.specs.Outcome.{outcome_of_shards}
use Rattle.shard_columns.specs.declared.index.Index.{Index as ShardIndex}
use Rattle.std.proofs.lemmas.Result.{err_from_is_err_and}
use Rattle.fitting_laws.specs.Indexes.{index_of}
use Rattle.agg_search.proofs.AnswerParts.{shards-apart}
use Rattle.agg_search.proofs.Outcomes.{from-some, search-ends, stops-search-if}
use Rattle.agg_search.proofs.solo.run_search.Goals as goal

pub is_too_wide-requires-clause-apart : goal.is_too_wide-requires-clause-apart
is_too_wide-requires-clause-apart g c = shards-apart c.index.result.now

pub reduce_search-requires-clause-search : goal.reduce_search-requires-clause-search
reduce_search-requires-clause-search g c =
    let found = from-some _ c.in_ok-is_too_wide.field-0 (rw c.index.ensures at c.in_ok-is_too_wide.ensures) c.if-branch.false in
    record { made = c.requires.made; ceiling = found.0; is = found.1 }

pub outcome_of-requires-clause-search : goal.outcome_of-requires-clause-search
outcome_of-requires-clause-search g c =
    let found = from-some _ c.in_ok-is_too_wide.field-0 (rw c.index.ensures at c.in_ok-is_too_wide.ensures) c.if-branch.false in
    rw (c.index-2.ensures, c.reduce_search.ensures.index) (record { made = c.requires.made; ceiling = found.0; is = found.1 })

pub returns-in_err-whole-clause-stops : goal.returns-in_err-whole-clause-stops
returns-in_err-whole-clause-stops g c =
    let p = err_from_is_err_and c.from_residual-in_err-whole.result c.from_residual-in_err-whole.ensures.1 in
    let found = from-some _ c.in_ok-is_too_wide.field-0 (rw c.index.ensures at c.in_ok-is_too_wide.ensures) c.if-branch.false in
    rw (p.1, p.2)
    (stops-search-if c.args.settings.now (index_of (g.T.Tasks.index c.args.tasks.now)) (g.T.Tasks.capacity c.args.tasks.now)
    (g.T.Tasks.entries c.args.tasks.now) (g.T.Tasks.entries c.reduce_search.new.tasks) c.args.search found.0 found.1 c.args.words.now.limits c.requires.limits
    c.args.pass.now.view c.reduce_search.new.pass.view c.reduce_search.new.progress.failures c.in_err-whole.field-0.0 c.in_err-whole.ensures.stops)

pub returns-clause-searches : goal.returns-clause-searches
returns-clause-searches g c request is before r stands =
    let found = from-some _ c.in_ok-is_too_wide.field-0 (rw c.index.ensures at c.in_ok-is_too_wide.ensures) c.if-branch.false in
    search-ends c.args.settings.now (index_of (g.T.Tasks.index c.args.tasks.now)) (g.T.Tasks.capacity c.args.tasks.now)
    (g.T.Tasks.entries c.args.tasks.now) (g.T.Tasks.entries c.reduce_search.new.tasks) c.args.search request is found.0 found.1 c.args.words.now.limits c.requires.limits
    before c.reduce_search.new.pass.view r c.reduce_search.new.progress.failures c.in_ok-outcome_of.field-0.outcome (c.in_ok-whole.ensures.reduces before r stands)
    (subst (λ (i : ShardIndex). c.in_ok-outcome_of.field-0.outcome ≡ outcome_of_shards (index_of i) c.args.settings.now.max_buckets c.args.search c.reduce_search.new.progress.failures
    (unfailed (index_of i) c.reduce_search.new.progress.failures)) (c.index-2.ensures ∙ c.reduce_search.ensures.index) c.in_ok-outcome_of.ensures.outcome)

pub returns-clause-next : goal.returns-clause-next
returns-clause-next g c request is = rw (c.index-2.ensures, c.reduce_search.ensures.index) at (c.in_ok-outcome_of.ensures.next request is)
