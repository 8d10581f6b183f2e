use Rattle.std.proofs.Common.{◌≡◌, true, ap, arith, sym, subst, ◌∙◌}
use Rattle.std.specs.Prelude.{Ok, length}
use Rattle.std.proofs.lemmas.Result.{IfOk-weaker}
use Rattle.agg_evaluation.specs.Finishable.{can_finish}
use Rattle.agg_model.specs.declared.partial.Partial.{Partial}
use Rattle.agg_spec.specs.Failures.{unfailed}
use Rattle.agg_spec.specs.Final.{final}
use Rattle.agg_spec.specs.Notes.{piped}
use Rattle.agg_spec.specs.Outcome.{Request, answer_of, line_in_range, outcome_of_shards, wide_path}
use Rattle.agg_spec.specs.Response.{response_line}
use Rattle.fitting_laws.specs.Indexes.{index_of}
use Rattle.agg_search.proofs.AnswerParts.{left-finish}
use Rattle.agg_search.proofs.NextPages.{answered-behind}
use Rattle.agg_search.proofs.Outcomes.{answered-outcome, ascending-length, whole-is}
use Rattle.agg_search.specs.Paging.{IsBehind, next_of}
use Rattle.agg_search.specs.declared.paging.Found.{Found}
use Rattle.agg_search.proofs.answering.outcome_of.Goals as goal

pub finish-requires-clause-whole : goal.finish-requires-clause-whole
finish-requires-clause-whole c =
    let index = c.args.index.now in
    let search = c.args.search in
    let left = unfailed (index_of index) c.args.failures.now in
    subst (λ (p : Partial). can_finish search p ≡ true) (sym (whole-is (index_of index) search left c.in-Some.whole (sym c.in-Some.is ∙ c.requires.whole)))
    (left-finish index search c.requires.search.made c.args.failures.now)

pub answered-requires-clause-in_range : goal.answered-requires-clause-in_range
answered-requires-clause-in_range c = c.in-Ok.ensures.within_limits.1

pub answered-requires-clause-few : goal.answered-requires-clause-few
answered-requires-clause-few c = let few = ascending-length 0 (length c.args.index.now.shards) c.args.failures.now c.requires.failures in omega arith

pub returns-in-Ok-clause-outcome : goal.returns-in-Ok-clause-outcome
returns-in-Ok-clause-outcome c =
    let index = c.args.index.now in
    let search = c.args.search in
    let fs = c.args.failures.now in
    let left = unfailed (index_of index) fs in
    let given = sym c.in-Some.is ∙ c.requires.whole in
    let same : c.in-Ok.answer ≡ answer_of (index_of index) search left = c.in-Ok.ensures.answer ∙ ap (final search) (whole-is (index_of index) search left c.in-Some.whole given) in
    let outcome = answered-outcome index c.args.max_buckets search fs left c.in-Some.whole c.in-Ok.answer given same c.in-Ok.ensures.within_limits.0 in
    IfOk-weaker c.answered.result
    (λ (found : Found). found.outcome ≡ line_in_range (wide_path search c.in-Ok.answer) (response_line search index.mapping (piped search c.in-Ok.answer) (length index.shards) fs))
    (λ (found : Found). found.outcome ≡ outcome_of_shards (index_of index) c.args.max_buckets search fs left)
    (λ (found : Found) told. told ∙ outcome)
    c.answered.ensures.outcome

pub returns-in-Ok-clause-next : goal.returns-in-Ok-clause-next
returns-in-Ok-clause-next c =
    let index = c.args.index.now in
    let search = c.args.search in
    let fs = c.args.failures.now in
    let left = unfailed (index_of index) fs in
    let same : c.in-Ok.answer ≡ answer_of (index_of index) search left =
    c.in-Ok.ensures.answer ∙ ap (final search) (whole-is (index_of index) search left c.in-Some.whole (sym c.in-Some.is ∙ c.requires.whole)) in
    IfOk-weaker c.answered.result
    (λ (found : Found). found.next ≡ next_of search c.in-Ok.answer found.outcome)
    (λ (found : Found). (request : Request) → request.search ≡ Ok search → IsBehind index request found.outcome fs found.next)
    (λ (found : Found) told request is. answered-behind index request fs search c.in-Ok.answer found.outcome found.next is c.requires.search.made same told)
    c.answered.ensures.next
