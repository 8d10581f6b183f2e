-- The search of the page behind a page.
use Rattle.std.specs.Prelude.{◌≡◌, refl, ℕ, Bool, true, false, List, IfOk, IfSome, IsTrue, Option, None, option_map, Result, Ok, Err}
use Rattle.std.proofs.Common.{◌∙◌, ap, sym, subst}
use Rattle.agg_evaluation.specs.SearchFits.{search_fits}
use Rattle.agg_model.specs.declared.aggregation.Search.{Search}
use Rattle.agg_model.specs.declared.answer.Answer.{Answer}
use Rattle.agg_model.specs.declared.outcome.Failure.{Failure}
use Rattle.agg_model.specs.declared.outcome.Outcome.{Outcome}
use Rattle.agg_model.specs.declared.outcome.Outcome.TheVariants as ended
use Rattle.agg_spec.specs.Failures.{unfailed}
use Rattle.agg_spec.specs.Index.{Index}
use Rattle.agg_spec.specs.Outcome.{Request, answer_of}
use Rattle.agg_spec.specs.Pages.{is_paged, last_key, next_page, next_search, request_after, search_after}
use Rattle.fitting_laws.proofs.NextPages.{next_fits}
use Rattle.shard_columns.specs.declared.index.Index.{Index as ShardIndex}
use Rattle.fitting_laws.specs.Indexes.{index_of}
use Rattle.agg_search.specs.Paging.{IsBehind, next_of, page_of, search_behind}
use Rattle.agg_search.specs.Telling.{next_as, told_as}
use Rattle.agg_search.specs.declared.paging.Found.{Found}
use Rattle.agg_search.specs.declared.stop.Stop.{Stop}
use Rattle.agg_search.specs.declared.stop.Stop.TheVariants as stop

behind-next : (index : Index) (shards : List ℕ) (b : Bool) (search : Search) (answer : Answer) → answer ≡ answer_of index search shards
    → search_behind b search (last_key answer.nodes) ≡ next_search index shards b search
behind-next index shards true search answer same = ap (λ (a : Answer). option_map (search_after search) (last_key a.nodes)) same
behind-next index shards false search answer same = refl

module _ (index : ShardIndex) (request : Request) (failures : List Failure) where
  abbrev left : List ℕ
  left = unfailed (index_of index) failures

  abbrev AreMade : Option Search → Type 0
  AreMade next = IfSome next (λ (search : Search). IsTrue (search_fits index.mapping search))

  -- behind a response
  pub response-behind : (search : Search) (line : List ℕ) (answer : Answer) (next : Option Search) → request.search ≡ Ok search → IsTrue (search_fits index.mapping search)
      → answer ≡ answer_of (index_of index) search left → next ≡ search_behind (is_paged search.aggs) search (last_key answer.nodes)
      → IsBehind index request (ended.Response line) failures next
  response-behind search line answer next is made same found =
      let next_is : next ≡ next_search (index_of index) left (is_paged search.aggs) search = found ∙ behind-next (index_of index) left (is_paged search.aggs) search answer same in
      record {
        page = ap (request_after (index_of index) left request.bytes) is ∙ sym (ap (option_map (page_of request.bytes)) next_is);
        made = subst AreMade (sym next_is) (next_fits (index_of index) left search made);
      }

  -- behind an outcome without a page
  pub nothing-behind : (o : Outcome) (next : Option Search) → next_page (index_of index) request o failures ≡ None → next ≡ None → IsBehind index request o failures next
  nothing-behind o next none found = record {
    page = none ∙ sym (ap (option_map (page_of request.bytes)) found);
    made = subst AreMade (sym found) tt;
  }

  -- behind what an answer comes to
  pub answered-behind : (search : Search) (answer : Answer) (o : Outcome) (next : Option Search) → request.search ≡ Ok search → IsTrue (search_fits index.mapping search)
      → answer ≡ answer_of (index_of index) search left → next ≡ next_of search answer o → IsBehind index request o failures next
  answered-behind search answer (ended.Response line) next is made same found = response-behind search line answer next is made same found
  answered-behind search answer (ended.Refused r) next is made same found = nothing-behind (ended.Refused r) next refl found
  answered-behind search answer (ended.Tripped t) next is made same found = nothing-behind (ended.Tripped t) next refl found
  answered-behind search answer ended.Memory next is made same found = nothing-behind ended.Memory next refl found

  -- behind the end of a search
  pub told-behind : (end : Result Found Stop) → IfOk end (λ (found : Found). IsBehind index request found.outcome failures found.next) → IsBehind index request (told_as end) failures (next_as end)
  told-behind (Ok found) behind = behind
  told-behind (Err (stop.Refused t)) behind = nothing-behind (ended.Tripped t) None refl refl
  told-behind (Err stop.Memory) behind = nothing-behind ended.Memory None refl refl
