-- The pages of a search by one worker, one after another ('Composite aggregation', pagination: `after` and `after_key`).
use Rattle.std.specs.Prelude.{◌≡◌, ℕ, Bool, true, false, List, [], ◌∷◌, IfSome, IsTrue, length, Option, Some, None, option_map, Result, Ok}
use Rattle.agg_evaluation.specs.SearchFits.{search_fits}
use Rattle.agg_model.specs.declared.aggregation.Search.{Search}
use Rattle.agg_model.specs.declared.key.Key.{Key}
use Rattle.agg_model.specs.declared.outcome.Answered.{Answered}
use Rattle.agg_model.specs.declared.outcome.Failure.{Failure}
use Rattle.agg_model.specs.declared.answer.Answer.{Answer}
use Rattle.agg_model.specs.declared.outcome.Outcome.{Outcome}
use Rattle.agg_model.specs.declared.outcome.Outcome.TheVariants as ended
use Rattle.agg_model.specs.declared.outcome.Refused.{Refused}
use Rattle.agg_model.specs.declared.settings.Settings.{Settings}
use Rattle.agg_spec.specs.Charges.{Run}
use Rattle.agg_spec.specs.Index.{Index}
use Rattle.agg_spec.specs.Outcome.{Request}
use Rattle.agg_spec.specs.Pages.{is_paged, last_key, next_page, search_after}
use Rattle.agg_spec.specs.Requests.{request_of}
use Rattle.agg_spec.specs.Solo.{after_request, solo_answer}
use Rattle.breaker_words.specs.declared.view.View.{View}
use Rattle.shard_columns.specs.declared.index.Index.{Index as ShardIndex}
use Rattle.solo_charges.specs.Standing.{Before, StandsAt}
use Rattle.fitting_laws.specs.Indexes.{index_of}

-- the search for what follows the key, where there is a key and the search is paged
abbrev pub search_behind : Bool → Search → Option Key → Option Search
search_behind true search key = option_map (search_after search) key
search_behind false search key = None

-- the search of the page behind an answer, where it is printed
abbrev pub next_of : Search → Answer → Outcome → Option Search
next_of search answer (ended.Response line) = search_behind (is_paged search.aggs) search (last_key answer.nodes)
next_of search answer (ended.Refused r) = None
next_of search answer (ended.Tripped t) = None
next_of search answer ended.Memory = None

-- a search that was read, of a body of so many bytes
abbrev pub page_of : ℕ → Search → Request
page_of bytes search = record { bytes = bytes; search = Ok search }

-- what the body says, where its search was not read before
abbrev pub search_at : Index → List ℕ → Option Search → Result Search Refused
search_at index body None = (request_of index body).search
search_at index body (Some search) = Ok search

abbrev pub request_at : Index → List ℕ → Option Search → Request
request_at index body read = record { bytes = length body; search = search_at index body read }

-- This is the search of the page behind one that ended so, and it is made for the index.
pub record IsBehind (index : ShardIndex) (request : Request) (o : Outcome) (failures : List Failure) (next : Option Search) : Type 0 where
  pub page : next_page (index_of index) request o failures ≡ option_map (page_of request.bytes) next
  pub made : IfSome next (λ search. IsTrue (search_fits index.mapping search))

module _ (settings : Settings) (index : Index) where
  -- These are the answers from this page on, up to the last: each is that of the run where the pages before it leave the breakers.
  abbrev pub ArePagesFrom : Run → Option Request → List Answered → Run → Type 0
  ArePagesFrom r None [] end = end ≡ r
  ArePagesFrom r (Some request) (a ∷ rest) end =
      (a ≡ solo_answer settings index r request)
      × ArePagesFrom (after_request settings index r request) (next_page index request a.outcome a.failures) rest end
  ArePagesFrom _ _ _ _ = ⊥

  -- all pages from the first on, from wherever the pass stands
  abbrev pub AnswersPages : Request → View → View → List Answered → Type 0
  AnswersPages request v u answers =
      (before : Before) (r : Run) → StandsAt before v r → (end : Run) × ArePagesFrom r (Some request) answers end × StandsAt before u end
