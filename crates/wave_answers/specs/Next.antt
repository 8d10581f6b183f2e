-- The answer to the next body of some that are answered one after another ('Multi search API').
use Rattle.std.specs.Prelude.{◌≡◌, ℕ, ◌+◌, List, [], ◌∷◌, None, Ok}
use Rattle.agg_model.specs.declared.aggregation.Search.{Search}
use Rattle.agg_model.specs.declared.breaker.Limits.{Limits}
use Rattle.agg_model.specs.declared.breaker.Which.TheVariants.{Request, Parent}
use Rattle.agg_model.specs.declared.outcome.Outcome.TheVariants as ended
use Rattle.agg_search.specs.Paging.{IsBehind}
use Rattle.agg_search.specs.declared.solo.Page.{Page}
use Rattle.agg_spec.specs.Charges.{Amounts}
use Rattle.agg_spec.specs.Outcome.{Request as AnyRequest}
use Rattle.batch_reduce.specs.Parts.{cost_of_parts}
use Rattle.breaker_words.specs.Views.{hold_of}
use Rattle.breaker_words.specs.declared.view.View.{View}
use Rattle.fitting_laws.specs.Indexes.{index_of}
use Rattle.shard_pool.specs.declared.search_end.SearchEnd.{SearchEnd}
use Rattle.shard_columns.specs.declared.index.Index.{Index as ShardIndex}
use Rattle.wave_answers.specs.Ended.{IsAnswer}
use Rattle.wave_answers.specs.Rising.{HasRisen}
use Rattle.wave_bodies.specs.declared.asked.Asked.{Asked}
use Rattle.wave_bodies.specs.declared.asked.Asked.TheVariants as asks

-- the search behind the page of a search
abbrev pub IsNextOf : ShardIndex → Search → Page → Type 0
IsNextOf index search page = (request : AnyRequest) → request.search ≡ Ok search →
    IsBehind index request page.answered.outcome page.answered.failures page.next

-- A search was answered by a pass that was `old` before and is `new`, and what it held for the parts is given back.
pub record IsAnsweredBy (limits : Limits) (index : ShardIndex) (max : ℕ) (old : View) (search : Search) (e : SearchEnd) (page : Page) (new : View) : Type 0 where
  pub charged : ℕ
  pub trips : Amounts
  pub answer : IsAnswer limits (index_of index) max old search e page.answered charged trips
  pub risen : HasRisen charged trips old new
  pub request : hold_of new Request + cost_of_parts e.parts ≡ hold_of old Request
  pub parent : hold_of new Parent + cost_of_parts e.parts ≡ hold_of old Parent
  pub next : IsNextOf index search page

-- What the next body asks for is answered: where it asks for a search that runs, that is the first of those that are left.
abbrev pub IsNext : Limits → ShardIndex → ℕ → View → Asked → List Search → List SearchEnd → Page → View → List Search → List SearchEnd → Type 0
IsNext limits index max old (asks.Tripped t) searches ends page new later others =
    (page ≡ record { answered = record { outcome = ended.Tripped t; failures = [] }; next = None }) × (new ≡ old) × (later ≡ searches) × (others ≡ ends)
IsNext limits index max old (asks.Refused r) searches ends page new later others =
    (page ≡ record { answered = record { outcome = ended.Refused r; failures = [] }; next = None }) × (new ≡ old) × (later ≡ searches) × (others ≡ ends)
IsNext limits index max old asks.Runs searches ends page new later others =
    (search : Search) × (e : SearchEnd) × (searches ≡ search ∷ later) × (ends ≡ e ∷ others) × IsAnsweredBy limits index max old search e page new
