-- The pages of a search so far, each where the ones before it leave the breakers.
use Rattle.std.specs.Prelude.{◌≡◌, refl, ℕ, List, [], ◌∷◌, ◌++◌, IfSome, IsTrue, length, Option, Some, None, option_map}
use Rattle.std.proofs.Common.{inl, inr, ◌∙◌, ap, sym, subst, append_assoc}
use Rattle.agg_evaluation.specs.SearchFits.{search_fits}
use Rattle.agg_model.specs.declared.aggregation.Search.{Search}
use Rattle.agg_model.specs.declared.breaker.Which.{Which}
use Rattle.agg_model.specs.declared.outcome.Answered.{Answered}
use Rattle.agg_model.specs.declared.outcome.Outcome.TheVariants as ended
use Rattle.agg_model.specs.declared.settings.Settings.{Settings}
use Rattle.agg_spec.specs.Charges.{Run}
use Rattle.agg_spec.specs.Index.{Index}
use Rattle.agg_spec.specs.Outcome.{Request}
use Rattle.agg_spec.specs.Pages.{next_page}
use Rattle.agg_spec.specs.Requests.{request_of}
use Rattle.agg_spec.specs.Solo.{after_request, solo_answer}
use Rattle.breaker_words.specs.Passes.{PassModel, WordsModel}
use Rattle.breaker_words.specs.Views.{hold_of}
use Rattle.breaker_words.specs.declared.view.View.{View}
use Rattle.shard_columns.specs.declared.index.Index.{Index as ShardIndex}
use Rattle.solo_charges.specs.Alone.{IsAlone}
use Rattle.solo_charges.specs.Standing.{Before, StandsAt}
use Rattle.fitting_laws.specs.Indexes.{index_of}
use Rattle.agg_search.specs.Answering.{AnswersAlone, IsAnswered}
use Rattle.agg_search.specs.Paging.{AnswersPages, ArePagesFrom, IsBehind, page_of, request_at}

module _ (settings : Settings) (index : Index) (start : Run) (first : Request) where
  -- these are the answers before a page: those from it on are all the others
  abbrev pub Leads : Run → Request → List Answered → Type 0
  Leads r request answers = (later : List Answered) (end : Run) → ArePagesFrom settings index r (Some request) later end → ArePagesFrom settings index start (Some first) (answers ++ later) end

  module _ (r : Run) (request : Request) (answers : List Answered) (a : Answered) (leads : Leads r request answers) (is : a ≡ solo_answer settings index r request) where
    abbrev after : Run
    after = after_request settings index r request

    with-one : (later : List Answered) (end : Run) → ArePagesFrom settings index after (next_page index request a.outcome a.failures) later end
        → ArePagesFrom settings index start (Some first) ((answers ++ a ∷ []) ++ later) end
    with-one later end are =
        subst (λ (all : List Answered). ArePagesFrom settings index start (Some first) all end) (sym (append_assoc answers (a ∷ []) later)) (leads (a ∷ later) end (is, are))

    pub leads-on : (next : Request) → next_page index request a.outcome a.failures ≡ Some next → Leads after next (answers ++ a ∷ [])
    leads-on next page later end are = with-one later end (subst (λ (o : Option Request). ArePagesFrom settings index after o later end) (sym page) are)

    pub leads-all : next_page index request a.outcome a.failures ≡ None → ArePagesFrom settings index start (Some first) (answers ++ a ∷ []) after
    leads-all page =
        leads (a ∷ []) after (is, subst (λ (o : Option Request). ArePagesFrom settings index after o [] after) (sym page) refl)

-- the pages so far, the pass behind them, and the search of the next one where it is not the first
pub record IsSoFar (settings : Settings) (index : ShardIndex) (body : List ℕ) (words : WordsModel) (old now : PassModel) (search : Option Search) (answers : List Answered) : Type 0 where
  pub alone : IsAlone words now
  pub holds : (x : Which) → hold_of now.view x ≡ hold_of old.view x
  pub made : IfSome search (λ (s : Search). IsTrue (search_fits index.mapping s))
  pub leads : (before : Before) (start : Run) → StandsAt before old.view start → (r : Run) × StandsAt before now.view r
      × Leads settings (index_of index) start (request_of (index_of index) body) r (request_at (index_of index) body search) answers

unless-memory : (settings : Settings) (index : Index) (request : Request) (v u : View) (a : Answered) → AnswersAlone settings index request v u a → (a.outcome ≡ ended.Memory → ⊥)
    → (before : Before) (r : Run) → StandsAt before v r → IsAnswered settings index request before r u a
unless-memory settings index request v u a (inl memory) not = absurd (not memory)
unless-memory settings index request v u a (inr answers) not = answers

-- one page more
module _ (settings : Settings) (index : ShardIndex) (body : List ℕ) (words : WordsModel) (old now after : PassModel) (search : Option Search) (answers : List Answered) (a : Answered) (next : Option Search) where
  abbrev page_asked : Request
  page_asked = request_at (index_of index) body search

  module _ (so : IsSoFar settings index body words old now search answers) (is : AnswersAlone settings (index_of index) page_asked now.view after.view a) (not : a.outcome ≡ ended.Memory → ⊥)
      (behind : IsBehind index page_asked a.outcome a.failures next) where
    pub so-far-on : IsAlone words after → ((x : Which) → hold_of after.view x ≡ hold_of now.view x) → (s : Search) → next ≡ Some s
        → IsSoFar settings index body words old after (Some s) (answers ++ a ∷ [])
    so-far-on alone holds s found = record {
      alone = alone;
      holds = λ x. holds x ∙ so.holds x;
      made = subst (λ (o : Option Search). IfSome o (λ (s : Search). IsTrue (search_fits index.mapping s))) found behind.made;
      leads = λ before start stands.
          let led = so.leads before start stands in
          let answered = unless-memory settings (index_of index) page_asked now.view after.view a is not before led.0 led.1 in (
            after_request settings (index_of index) led.0 page_asked,
            answered.stands,
            leads-on settings (index_of index) start (request_of (index_of index) body) led.0 page_asked answers a led.2 answered.answer
                (request_at (index_of index) body (Some s)) (behind.page ∙ ap (option_map (page_of (length body))) found),
          );
    }

    pub so-far-all : next ≡ None → AnswersPages settings (index_of index) (request_of (index_of index) body) old.view after.view (answers ++ a ∷ [])
    so-far-all found before start stands =
        let led = so.leads before start stands in
        let answered = unless-memory settings (index_of index) page_asked now.view after.view a is not before led.0 led.1 in (
          after_request settings (index_of index) led.0 page_asked,
          leads-all settings (index_of index) start (request_of (index_of index) body) led.0 page_asked answers a led.2 answered.answer
              (behind.page ∙ ap (option_map (page_of (length body))) found),
          answered.stands,
        )
