-- The pages of a search so far, each where the ones before it leave the breakers.
use Rattle.std.specs.Prelude.{◌≡◌, refl, ℕ, List, [], ◌∷◌, ◌++◌, flat_map, IfSome, IsTrue, Option, Some, None, option_map, option_to_list}
use Rattle.std.proofs.Common.{◌∙◌, ap, sym, subst, append-nil, append_assoc}
use Rattle.list_laws.proofs.Lists.{flat_map-append}
use Rattle.agg_evaluation.specs.SearchFits.{search_fits}
use Rattle.agg_model.specs.declared.aggregation.Search.{Search}
use Rattle.agg_model.specs.declared.breaker.Which.{Which}
use Rattle.agg_model.specs.declared.breaker.Which.TheVariants.{Fielddata}
use Rattle.agg_model.specs.declared.outcome.Answered.{Answered}
use Rattle.agg_model.specs.declared.settings.Settings.{Settings}
use Rattle.agg_search.specs.Paging.{IsBehind, page_of, request_at}
use Rattle.agg_spec.specs.Answers.{ArePages}
use Rattle.agg_spec.specs.Index.{Index}
use Rattle.agg_spec.specs.Outcome.{Request}
use Rattle.agg_spec.specs.Pages.{next_page}
use Rattle.agg_spec.specs.Requests.{request_of}
use Rattle.agg_spec.specs.Rounds.{Round}
use Rattle.breaker_words.specs.Passes.{PassModel, WordsModel}
use Rattle.breaker_words.specs.Views.{hold_of}
use Rattle.breaker_words.specs.declared.view.View.{View}
use Rattle.fitting_laws.specs.Indexes.{index_of}
use Rattle.search_wave.specs.Pages.{ArePageAnswers, AreWavesFrom}
use Rattle.shard_columns.specs.declared.index.Index.{Index as ShardIndex}
use Rattle.solo_charges.specs.Alone.{IsAlone}
use Rattle.search_wave.specs.Waves.{IsWave, round_of}

module _ (settings : Settings) (index : Index) (columns : ℕ) (first : Request) (old : View) where
  -- what follows these pages follows the first request
  pub record Leads (request : Request) (now : View) (answers : List Answered) : Type 0 where
    pub rounds : List Round
    pub answers_are : answers ≡ flat_map (λ (round : Round). round.answers) rounds
    pub pages : (later : List Round) → ArePages index columns (request ∷ []) later → ArePages index columns (first ∷ []) (rounds ++ later)
    pub waves : (later : List Round) (new : View) → AreWavesFrom settings index now later new → AreWavesFrom settings index old (rounds ++ later) new

  pub leads-first : Leads first old []
  leads-first = record { rounds = []; answers_are = refl; pages = λ later are. are; waves = λ later new are. are }

  abbrev one : Request → Answered → Round
  one request a = round_of settings (request ∷ []) (a ∷ [])

  answers-more : (rounds : List Round) (answers : List Answered) (request : Request) (a : Answered) → answers ≡ flat_map (λ (round : Round). round.answers) rounds
      → answers ++ a ∷ [] ≡ flat_map (λ (round : Round). round.answers) (rounds ++ one request a ∷ [])
  answers-more rounds answers request a same = ap (λ all. all ++ a ∷ []) same ∙ sym (flat_map-append (λ (round : Round). round.answers) rounds (one request a ∷ []))

  module _ (request : Request) (now new : View) (answers : List Answered) (a : Answered) (leads : Leads request now answers) (wave : IsWave settings index (request ∷ []) now new (a ∷ [])) (held : hold_of new Fielddata ≡ hold_of now Fielddata) where
    abbrev so_far : List Round
    so_far = leads.rounds ++ one request a ∷ []

    waves-on : (later : List Round) (end : View) → AreWavesFrom settings index new later end → AreWavesFrom settings index old (so_far ++ later) end
    waves-on later end are = subst (λ (all : List Round). AreWavesFrom settings index old all end) (sym (append_assoc leads.rounds (one request a ∷ []) later))
        (leads.waves (one request a ∷ later) end (new, refl, wave, held, are))

    pages-on : (later : List Round) → ArePages index columns (option_to_list (next_page index request a.outcome a.failures)) later → ArePages index columns (first ∷ []) (so_far ++ later)
    pages-on later are = subst (λ (all : List Round). ArePages index columns (first ∷ []) all) (sym (append_assoc leads.rounds (one request a ∷ []) later))
        (leads.pages (one request a ∷ later) (refl, are'))
      where
        are' : ArePages index columns (option_to_list (next_page index request a.outcome a.failures) ++ []) later
        are' = subst (λ (rs : List Request). ArePages index columns rs later) (sym (append-nil (option_to_list (next_page index request a.outcome a.failures)))) are

    pub leads-on : (next : Request) → next_page index request a.outcome a.failures ≡ Some next → Leads next new (answers ++ a ∷ [])
    leads-on next page = record {
      rounds = so_far;
      answers_are = answers-more leads.rounds answers request a leads.answers_are;
      pages = λ later are. pages-on later (subst (λ (o : Option Request). ArePages index columns (option_to_list o) later) (sym page) are);
      waves = waves-on;
    }

    pub leads-all : next_page index request a.outcome a.failures ≡ None → ArePageAnswers settings index columns first old new (answers ++ a ∷ [])
    leads-all page = record {
      rounds = so_far;
      answers_are = answers-more leads.rounds answers request a leads.answers_are;
      pages = subst (λ (all : List Round). ArePages index columns (first ∷ []) all) (append-nil so_far)
          (pages-on [] (subst (λ (o : Option Request). ArePages index columns (option_to_list o) []) (sym page) tt));
      waves = subst (λ (all : List Round). AreWavesFrom settings index old all new) (append-nil so_far) (waves-on [] new refl);
    }

-- the pages so far, the pass behind them, and the search of the next one where it is not the first
pub record IsSoFar (settings : Settings) (index : ShardIndex) (body : List ℕ) (words : WordsModel) (old now : PassModel) (read : Option Search) (answers : List Answered) : Type 0 where
  pub alone : IsAlone words now
  pub holds : (x : Which) → hold_of now.view x ≡ hold_of old.view x
  pub made : IfSome read (λ (s : Search). IsTrue (search_fits index.mapping s))
  pub leads : Leads settings (index_of index) (hold_of old.view Fielddata) (request_of (index_of index) body) old.view (request_at (index_of index) body read) now.view answers

pub so-far-first : (settings : Settings) (index : ShardIndex) (body : List ℕ) (words : WordsModel) (old : PassModel) → IsAlone words old → IsSoFar settings index body words old old None []
so-far-first settings index body words old alone = record {
  alone = alone;
  holds = λ x. refl;
  made = tt;
  leads = leads-first settings (index_of index) (hold_of old.view Fielddata) (request_of (index_of index) body) old.view;
}

-- one page more
module _ (settings : Settings) (index : ShardIndex) (body : List ℕ) (words : WordsModel) (old now after : PassModel) (read : Option Search) (answers : List Answered) (a : Answered) (next : Option Search)
    (so : IsSoFar settings index body words old now read answers) (wave : IsWave settings (index_of index) (request_at (index_of index) body read ∷ []) now.view after.view (a ∷ []))
    (behind : IsBehind index (request_at (index_of index) body read) a.outcome a.failures next) (kept : (x : Which) → hold_of after.view x ≡ hold_of now.view x) where
  pub so-far-on : IsAlone words after → (s : Search) → next ≡ Some s → IsSoFar settings index body words old after (Some s) (answers ++ a ∷ [])
  so-far-on alone s found = record {
    alone = alone;
    holds = λ x. kept x ∙ so.holds x;
    made = subst (λ (o : Option Search). IfSome o (λ (s : Search). IsTrue (search_fits index.mapping s))) found behind.made;
    leads = leads-on settings (index_of index) (hold_of old.view Fielddata) (request_of (index_of index) body) old.view (request_at (index_of index) body read) now.view after.view answers a so.leads wave (kept Fielddata)
        (request_at (index_of index) body (Some s)) (behind.page ∙ ap (option_map (page_of (request_at (index_of index) body read).bytes)) found);
  }

  pub so-far-all : next ≡ None → ArePageAnswers settings (index_of index) (hold_of old.view Fielddata) (request_of (index_of index) body) old.view after.view (answers ++ a ∷ [])
  so-far-all none = leads-all settings (index_of index) (hold_of old.view Fielddata) (request_of (index_of index) body) old.view (request_at (index_of index) body read) now.view after.view answers a so.leads wave (kept Fielddata)
      (behind.page ∙ ap (option_map (page_of (request_at (index_of index) body read).bytes)) none)
