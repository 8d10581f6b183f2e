-- The rounds of a scan by one worker, of which each is a page.
use Rattle.std.specs.Prelude.{◌≡◌, ℕ, Bool, true, List, [], ◌∷◌, ◌++◌, flat_map, option_to_list, Option, Some, None}
use Rattle.std.specs.List.{AllByRecursion}
use Rattle.std.proofs.Common.{refl, ◌∙◌, sym, ap, subst}
use Rattle.list_laws.proofs.Lists.{flat_map-append}
use Rattle.agg_model.specs.declared.outcome.Answered.{Answered}
use Rattle.agg_model.specs.declared.settings.Settings.{Settings}
use Rattle.agg_spec.specs.Answers.{Recent, IsAllowed, ArePages, AreRounds}
use Rattle.agg_spec.specs.Charges.{Run}
use Rattle.agg_spec.specs.Index.{Index}
use Rattle.agg_spec.specs.Outcome.{Request}
use Rattle.agg_spec.specs.Pages.{next_page}
use Rattle.agg_spec.specs.Rounds.{Round}
use Rattle.agg_spec.specs.Solo.{idle, after_requests, after_request}
use Rattle.agg_search.specs.Paging.{AnswersPages, ArePagesFrom}
use Rattle.breaker_words.specs.declared.view.View.{View}
use Rattle.script_answers.specs.Answering.{AnswersRound}
use Rattle.script_answers.proofs.Forming.{Formed}
use Rattle.solo_charges.specs.Standing.{StandsAt}
use Rattle.solo_answerer.specs.Worked.{before_searches, HasAnswered, IsForOne}
use Rattle.solo_answerer.proofs.Rounds.{one_round, one-allowed, requests_of}
use Rattle.solo_answerer.proofs.SameHolds.{IsLike, same-answer, after-like, after-all-like, after-append}

module _ (settings : Settings) (index : Index) (columns : ℕ) where
  abbrev page_rounds : Option Request → List Answered → List Round
  page_rounds (Some request) (a ∷ rest) = one_round settings index columns request a ∷ page_rounds (next_page index request a.outcome a.failures) rest
  page_rounds _ _ = []

  abbrev Are : Run → Option Request → List Answered → Run → Type 0
  Are r o answers end = ArePagesFrom settings index r o answers end

  all-answered : (r : Run) (o : Option Request) (answers : List Answered) (end : Run) → Are r o answers end → answers ≡ flat_map (λ (round : Round). round.answers) (page_rounds o answers)
  all-answered r None [] end are = refl
  all-answered r None (a ∷ rest) end are = absurd are
  all-answered r (Some request) [] end are = absurd are
  all-answered r (Some request) (a ∷ rest) end are =
      ap (λ (xs : List Answered). a ∷ xs) (all-answered (after_request settings index r request) (next_page index request a.outcome a.failures) rest end are.1)

  all-formed : (r : Run) (o : Option Request) (answers : List Answered) (end : Run) → Are r o answers end → ArePages index columns (option_to_list o ++ []) (page_rounds o answers)
  all-formed r None [] end are = tt
  all-formed r None (a ∷ rest) end are = absurd are
  all-formed r (Some request) [] end are = absurd are
  all-formed r (Some request) (a ∷ rest) end are = (refl, all-formed (after_request settings index r request) (next_page index request a.outcome a.failures) rest end are.1)

  all-counted : (r : Run) (o : Option Request) (answers : List Answered) (end : Run) → Are r o answers end → end ≡ after_requests settings index r (requests_of (page_rounds o answers))
  all-counted r None [] end are = are
  all-counted r None (a ∷ rest) end are = absurd are
  all-counted r (Some request) [] end are = absurd are
  all-counted r (Some request) (a ∷ rest) end are = all-counted (after_request settings index r request) (next_page index request a.outcome a.failures) rest end are.1

  -- each page is answered as by a worker that has answered nothing before
  all-allowed : IsForOne settings → (r : Run) (o : Option Request) (answers : List Answered) (end : Run) → IsLike r (idle columns) → r.refused ≡ None → Are r o answers end
      → AllByRecursion (λ (round : Round). (round.settings ≡ settings) × IsAllowed index columns round) (page_rounds o answers)
  all-allowed one r None [] end like going are = tt
  all-allowed one r None (a ∷ rest) end like going are = absurd are
  all-allowed one r (Some request) [] end like going are = absurd are
  all-allowed one r (Some request) (a ∷ rest) end like going are = (
    (refl, one-allowed settings index columns request a one (are.0 ∙ same-answer settings index r (idle columns) request like)),
    all-allowed one (after_request settings index r request) (next_page index request a.outcome a.failures) rest end (after-like settings index r (idle columns) request like going) refl are.1,
  )

  module _ (v u : View) (recent : Recent) (one : IsForOne settings) (scan : settings.scan ≡ true) (same : recent.settings ≡ settings) (has : HasAnswered settings index columns v recent.rounds) where
    abbrev at : Run
    at = after_requests settings index (idle columns) (requests_of recent.rounds)

    like : IsLike at (idle columns)
    like = after-all-like settings index (idle columns) (idle columns) (requests_of recent.rounds) (record { holds = refl; refused = refl }) refl

    -- the pages were answered, each in one more round
    pub pages-more : (request : Request) (answers : List Answered) → AnswersPages settings index request v u answers
        → AnswersRound index columns recent (request ∷ []) (HasAnswered settings index columns u) answers
    pages-more request answers all =
        let found = all (before_searches columns) at has in
        let end = found.0 in
        let rounds = page_rounds (Some request) answers in
        record {
          rounds = rounds;
          are = subst (λ (s : Settings). AreRounds index columns (IsAllowed index columns) s (request ∷ []) rounds) (sym same) (record {
            form = subst (λ (b : Bool). Formed index columns settings b (request ∷ []) rounds) (sym scan) (all-formed at (Some request) answers end found.1);
            each = all-allowed one at (Some request) answers end like has.going found.1;
          });
          answered = all-answered at (Some request) answers end found.1;
          count = subst (StandsAt (before_searches columns) u)
              (all-counted at (Some request) answers end found.1
              ∙ sym (after-append settings index (idle columns) (requests_of recent.rounds) (requests_of rounds))
              ∙ ap (after_requests settings index (idle columns)) (sym (flat_map-append (λ (round : Round). round.requests) recent.rounds rounds)))
              found.2;
        }
