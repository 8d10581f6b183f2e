-- One more round of one worker.
use Rattle.std.specs.Prelude.{◌≡◌, ℕ, Bool, true, false, ◌&&◌, ◌==◌, List, [], ◌∷◌, ◌++◌, flat_map}
use Rattle.std.proofs.Common.{inl, inr, refl, ◌∙◌, sym, ap, subst, arith, eq-eqb}
use Rattle.list_laws.proofs.Lists.{flat_map-append}
use Rattle.agg_model.specs.declared.outcome.Answered.{Answered}
use Rattle.agg_model.specs.declared.outcome.Outcome.TheVariants as ended
use Rattle.agg_model.specs.declared.settings.Settings.{Settings}
use Rattle.agg_spec.specs.Answers.{Recent, IsAllowed, IsSolo, AreRounds}
use Rattle.agg_spec.specs.Charges.{Run}
use Rattle.agg_spec.specs.Index.{Index}
use Rattle.agg_spec.specs.Outcome.{Request}
use Rattle.agg_spec.specs.Rounds.{Round}
use Rattle.agg_spec.specs.Solo.{idle, after_requests, after_request, solo_answer}
use Rattle.agg_spec.specs.Statistics.{is_solo}
use Rattle.agg_spec.specs.Wave.{MayAnswerWave}
use Rattle.agg_search.specs.Answering.{AnswersAlone}
use Rattle.breaker_words.specs.declared.view.View.{View}
use Rattle.script_answers.specs.Answering.{AnswersRound}
use Rattle.script_answers.proofs.Batches.{one-batched}
use Rattle.script_answers.proofs.Forming.{Formed}
use Rattle.solo_charges.specs.Standing.{StandsAt}
use Rattle.solo_answerer.specs.Worked.{before_searches, HasAnswered, IsForOne}
use Rattle.solo_answerer.proofs.SameHolds.{same-answer, after-all-like, after-more}

both-true : (a b : Bool) → a ≡ true → b ≡ true → (a && b) ≡ true
both-true a b first second = ap (λ (x : Bool). x && b) first ∙ second

pub is-solo : (settings : Settings) → IsForOne settings → is_solo settings ≡ true
is-solo settings one = both-true (settings.workers == 1) (settings.width == 1) (eq-eqb settings.workers 1 one.worker) (eq-eqb settings.width 1 one.search)

abbrev pub requests_of : List Round → List Request
requests_of rounds = flat_map (λ (round : Round). round.requests) rounds

module _ (settings : Settings) (index : Index) (columns : ℕ) (request : Request) (a : Answered) where
  abbrev pub one_round : Round
  one_round = record { settings = settings; requests = request ∷ []; answers = a ∷ [] }

  abbrev AllowedIf : Bool → Type 0
  AllowedIf b = elim b [
    | true ↦ IsSolo index columns settings (request ∷ []) (a ∷ [])
    | false ↦ MayAnswerWave settings index columns (request ∷ []) (a ∷ [])
  ]

  one-formed : (scan : Bool) → scan ≡ false → settings.width ≡ 1 → Formed index columns settings scan (request ∷ []) (one_round ∷ [])
  one-formed scan none width =
      subst (λ (b : Bool). Formed index columns settings b (request ∷ []) (one_round ∷ [])) (sym none)
      (sym (one-batched settings.width (request ∷ []) (omega arith) (omega (arith, width))))

  pub one-allowed : IsForOne settings → a ≡ solo_answer settings index (idle columns) request → IsAllowed index columns one_round
  one-allowed one answer = subst AllowedIf (sym (is-solo settings one)) (inl answer)

  are-one : IsForOne settings → settings.scan ≡ false → a ≡ solo_answer settings index (idle columns) request
      → AreRounds index columns (IsAllowed index columns) settings (request ∷ []) (one_round ∷ [])
  are-one one no_scan answer = record { form = one-formed settings.scan no_scan one.search; each = ((refl, one-allowed one answer), tt) }

  more-requests : (rounds : List Round) → requests_of (rounds ++ one_round ∷ []) ≡ requests_of rounds ++ request ∷ []
  more-requests rounds = flat_map-append (λ (round : Round). round.requests) rounds (one_round ∷ [])

  module _ (v u : View) (recent : Recent) (one : IsForOne settings) (no_scan : settings.scan ≡ false) (same : recent.settings ≡ settings) (has : HasAnswered settings index columns v recent.rounds) where
    abbrev at : Run
    at = after_requests settings index (idle columns) (requests_of recent.rounds)

    round-of : a ≡ solo_answer settings index at request → StandsAt (before_searches columns) u (after_request settings index at request)
        → AnswersRound index columns recent (request ∷ []) (HasAnswered settings index columns u) (a ∷ [])
    round-of answer stands = record {
      rounds = one_round ∷ [];
      are = subst (λ (s : Settings). AreRounds index columns (IsAllowed index columns) s (request ∷ []) (one_round ∷ [])) (sym same)
          (are-one one no_scan (answer ∙ same-answer settings index at (idle columns) request (after-all-like settings index (idle columns) (idle columns) (requests_of recent.rounds) (record { holds = refl; refused = refl }) refl)));
      answered = refl;
      count = subst (λ (rs : List Request). StandsAt (before_searches columns) u (after_requests settings index (idle columns) rs)) (sym (more-requests recent.rounds))
          (subst (StandsAt (before_searches columns) u) (sym (after-more settings index (idle columns) (requests_of recent.rounds) request)) stands);
    }

    -- the search was answered in one more round
    pub one-more : AnswersAlone settings index request v u a → (a.outcome ≡ ended.Memory → ⊥) → AnswersRound index columns recent (request ∷ []) (HasAnswered settings index columns u) (a ∷ [])
    one-more (inl memory) not = absurd (not memory)
    one-more (inr answers) not = let is = answers (before_searches columns) at has in round-of is.answer is.stands
