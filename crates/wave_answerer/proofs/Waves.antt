-- Waves one after another: each is allowed, and a pass counts them.
use Rattle.std.specs.Prelude.{◌≡◌, ◌≤◌, ℕ, Bool, true, false, List, [], ◌∷◌, ◌++◌, length}
use Rattle.std.specs.List.{AllByRecursion}
use Rattle.std.proofs.Common.{refl, ◌∙◌, sym, ap, subst, append_assoc, append-nil}
use Rattle.agg_model.specs.declared.breaker.Which.{Which}
use Rattle.agg_model.specs.declared.breaker.Which.TheVariants.{Fielddata}
use Rattle.agg_model.specs.declared.outcome.Answered.{Answered}
use Rattle.agg_model.specs.declared.settings.Settings.{Settings}
use Rattle.agg_spec.specs.Answers.{AreRounds, IsAllowed, IsSolo, Recent}
use Rattle.agg_spec.specs.Index.{Index}
use Rattle.agg_spec.specs.Outcome.{Request}
use Rattle.agg_spec.specs.Rises.{rises}
use Rattle.agg_spec.specs.Rounds.{Round}
use Rattle.agg_spec.specs.Statistics.{is_solo}
use Rattle.agg_spec.specs.Wave.{MayAnswerWave}
use Rattle.breaker_words.specs.Views.{hold_of}
use Rattle.breaker_words.specs.declared.view.View.{View}
use Rattle.script_answers.specs.Answering.{AnswersRound}
use Rattle.script_answers.proofs.Batches.{one-batched}
use Rattle.script_answers.proofs.Forming.{Formed}
use Rattle.search_wave.specs.Pages.{ArePageAnswers, AreWavesFrom}
use Rattle.wave_answerer.specs.Worked.{HasAnswered, HasCounted}
use Rattle.wave_answerer.proofs.Counting.{counts-more}
use Rattle.search_wave.specs.Waves.{HasRisenBy, IsWave, round_of}

module _ (settings : Settings) (index : Index) (columns : ℕ) where
  abbrev AllowedIf : Round → Bool → Type 0
  AllowedIf round b = elim b [
    | true ↦ IsSolo index columns round.settings round.requests round.answers
    | false ↦ MayAnswerWave round.settings index columns round.requests round.answers
  ]

  -- with several workers or searches at a time, what a wave may answer is allowed
  allowed-of : (round : Round) → is_solo settings ≡ false → round.settings ≡ settings → MayAnswerWave settings index columns round.requests round.answers
      → IsAllowed index columns round
  allowed-of round several same wave =
      subst (AllowedIf round) (sym (ap is_solo same ∙ several))
      (subst (λ (s : Settings). MayAnswerWave s index columns round.requests round.answers) (sym same) wave)

  -- what was held before a wave are the columns
  allowed-at : (requests : List Request) (answers : List Answered) (old new : View) → hold_of old Fielddata ≡ columns → IsWave settings index requests old new answers
      → MayAnswerWave settings index columns requests answers
  allowed-at requests answers old new held wave = subst (λ (k : ℕ). MayAnswerWave settings index k requests answers) held wave.allowed

  risen-at : (requests : List Request) (answers : List Answered) (old new : View) → hold_of old Fielddata ≡ columns → IsWave settings index requests old new answers
      → HasRisenBy (rises index columns (round_of settings requests answers)) old new
  risen-at requests answers old new held wave =
      subst (λ (k : ℕ). HasRisenBy (rises index k (round_of settings requests answers)) old new) held wave.risen

  risen-of : (round : Round) (old new : View) → round.settings ≡ settings → hold_of old Fielddata ≡ columns → IsWave settings index round.requests old new round.answers
      → HasRisenBy (rises index columns round) old new
  risen-of round old new same held wave =
      subst (λ (s : Settings). HasRisenBy (rises index columns (round_of s round.requests round.answers)) old new) (sym same)
      (risen-at round.requests round.answers old new held wave)

  waves-allowed : (rounds : List Round) (old new : View) → is_solo settings ≡ false → hold_of old Fielddata ≡ columns → AreWavesFrom settings index old rounds new
      → AllByRecursion (λ (round : Round). (round.settings ≡ settings) × IsAllowed index columns round) rounds
  waves-allowed [] old new several held waves = tt
  waves-allowed (round ∷ later) old new several held waves = (
    (waves.1, allowed-of round several waves.1 (allowed-at round.requests round.answers old waves.0 held waves.2)),
    waves-allowed later waves.0 new several (waves.3 ∙ held) waves.4,
  )

  waves-counted : (rounds before : List Round) (old new : View) → hold_of old Fielddata ≡ columns → HasCounted index columns old before
      → AreWavesFrom settings index old rounds new → HasCounted index columns new (before ++ rounds)
  waves-counted [] before old new held was waves =
      subst (λ (v : View). HasCounted index columns v (before ++ [])) (sym waves) (subst (HasCounted index columns old) (sym (append-nil before)) was)
  waves-counted (round ∷ later) before old new held was waves =
      subst (HasCounted index columns new) (append_assoc before (round ∷ []) later)
      (waves-counted later (before ++ round ∷ []) waves.0 new (waves.3 ∙ held)
      (counts-more index columns old waves.0 before round was (risen-of round old waves.0 waves.1 held waves.2)) waves.4)

  module _ (recent : Recent) (old new : View) (several : is_solo settings ≡ false) (same : recent.settings ≡ settings)
      (stays : (x : Which) → hold_of new x ≡ hold_of old x) (has : HasAnswered index columns old recent.rounds) where
    held : hold_of old Fielddata ≡ columns
    held = has.holds Fielddata

    -- the searches of a wave were answered in one more round
    pub wave-answered : settings.scan ≡ false → (requests : List Request) (answers : List Answered) → 1 ≤ length requests → length requests ≤ settings.width
        → IsWave settings index requests old new answers → AnswersRound index columns recent requests (HasAnswered index columns new) answers
    wave-answered no_scan requests answers some few wave =
        let round = round_of settings requests answers in
        let allowed : IsAllowed index columns round = allowed-of round several refl (allowed-at requests answers old new held wave) in
        record {
          rounds = round ∷ [];
          are = subst (λ (s : Settings). AreRounds index columns (IsAllowed index columns) s requests (round ∷ [])) (sym same) (record {
            form = subst (λ (b : Bool). Formed index columns settings b requests (round ∷ [])) (sym no_scan) (sym (one-batched settings.width requests some few));
            each = ((refl, allowed), tt);
          });
          answered = sym (append-nil answers);
          count = record {
            holds = λ x. stays x ∙ has.holds x;
            counted = counts-more index columns old new recent.rounds round has.counted (risen-at requests answers old new held wave);
          };
        }

    -- the pages of a search were answered, each in one more round
    pub pages-answered : settings.scan ≡ true → (request : Request) (answers : List Answered)
        → ArePageAnswers settings index (hold_of old Fielddata) request old new answers
        → AnswersRound index columns recent (request ∷ []) (HasAnswered index columns new) answers
    pages-answered scan request answers found =
        let pages : ArePageAnswers settings index columns request old new answers =
        subst (λ (k : ℕ). ArePageAnswers settings index k request old new answers) held found in
        record {
          rounds = pages.rounds;
          are = subst (λ (s : Settings). AreRounds index columns (IsAllowed index columns) s (request ∷ []) pages.rounds) (sym same) (record {
            form = subst (λ (b : Bool). Formed index columns settings b (request ∷ []) pages.rounds) (sym scan) pages.pages;
            each = waves-allowed pages.rounds old new several held pages.waves;
          });
          answered = pages.answers_are;
          count = record {
            holds = λ x. stays x ∙ has.holds x;
            counted = waves-counted pages.rounds recent.rounds old new held has.counted pages.waves;
          };
        }
