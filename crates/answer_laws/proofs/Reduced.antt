-- Whatever breakers refuse, a response or a refused body is the outcome of the whole reduction.
use Rattle.std.specs.Prelude.{◌≡◌, refl, ℕ, Bool, true, false, List, [], ◌∷◌, zip, Option, Some, None}
use Rattle.std.specs.List.{AllByRecursion}
use Rattle.std.proofs.Common.{◌∙◌, ap, sym, subst, inl, inr}
use Rattle.agg_model.specs.declared.breaker.Tripped.{Tripped}
use Rattle.agg_model.specs.declared.settings.Settings.{Settings}
use Rattle.agg_model.specs.declared.outcome.Answered.{Answered}
use Rattle.agg_model.specs.declared.outcome.Outcome.{Outcome}
use Rattle.agg_model.specs.declared.outcome.Outcome.TheVariants as ended
use Rattle.agg_spec.specs.Index.{Index}
use Rattle.agg_spec.specs.Outcome.{Request, outcome}
use Rattle.agg_spec.specs.Rounds.{Round}
use Rattle.agg_spec.specs.Solo.{idle, solo_run, outcome_with, outcome_unless}
use Rattle.agg_spec.specs.Wave.{MayEnd, MayAnswer, MayAnswerEach}
use Rattle.agg_spec.specs.Statistics.{is_solo}
use Rattle.agg_spec.specs.Answers.{IsSolo, IsAllowed}
use Rattle.answer_laws.specs.Reduced.{Tells, TellsTheWhole}
use Rattle.answer_laws.proofs.AnswerCounts.{AllowedBy}

tells-itself : (whole : Outcome) → Tells whole whole
tells-itself (ended.Response line) = refl
tells-itself (ended.Refused r) = refl
tells-itself (ended.Tripped t) = tt
tells-itself ended.Memory = tt

module _ (index : Index) (columns : ℕ) (settings : Settings) where
  abbrev TellsEach : List Request → List Answered → Type 0
  TellsEach requests answers = AllByRecursion (λ p. Tells (outcome index settings.max_buckets p.0 p.1.failures) p.1.outcome) (zip requests answers)

  ended-tells : (ceiling : ℕ) (request : Request) (a : Answered) (o : Outcome) → a.outcome ≡ o → MayEnd settings index columns ceiling request o a
      → Tells (outcome index settings.max_buckets request a.failures) o
  ended-tells ceiling request a (ended.Response line) same (reduced, peaks, fits) = sym reduced ∙ same
  ended-tells ceiling request a (ended.Refused r) same (reduced, peaks) = sym reduced ∙ same
  ended-tells ceiling request a (ended.Tripped t) same may = tt
  ended-tells ceiling request a ended.Memory same may = tt

  answer-tells : (ceiling : ℕ) (request : Request) (t : Option Tripped) (a : Answered) → MayAnswer settings index columns ceiling request t a
      → Tells (outcome index settings.max_buckets request a.failures) a.outcome
  answer-tells ceiling request None a (allowed, may) = ended-tells ceiling request a a.outcome refl may
  answer-tells ceiling request (Some t) a (allowed, inl is) =
      subst (Tells (outcome index settings.max_buckets request a.failures)) (sym (ap (λ (b : Answered). b.outcome) is)) tt
  answer-tells ceiling request (Some t) a (allowed, inr memory) = subst (Tells (outcome index settings.max_buckets request a.failures)) (sym memory) tt

  each-tells : (ceiling : ℕ) (requests : List Request) (refusals : List (Option Tripped)) (answers : List Answered)
      → MayAnswerEach settings index columns ceiling requests refusals answers → TellsEach requests answers
  each-tells ceiling [] refusals [] may = tt
  each-tells ceiling [] refusals (a ∷ answers) may = absurd may
  each-tells ceiling (r ∷ requests) [] answers may = absurd may
  each-tells ceiling (r ∷ requests) (t ∷ refusals) [] may = absurd may
  each-tells ceiling (r ∷ requests) (t ∷ refusals) (a ∷ answers) (first, later) = (answer-tells ceiling r t a first, each-tells ceiling requests refusals answers later)

  unless-tells : (o : Option Tripped) (whole : Outcome) → Tells whole (outcome_unless o whole)
  unless-tells None whole = tells-itself whole
  unless-tells (Some t) whole = tt

  abbrev TellsAnswer : Request → Answered → Type 0
  TellsAnswer request a = Tells (outcome index settings.max_buckets request a.failures) a.outcome

  solo-tells : (requests : List Request) (answers : List Answered) → IsSolo index columns settings requests answers → TellsEach requests answers
  solo-tells [] answers may = absurd may
  solo-tells (r ∷ []) [] may = absurd may
  solo-tells (r ∷ []) (a ∷ []) (inl is) =
      let going = solo_run settings index (idle columns) r in
      (subst (TellsAnswer r) (sym is) (unless-tells going.run.refused (outcome_with settings index r going)), tt)
  solo-tells (r ∷ []) (a ∷ []) (inr memory) = (subst (Tells (outcome index settings.max_buckets r a.failures)) (sym memory) tt, tt)
  solo-tells (r ∷ []) (a ∷ b ∷ answers) may = absurd may
  solo-tells (r ∷ q ∷ requests) answers may = absurd may

pub allowed-tells : (index : Index) (columns : ℕ) (round : Round) → IsAllowed index columns round → TellsTheWhole index round
allowed-tells index columns round may = by_settings (is_solo round.settings) refl
  where
    by_settings : (b : Bool) → is_solo round.settings ≡ b → TellsTheWhole index round
    by_settings true solo = solo-tells index columns round.settings round.requests round.answers (subst (AllowedBy index columns round) solo may)
    by_settings false several = each-tells index columns round.settings _ round.requests _ round.answers (subst (AllowedBy index columns round) several may)
