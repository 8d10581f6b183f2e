-- A wave whose limits hold all that it can charge is answered by the whole reduction, with no shard left out.
use Rattle.std.specs.Prelude.{◌≡◌, refl, ◌≤◌, ◌⊎◌, ℕ, ◌+◌, ◌*◌, ◌==◌, if◌then◌else◌, Bool, true, false, List, [], ◌∷◌, map, sum, None}
use Rattle.std.specs.List.{list_all}
use Rattle.std.proofs.Common.{◌∙◌, ap, subst, inl, inr, arith}
use Rattle.std.proofs.lemmas.Bool.{and_parts, cond-false, le-ltb}
use Rattle.std.proofs.lemmas.List.Sums.{sum_by-cons, sum_by-le-sum_by}
use Rattle.agg_model.specs.declared.breaker.Child.TheVariants.{Inflight}
use Rattle.agg_model.specs.declared.breaker.Tripped.{Tripped}
use Rattle.agg_model.specs.declared.breaker.Which.{Which}
use Rattle.agg_model.specs.declared.breaker.Which.TheVariants as which
use Rattle.agg_model.specs.declared.settings.Settings.{Settings}
use Rattle.agg_model.specs.declared.outcome.Answered.{Answered}
use Rattle.agg_model.specs.declared.outcome.Failure.{Failure}
use Rattle.agg_model.specs.declared.outcome.Outcome.{Outcome}
use Rattle.agg_model.specs.declared.outcome.Outcome.TheVariants as ended
use Rattle.agg_model.specs.Breakers.{limit_of}
use Rattle.agg_spec.specs.Charges.{Amounts, amount_at, trip_at, or_else, refusal_of}
use Rattle.agg_spec.specs.Complete.{IsPlain, WaveFits}
use Rattle.agg_spec.specs.Index.{Index, shard_numbers}
use Rattle.agg_spec.specs.Outcome.{Request, outcome}
use Rattle.agg_spec.specs.Rounds.{Round, plain_answer, body_bytes}
use Rattle.agg_spec.specs.Wave.{IsSeen, AreAllowed, IsReduced, MayEnd, MayAnswer, MayAnswerEach, MayAnswerWave, body_refusal, body_refusals, body_charge, search_in, task_peaks, wave_ceiling}
use Rattle.agg_spec.specs.Written.{has_memory}

abbrev answered : Outcome → List Failure → Answered
answered o failures = record { outcome = o; failures = failures }

module _ (settings : Settings) (index : Index) (columns : ℕ) where
  -- a charge that a limit holds is not refused there
  no-trip : (holds : Amounts) (w : Which) (n : ℕ) → amount_at w holds + n ≤ limit_of settings.limits w → trip_at settings.limits holds w n ≡ None
  no-trip holds w n within = cond-false _ _ _ (le-ltb (limit_of settings.limits w) (amount_at w holds + n) within)

  abbrev before-body : ℕ → Amounts
  before-body before = record { request = 0; fielddata = columns; inflight = before; parent = columns + before }

  pub body-granted : (before : ℕ) (r : Request) → before + 2 * r.bytes ≤ settings.limits.inflight → columns + before + 2 * r.bytes ≤ settings.limits.parent
      → body_refusal settings index columns before r ≡ None
  body-granted before r at_inflight at_parent = by_size (r.bytes == 0)
    where
      granted : refusal_of settings.limits (before-body before) Inflight (2 * r.bytes) ≡ None
      granted =
          ap (λ o. or_else o (trip_at settings.limits (before-body before) which.Parent (2 * r.bytes))) (no-trip (before-body before) which.Inflight (2 * r.bytes) at_inflight)
          ∙ no-trip (before-body before) which.Parent (2 * r.bytes) at_parent

      by_size : (b : Bool) → (if b then None else refusal_of settings.limits (before-body before) Inflight (2 * r.bytes)) ≡ None
      by_size true = refl
      by_size false = granted

  -- the limits hold the ceiling
  module _ (ceiling : ℕ) (at_request : ceiling ≤ settings.limits.request) (at_parent : ceiling ≤ settings.limits.parent) where
    never-seen : (t : Tripped) → IsSeen settings index columns ceiling t → ⊥
    never-seen t seen = by_breaker seen.breaker
      where
        by_breaker : (t.which ≡ which.Request) ⊎ (t.which ≡ which.Parent) → ⊥
        by_breaker (inl is) = let limit : t.limit ≡ settings.limits.request = seen.limit ∙ ap (limit_of settings.limits) is in omega (arith, limit, seen.above, seen.within, at_request)
        by_breaker (inr is) = let limit : t.limit ≡ settings.limits.parent = seen.limit ∙ ap (limit_of settings.limits) is in omega (arith, limit, seen.above, seen.within, at_parent)

    none-fails : (r : Request) (failures : List Failure) → AreAllowed settings index columns ceiling r failures → failures ≡ []
    none-fails r [] allowed = refl
    none-fails r (f ∷ rest) allowed = absurd (never-seen f.tripped allowed.seen.0)

    ended-reduced : (r : Request) (a : Answered) (o : Outcome) → has_memory o ≡ true → MayEnd settings index columns ceiling r o a → IsReduced settings index columns r a
    ended-reduced r a (ended.Response line) printed (reduced, peaks, fits) = reduced
    ended-reduced r a (ended.Refused x) printed (reduced, peaks) = reduced
    ended-reduced r a (ended.Tripped t) printed (inl reduced) = reduced
    ended-reduced r a (ended.Tripped t) printed (inr refused) = absurd (never-seen t refused.seen)
    ended-reduced r a ended.Memory printed may = absurd (let no : ⊥ = cc in no)

    pub answer-plain : (r : Request) (a : Answered) → has_memory a.outcome ≡ true → MayAnswer settings index columns ceiling r None a → a ≡ plain_answer index settings r
    answer-plain r a printed (allowed, may) =
        ap (λ o. answered o a.failures) (ended-reduced r a a.outcome printed may)
        ∙ ap (λ failures. answered (outcome index settings.max_buckets r failures) failures) (none-fails r a.failures allowed)

    -- the bodies behind those that `before` bytes were charged for
    each-plain : (before : ℕ) (requests : List Request) (answers : List Answered) → before + body_bytes requests ≤ settings.limits.inflight
        → columns + before + body_bytes requests ≤ settings.limits.parent
        → MayAnswerEach settings index columns ceiling requests (body_refusals settings index columns before requests) answers
        → list_all (λ (a : Answered). has_memory a.outcome) answers ≡ true → answers ≡ map (plain_answer index settings) requests
    each-plain before [] [] bodies whole may printed = refl
    each-plain before [] (a ∷ answers) bodies whole may printed = absurd may
    each-plain before (r ∷ requests) [] bodies whole may printed = absurd may
    each-plain before (r ∷ requests) (a ∷ answers) bodies whole (first, later) printed =
        let sum = sum_by-cons (λ (q : Request). 2 * q.bytes) r requests in
        let granted = body-granted before r (omega (arith, bodies, sum)) (omega (arith, whole, sum)) in
        let parts = and_parts (has_memory a.outcome) _ printed in
        let here = answer-plain r a parts.0 (subst (λ t. MayAnswer settings index columns ceiling r t a) granted first) in
        let behind = subst (λ t. MayAnswerEach settings index columns ceiling requests (body_refusals settings index columns (before + body_charge settings index columns t r) requests) answers) granted later in
        let rest = each-plain (before + 2 * r.bytes) requests answers (omega (arith, bodies, sum)) (omega (arith, whole, sum)) behind parts.1 in
        ap (λ b. b ∷ answers) here ∙ ap (λ bs. plain_answer index settings r ∷ bs) rest

-- a wave that has room is answered so, unless memory runs out
pub wave-plain : (index : Index) (columns : ℕ) (round : Round) → WaveFits index columns round → MayAnswerWave round.settings index columns round.requests round.answers
    → list_all (λ (a : Answered). has_memory a.outcome) round.answers ≡ true → IsPlain index columns round
wave-plain index columns round fits may printed =
    let settings = round.settings in
    let lifted = λ (r : Request). 2 * r.bytes + 2 * sum (task_peaks index (search_in settings index columns r) (shard_numbers index)) in
    let below = sum_by-le-sum_by (λ (r : Request). 2 * r.bytes) lifted round.requests (λ r. omega arith) in
    each-plain settings index columns (wave_ceiling settings index columns round.requests round.answers) fits.at_request fits.at_parent 0 round.requests round.answers
    (omega (arith, fits.bodies)) (omega (arith, below, fits.at_parent)) may printed
