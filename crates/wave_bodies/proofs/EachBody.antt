-- A pass whose bodies are charged one after another stands where a run does.
use Rattle.std.specs.Prelude.{◌≡◌, refl, ℕ, zero, suc, ◌+◌, ◌*◌, ◌≤◌, ◌==◌, if◌then◌else◌, Bool, true, false, List, [], ◌∷◌, ◌++◌, map, Option, Some, None, Result, Ok, Err, OnErr}
use Rattle.std.specs.Result.{result_err}
use Rattle.std.proofs.Common.{◌∙◌, sym, ap, subst, arith}
use Rattle.std.proofs.lemmas.Bool.{eqb-true}
use Rattle.agg_model.specs.declared.breaker.Child.TheVariants as child
use Rattle.agg_model.specs.declared.breaker.Limits.{Limits}
use Rattle.agg_model.specs.declared.breaker.Tripped.{Tripped}
use Rattle.agg_model.specs.declared.breaker.Which.{Which}
use Rattle.agg_model.specs.declared.breaker.Which.TheVariants.{Request, Fielddata, Inflight, Parent}
use Rattle.agg_model.specs.declared.settings.Settings.{Settings}
use Rattle.agg_spec.specs.Charges.{Amounts, Run, amount_at, amounts_sum, charge_of, charged, one_at, refusal_of, run}
use Rattle.agg_spec.specs.Index.{Index}
use Rattle.agg_spec.specs.Outcome.{Request as AnyRequest}
use Rattle.breaker_words.specs.Breakers.{counter_value}
use Rattle.breaker_words.specs.Soundness.{IsBounded}
use Rattle.breaker_words.specs.Views.{granted_of, hold_of, trips_of}
use Rattle.breaker_words.specs.declared.view.View.{View}
use Rattle.solo_charges.specs.Ends.{EndsAs}
use Rattle.solo_charges.specs.Standing.{Before, StandsAt}
use Rattle.solo_charges.proofs.OneCharge.{some-charge}
use Rattle.solo_charges.proofs.Standing.{sum-at}
use Rattle.wave_bodies.specs.Charged.{AreCharged, charged_for, trip_of, trips_in}
use Rattle.wave_bodies.proofs.Totals.{charge_at, charges-are, charges_at, held_at, no-trips-at, one-more-charge, one-more-refusal, one-more-trip, refusal_at, refusals-are, refusals_at}

-- what the pass counted before
abbrev pub before_of : View → Before
before_of v = record {
  granted = record { request = granted_of v Request; fielddata = granted_of v Fielddata; inflight = granted_of v Inflight; parent = granted_of v Parent };
  trips = record { request = trips_of v Request; fielddata = trips_of v Fielddata; inflight = trips_of v Inflight; parent = trips_of v Parent };
}

-- so much was charged for bodies, beside the columns, and these were the refusals
abbrev pub run_at : ℕ → ℕ → Amounts → Run
run_at columns sum trips = record {
  holds = held_at columns sum;
  granted = record { request = 0; fielddata = 0; inflight = sum; parent = sum };
  trips = trips;
  refused = None;
}

module _ (columns sum n : ℕ) (trips : Amounts) (before : Before) (v u : View) (stands : StandsAt before v (run_at columns sum trips)) where
  abbrev after : Option Tripped → Run
  after None = run_at columns (sum + n) trips
  after (Some t) = run_at columns sum (amounts_sum trips (one_at t.which))

  abbrev Told : Result (Unit {0}) Tripped → Option Tripped → Type 0
  Told answer o = (result_err answer ≡ o) × StandsAt before u (after o)

  granted-stands : StandsAt before u (charged None child.Inflight n (run_at columns sum trips)) → StandsAt before u (after None)
  granted-stands ended = record {
    going = refl;
    holds = holds;
    counts = record { granted_is = ended.counts.granted_is; trips_are = ended.counts.trips_are };
  }
    where
      holds : (x : Which) → hold_of u x ≡ amount_at x (held_at columns (sum + n))
      holds Request = ended.holds Request
      holds Fielddata = ended.holds Fielddata
      holds Inflight = ended.holds Inflight
      holds Parent = let there = ended.holds Parent in omega arith

  -- the answer tells the refusal, and the pass stands where the run does without the body, or with it
  charged-stands : (answer : Result (Unit {0}) Tripped) (o : Option Tripped) → EndsAs before u (charged o child.Inflight n (run_at columns sum trips)) answer
      → OnErr answer ((x : Which) → hold_of u x ≡ hold_of v x) → Told answer o
  charged-stands (Ok done) None ended kept = (refl, granted-stands ended)
  charged-stands (Ok done) (Some t) ended kept = absurd (let going = ended.going in (let no : ⊥ = cc in no))
  charged-stands (Err t) None ended kept = absurd (let refused = ended.refused in (let no : ⊥ = cc in no))
  charged-stands (Err t) (Some s) ended kept = (
    sym ended.refused,
    record {
      going = refl;
      holds = λ x. kept x ∙ stands.holds x;
      counts = record { granted_is = ended.counts.granted_is; trips_are = ended.counts.trips_are };
    },
  )

-- a body of at least one byte
some-refusal : (limits : Limits) (columns sum n : ℕ) → 1 ≤ n → refusal_at limits columns sum n ≡ refusal_of limits (held_at columns sum) child.Inflight (2 * n)
some-refusal limits columns sum n some = by_zero (n == 0) refl
  where
    by_zero : (b : Bool) → (n == 0) ≡ b → refusal_at limits columns sum n ≡ refusal_of limits (held_at columns sum) child.Inflight (2 * n)
    by_zero true z = let nothing = eqb-true n 0 z in absurd (omega arith)
    by_zero false z = ap (λ b. if b then None else refusal_of limits (held_at columns sum) child.Inflight (2 * n)) z

-- the pass and the answer, once a body of so many bytes was charged
abbrev pub IsNext : Limits → ℕ → ℕ → Amounts → Before → View → ℕ → Option Tripped → Type 0
IsNext limits columns sum trips before u n t =
    (t ≡ refusal_at limits columns sum n) × StandsAt before u (run_at columns (sum + charge_at t n) (amounts_sum trips (trip_of t)))

-- no run is told apart by how its numbers are written
same-run : (before : Before) (u : View) (columns sum next : ℕ) (trips more : Amounts) → sum ≡ next → ((x : Which) → amount_at x trips ≡ amount_at x more)
    → StandsAt before u (run_at columns sum trips) → StandsAt before u (run_at columns next more)
same-run before u columns sum next trips more same counted stands =
    subst (λ k. StandsAt before u (run_at columns k more)) same (record {
      going = refl;
      holds = stands.holds;
      counts = record { granted_is = stands.counts.granted_is; trips_are = λ x. stands.counts.trips_are x ∙ ap (λ k. counter_value (amount_at x before.trips + k)) (counted x) };
    })

none-more : (x : Which) (trips : Amounts) → amount_at x trips ≡ amount_at x (amounts_sum trips (trip_of None))
none-more x trips = let a = sum-at trips (trip_of None) x in let b = no-trips-at x in omega arith

module _ (limits : Limits) (columns sum : ℕ) (trips : Amounts) (before : Before) (v u : View) (stands : StandsAt before v (run_at columns sum trips)) where
  abbrev start : Run
  start = run_at columns sum trips

  told-next : (n : ℕ) (o : Option Tripped) (t : Option Tripped) → refusal_at limits columns sum n ≡ o → t ≡ o → StandsAt before u (after columns sum (2 * n) trips before v u stands o)
      → IsNext limits columns sum trips before u n t
  told-next n None t is same there =
      subst (IsNext limits columns sum trips before u n) (sym same)
      (sym is, same-run before u columns (sum + 2 * n) (sum + 2 * n) trips (amounts_sum trips (trip_of None)) refl (λ x. none-more x trips) there)
  told-next n (Some s) t is same there =
      subst (IsNext limits columns sum trips before u n) (sym same)
      (sym is, same-run before u columns sum (sum + 0) (amounts_sum trips (one_at s.which)) (amounts_sum trips (one_at s.which)) (omega arith) (λ x. refl) there)

  next-some : (n : ℕ) → 1 ≤ n → (answer : Result (Unit {0}) Tripped) → EndsAs before u (run limits start (charge_of child.Inflight (2 * n))) answer
      → OnErr answer ((x : Which) → hold_of u x ≡ hold_of v x) → IsNext limits columns sum trips before u n (result_err answer)
  next-some n some answer ended kept =
      let o = refusal_of limits (held_at columns sum) child.Inflight (2 * n) in
      let steps = some-charge limits child.Inflight (2 * n) (omega arith) in
      let told = charged-stands columns sum (2 * n) trips before v u stands answer o (subst (λ xs. EndsAs before u (run limits start xs) answer) steps ended) kept in
      told-next n o (result_err answer) (some-refusal limits columns sum n some) told.0 told.1

  next-none : (answer : Result (Unit {0}) Tripped) → EndsAs before u start answer → IsNext limits columns sum trips before u 0 (result_err answer)
  next-none (Ok done) ended = (refl, same-run before u columns sum (sum + 0) trips (amounts_sum trips (trip_of None)) (omega arith) (λ x. none-more x trips) ended)
  next-none (Err t) ended = absurd (let refused = ended.refused in (let no : ⊥ = cc in no))

  pub next : (n : ℕ) (answer : Result (Unit {0}) Tripped) → EndsAs before u (run limits start (charge_of child.Inflight (2 * n))) answer
      → OnErr answer ((x : Which) → hold_of u x ≡ hold_of v x) → IsNext limits columns sum trips before u n (result_err answer)
  next zero answer ended kept = next-none answer ended
  next (suc n) answer ended kept = next-some (suc n) (omega arith) answer ended kept

-- The pass stands where bodies of these lengths leave it, and these were their refusals.
pub record HasCharged (limits : Limits) (old new : View) (lengths : List ℕ) (refusals : List (Option Tripped)) : Type 0 where
  pub refusals_are : refusals ≡ refusals_at (refusal_at limits (hold_of old Fielddata)) 0 lengths
  pub stands : StandsAt (before_of old) new (run_at (hold_of old Fielddata) (charges_at refusals lengths) (trips_in refusals))

pub none-charged : (limits : Limits) (v : View) → IsBounded limits v → hold_of v Request ≡ 0 → hold_of v Inflight ≡ 0 → hold_of v Parent ≡ hold_of v Fielddata → HasCharged limits v v [] []
none-charged limits v bounded request inflight parent = record {
  refusals_are = refl;
  stands = record { going = refl; holds = holds; counts = record { granted_is = granted; trips_are = trips } };
}
  where
    holds : (x : Which) → hold_of v x ≡ amount_at x (held_at (hold_of v Fielddata) 0)
    holds Request = request
    holds Fielddata = refl
    holds Inflight = inflight
    holds Parent = omega arith

    granted : (x : Which) → granted_of v x ≡ counter_value (amount_at x (before_of v).granted + amount_at x (run_at (hold_of v Fielddata) 0 (trips_in [])).granted)
    granted Request = let most = bounded.granted Request in omega arith
    granted Fielddata = let most = bounded.granted Fielddata in omega arith
    granted Inflight = let most = bounded.granted Inflight in omega arith
    granted Parent = let most = bounded.granted Parent in omega arith

    trips : (x : Which) → trips_of v x ≡ counter_value (amount_at x (before_of v).trips + amount_at x (trips_in []))
    trips Request = let most = bounded.trips Request in omega arith
    trips Fielddata = let most = bounded.trips Fielddata in omega arith
    trips Inflight = let most = bounded.trips Inflight in omega arith
    trips Parent = let most = bounded.trips Parent in omega arith

-- one more body
module _ (limits : Limits) (old v u : View) (lengths : List ℕ) (refusals : List (Option Tripped)) (charged_so : HasCharged limits old v lengths refusals) where
  abbrev fielddata : ℕ
  fielddata = hold_of old Fielddata

  abbrev so_far : ℕ
  so_far = charges_at refusals lengths

  -- with the sum of what the definitions charge
  sum-is : so_far ≡ charges_at (refusals_at (refusal_at limits fielddata) 0 lengths) lengths
  sum-is = ap (λ ts. charges_at ts lengths) charged_so.refusals_are

  one-charged : (n : ℕ) (t : Option Tripped) → IsNext limits fielddata so_far (trips_in refusals) (before_of old) u n t → HasCharged limits old u (lengths ++ n ∷ []) (refusals ++ t ∷ [])
  one-charged n t following =
      let f = refusal_at limits fielddata in
      let ts = refusals_at f 0 lengths in
      let is : t ≡ f (0 + charges_at ts lengths) n = following.0 ∙ ap (λ k. f k n) (sum-is ∙ omega arith) in
      let all : charges_at (refusals ++ t ∷ []) (lengths ++ n ∷ []) ≡ so_far + charge_at t n =
      ap (λ xs. charges_at (xs ++ t ∷ []) (lengths ++ n ∷ [])) charged_so.refusals_are ∙ one-more-charge f 0 lengths n t ∙ ap (λ k. k + charge_at t n) (sym sum-is) in
      record {
        refusals_are = ap (λ xs. xs ++ t ∷ []) charged_so.refusals_are ∙ (ap (λ s. ts ++ s ∷ []) is ∙ sym (one-more-refusal f 0 lengths n));
        stands = same-run (before_of old) u fielddata (so_far + charge_at t n) (charges_at (refusals ++ t ∷ []) (lengths ++ n ∷ [])) (amounts_sum (trips_in refusals) (trip_of t)) (trips_in (refusals ++ t ∷ []))
            (sym all) (λ x. sum-at (trips_in refusals) (trip_of t) x ∙ sym (one-more-trip x refusals t)) following.1;
      }

  pub body-charged : (n : ℕ) (answer : Result (Unit {0}) Tripped)
      → ((before : Before) (r : Run) → StandsAt before v r → EndsAs before u (run limits r (charge_of child.Inflight (2 * n))) answer)
      → OnErr answer ((x : Which) → hold_of u x ≡ hold_of v x) → HasCharged limits old u (lengths ++ n ∷ []) (refusals ++ result_err answer ∷ [])
  body-charged n answer ends kept =
      one-charged n (result_err answer)
      (next limits fielddata so_far (trips_in refusals) (before_of old) v u charged_so.stands n answer (ends (before_of old) (run_at fielddata so_far (trips_in refusals)) charged_so.stands) kept)

-- all bodies, as the definitions say it
pub all-charged : (limits : Limits) (old new : View) (lengths : List ℕ) (refusals : List (Option Tripped)) → IsBounded limits old → HasCharged limits old new lengths refusals
    → (settings : Settings) (index : Index) (requests : List AnyRequest) → settings.limits ≡ limits → map (λ r. r.bytes) requests ≡ lengths
    → AreCharged settings index requests old new refusals
all-charged limits old new lengths refusals bounded charged_so settings index requests same bytes =
    let columns = hold_of old Fielddata in
    let counts = charged_so.stands.counts in
    let total : charges_at refusals lengths ≡ charged_for settings index columns refusals requests = sym (charges-are settings index columns refusals requests ∙ ap (charges_at refusals) bytes) in
    record {
      refusals_are = charged_so.refusals_are ∙ sym (refusals-are settings index columns 0 requests ∙ (ap (refusals_at (refusal_at settings.limits columns) 0) bytes ∙ ap (λ l. refusals_at (refusal_at l columns) 0 lengths) same));
      held = charged_so.stands.holds Inflight ∙ total;
      granted = counts.granted_is Inflight ∙ ap (λ k. counter_value (granted_of old Inflight + k)) total;
      granted_request = (let there = counts.granted_is Request in let most = bounded.granted Request in omega arith);
      granted_fielddata = (let there = counts.granted_is Fielddata in let most = bounded.granted Fielddata in omega arith);
      trips = trips;
    }
  where
    trips : (x : Which) → trips_of new x ≡ counter_value (trips_of old x + amount_at x (trips_in refusals))
    trips Request = charged_so.stands.counts.trips_are Request
    trips Fielddata = charged_so.stands.counts.trips_are Fielddata
    trips Inflight = charged_so.stands.counts.trips_are Inflight
    trips Parent = charged_so.stands.counts.trips_are Parent
