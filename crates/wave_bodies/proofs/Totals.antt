-- Charges one after another, each with its refusal: what they come to, with one more at the end, and by the definitions.
use Rattle.std.specs.Prelude.{◌≡◌, refl, ℕ, ◌+◌, ◌*◌, ◌==◌, if◌then◌else◌, List, [], ◌∷◌, ◌++◌, map, zip, Option, Some, None}
use Rattle.std.proofs.Common.{◌∙◌, ap, arith}
use Rattle.std.proofs.lemmas.List.Sums.{sum_by-cons}
use Rattle.agg_model.specs.declared.breaker.Child.TheVariants as child
use Rattle.agg_model.specs.declared.breaker.Limits.{Limits}
use Rattle.agg_model.specs.declared.breaker.Tripped.{Tripped}
use Rattle.agg_model.specs.declared.breaker.Which.{Which}
use Rattle.agg_model.specs.declared.breaker.Which.TheVariants.{Request, Fielddata, Inflight, Parent}
use Rattle.agg_model.specs.declared.settings.Settings.{Settings}
use Rattle.agg_spec.specs.Charges.{Amounts, amount_at, no_amounts, refusal_of}
use Rattle.agg_spec.specs.Index.{Index}
use Rattle.agg_spec.specs.Outcome.{Request as AnyRequest}
use Rattle.agg_spec.specs.Wave.{body_charge, body_refusal, body_refusals}
use Rattle.solo_charges.proofs.Standing.{sum-at}
use Rattle.wave_bodies.specs.Charged.{charged_for, trip_of, trips_in}

-- what a pass holds that holds the columns and so much at inflight requests
abbrev pub held_at : ℕ → ℕ → Amounts
held_at columns before = record { request = 0; fielddata = columns; inflight = before; parent = columns + before }

-- the refusal of a body of so many bytes
abbrev pub refusal_at : Limits → ℕ → ℕ → ℕ → Option Tripped
refusal_at limits columns before bytes = if bytes == 0 then None else refusal_of limits (held_at columns before) child.Inflight (2 * bytes)

abbrev pub charge_at : Option Tripped → ℕ → ℕ
charge_at None bytes = 2 * bytes
charge_at (Some t) bytes = 0

abbrev pub charges_at : List (Option Tripped) → List ℕ → ℕ
charges_at [] ns = 0
charges_at (t ∷ ts) [] = 0
charges_at (t ∷ ts) (n ∷ ns) = charge_at t n + charges_at ts ns

-- the refusals of bodies, where f tells the refusal of one behind so much that is held
abbrev pub refusals_at : (ℕ → ℕ → Option Tripped) → ℕ → List ℕ → List (Option Tripped)
refusals_at f before [] = []
refusals_at f before (n ∷ ns) = f before n ∷ refusals_at f (before + charge_at (f before n) n) ns

module _ (f : ℕ → ℕ → Option Tripped) where
  pub one-more-refusal : (before : ℕ) (ns : List ℕ) (n : ℕ)
      → refusals_at f before (ns ++ n ∷ []) ≡ refusals_at f before ns ++ f (before + charges_at (refusals_at f before ns) ns) n ∷ []
  one-more-refusal before [] n = ap (λ m. f m n ∷ []) (omega arith)
  one-more-refusal before (m ∷ ns) n =
      let t = f before m in
      let next = before + charge_at t m in
      ap (λ ts. t ∷ ts)
      (one-more-refusal next ns n
      ∙ ap (λ k. refusals_at f next ns ++ f k n ∷ []) (let e : next + charges_at (refusals_at f next ns) ns ≡ before + (charge_at t m + charges_at (refusals_at f next ns) ns) = omega arith in e))

  pub one-more-charge : (before : ℕ) (ns : List ℕ) (n : ℕ) (t : Option Tripped)
      → charges_at (refusals_at f before ns ++ t ∷ []) (ns ++ n ∷ []) ≡ charges_at (refusals_at f before ns) ns + charge_at t n
  one-more-charge before [] n t = omega arith
  one-more-charge before (m ∷ ns) n t = let later = one-more-charge (before + charge_at (f before m) m) ns n t in omega arith

none-at : (x : Which) → amount_at x no_amounts ≡ 0
none-at Request = refl
none-at Fielddata = refl
none-at Inflight = refl
none-at Parent = refl

pub one-more-trip : (x : Which) (ts : List (Option Tripped)) (t : Option Tripped) → amount_at x (trips_in (ts ++ t ∷ [])) ≡ amount_at x (trips_in ts) + amount_at x (trip_of t)
one-more-trip x [] t = let a = sum-at (trip_of t) no_amounts x in let b = none-at x in omega arith
one-more-trip x (u ∷ ts) t =
    let a = sum-at (trip_of u) (trips_in (ts ++ t ∷ [])) x in let b = sum-at (trip_of u) (trips_in ts) x in let later = one-more-trip x ts t in omega arith

pub no-trips-at : (x : Which) → amount_at x (trips_in []) ≡ 0
no-trips-at x = none-at x

-- of requests, as the definitions say it
module _ (settings : Settings) (index : Index) (columns : ℕ) where
  charge-is : (t : Option Tripped) (r : AnyRequest) → body_charge settings index columns t r ≡ charge_at t r.bytes
  charge-is None r = refl
  charge-is (Some t) r = refl

  pub refusals-are : (before : ℕ) (requests : List AnyRequest)
      → body_refusals settings index columns before requests ≡ refusals_at (refusal_at settings.limits columns) before (map (λ r. r.bytes) requests)
  refusals-are before [] = refl
  refusals-are before (r ∷ rest) =
      let t = body_refusal settings index columns before r in
      ap (λ ts. t ∷ ts)
      (refusals-are (before + body_charge settings index columns t r) rest
      ∙ ap (λ n. refusals_at (refusal_at settings.limits columns) (before + n) (map (λ (q : AnyRequest). q.bytes) rest)) (charge-is t r))

  pub charges-are : (ts : List (Option Tripped)) (requests : List AnyRequest) → charged_for settings index columns ts requests ≡ charges_at ts (map (λ r. r.bytes) requests)
  charges-are [] requests = refl
  charges-are (t ∷ ts) [] = refl
  charges-are (t ∷ ts) (r ∷ rest) =
      let first = charge-is t r in
      let later = charges-are ts rest in
      sum_by-cons (λ n. n) (body_charge settings index columns t r) (map (λ p. body_charge settings index columns p.0 p.1) (zip ts rest)) ∙ omega arith
