-- How often each breaker refused, beside what answers tell.
use Rattle.std.specs.Prelude.{◌≡◌, refl, ◌⊎◌, ◌≤◌, ℕ, ◌+◌, ◌*◌, ◌==◌, nat_lt, Bool, true, false, IsTrue, if◌then◌else◌, List, [], ◌∷◌, map, Option, Some, None}
use Rattle.std.specs.List.{AllByRecursion}
use Rattle.std.proofs.Common.{ap, ◌∙◌, arith, ⊎_elim}
use Rattle.std.proofs.lemmas.List.Sums.{sum_by-append, sum_by-cons}
use Rattle.agg_model.specs.Breakers.{limit_of}
use Rattle.agg_model.specs.declared.aggregation.Search.{Search}
use Rattle.agg_model.specs.declared.breaker.Child.TheVariants as child
use Rattle.agg_model.specs.declared.breaker.Limits.{Limits}
use Rattle.agg_model.specs.declared.breaker.Tripped.{Tripped}
use Rattle.agg_model.specs.declared.breaker.Which.{Which}
use Rattle.agg_model.specs.declared.breaker.Which.TheVariants.{Request, Fielddata, Inflight, Parent}
use Rattle.agg_model.specs.declared.outcome.Answered.{Answered}
use Rattle.agg_model.specs.declared.outcome.Failure.{Failure}
use Rattle.agg_model.specs.declared.outcome.Outcome.TheVariants as ended
use Rattle.agg_model.specs.declared.outcome.Refused.{Refused}
use Rattle.agg_model.specs.declared.settings.Settings.{Settings}
use Rattle.agg_spec.specs.Charges.{Amounts, amount_at, one_at, or_else, refusal_of}
use Rattle.agg_spec.specs.Failures.{unfailed}
use Rattle.agg_spec.specs.Index.{Index}
use Rattle.agg_spec.specs.Outcome.{Request as AnyRequest}
use Rattle.agg_spec.specs.Rises.{exception_trips, sum_of_amounts, told_trips}
use Rattle.agg_spec.specs.Wave.{body_charge, body_refusal, body_refusals}
use Rattle.breaker_words.specs.declared.view.View.{View}
use Rattle.shard_pool.specs.Ends.{IsTold, all_told, told_in}
use Rattle.shard_pool.specs.declared.search_end.SearchEnd.{SearchEnd}
use Rattle.pool_results.specs.Passes.{is_charged}
use Rattle.pool_results.specs.Runs.{times_at}
use Rattle.wave_answers.specs.Ended.{IsAnswer, IsReduced, IsRefused, IsStopped}
use Rattle.wave_bodies.specs.Charged.{trip_of, trips_in}
use Rattle.search_wave.proofs.RisenTold.{answer-told, at-none, at-sum, exception-most, told-two}
use Rattle.search_wave.proofs.RisenWalk.{Each, GoesOn, refused_answer, tripped_answer}

-- the refusals that these answers tell of
abbrev pub told_by_all : Index → List Answered → Amounts
told_by_all index answers = sum_of_amounts (map (told_trips index) answers)

told-cons : (x : Which) (index : Index) (a : Answered) (later : List Answered) → amount_at x (told_by_all index (a ∷ later)) ≡ amount_at x (told_trips index a) + amount_at x (told_by_all index later)
told-cons x index a later = at-sum x (told_trips index a) (told_by_all index later)

pub trips-cons : (x : Which) (t : Option Tripped) (ts : List (Option Tripped)) → amount_at x (trips_in (t ∷ ts)) ≡ amount_at x (trip_of t) + amount_at x (trips_in ts)
trips-cons x t ts = at-sum x (trip_of t) (trips_in ts)

times-cons : (x : Which) (e : SearchEnd) (ends : List SearchEnd) → times_at x (all_told (e ∷ ends)) ≡ times_at x (told_in e) + times_at x (all_told ends)
times-cons x e ends = sum_by-append (λ (t : Tripped). amount_at x (one_at t.which)) (told_in e) (all_told ends)

-- an answer without failures tells of its exception alone
plain-told : (x : Which) (index : Index) (a b : Answered) → a ≡ b → b.failures ≡ [] → amount_at x (told_trips index a) ≡ amount_at x (exception_trips (unfailed index []) b.outcome)
plain-told x index a b e none =
    let two = told-two x index b in let same = ap (λ k. amount_at x (told_trips index k)) e in
    let c = ap (λ fs. amount_at x (exception_trips (unfailed index fs) b.outcome)) none in
    let d : times_at x (map (λ (f : Failure). f.tripped) b.failures) ≡ 0 = ap (λ fs. times_at x (map (λ (f : Failure). f.tripped) fs)) none in
    omega (arith, two, same, c, d)

refused-told : (x : Which) (left : List ℕ) (w : Refused) → amount_at x (exception_trips left (ended.Refused w)) ≡ 0
refused-told x [] w = at-none x
refused-told x (s ∷ left) w = at-none x

module _ (limits : Limits) (index : Index) (max : ℕ) (v : View) (P : Search → SearchEnd → Type 0) (x : Which) where
  -- the answers tell of no more refusals than there were
  abbrev pub TellMost : List AnyRequest → List (Option Tripped) → List Search → List SearchEnd → List Answered → ℕ → Amounts → Type 0
  TellMost requests refusals searches ends answers c m = amount_at x (told_by_all index answers) ≤ amount_at x (trips_in refusals) + times_at x (all_told ends) + amount_at x m

  pub tell-most : GoesOn limits index max v P TellMost
  tell-most = record {
    none = λ c m z n. (let a = at-none x in omega (arith, a));
    tripped = λ r t a is rs ts searches ends later c m rest.
        (let k = told-cons x index a later in let l = trips-cons x (Some t) ts in let one = plain-told x index a (tripped_answer t) is refl in let most = exception-most x (unfailed index []) t in
        omega (arith, k, l, one, most, rest));
    refused = λ r w a of is rs ts searches ends later c m rest.
        (let k = told-cons x index a later in let one = plain-told x index a (refused_answer w) is refl in let none = refused-told x (unfailed index []) w in let l = trips-cons x None ts in
        omega (arith, k, one, none, l, rest));
    runs = λ r search e a here own of p is rs ts searches ends later others told c m z n rest.
        (let k = told-cons x index a later in let one = answer-told x limits index max v search e a here own is in let l = trips-cons x None ts in let t = times-cons x e ends in
        let u = ap (amount_at x) n ∙ at-sum x own told in
        omega (arith, k, one, l, t, u, rest));
  }

  -- and of each body that was refused
  abbrev pub TellLeast : List AnyRequest → List (Option Tripped) → List Search → List SearchEnd → List Answered → ℕ → Amounts → Type 0
  TellLeast requests refusals searches ends answers c m = amount_at x (trips_in refusals) ≤ amount_at x (told_by_all index answers)

  module _ (first : ℕ) (others : List ℕ) (some : unfailed index [] ≡ first ∷ others) where
    tripped-told : (t : Tripped) (a : Answered) → a ≡ tripped_answer t → amount_at x (told_trips index a) ≡ amount_at x (one_at t.which)
    tripped-told t a is = plain-told x index a (tripped_answer t) is refl ∙ ap (λ left. amount_at x (exception_trips left (ended.Tripped t))) some

    pub tell-least : GoesOn limits index max v P TellLeast
    tell-least = record {
      none = λ c m z n. omega arith;
      tripped = λ r t a is rs ts searches ends later c m rest.
          (let k = told-cons x index a later in let l = trips-cons x (Some t) ts in let one = tripped-told t a is in omega (arith, k, l, one, rest));
      refused = λ r w a of is rs ts searches ends later c m rest. (let k = told-cons x index a later in let l = trips-cons x None ts in let z = at-none x in omega (arith, k, l, z, rest));
      runs = λ r search e a here own of p is rs ts searches ends later others told c m z n rest. (let k = told-cons x index a later in let l = trips-cons x None ts in let z = at-none x in omega (arith, k, l, z, rest));
    }

-- tasks and merges charge at request alone, so the other children refuse none of their charges
pub charged-elsewhere : (x w : Which) → IsTrue (is_charged w) → is_charged x ≡ false → amount_at x (one_at w) ≡ 0
charged-elsewhere Request w h k = absurd (let no : ⊥ = cc in no)
charged-elsewhere Parent w h k = absurd (let no : ⊥ = cc in no)
charged-elsewhere Fielddata Request h k = refl
charged-elsewhere Fielddata Fielddata h k = absurd (let no : ⊥ = cc in no)
charged-elsewhere Fielddata Inflight h k = absurd (let no : ⊥ = cc in no)
charged-elsewhere Fielddata Parent h k = refl
charged-elsewhere Inflight Request h k = refl
charged-elsewhere Inflight Fielddata h k = absurd (let no : ⊥ = cc in no)
charged-elsewhere Inflight Inflight h k = absurd (let no : ⊥ = cc in no)
charged-elsewhere Inflight Parent h k = refl

told-elsewhere : (x : Which) (limits : Limits) (v : View) (ts : List Tripped) → is_charged x ≡ false → AllByRecursion (IsTold limits v) ts → times_at x ts ≡ 0
told-elsewhere x limits v [] k h = refl
told-elsewhere x limits v (t ∷ ts) k h =
    let a = sum_by-cons (λ (u : Tripped). amount_at x (one_at u.which)) t ts in let rest = told-elsewhere x limits v ts k h.1 in let here = charged-elsewhere x t.which h.0.breaker k in omega (arith, a, rest, here)

pub ends-elsewhere : (x : Which) (limits : Limits) (v : View) (P : Search → SearchEnd → Type 0) → is_charged x ≡ false → ((search : Search) (e : SearchEnd) → P search e → AllByRecursion (IsTold limits v) (told_in e))
    → (searches : List Search) (ends : List SearchEnd) → Each P searches ends → times_at x (all_told ends) ≡ 0
ends-elsewhere x limits v P k told [] [] h = refl
ends-elsewhere x limits v P k told [] (e ∷ ends) h = absurd h
ends-elsewhere x limits v P k told (s ∷ searches) [] h = absurd h
ends-elsewhere x limits v P k told (s ∷ searches) (e ∷ ends) h =
    let a = times-cons x e ends in let rest = ends-elsewhere x limits v P k told searches ends h.1 in let here = told-elsewhere x limits v (told_in e) k (told s e h.0) in omega (arith, a, rest, here)

module _ (limits : Limits) (index : Index) (max : ℕ) (v : View) (P : Search → SearchEnd → Type 0) (x : Which) (k : is_charged x ≡ false) where
  abbrev pub OwnElsewhere : List AnyRequest → List (Option Tripped) → List Search → List SearchEnd → List Answered → ℕ → Amounts → Type 0
  OwnElsewhere requests refusals searches ends answers c m = amount_at x m ≡ 0

  which-charged : (w : Which) → (w ≡ Request) ⊎ (w ≡ Parent) → is_charged w ≡ true
  which-charged w h = ⊎_elim (λ (e : w ≡ Request). ap is_charged e) (λ (e : w ≡ Parent). ap is_charged e) h

  own-elsewhere : (search : Search) (e : SearchEnd) (a : Answered) (here : ℕ) (own : Amounts) → IsAnswer limits index max v search e a here own → amount_at x own ≡ 0
  own-elsewhere search e a here own is = ⊎_elim
      (λ (r : IsReduced limits index max v search e a.outcome here own). ap (amount_at x) r.none ∙ at-none x)
      (λ (h : ((t : Tripped) × IsStopped limits index max e a.outcome t own) ⊎ ((t : Tripped) × IsRefused limits index max v search e a.outcome t own)). ⊎_elim
      (λ (s : (t : Tripped) × IsStopped limits index max e a.outcome t own). ap (amount_at x) s.1.none ∙ at-none x)
      (λ (r : (t : Tripped) × IsRefused limits index max v search e a.outcome t own). ap (amount_at x) r.1.one ∙ charged-elsewhere x r.0.which (which-charged r.0.which r.1.breaker) k)
      h)
      is.is

  pub goes-elsewhere : GoesOn limits index max v P OwnElsewhere
  goes-elsewhere = record {
    none = λ c m z n. ap (amount_at x) n ∙ at-none x;
    tripped = λ r t a is rs ts searches ends later c m rest. rest;
    refused = λ r w a of is rs ts searches ends later c m rest. rest;
    runs = λ r search e a here own of p is rs ts searches ends later others told c m z n rest.
        (let u = ap (amount_at x) n ∙ at-sum x own told in let o = own-elsewhere search e a here own is in omega (arith, u, o, rest));
  }

-- the columns' breaker refuses no body
trip-elsewhere : (limits : Limits) (holds : Amounts) (bytes : ℕ) → amount_at Fielddata (trip_of (refusal_of limits holds child.Inflight bytes)) ≡ 0
trip-elsewhere limits holds bytes = by_tests (nat_lt (limit_of limits Inflight) (amount_at Inflight holds + bytes)) (nat_lt (limit_of limits Parent) (amount_at Parent holds + bytes))
  where
    by_tests : (a b : Bool)
        → amount_at Fielddata (trip_of (or_else (if a then Some (record { which = Inflight; wanted = amount_at Inflight holds + bytes; limit = limit_of limits Inflight }) else None)
        (if b then Some (record { which = Parent; wanted = amount_at Parent holds + bytes; limit = limit_of limits Parent }) else None))) ≡ 0
    by_tests true b = refl
    by_tests false true = refl
    by_tests false false = refl

pub bodies-elsewhere : (settings : Settings) (index : Index) (columns before : ℕ) (requests : List AnyRequest) → amount_at Fielddata (trips_in (body_refusals settings index columns before requests)) ≡ 0
bodies-elsewhere settings index columns before [] = refl
bodies-elsewhere settings index columns before (r ∷ rs) =
    let refusal = body_refusal settings index columns before r in
    let all = trips-cons Fielddata refusal (body_refusals settings index columns (before + body_charge settings index columns refusal r) rs) in
    let rest = bodies-elsewhere settings index columns (before + body_charge settings index columns refusal r) rs in
    let here = by_bytes (r.bytes == 0) in
    omega (arith, all, rest, here)
  where
    by_bytes : (b : Bool) → amount_at Fielddata (trip_of (if b then None else refusal_of settings.limits (record { request = 0; fielddata = columns; inflight = before; parent = columns + before }) child.Inflight (2 * r.bytes))) ≡ 0
    by_bytes true = refl
    by_bytes false = trip-elsewhere settings.limits (record { request = 0; fielddata = columns; inflight = before; parent = columns + before }) (2 * r.bytes)
