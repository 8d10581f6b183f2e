-- A task that came to its end, or was refused, did so as the run of its amounts does.
use Rattle.std.specs.Prelude.{◌≡◌, refl, ◌⊎◌, ℕ, zero, suc, ◌+◌, ◌-◌, ◌≤◌, ◌==◌, ℤ, pos, ◌+ℤ◌, ◌≤ℤ◌, if◌then◌else◌, Bool, true, false, List, [], ◌∷◌, ◌++◌, flat_map, take, drop, Some, None, slice_get}
use Rattle.std.proofs.Common.{◌∙◌, sym, ap, subst, arith, inl, inr, ⊎_elim}
use Rattle.std.proofs.lemmas.Bool.{eqb-true}
use Rattle.std.proofs.lemmas.Int.{ints}
use Rattle.std.proofs.lemmas.Grind.{flat_map-append}
use Rattle.agg_evaluation.specs.Rows.{PlacedRow}
use Rattle.agg_evaluation.specs.Shard.{int_sum}
use Rattle.agg_evaluation.specs.Trace.{peak, trace}
use Rattle.evaluation_laws.proofs.TraceLaws.{trace-never_negative, trace-total}
use Rattle.agg_model.specs.Breakers.{limit_of}
use Rattle.agg_model.specs.declared.aggregation.Search.{Search}
use Rattle.agg_model.specs.declared.breaker.Child.TheVariants as child
use Rattle.agg_model.specs.declared.breaker.Limits.{Limits}
use Rattle.agg_model.specs.declared.breaker.Tripped.{Tripped}
use Rattle.agg_model.specs.declared.breaker.Which.{Which}
use Rattle.agg_model.specs.declared.breaker.Which.TheVariants.{Request, Fielddata, Inflight, Parent}
use Rattle.agg_spec.specs.Charges.{Amounts, Run, Step, amount_at, amounts_sum, charge, charged as charged_run, one_at, refusal_of, run}
use Rattle.agg_spec.specs.Reduction.{amount_step}
use Rattle.agg_spec.proofs.SoloLaws.{run-append, run-stopped}
use Rattle.breaker_words.specs.Breakers.{counter_value}
use Rattle.breaker_words.specs.Views.{granted_of, hold_of, trips_of}
use Rattle.breaker_words.specs.declared.view.View.{View}
use Rattle.growth_laws.proofs.Sums.{sum-peak}
use Rattle.growth_laws.specs.Refused.{IsRefusedAt, StaysWithin, held_with}
use Rattle.task_charges.specs.Ended.{IsDone, IsRefused}
use Rattle.solo_charges.specs.Standing.{Before, Holds, StandsAt}
use Rattle.solo_charges.specs.Ends.{IsEnded}
use Rattle.solo_charges.proofs.Standing.{one-more, sum-at}
use Rattle.solo_charges.proofs.OneCharge.{refusal-is, refused-step}
use Rattle.solo_charges.proofs.Moving.{IsMoved, Stays, moved-all}

-- some of the first amounts are some of all, and no further
take-within : (ns : List ℤ) (n m : ℕ) → (k : ℕ) × (k ≤ n) × (int_sum (take m (take n ns)) ≡ int_sum (take k ns))
take-within ns n zero = (0, omega arith, refl)
take-within ns zero (suc m) = (0, omega arith, refl)
take-within [] (suc n) (suc m) = (0, omega arith, refl)
take-within (x ∷ ns) (suc n) (suc m) =
    let f = take-within ns n m in
    let below = f.1 in
    (suc f.0, omega arith, ap (λ s. x +ℤ s) f.2)

-- a list is what stands before a place, the item there, and what stands behind
apart-at : (ns : List ℤ) (place : ℕ) (a : ℤ) → slice_get ns place ≡ Some a → ns ≡ take place ns ++ a ∷ drop (suc place) ns
apart-at [] zero a e = cc
apart-at [] (suc place) a e = cc
apart-at (n ∷ ns) zero a e = let same : n ≡ a = cc in ap (λ x. x ∷ ns) same
apart-at (n ∷ ns) (suc place) a e = ap (λ xs. n ∷ xs) (apart-at ns place a e)

module _ (l : Limits) (before : Before) (v : View) (r : Run) (stands : StandsAt before v r) (search : Search) (rows : List PlacedRow) where
  abbrev ns : List ℤ
  ns = trace search rows

  abbrev steps : List Step
  steps = flat_map amount_step ns

  never-low : (hold n : ℕ) → pos 0 ≤ℤ (pos hold +ℤ int_sum (take n ns))
  never-low hold n = let low = trace-never_negative search rows n in omega (arith, ints)

  within-peak : (hold limit : ℕ) → (pos hold +ℤ peak search rows) ≤ℤ pos limit → Stays ns hold limit
  within-peak hold limit h = record {
    low = never-low hold;
    high = λ n. (let top = sum-peak search rows n in omega (arith, ints));
  }

  at-request : hold_of v Request ≡ r.holds.request
  at-request = stands.holds Request

  at-parent : hold_of v Parent ≡ r.holds.parent
  at-parent = stands.holds Parent

  module _ (u : View) (done : IsDone l v u search rows) where
    moved : IsMoved ns r (run l r steps)
    moved = moved-all l ns r stands.going
        (subst (λ h. Stays ns h l.request) at-request (within-peak (hold_of v Request) l.request done.within_request))
        (subst (λ h. Stays ns h l.parent) at-parent (within-peak (hold_of v Parent) l.parent done.within_parent))

    done-holds : Holds u (run l r steps).holds
    done-holds Request = let a = done.hold_request in let b = at-request in let c = moved.request in let d = trace-total search rows in omega (arith, ints)
    done-holds Fielddata = ap (λ b. b.hold) (done.untouched Fielddata (λ z. cc) (λ z. cc)) ∙ stands.holds Fielddata ∙ sym moved.fielddata
    done-holds Inflight = ap (λ b. b.hold) (done.untouched Inflight (λ z. cc) (λ z. cc)) ∙ stands.holds Inflight ∙ sym moved.inflight
    done-holds Parent = let a = done.hold_parent in let b = at-parent in let c = moved.parent in let d = trace-total search rows in omega (arith, ints)

    done-granted : (x : Which) → granted_of u x ≡ counter_value (amount_at x before.granted + amount_at x (run l r steps).granted)
    done-granted Request = let a = done.granted_request in let b = stands.counts.granted_is Request in let c = moved.granted_request in omega arith
    done-granted Fielddata = let a = ap (λ b. b.granted) (done.untouched Fielddata (λ z. cc) (λ z. cc)) in let b = stands.counts.granted_is Fielddata in let c = moved.granted_fielddata in omega arith
    done-granted Inflight = let a = ap (λ b. b.granted) (done.untouched Inflight (λ z. cc) (λ z. cc)) in let b = stands.counts.granted_is Inflight in let c = moved.granted_inflight in omega arith
    done-granted Parent = let a = done.granted_parent in let b = stands.counts.granted_is Parent in let c = moved.granted_parent in omega arith

    pub done-stands : StandsAt before u (run l r steps)
    done-stands = record {
      going = moved.going;
      holds = done-holds;
      counts = record {
        granted_is = done-granted;
        trips_are = λ x. done.trips x ∙ stands.counts.trips_are x ∙ ap (λ (a : Amounts). counter_value (amount_at x before.trips + amount_at x a)) (sym moved.trips);
      };
    }

  module _ (u : View) (t : Tripped) (whole : v.cap ≡ v.total) (ended : IsRefused l v u ns t) where
    abbrev at : IsRefusedAt ns (hold_of v) (limit_of l) (v.total - v.cap) ended.place ended.granted t
    at = ended.refused

    abbrev front : List ℤ
    front = take ended.place ns

    abbrev here : Run
    here = run l r (flat_map amount_step front)

    within-place : (hold limit : ℕ) → StaysWithin ns ended.place hold limit → Stays front hold limit
    within-place hold limit h = record {
      low = λ n. (let f = take-within ns ended.place n in let low = never-low hold f.0 in let same = f.2 in omega (arith, ints));
      high = λ n. (let f = take-within ns ended.place n in let high = h f.0 f.1 in let same = f.2 in omega (arith, ints));
    }

    front-moved : IsMoved front r here
    front-moved = moved-all l front r stands.going
        (subst (λ h. Stays front h l.request) at-request (within-place (hold_of v Request) l.request at.request))
        (subst (λ h. Stays front h l.parent) at-parent (within-place (hold_of v Parent) l.parent at.parent))

    charge-alone : amount_step (pos at.amount) ≡ charge child.Request at.amount ∷ []
    charge-alone = by_zero (at.amount == 0) refl
      where
        by_zero : (b : Bool) → (at.amount == 0) ≡ b → amount_step (pos at.amount) ≡ charge child.Request at.amount ∷ []
        by_zero true z = let nothing = eqb-true at.amount 0 z in let some = at.above_zero in absurd (omega arith)
        by_zero false z = ap (λ b. if b then [] else charge child.Request at.amount ∷ []) z

    abbrev rest : List Step
    rest = flat_map amount_step (drop (suc ended.place) ns)

    own : (x : Which) → (x ≡ Request) ⊎ (x ≡ Parent) → pos (amount_at x here.holds) ≡ (pos (hold_of v x) +ℤ int_sum front)
    own x which = ⊎_elim
        (λ (e : x ≡ Request). subst (λ y. pos (amount_at y here.holds) ≡ (pos (hold_of v y) +ℤ int_sum front)) (sym e) (let a = front-moved.request in let b = at-request in omega (arith, ints)))
        (λ (e : x ≡ Parent). subst (λ y. pos (amount_at y here.holds) ≡ (pos (hold_of v y) +ℤ int_sum front)) (sym e) (let a = front-moved.parent in let b = at-parent in omega (arith, ints)))
        which

    by_one : (t.which ≡ Request) ⊎ (t.which ≡ Parent)
    by_one = ⊎_elim (λ (e : t.which ≡ Request). inl e) (λ h. inr h.0) at.refused_by

    refusal : refusal_of l here.holds child.Request at.amount ≡ Some t
    refusal =
        let there = own t.which by_one in let least = at.least in let most = at.most in
        refusal-is l here.holds child.Request at.amount t
        (⊎_elim (λ (e : t.which ≡ Request). inl e) (λ h. inr (h.0, own-room h.1)) at.refused_by)
        at.limit_is at.above (omega (arith, ints))
      where
        own-room : held_with ns ended.place at.amount (hold_of v Request) ≤ℤ pos (limit_of l Request) → here.holds.request + at.amount ≤ l.request
        own-room h = let a = front-moved.request in let b = at-request in omega (arith, ints)

    all-run : run l r steps ≡ charged_run (Some t) child.Request at.amount here
    all-run =
        ap (λ xs. run l r (flat_map amount_step xs)) (apart-at ns ended.place (pos at.amount) at.here)
        ∙ ap (run l r) (flat_map-append amount_step front (pos at.amount ∷ drop (suc ended.place) ns))
        ∙ run-append l r (flat_map amount_step front) (amount_step (pos at.amount) ++ rest)
        ∙ run-append l here (amount_step (pos at.amount)) rest
        ∙ ap (λ xs. run l (run l here xs) rest) charge-alone
        ∙ ap (λ q. run l q rest) (refused-step l here child.Request at.amount t front-moved.going refusal)
        ∙ run-stopped l (charged_run (Some t) child.Request at.amount here) t refl rest

    refused-granted : (x : Which) → granted_of u x ≡ counter_value (amount_at x before.granted + amount_at x here.granted)
    refused-granted Request = let a = ended.back.granted_request in let b = stands.counts.granted_is Request in let c = front-moved.granted_request in let d = at.granted_is in omega arith
    refused-granted Fielddata = let a = ap (λ b. b.granted) (ended.back.untouched Fielddata (λ z. cc) (λ z. cc)) in let b = stands.counts.granted_is Fielddata in let c = front-moved.granted_fielddata in omega arith
    refused-granted Inflight = let a = ap (λ b. b.granted) (ended.back.untouched Inflight (λ z. cc) (λ z. cc)) in let b = stands.counts.granted_is Inflight in let c = front-moved.granted_inflight in omega arith
    refused-granted Parent = let a = ended.back.granted_parent in let b = stands.counts.granted_is Parent in let c = front-moved.granted_parent in let d = at.granted_is in omega arith

    refused-trips : (x : Which) → trips_of u x ≡ counter_value (amount_at x before.trips + amount_at x (amounts_sum here.trips (one_at t.which)))
    refused-trips x =
        one-more t.which x (amount_at x before.trips) (amount_at x here.trips) (trips_of v) (trips_of u)
        (stands.counts.trips_are x ∙ ap (λ (a : Amounts). counter_value (amount_at x before.trips + amount_at x a)) (sym front-moved.trips)) ended.trip ended.trips
        ∙ ap (λ m. counter_value (amount_at x before.trips + m)) (sym (sum-at here.trips (one_at t.which) x))

    -- the task's refusal ends the run
    pub refused-ends : IsEnded before u (run l r steps) t
    refused-ends = subst (λ q. IsEnded before u q t) (sym all-run) (record {
      refused = refl;
      counts = record { granted_is = refused-granted; trips_are = refused-trips };
    })

    -- or is taken back, where the search goes on without the shard
    pub refused-stands : StandsAt before u (record (run l r steps) { holds = r.holds; refused = None })
    refused-stands = record {
      going = refl;
      holds = λ x. ended.back.holds x ∙ stands.holds x;
      counts = record { granted_is = refused-ends.counts.granted_is; trips_are = refused-ends.counts.trips_are };
    }
