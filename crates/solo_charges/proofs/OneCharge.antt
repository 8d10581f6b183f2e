-- One charge of a pass that has the whole cap is one step of the run.
use Rattle.std.specs.Prelude.{◌≡◌, ◌⊎◌, refl, ℕ, ◌+◌, ◌<◌, ◌≤◌, ◌==◌, if◌then◌else◌, Bool, true, false, [], ◌∷◌, Some, None, Result, Ok, Err, IfOk, IfErr}
use Rattle.std.proofs.Common.{◌∙◌, sym, ap, subst, arith, inl, inr, ⊎_elim}
use Rattle.std.proofs.lemmas.Bool.{eqb-true, lt-ltb, le-ltb}
use Rattle.agg_model.specs.Breakers.{limit_of, which_of}
use Rattle.agg_model.specs.declared.breaker.Child.{Child}
use Rattle.agg_model.specs.declared.breaker.Child.TheVariants as child
use Rattle.agg_model.specs.declared.breaker.Limits.{Limits}
use Rattle.agg_model.specs.declared.breaker.Tripped.{Tripped}
use Rattle.agg_model.specs.declared.breaker.Which.{Which}
use Rattle.agg_model.specs.declared.breaker.Which.TheVariants.{Request, Fielddata, Inflight, Parent}
use Rattle.agg_spec.specs.Charges.{Amounts, Run, Step, amount_at, charge, charge_of, give_back, charged, one_at, or_else, refusal_of, run, stepped_unless, trip_at}
use Rattle.breaker_tree.specs.Charge.{IsCharged, IsGivenBack, IsTripped}
use Rattle.breaker_words.specs.Breakers.{counter_value}
use Rattle.breaker_words.specs.Breakers.{amount_at as at_one}
use Rattle.breaker_words.specs.Views.{granted_of, hold_of, trips_of}
use Rattle.breaker_words.specs.declared.view.View.{View}
use Rattle.solo_charges.specs.Standing.{Before, Counts, StandsAt}
use Rattle.solo_charges.specs.Ends.{EndsAs, IsEnded}
use Rattle.solo_charges.proofs.Standing.{more-counted, same-counted, raised-at, lowered-at, sum-at, one-more}

module _ (l : Limits) where
  abbrev told : Amounts → Which → ℕ → Tripped
  told holds w n = record { which = w; wanted = amount_at w holds + n; limit = limit_of l w }

  pub no-trip : (holds : Amounts) (w : Which) (n : ℕ) → amount_at w holds + n ≤ limit_of l w → trip_at l holds w n ≡ None
  no-trip holds w n h = ap (λ b. if b then Some (told holds w n) else None) (le-ltb (limit_of l w) (amount_at w holds + n) h)

  some-trip : (holds : Amounts) (n : ℕ) (t : Tripped) → t.limit ≡ limit_of l t.which → t.limit < t.wanted → t.wanted ≡ amount_at t.which holds + n → trip_at l holds t.which n ≡ Some t
  some-trip holds n t limit above wanted =
      let high : limit_of l t.which < amount_at t.which holds + n = omega arith in
      ap (λ b. if b then Some (told holds t.which n) else None) (lt-ltb (limit_of l t.which) (amount_at t.which holds + n) high)
      ∙ (ap (λ m. Some (record { which = t.which; wanted = m; limit = limit_of l t.which })) (sym wanted)
      ∙ ap (λ m. Some (record { which = t.which; wanted = t.wanted; limit = m })) (sym limit))

  trip-at : (holds : Amounts) (n : ℕ) (t : Tripped) (w : Which) → t.which ≡ w → trip_at l holds t.which n ≡ Some t → trip_at l holds w n ≡ Some t
  trip-at holds n t w e same = subst (λ x. trip_at l holds x n ≡ Some t) e same

  -- the refusal of a charge, by what is told of it
  pub refusal-is : (holds : Amounts) (c : Child) (n : ℕ) (t : Tripped)
      → (t.which ≡ which_of c) ⊎ ((t.which ≡ Parent) × (amount_at (which_of c) holds + n ≤ limit_of l (which_of c)))
      → t.limit ≡ limit_of l t.which → t.limit < t.wanted → t.wanted ≡ amount_at t.which holds + n → refusal_of l holds c n ≡ Some t
  refusal-is holds c n t by limit above wanted =
      let some = some-trip holds n t limit above wanted in
      ⊎_elim
      (λ (e : t.which ≡ which_of c). ap (λ o. or_else o (trip_at l holds Parent n)) (trip-at holds n t (which_of c) e some))
      (λ (h : (t.which ≡ Parent) × (amount_at (which_of c) holds + n ≤ limit_of l (which_of c))).
      ap (λ o. or_else o (trip_at l holds Parent n)) (no-trip holds (which_of c) n h.1) ∙ trip-at holds n t Parent h.0 some)
      by

  pub no-refusal : (holds : Amounts) (c : Child) (n : ℕ) → amount_at (which_of c) holds + n ≤ limit_of l (which_of c) → amount_at Parent holds + n ≤ l.parent → refusal_of l holds c n ≡ None
  no-refusal holds c n child parent = ap (λ o. or_else o (trip_at l holds Parent n)) (no-trip holds (which_of c) n child) ∙ no-trip holds Parent n parent

  -- one step of a run that goes on
  pub one-step : (r : Run) (s : Step) → r.refused ≡ None → run l r (s ∷ []) ≡ stepped_unless None l r s
  one-step r s going = ap (λ o. stepped_unless o l r s) going

  pub granted-step : (r : Run) (c : Child) (n : ℕ) → r.refused ≡ None → refusal_of l r.holds c n ≡ None → run l r (charge c n ∷ []) ≡ charged None c n r
  granted-step r c n going none = one-step r (charge c n) going ∙ ap (λ o. charged o c n r) none

  pub refused-step : (r : Run) (c : Child) (n : ℕ) (t : Tripped) → r.refused ≡ None → refusal_of l r.holds c n ≡ Some t → run l r (charge c n ∷ []) ≡ charged (Some t) c n r
  refused-step r c n t going some = one-step r (charge c n) going ∙ ap (λ o. charged o c n r) some

  -- the totals of a charge that was granted
  granted-at : (before : Before) (v u : View) (r : Run) (c : Child) (n : ℕ) → Counts before v r → IsCharged l v c n u → (x : Which)
      → granted_of u x ≡ counter_value (amount_at x before.granted + (amount_at x r.granted + (at_one Parent n x + at_one (which_of c) n x)))
  granted-at before v u r child.Request n k h Request = more-counted _ _ before.granted.request r.granted.request (0 + n) n (omega arith) (k.granted_is Request) h.granted_child
  granted-at before v u r child.Request n k h Fielddata = same-counted _ _ before.granted.fielddata r.granted.fielddata 0 refl (k.granted_is Fielddata) (h.granted Fielddata (λ z. cc) (λ z. cc))
  granted-at before v u r child.Request n k h Inflight = same-counted _ _ before.granted.inflight r.granted.inflight 0 refl (k.granted_is Inflight) (h.granted Inflight (λ z. cc) (λ z. cc))
  granted-at before v u r child.Request n k h Parent = more-counted _ _ before.granted.parent r.granted.parent (n + 0) n (omega arith) (k.granted_is Parent) h.granted_parent
  granted-at before v u r child.Fielddata n k h Request = same-counted _ _ before.granted.request r.granted.request 0 refl (k.granted_is Request) (h.granted Request (λ z. cc) (λ z. cc))
  granted-at before v u r child.Fielddata n k h Fielddata = more-counted _ _ before.granted.fielddata r.granted.fielddata (0 + n) n (omega arith) (k.granted_is Fielddata) h.granted_child
  granted-at before v u r child.Fielddata n k h Inflight = same-counted _ _ before.granted.inflight r.granted.inflight 0 refl (k.granted_is Inflight) (h.granted Inflight (λ z. cc) (λ z. cc))
  granted-at before v u r child.Fielddata n k h Parent = more-counted _ _ before.granted.parent r.granted.parent (n + 0) n (omega arith) (k.granted_is Parent) h.granted_parent
  granted-at before v u r child.Inflight n k h Request = same-counted _ _ before.granted.request r.granted.request 0 refl (k.granted_is Request) (h.granted Request (λ z. cc) (λ z. cc))
  granted-at before v u r child.Inflight n k h Fielddata = same-counted _ _ before.granted.fielddata r.granted.fielddata 0 refl (k.granted_is Fielddata) (h.granted Fielddata (λ z. cc) (λ z. cc))
  granted-at before v u r child.Inflight n k h Inflight = more-counted _ _ before.granted.inflight r.granted.inflight (0 + n) n (omega arith) (k.granted_is Inflight) h.granted_child
  granted-at before v u r child.Inflight n k h Parent = more-counted _ _ before.granted.parent r.granted.parent (n + 0) n (omega arith) (k.granted_is Parent) h.granted_parent

  -- at least one byte is a step
  pub some-charge : (c : Child) (n : ℕ) → 1 ≤ n → charge_of c n ≡ charge c n ∷ []
  some-charge c n some = by_zero (n == 0) refl
    where
      by_zero : (b : Bool) → (n == 0) ≡ b → charge_of c n ≡ charge c n ∷ []
      by_zero true z = let nothing = eqb-true n 0 z in absurd (omega arith)
      by_zero false z = ap (λ b. if b then [] else charge c n ∷ []) z

  module _ (before : Before) (v : View) (r : Run) (stands : StandsAt before v r) (c : Child) (n : ℕ) where
    pub charge-stands : (u : View) → IsCharged l v c n u → StandsAt before u (run l r (charge c n ∷ []))
    charge-stands u h =
        let w = which_of c in
        let at_child = stands.holds w in let at_parent = stands.holds Parent in
        let child_room = h.within_child in let parent_room = h.within_parent in
        let none = no-refusal r.holds c n (omega arith) (omega arith) in
        subst (StandsAt before u) (sym (granted-step r c n stands.going none)) (record {
          going = stands.going;
          holds = λ x. (let a = h.holds x in let b = stands.holds x in let d = raised-at c n r.holds x in omega arith);
          counts = record {
            granted_is = λ x. granted-at before v u r c n stands.counts h x ∙ ap (λ m. counter_value (amount_at x before.granted + m)) (sym (raised-at c n r.granted x));
            trips_are = λ x. h.trips x ∙ stands.counts.trips_are x;
          };
        })

    pub refusal-ends : (t : Tripped) (u : View) → v.cap ≡ v.total → IsTripped l v c n t u → IsEnded before u (run l r (charge c n ∷ [])) t
    refusal-ends t u whole h =
        let w = which_of c in
        let at_child = stands.holds w in let there = stands.holds t.which in let parent_holds = stands.holds Parent in
        let least = h.least in let most = h.bounded in
        let by : (t.which ≡ w) ⊎ ((t.which ≡ Parent) × (amount_at w r.holds + n ≤ limit_of l w)) = ⊎_elim
        (λ (e : t.which ≡ w). inl e)
        (λ (p : (t.which ≡ Parent) × (hold_of v w + n ≤ limit_of l w)). inr (p.0, (let room = p.1 in omega arith)))
        h.refused_by in
        let some = refusal-is r.holds c n t by h.limit h.above (omega arith) in
        subst (λ q. IsEnded before u q t) (sym (refused-step r c n t stands.going some)) (record {
          refused = refl;
          counts = record {
            granted_is = λ x. h.granted x ∙ stands.counts.granted_is x;
            trips_are = λ x. one-more t.which x (amount_at x before.trips) (amount_at x r.trips) (trips_of v) (trips_of u) (stands.counts.trips_are x) h.trip h.trips
                ∙ ap (λ m. counter_value (amount_at x before.trips + m)) (sym (sum-at r.trips (one_at t.which) x));
          };
        })

    -- a return is one step too, and nothing where it is of 0 bytes
    pub return-stands : (u : View) → IsGivenBack v c n u → StandsAt before u (run l r (give_back c n ∷ []))
    return-stands u h = subst (StandsAt before u) (sym (one-step r (give_back c n) stands.going)) (record {
      going = stands.going;
      holds = λ x. (let a = h.holds x in let b = stands.holds x in let d = lowered-at c n r.holds x in omega arith);
      counts = record {
        granted_is = λ x. h.granted x ∙ stands.counts.granted_is x;
        trips_are = λ x. h.trips x ∙ stands.counts.trips_are x;
      };
    })

    pub charge-ends : (u : View) (answer : Result (Unit {0}) Tripped) → v.cap ≡ v.total → 1 ≤ n → IfOk answer (λ _. IsCharged l v c n u)
        → IfErr answer (λ t. IsTripped l v c n t u) → EndsAs before u (run l r (charge_of c n)) answer
    charge-ends u (Ok done) whole some ok err = subst (λ xs. StandsAt before u (run l r xs)) (sym (some-charge c n some)) (charge-stands u ok)
    charge-ends u (Err t) whole some ok err = subst (λ xs. IsEnded before u (run l r xs) t) (sym (some-charge c n some)) (refusal-ends t u whole err)
