-- What a charge at request makes of a pass whose ceiling was set before it.
use Rattle.std.specs.Prelude.{◌≡◌, ◌≢◌, ◌≤◌, refl, IfErr, IfOk, OnOk, Result, Ok, Err, ℕ, zero, suc, ◌+◌, List, [], ◌∷◌, Some, None, length, map, option_to_list, sum_by}
use Rattle.std.proofs.Common.{◌∙◌, sym, ap, subst, arith, inl, inr, ⊎_elim}
use Rattle.std.proofs.lemmas.List.Sums.{sum-map}
use Rattle.agg_evaluation.specs.Cost.{cost}
use Rattle.agg_evaluation.specs.Whole.{whole}
use Rattle.agg_model.specs.declared.aggregation.Search.{Search}
use Rattle.agg_model.specs.declared.breaker.Child.TheVariants as child
use Rattle.agg_model.specs.declared.breaker.Limits.{Limits}
use Rattle.agg_model.specs.declared.breaker.Tripped.{Tripped}
use Rattle.agg_model.specs.declared.breaker.Which.{Which}
use Rattle.agg_model.specs.declared.breaker.Which.TheVariants.{Request, Fielddata, Inflight, Parent}
use Rattle.agg_model.specs.declared.partial.Partial.{Partial}
use Rattle.agg_spec.specs.Charges.{amount_at, no_amounts, one_at}
use Rattle.agg_spec.specs.Rises.{merge_charge}
use Rattle.batch_reduce.specs.Parts.{cost_of_parts}
use Rattle.batch_reduce.specs.Reduced.{IsMerged, IsRefused, at_both}
use Rattle.breaker_tree.specs.Charge.{IsCharged, IsTripped}
use Rattle.breaker_words.specs.Accounts.{children_in}
use Rattle.breaker_words.specs.AfterStep.{after_set_ceiling}
use Rattle.breaker_words.specs.Breakers.{counter_value}
use Rattle.breaker_words.specs.Passes.{PassModel, with_view}
use Rattle.breaker_words.specs.Soundness.{IsBounded, IsConsistent}
use Rattle.breaker_words.specs.Trials.{child_only}
use Rattle.breaker_words.specs.Views.{granted_of, hold_of, trips_of}
use Rattle.breaker_words.specs.declared.trial.Trial.TheVariants.{Rest}
use Rattle.breaker_words.specs.declared.view.View.{View}
use Rattle.solo_charges.proofs.Standing.{one-more}
use Rattle.wave_answers.specs.Charging.{HasPlace, IsRefusedCharge}
use Rattle.wave_answers.specs.Merged.{whole_of_parts}
use Rattle.wave_answers.specs.Rising.{HasRisen}
use Rattle.wave_answers.proofs.Rises.{counted, no-amount, rises-after, unchanged}

-- what a pass at rest holds at the parent
pub parent-is : (v : View) → v.trial ≡ Rest → IsConsistent v → hold_of v Parent ≡ hold_of v Request + hold_of v Fielddata + hold_of v Inflight
parent-is v rest own = let even = subst (λ t. v.accounts.parent.hold + child_only t v.amount ≡ children_in v.accounts) rest own.even in omega arith

set-granted : (v : View) (t : ℕ) (x : Which) → granted_of (after_set_ceiling v t) x ≡ granted_of v x
set-granted v t Request = refl
set-granted v t Fielddata = refl
set-granted v t Inflight = refl
set-granted v t Parent = refl

set-trips : (v : View) (t : ℕ) (x : Which) → trips_of (after_set_ceiling v t) x ≡ trips_of v x
set-trips v t Request = refl
set-trips v t Fielddata = refl
set-trips v t Inflight = refl
set-trips v t Parent = refl

-- a pass that was looked at, and whose ceiling was set
module _ (p q r : PassModel) (t : ℕ) (looked : q ≡ p) (set : r ≡ with_view q (after_set_ceiling q.view t)) where
  pub kept-granted : (x : Which) → granted_of r.view x ≡ granted_of p.view x
  kept-granted x = ap (λ (s : PassModel). granted_of s.view x) set ∙ set-granted q.view t x ∙ ap (λ (s : PassModel). granted_of s.view x) looked

  pub kept-trips : (x : Which) → trips_of r.view x ≡ trips_of p.view x
  kept-trips x = ap (λ (s : PassModel). trips_of s.view x) set ∙ set-trips q.view t x ∙ ap (λ (s : PassModel). trips_of s.view x) looked

pub kept-hold : (p q r : PassModel) → q ≡ p → ((x : Which) → hold_of r.view x ≡ hold_of q.view x) → (x : Which) → hold_of r.view x ≡ hold_of p.view x
kept-hold p q r looked same x = same x ∙ ap (λ (s : PassModel). hold_of s.view x) looked

-- no byte is charged
pub no-charge-place : (l : Limits) (v : View) (n : ℕ) → IsBounded l v → v.trial ≡ Rest → IsConsistent v → n ≡ 0 → HasPlace l v n
no-charge-place l v n low rest own none =
    let r = low.holds Request in let p = low.holds Parent in let e = parent-is v rest own in
    record { at_request = omega arith; at_parent = omega arith }

-- `w` is the pass with another ceiling
module _ (l : Limits) (v w : View) (low : IsBounded l v) (holds_same : (x : Which) → hold_of w x ≡ hold_of v x)
    (granted_same : (x : Which) → granted_of w x ≡ granted_of v x) (trips_same : (x : Which) → trips_of w x ≡ trips_of v x) where
  pub charged-place : (u : View) (n : ℕ) → v.trial ≡ Rest → IsConsistent v → IsCharged l w child.Request n u → HasPlace l v n
  charged-place u n rest own c =
      let r = c.within_child in let p = c.within_parent in let e = parent-is v rest own in let a = holds_same Request in let b = holds_same Parent in
      record { at_request = omega arith; at_parent = omega arith }

  pub charged-risen : (u : View) (n : ℕ) → IsCharged l w child.Request n u → HasRisen n no_amounts v u
  charged-risen u n c = record {
    request = c.granted_child ∙ ap (λ k. counter_value (k + n)) (granted_same Request);
    fielddata = c.granted Fielddata (λ e. cc) (λ e. cc) ∙ granted_same Fielddata;
    inflight = c.granted Inflight (λ e. cc) (λ e. cc) ∙ granted_same Inflight;
    trips_are = λ x. counted (trips_of v x) (trips_of u x) (amount_at x no_amounts) (low.trips x) (c.trips x ∙ trips_same x) (no-amount x);
  }

  tripped-risen : (u : View) (n : ℕ) (t : Tripped) → IsTripped l w child.Request n t u → HasRisen 0 (one_at t.which) v u
  tripped-risen u n t k = record {
    request = counted (granted_of v Request) (granted_of u Request) 0 (low.granted Request) (k.granted Request ∙ granted_same Request) refl;
    fielddata = k.granted Fielddata ∙ granted_same Fielddata;
    inflight = k.granted Inflight ∙ granted_same Inflight;
    trips_are = λ x. (let one = one-more t.which x (trips_of v x) 0 (trips_of w) (trips_of u)
        (counted (trips_of v x) (trips_of w x) 0 (low.trips x) (trips_same x) refl) k.trip k.trips in omega (arith, one));
  }

  pub refused-charge : (u : View) (n : ℕ) (t : Tripped) → w.cap ≡ w.total → IsTripped l w child.Request n t u → IsRefusedCharge l v n 0 t u
  refused-charge u n t all k = record {
    breaker = ⊎_elim (λ (e : t.which ≡ Request). inl e) (λ h. inr h.0) k.refused_by;
    limit = k.limit;
    above = k.above;
    within = (let b = k.bounded in let s = holds_same t.which in omega (arith, all, b, s));
    risen = tripped-risen u n t k;
  }

  -- a charge that was granted or refused
  pub end-risen : (u : View) (n m : ℕ) → n ≡ m → (r : Result (Unit {0}) Tripped) → IfOk r (λ d. IsCharged l w child.Request n u) → OnOk r (HasRisen m no_amounts v u)
  end-risen u n m same (Ok d) ok = subst (λ k. HasRisen k no_amounts v u) same (charged-risen u n ok)
  end-risen u n m same (Err t) ok = tt

  pub end-place : (u : View) (n m : ℕ) → n ≡ m → v.trial ≡ Rest → IsConsistent v → (r : Result (Unit {0}) Tripped) → IfOk r (λ d. IsCharged l w child.Request n u) → OnOk r (HasPlace l v m)
  end-place u n m same rest own (Ok d) ok = subst (HasPlace l v) same (charged-place u n rest own ok)
  end-place u n m same rest own (Err t) ok = tt

  pub end-refused : (u : View) (n m : ℕ) → n ≡ m → w.cap ≡ w.total → (r : Result (Unit {0}) Tripped) → IfErr r (λ t. IsTripped l w child.Request n t u) → IfErr r (λ t. IsRefusedCharge l v m 0 t u)
  end-refused u n m same all (Ok d) err = tt
  end-refused u n m same all (Err t) err = subst (λ k. IsRefusedCharge l v k 0 t u) same (refused-charge u n t all err)

  pub end-others : (u : View) (n : ℕ) (r : Result (Unit {0}) Tripped) → IfOk r (λ d. IsCharged l w child.Request n u) → IfErr r (λ t. IsTripped l w child.Request n t u)
      → (x : Which) → x ≢ Request → x ≢ Parent → hold_of u x ≡ hold_of v x
  end-others u n (Ok d) ok err x a b = ap (λ y. y.hold) (ok.untouched x a b) ∙ holds_same x
  end-others u n (Err t) ok err x a b = ap (λ y. y.hold) (err.untouched x a b) ∙ holds_same x

  pub end-kept : (u : View) (n : ℕ) (r : Result (Unit {0}) Tripped) → IfOk r (λ d. IsCharged l w child.Request n u) → IfErr r (λ t. IsTripped l w child.Request n t u) → hold_of v Request ≤ hold_of u Request
  end-kept u n (Ok d) ok err = let h = ok.holds Request in let s = holds_same Request in omega (arith, h, s)
  end-kept u n (Err t) ok err = let h = err.holds Request in let s = holds_same Request in omega (arith, h, s)

  -- a merge that charged nothing
  pub still-risen : (u : View) → u ≡ w → HasRisen 0 no_amounts v u
  still-risen u e = subst (HasRisen 0 no_amounts v) (sym e) (unchanged l v w low granted_same trips_same)

  pub merged-risen : (u : View) (s m : ℕ) → IsMerged l w s m u → HasRisen s no_amounts v u
  merged-risen u s m h = rises-after s no_amounts v h.while_merging u (charged-risen h.while_merging s h.charged) h.given_back.granted h.given_back.trips

  pub refused-merge : (u : View) (s : ℕ) (t : Tripped) → w.cap ≡ w.total → IsRefused l w s t u → IsRefusedCharge l v s 0 t u
  refused-merge u s t all h =
      let k = refused-charge h.after_refusal s t all h.tripped in
      record {
        breaker = k.breaker;
        limit = k.limit;
        above = k.above;
        within = k.within;
        risen = rises-after 0 (one_at t.which) v h.after_refusal u k.risen h.given_back.granted h.given_back.trips;
      }

  -- a merge that was done
  pub done-risen : (u : View) (parts : List Partial) (q : Partial) → 1 ≤ length parts → ((p : Partial) → parts ≡ p ∷ [] → u ≡ w) → (cost_of_parts parts ≡ 0 → u ≡ w)
      → (2 ≤ length parts → 1 ≤ cost_of_parts parts → IsMerged l w (cost_of_parts parts) (cost q) u) → HasRisen (merge_charge (map cost parts)) no_amounts v u
  done-risen u [] q some one free done = absurd (omega arith)
  done-risen u (p ∷ []) q some one free done = still-risen u (one p refl)
  done-risen u (p ∷ r ∷ rest) q some one free done = by_cost (cost_of_parts (p ∷ r ∷ rest)) refl
    where
      by_cost : (n : ℕ) → cost_of_parts (p ∷ r ∷ rest) ≡ n → HasRisen (merge_charge (map cost (p ∷ r ∷ rest))) no_amounts v u
      by_cost zero none = subst (λ n. HasRisen n no_amounts v u) (sym (sum-map cost (p ∷ r ∷ rest) ∙ none)) (still-risen u (free none))
      by_cost (suc n) same =
          subst (λ n. HasRisen n no_amounts v u) (sym (sum-map cost (p ∷ r ∷ rest)))
          (merged-risen u (cost_of_parts (p ∷ r ∷ rest)) (cost q) (done (omega arith) (omega arith)))

-- the whole of some parts
pub some-whole : (search : Search) (parts : List Partial) (q : Partial) → 1 ≤ length parts → q ≡ whole search parts → Some q ≡ whole_of_parts search parts
some-whole search [] q some e = absurd (omega arith)
some-whole search (p ∷ parts) q some e = ap (λ r. Some r) e

pub no-whole : (search : Search) (parts : List Partial) → parts ≡ [] → None ≡ whole_of_parts search parts
no-whole search parts e = sym (ap (whole_of_parts search) e)

-- nothing is charged where there is no part
pub no-merge : (parts : List Partial) → parts ≡ [] → merge_charge (map cost parts) ≡ 0
no-merge parts e = ap (λ ps. merge_charge (map cost ps)) e

pub one-cost : (q : Partial) → sum_by cost (option_to_list (Some q)) ≡ cost q
one-cost q = omega arith

-- what is held for a result that costs no more than its parts
pub holds-fall : (v w : View) (parts result : ℕ) → result ≤ parts → ((x : Which) → hold_of w x + at_both parts x ≡ hold_of v x + at_both result x) → (x : Which) → hold_of w x ≤ hold_of v x
holds-fall v w parts result less held Request = let h = held Request in omega (arith, h)
holds-fall v w parts result less held Fielddata = let h = held Fielddata in omega (arith, h)
holds-fall v w parts result less held Inflight = let h = held Inflight in omega (arith, h)
holds-fall v w parts result less held Parent = let h = held Parent in omega (arith, h)
