-- The keys of values that ascend, one value after another.
use Rattle.std.specs.Prelude.{◌≡◌, refl, ℕ, ◌+◌, ◌-◌, ◌<◌, ◌≤◌, zero, suc, Bool, true, cond, List, [], ◌∷◌, ◌++◌, length, take, map, filter, Option, Some, None, option_map}
use Rattle.std.specs.List.{slice_get, last_or}
use Rattle.std.specs.Ordering.{is_le, nat_cmp}
use Rattle.std.specs.Cmp.Lexicographic.{slice_cmp}
use Rattle.std.proofs.Common.{sym, ◌∙◌, ap, subst, arith, add-one}
use Rattle.std.proofs.lemmas.Bool.{and_parts, and_from}
use Rattle.agg_model.specs.declared.key.Key.{Key}
use Rattle.agg_model.specs.declared.row.Scalar.{Scalar}
use Rattle.agg_model.specs.declared.row.Scalar.TheVariants.{Whole, Word, Flag}
use Rattle.agg_model.specs.ValueKeys.{scalar_key}
use Rattle.agg_model.specs.Options.{TermsOptions}
use Rattle.agg_evaluation.specs.DocumentFits.{follows, ascend, ascend_from}
use Rattle.agg_evaluation.specs.KeyOrder.{key_cmp}
use Rattle.agg_evaluation.specs.Keys.{distinct_keys, is_included}
use Rattle.agg_evaluation.proofs.Computing.{computing}
use Rattle.list_laws.proofs.Lists.{append-nil, map-append, filter-append}
use Rattle.list_laws.proofs.Orders.{less_of}
use Rattle.terms_agg.specs.Prepared.{keys_of_values}
use Rattle.terms_agg.proofs.Rising.{RisesFrom, Rises, repeated, another, last-of}

at_most_next : (v w : Scalar) → follows v w ≡ true → is_le (key_cmp (scalar_key v) (scalar_key w)) ≡ true
unfolding computing
at_most_next (Whole m) (Whole n) h = h
at_most_next (Whole m) (Word w) h = absurd (cc h)
at_most_next (Whole m) (Flag b) h = absurd (cc h)
at_most_next (Word v) (Whole n) h = absurd (cc h)
at_most_next (Word v) (Word w) h = ap is_le (less_of (slice_cmp nat_cmp v w) h)
at_most_next (Word v) (Flag b) h = absurd (cc h)
at_most_next (Flag a) (Whole n) h = absurd (cc h)
at_most_next (Flag a) (Word w) h = absurd (cc h)
at_most_next (Flag a) (Flag b) h = h

rises-from : (v : Scalar) (vs : List Scalar) → ascend_from v vs ≡ true → RisesFrom (scalar_key v) (map scalar_key vs)
rises-from v [] h = tt
rises-from v (w ∷ vs) h = let parts = and_parts (follows v w) (ascend_from w vs) h in (at_most_next v w parts.0, rises-from w vs parts.1)

rises : (vs : List Scalar) → ascend vs ≡ true → Rises (map scalar_key vs)
rises [] h = tt
rises (v ∷ vs) h = rises-from v vs h

from-take : (v : Scalar) (vs : List Scalar) (n : ℕ) → ascend_from v vs ≡ true → ascend_from v (take n vs) ≡ true
from-take v [] zero h = refl
from-take v [] (suc n) h = refl
from-take v (w ∷ vs) zero h = refl
from-take v (w ∷ vs) (suc n) h = let parts = and_parts (follows v w) (ascend_from w vs) h in and_from _ _ parts.0 (from-take w vs n parts.1)

ascend-take : (vs : List Scalar) (n : ℕ) → ascend vs ≡ true → ascend (take n vs) ≡ true
ascend-take [] zero h = refl
ascend-take [] (suc n) h = refl
ascend-take (v ∷ vs) zero h = refl
ascend-take (v ∷ vs) (suc n) h = from-take v vs n h

take-next : (vs : List Scalar) (n : ℕ) (v : Scalar) → slice_get vs n ≡ Some v → take (suc n) vs ≡ take n vs ++ v ∷ []
take-next [] n v is = absurd (cc is)
take-next (w ∷ vs) zero v is = let same : w ≡ v = cc is in ap (λ (x : Scalar). x ∷ []) same
take-next (w ∷ vs) (suc n) v is = ap (λ (xs : List Scalar). w ∷ xs) (take-next vs n v is)

take-more : (vs : List Scalar) (n : ℕ) (v : Scalar) → slice_get vs n ≡ Some v → take (n + 1) vs ≡ take n vs ++ v ∷ []
take-more vs n v is = subst (λ (k : ℕ). take k vs ≡ take n vs ++ v ∷ []) (sym (add-one n)) (take-next vs n v is)

pub take-all : (vs : List Scalar) (n : ℕ) → length vs ≤ n → take n vs ≡ vs
take-all [] zero le = refl
take-all [] (suc n) le = refl
take-all (v ∷ vs) zero le = absurd (omega arith)
take-all (v ∷ vs) (suc n) le = ap (λ (xs : List Scalar). v ∷ xs) (take-all vs n (omega arith))

-- the key of the value at a place
abbrev pub key_there : List Scalar → ℕ → Option Key
key_there vs n = option_map scalar_key (slice_get vs n)

there : (o : Option Scalar) (k : Key) → option_map scalar_key o ≡ Some k → (v : Scalar) × ((o ≡ Some v) × (scalar_key v ≡ k))
there None k is = absurd (cc is)
there (Some v) k is = let same : scalar_key v ≡ k = cc is in (v, (refl, same))

keys-more : (vs : List Scalar) (n : ℕ) (k : Key) → key_there vs n ≡ Some k → map scalar_key (take (n + 1) vs) ≡ map scalar_key (take n vs) ++ k ∷ []
keys-more vs n k is =
    let at = there (slice_get vs n) k is in
    ap (map scalar_key) (take-more vs n at.0 at.1.0) ∙ (map-append scalar_key (take n vs) (at.0 ∷ []) ∙ ap (λ (x : Key). map scalar_key (take n vs) ++ x ∷ []) at.1.1)

keys-rise : (vs : List Scalar) → ascend vs ≡ true → (n : ℕ) → Rises (map scalar_key (take n vs))
keys-rise vs ascends n = rises (take n vs) (ascend-take vs n ascends)

last-before : (vs : List Scalar) (n : ℕ) (k : Key) → 0 < n → key_there vs (n - 1) ≡ Some k → last_or None (map scalar_key (take n vs)) ≡ Some k
last-before vs n k above is =
    let before : (n - 1) + 1 ≡ n = omega arith in
    ap (λ (m : ℕ). last_or None (map scalar_key (take m vs))) (sym before) ∙ (ap (last_or None) (keys-more vs (n - 1) k is) ∙ last-of None (map scalar_key (take (n - 1) vs)) k)

nothing : (vs : List Scalar) (n : ℕ) → n ≡ 0 → map scalar_key (take n vs) ≡ []
nothing [] n is = ap (λ (m : ℕ). map scalar_key (take {A = Scalar} m [])) is
nothing (v ∷ vs) n is = ap (λ (m : ℕ). map scalar_key (take m (v ∷ vs))) is

module _ (t : TermsOptions) (vs : List Scalar) (ascends : ascend vs ≡ true) where
  -- a value equal to the one before has no new key
  pub step_same : (n : ℕ) (j k : Key) → 0 < n → key_there vs (n - 1) ≡ Some j → key_there vs n ≡ Some k → j ≡ k → keys_of_values t (take (n + 1) vs) ≡ keys_of_values t (take n vs) ++ []
  step_same n j k above before is same =
      ap (λ (ks : List Key). filter (is_included t.include t.exclude) (distinct_keys ks)) (keys-more vs n k is)
      ∙ (ap (filter (is_included t.include t.exclude)) (repeated (map scalar_key (take n vs)) k (last-before vs n j above before ∙ ap Some same)) ∙ sym (append-nil (keys_of_values t (take n vs))))

  new_key : (n : ℕ) (k : Key) (b : Bool) → key_there vs n ≡ Some k → (last_or None (map scalar_key (take n vs)) ≡ Some k → ⊥) → is_included t.include t.exclude k ≡ b
      → keys_of_values t (take (n + 1) vs) ≡ keys_of_values t (take n vs) ++ cond b (k ∷ []) []
  new_key n k b is differs included_is =
      let ks = map scalar_key (take n vs) in
      ap (λ (xs : List Key). filter (is_included t.include t.exclude) (distinct_keys xs)) (keys-more vs n k is)
      ∙ (ap (filter (is_included t.include t.exclude)) (another ks k (subst Rises (keys-more vs n k is) (keys-rise vs ascends (n + 1))) differs)
      ∙ (filter-append (is_included t.include t.exclude) (distinct_keys ks) (k ∷ []) ∙ ap (λ (x : Bool). keys_of_values t (take n vs) ++ cond x (k ∷ []) []) included_is))

  -- the first value has one, where it is included
  pub step_first : (n : ℕ) (k : Key) (b : Bool) → n ≡ 0 → key_there vs n ≡ Some k → is_included t.include t.exclude k ≡ b → keys_of_values t (take (n + 1) vs) ≡ keys_of_values t (take n vs) ++ cond b (k ∷ []) []
  step_first n k b first is included_is = new_key n k b is (λ e. let none : None ≡ Some k = ap (last_or None) (sym (nothing vs n first)) ∙ e in absurd (cc none)) included_is

  -- and a value that differs from the one before
  pub step_other : (n : ℕ) (j k : Key) (b : Bool) → 0 < n → key_there vs (n - 1) ≡ Some j → key_there vs n ≡ Some k → (j ≡ k → ⊥) → is_included t.include t.exclude k ≡ b
      → keys_of_values t (take (n + 1) vs) ≡ keys_of_values t (take n vs) ++ cond b (k ∷ []) []
  step_other n j k b above before is differs included_is =
      new_key n k b is (λ e. let same : j ≡ k = (let both : Some j ≡ Some k = sym (last-before vs n j above before) ∙ e in cc both) in differs same) included_is
