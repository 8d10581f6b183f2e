-- Sorting by key makes ascending what has each key once.
use Rattle.std.specs.Prelude.{◌≡◌, refl, ℕ, suc, ◌≤◌, Bool, true, false, cond, T, List, [], ◌∷◌, map, if◌then◌else◌}
use Rattle.std.specs.declared.cmp.Ordering.TheVariants.{Less, Equal, Greater}
use Rattle.std.specs.Ordering.{is_eq, is_lt, is_le, ordering_reverse}
use Rattle.std.proofs.Common.{sym, ◌∙◌, ap, subst, arith}
use Rattle.list_laws.proofs.Occurrences.{occurrences, occurrences-sorted}
use Rattle.agg_model.specs.declared.key.Key.{Key}
use Rattle.agg_evaluation.specs.KeyOrder.{key_cmp, key_eq}
use Rattle.list_laws.specs.Sorting.{insert_sorted, sorted}
use Rattle.agg_evaluation.specs.Trees.{is_ascending}
use Rattle.agg_evaluation.proofs.KeyCompare.{key_cmp_total}
use Rattle.agg_evaluation.proofs.KeyLists.{key_eq-self, key_eq-exact, is_below, below-trans}
use Rattle.list_laws.proofs.Booleans.{and_left, and_right, both, holds}
use Rattle.list_laws.proofs.Orders.{less_is}

-- the keys of items
module _ {A : Type 0} (key : A → Key) where
  below-insert : (k : Key) (x : A) (ys : List A) → T (is_lt (key_cmp k (key x))) → T (is_below k (map key ys)) → T (is_below k (map key (insert_sorted (λ a b. key_cmp (key a) (key b)) x ys)))
  below-insert k x [] h g = both _ _ h tt
  below-insert k x (y ∷ ys) h g =
      elim (is_le (key_cmp (key x) (key y))) as (λ b. T (is_below k (map key (if b then x ∷ y ∷ ys else (y ∷ insert_sorted (λ a b. key_cmp (key a) (key b)) x ys))))) [
        | true ↦ both _ _ h g
        | false ↦ both _ _ (and_left _ _ g) (below-insert k x ys h (and_right _ _ g))
      ]

  ascending-insert : (x : A) (ys : List A) → T (is_ascending (map key ys)) → occurrences (λ y. key_eq (key x) (key y)) ys ≡ 0 → T (is_ascending (map key (insert_sorted (λ a b. key_cmp (key a) (key b)) x ys)))
  ascending-insert x [] h g = tt
  ascending-insert x (y ∷ ys) h g =
      elim (key_cmp (key x) (key y)) as (λ r. key_cmp (key x) (key y) ≡ r → cond (is_eq r) (suc (occurrences (λ y. key_eq (key x) (key y)) ys)) (occurrences (λ y. key_eq (key x) (key y)) ys) ≡ 0
      → T (is_ascending (map key (if is_le r then x ∷ y ∷ ys else (y ∷ insert_sorted (λ a b. key_cmp (key a) (key b)) x ys))))) [
        | Less ↦ λ p g. both _ _ (both _ _ (subst (λ r. T (is_lt r)) (sym p) tt) (below-trans (key x) (key y) (map key ys) p (and_left _ _ h))) h
        | Equal ↦ λ p g. absurd (omega arith)
        | Greater ↦ λ p g. both _ _ (below-insert (key y) x ys (subst (λ r. T (is_lt r)) (sym (key_cmp_total.antisymm (key y) (key x) ∙ ap ordering_reverse p)) tt) (and_left _ _ h))
            (ascending-insert x ys (and_right _ _ h) g)
      ] refl g

  pub ascending-sorted : (xs : List A) → ((q : Key) → occurrences (λ y. key_eq q (key y)) xs ≤ 1) → T (is_ascending (map key (sorted (λ a b. key_cmp (key a) (key b)) xs)))
  ascending-sorted [] once = tt
  ascending-sorted (x ∷ xs) once =
      let here : suc (occurrences (λ y. key_eq (key x) (key y)) xs) ≤ 1 = subst (λ (b : Bool). cond b (suc (occurrences (λ y. key_eq (key x) (key y)) xs)) (occurrences (λ y. key_eq (key x) (key y)) xs) ≤ 1) (key_eq-self (key x)) (once (key x)) in
      ascending-insert x (sorted (λ a b. key_cmp (key a) (key b)) xs) (ascending-sorted xs (λ q. fewer (key_eq q (key x)) _ (once q)))
      (occurrences-sorted (λ a b. key_cmp (key a) (key b)) (λ y. key_eq (key x) (key y)) xs ∙ omega arith)
    where
      fewer : (b : Bool) (n : ℕ) → cond b (suc n) n ≤ 1 → n ≤ 1
      fewer true n h = omega arith
      fewer false n h = h

below_none : (q : Key) (ks : List Key) → T (is_below q ks) → occurrences (key_eq q) ks ≡ 0
below_none q [] h = refl
below_none q (k ∷ ks) h = ap (λ r. cond (is_eq r) (suc (occurrences (key_eq q) ks)) (occurrences (key_eq q) ks)) (less_is _ (and_left _ _ h)) ∙ below_none q ks (and_right _ _ h)

-- in an ascending list each key stands at most once
pub ascending-once : (q : Key) (ks : List Key) → T (is_ascending ks) → occurrences (key_eq q) ks ≤ 1
ascending-once q [] h = omega arith
ascending-once q (k ∷ ks) h =
    elim (key_eq q k) as (λ b. key_eq q k ≡ b → cond b (suc (occurrences (key_eq q) ks)) (occurrences (key_eq q) ks) ≤ 1) [
      | true ↦ λ e. let none = below_none q ks (subst (λ j. T (is_below j ks)) (sym (key_eq-exact q k (holds _ e))) (and_left _ _ h)) in omega arith
      | false ↦ λ e. ascending-once q ks (and_right _ _ h)
    ] refl
