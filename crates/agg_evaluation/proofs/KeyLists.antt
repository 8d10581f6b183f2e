-- Ascending lists of keys: each is determined by the keys that stand in it.
use Rattle.std.specs.Prelude.{◌≡◌, refl, ℕ, Bool, true, false, cond, ◌||◌, T, List, [], ◌∷◌, map, filter, Some, None}
use Rattle.std.specs.List.{list_all}
use Rattle.std.specs.declared.cmp.Ordering.TheVariants.{Less, Equal, Greater}
use Rattle.std.specs.Ordering.{is_eq, is_lt, match_ordering, ordering_reverse}
use Rattle.std.specs.Cmp.{tied_itself}
use Rattle.std.specs.FinMap.Entries.{find, is_sorted, below_all, same_entries}
use Rattle.std.proofs.Common.{sym, ◌∙◌, ap, subst}
use Rattle.list_laws.proofs.Orders.{less_is, equal_is}
use Rattle.list_laws.proofs.Booleans.{and_left, and_right, both, holds, or_same, or_swap, same_truth}
use Rattle.agg_model.specs.declared.key.Key.{Key}
use Rattle.agg_evaluation.specs.KeyOrder.{key_cmp, key_eq, has_key}
use Rattle.list_laws.specs.Sorting.{insert_once}
use Rattle.agg_evaluation.specs.Keys.{distinct_keys}
use Rattle.agg_evaluation.specs.Trees.{is_ascending}
use Rattle.agg_evaluation.proofs.KeyCompare.{key_cmp_total}
use Rattle.agg_evaluation.proofs.KeyExact.{exact_keys}

pub key_eq-self : (k : Key) → key_eq k k ≡ true
key_eq-self k = ap is_eq (tied_itself key_cmp_total k)

pub key_eq-exact : (j k : Key) → T (key_eq j k) → j ≡ k
key_eq-exact j k h = exact_keys j k (equal_is _ h)

-- one key is another in either order
pub key_eq-sym : (j k : Key) → key_eq j k ≡ key_eq k j
key_eq-sym j k = same_truth _ _ (turned j k) (turned k j)
  where
    turned : (j k : Key) → T (key_eq j k) → T (key_eq k j)
    turned j k h = subst (λ q. T (key_eq q j)) (key_eq-exact j k h) (holds _ (key_eq-self j))

-- below each key of the list
abbrev pub is_below : Key → List Key → Bool
is_below k ks = list_all (λ later. is_lt (key_cmp k later)) ks

pub below-trans : (j k : Key) (ks : List Key) → key_cmp j k ≡ Less → T (is_below k ks) → T (is_below j ks)
below-trans j k [] p h = tt
below-trans j k (l ∷ ks) p h =
    both _ _ (subst (λ r. T (is_lt r)) (sym (key_cmp_total.trans j k l p (less_is _ (and_left _ _ h)))) tt) (below-trans j k ks p (and_right _ _ h))

below-insert_once : (j k : Key) (ks : List Key) → T (is_lt (key_cmp j k)) → T (is_below j ks) → T (is_below j (insert_once key_cmp k ks))
below-insert_once j k [] p h = both _ _ p tt
below-insert_once j k (l ∷ ks) p h =
    elim (key_cmp k l) as (λ r. T (is_below j (match_ordering r (k ∷ l ∷ ks) (l ∷ ks) (l ∷ insert_once key_cmp k ks)))) [
      | Less ↦ both _ _ p h
      | Equal ↦ h
      | Greater ↦ both _ _ (and_left _ _ h) (below-insert_once j k ks p (and_right _ _ h))
    ]

pub ascending-insert_once : (k : Key) (ks : List Key) → T (is_ascending ks) → T (is_ascending (insert_once key_cmp k ks))
ascending-insert_once k [] h = tt
ascending-insert_once k (l ∷ ks) h =
    elim (key_cmp k l) as (λ r. key_cmp k l ≡ r → T (is_ascending (match_ordering r (k ∷ l ∷ ks) (l ∷ ks) (l ∷ insert_once key_cmp k ks)))) [
      | Less ↦ λ p. both _ _ (both _ _ (subst (λ r. T (is_lt r)) (sym p) tt) (below-trans k l ks p (and_left _ _ h))) h
      | Equal ↦ λ p. h
      | Greater ↦ λ p. both _ _ (below-insert_once l k ks (subst (λ r. T (is_lt r)) (sym (key_cmp_total.antisymm l k ∙ ap ordering_reverse p)) tt) (and_left _ _ h))
          (ascending-insert_once k ks (and_right _ _ h))
    ] refl

pub ascending-distinct_keys : (ks : List Key) → T (is_ascending (distinct_keys ks))
ascending-distinct_keys [] = tt
ascending-distinct_keys (k ∷ ks) = ascending-insert_once k (distinct_keys ks) (ascending-distinct_keys ks)

pub has_key-insert_once : (q k : Key) (ks : List Key) → has_key q (insert_once key_cmp k ks) ≡ (key_eq q k || has_key q ks)
has_key-insert_once q k [] = refl
has_key-insert_once q k (l ∷ ks) =
    elim (key_cmp k l) as (λ r. key_cmp k l ≡ r → has_key q (match_ordering r (k ∷ l ∷ ks) (l ∷ ks) (l ∷ insert_once key_cmp k ks)) ≡ (key_eq q k || (key_eq q l || has_key q ks))) [
      | Less ↦ λ p. refl
      | Equal ↦ λ p. or_same (key_eq q l) (has_key q ks) ∙ ap (λ j. key_eq q j || (key_eq q l || has_key q ks)) (sym (exact_keys k l p))
      | Greater ↦ λ p. ap (λ b. key_eq q l || b) (has_key-insert_once q k ks) ∙ or_swap (key_eq q l) (key_eq q k) (has_key q ks)
    ] refl

pub has_key-distinct_keys : (q : Key) (ks : List Key) → has_key q (distinct_keys ks) ≡ has_key q ks
has_key-distinct_keys q [] = refl
has_key-distinct_keys q (k ∷ ks) = has_key-insert_once q k (distinct_keys ks) ∙ ap (λ b. key_eq q k || b) (has_key-distinct_keys q ks)

-- a key below a list is not in it
pub below-absent : (k : Key) (ks : List Key) → T (is_below k ks) → has_key k ks ≡ false
below-absent k [] h = refl
below-absent k (l ∷ ks) h = ap (λ r. is_eq r || has_key k ks) (less_is _ (and_left _ _ h)) ∙ below-absent k ks (and_right _ _ h)

-- the list as entries, whose values say nothing
entries : List Key → List (Key × ℕ)
entries ks = map (λ k. (k, 0)) ks

sorted-entries : (ks : List Key) → T (is_ascending ks) → T (is_sorted key_cmp (entries ks))
unfolding entries
sorted-entries [] h = tt
sorted-entries (k ∷ ks) h = both _ _ (below-entries k ks (and_left _ _ h)) (sorted-entries ks (and_right _ _ h))
  where
    below-entries : (k : Key) (ks : List Key) → T (is_below k ks) → T (below_all {X = ℕ} key_cmp k (map (λ k. (k, 0)) ks))
    below-entries k [] h = tt
    below-entries k (l ∷ ks) h = both _ _ (and_left _ _ h) (below-entries k ks (and_right _ _ h))

find-entries : (q : Key) (ks : List Key) → find key_cmp q (entries ks) ≡ cond (has_key q ks) (Some 0) None
unfolding entries
find-entries q [] = refl
find-entries q (k ∷ ks) =
    elim (key_eq q k) as (λ b. cond b (Some 0) (find key_cmp q (entries ks)) ≡ cond (b || has_key q ks) (Some 0) None) [
      | true ↦ refl
      | false ↦ find-entries q ks
    ]

keys-entries : (ks : List Key) → map (λ e. e.0) (entries ks) ≡ ks
unfolding entries
keys-entries [] = refl
keys-entries (k ∷ ks) = ap (λ js. k ∷ js) (keys-entries ks)

-- two ascending lists with the same keys are one
pub same_keys : (js ks : List Key) → T (is_ascending js) → T (is_ascending ks) → ((q : Key) → has_key q js ≡ has_key q ks) → js ≡ ks
same_keys js ks up_j up_k same =
    let e = same_entries key_cmp key_cmp_total exact_keys (entries js) (entries ks) (sorted-entries js up_j) (sorted-entries ks up_k)
    (λ q. find-entries q js ∙ ap (λ (b : Bool). cond b (Some 0) None) (same q) ∙ sym (find-entries q ks)) in
    sym (keys-entries js) ∙ ap (map (λ e. e.0)) e ∙ keys-entries ks

pub distinct_keys-same : (js ks : List Key) → ((q : Key) → has_key q js ≡ has_key q ks) → distinct_keys js ≡ distinct_keys ks
distinct_keys-same js ks same = same_keys _ _ (ascending-distinct_keys js) (ascending-distinct_keys ks)
    (λ q. has_key-distinct_keys q js ∙ same q ∙ sym (has_key-distinct_keys q ks))

pub distinct_keys-ascending : (ks : List Key) → T (is_ascending ks) → distinct_keys ks ≡ ks
distinct_keys-ascending ks up = same_keys _ _ (ascending-distinct_keys ks) up (λ q. has_key-distinct_keys q ks)

no_more : (k : Key) (ks : List Key) → T (is_below k ks) → filter (key_eq k) ks ≡ []
no_more k [] h = refl
no_more k (l ∷ ks) h = ap (λ r. cond (is_eq r) (l ∷ filter (key_eq k) ks) (filter (key_eq k) ks)) (less_is _ (and_left _ _ h)) ∙ no_more k ks (and_right _ _ h)

-- in an ascending list a key stands once or not at all
pub filter-ascending : (q : Key) (ks : List Key) → T (is_ascending ks) → filter (key_eq q) ks ≡ cond (has_key q ks) (q ∷ []) []
filter-ascending q [] h = refl
filter-ascending q (k ∷ ks) h =
    elim (key_eq q k) as (λ b. key_eq q k ≡ b → cond b (k ∷ filter (key_eq q) ks) (filter (key_eq q) ks) ≡ cond (b || has_key q ks) (q ∷ []) []) [
      | true ↦ λ e. let same = key_eq-exact q k (holds _ e) in
          ap (λ ks. k ∷ ks) (ap (λ q. filter (key_eq q) ks) same ∙ no_more k ks (and_left _ _ h)) ∙ ap (λ k. k ∷ []) (sym same)
      | false ↦ λ e. filter-ascending q ks (and_right _ _ h)
    ] refl

below-filter : (p : Key → Bool) (k : Key) (ks : List Key) → T (is_below k ks) → T (is_below k (filter p ks))
below-filter p k [] h = tt
below-filter p k (l ∷ ks) h =
    elim (p l) as (λ b. T (is_below k (cond b (l ∷ filter p ks) (filter p ks)))) [
      | true ↦ both _ _ (and_left _ _ h) (below-filter p k ks (and_right _ _ h))
      | false ↦ below-filter p k ks (and_right _ _ h)
    ]

pub ascending-filter : (p : Key → Bool) (ks : List Key) → T (is_ascending ks) → T (is_ascending (filter p ks))
ascending-filter p [] h = tt
ascending-filter p (k ∷ ks) h =
    elim (p k) as (λ b. T (is_ascending (cond b (k ∷ filter p ks) (filter p ks)))) [
      | true ↦ both _ _ (below-filter p k ks (and_left _ _ h)) (ascending-filter p ks (and_right _ _ h))
      | false ↦ ascending-filter p ks (and_right _ _ h)
    ]
