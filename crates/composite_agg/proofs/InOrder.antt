-- Items in the order of the sources: where a key stands among them, and what keeps the order.
use Rattle.std.proofs.Common.{◌≡◌, refl, ℕ, zero, suc, ◌<◌, Bool, true, false, List, [], ◌∷◌, ◌++◌, length, get_or, take, drop, map, Some, None, Equal, sym, ◌∙◌, ap, arith}
use Rattle.std.specs.Prelude.{T, ◌&&◌, ◌||◌}
use Rattle.std.specs.List.{list_all, last_or, AllByRecursion}
use Rattle.std.specs.List.Sorted.{IsPartitionedBy}
use Rattle.std.specs.Option.{option_map_or}
use Rattle.std.specs.Ordering.{is_lt}
use Rattle.std.proofs.Math.ListN.{set}
use Rattle.agg_model.specs.declared.aggregation.CompositeSource.{CompositeSource}
use Rattle.agg_model.specs.declared.key.Key.{Key}
use Rattle.agg_evaluation.specs.KeyOrder.{has_key}
use Rattle.list_laws.proofs.Booleans.{and_left, and_false, and_right, and_true, both, holds, true_is}
use Rattle.composite_agg.specs.InOrder.{IsInOrder, all_before, all_behind, page_cmp}
use Rattle.composite_agg.proofs.PageSteps.{differs, differs_back, greater_back}
use Rattle.composite_agg.proofs.PlaceOrder.{at, before_trans}

pub all-take : {A : Type 0} (p : A → Bool) (xs : List A) (n : ℕ) → T (list_all p xs) → T (list_all p (take n xs))
all-take p [] zero all = tt
all-take p [] (suc n) all = tt
all-take p (x ∷ xs) zero all = tt
all-take p (x ∷ xs) (suc n) all = both _ _ (and_left _ _ all) (all-take p xs n (and_right _ _ all))

pub all-insert : {A : Type 0} (p : A → Bool) (x : A) (xs : List A) (n : ℕ) → T (p x) → T (list_all p xs) → T (list_all p (take n xs ++ x ∷ drop n xs))
all-insert p x [] zero one all = both _ _ one tt
all-insert p x [] (suc n) one all = both _ _ one tt
all-insert p x (y ∷ ys) zero one all = both _ _ one all
all-insert p x (y ∷ ys) (suc n) one all = both _ _ (and_left _ _ all) (all-insert p x ys n one (and_right _ _ all))

pub all-set : {A : Type 0} (p : A → Bool) (x : A) (xs : List A) (n : ℕ) → T (p x) → T (list_all p xs) → T (list_all p (set xs n x))
all-set p x [] n one all = tt
all-set p x (y ∷ ys) zero one all = both _ _ one (and_right _ _ all)
all-set p x (y ∷ ys) (suc n) one all = both _ _ (and_left _ _ all) (all-set p x ys n one (and_right _ _ all))

module _ {A : Type 0} (key : A → Key) (sources : List CompositeSource) where
  -- those before a key stand in front
  pub parted : (k : Key) (xs : List A) → IsInOrder key sources xs → IsPartitionedBy (λ x. is_lt (page_cmp sources (key x) k)) xs
  parted k [] order i j d le below e = absurd (omega (arith, below))
  parted k (x ∷ xs) order zero zero d le below e = e
  parted k (x ∷ xs) order zero (suc j) d le below e =
      let short : j < length xs = omega (arith, below) in
      true_is _ (before_trans sources (key x) (key (get_or xs j d)) k (at (λ later. is_lt (page_cmp sources (key x) (key later))) xs j d short order.0) (holds _ e))
  parted k (x ∷ xs) order (suc i) zero d le below e = absurd (omega (arith, le))
  parted k (x ∷ xs) order (suc i) (suc j) d le below e = parted k xs order.1 i j d (omega (arith, le)) (omega (arith, below)) e

  -- all before a key, by the last
  pub last-decides : (k : Key) (xs : List A) → IsInOrder key sources xs → all_before key sources k xs ≡ option_map_or (λ x. is_lt (page_cmp sources (key x) k)) (last_or None xs) true
  last-decides k [] order = refl
  last-decides k (x ∷ xs) order = from x xs order
    where
      from : (x : A) (xs : List A) → IsInOrder key sources (x ∷ xs) → all_before key sources k (x ∷ xs) ≡ option_map_or (λ x. is_lt (page_cmp sources (key x) k)) (last_or (Some x) xs) true
      from x [] order = and_true (is_lt (page_cmp sources (key x) k))
      from x (y ∷ ys) order = elim (all_before key sources k (y ∷ ys)) as (λ t. all_before key sources k (y ∷ ys) ≡ t → (is_lt (page_cmp sources (key x) k) && t) ≡ option_map_or (λ x. is_lt (page_cmp sources (key x) k)) (last_or (Some y) ys) true) [
        | true ↦ λ e. ap (λ t. t && true) (true_is _ (before_trans sources (key x) (key y) k (and_left _ _ order.0) (and_left _ _ (holds _ e)))) ∙ sym e ∙ from y ys order.1
        | false ↦ λ e. and_false (is_lt (page_cmp sources (key x) k)) ∙ sym e ∙ from y ys order.1
      ] refl

  pub behind-all : (j k : Key) (xs : List A) → T (is_lt (page_cmp sources j k)) → T (all_behind key sources k xs) → T (all_behind key sources j xs)
  behind-all j k [] first all = tt
  behind-all j k (x ∷ xs) first all = both _ _ (before_trans sources j k (key x) first (and_left _ _ all)) (behind-all j k xs first (and_right _ _ all))

  pub after_all : (k : Key) (xs : List A) → IsInOrder key sources xs → AllByRecursion (λ x. is_lt (page_cmp sources (key x) k) ≡ false) xs → ((x : A) (rest : List A) → xs ≡ x ∷ rest → page_cmp sources (key x) k ≡ Equal → ⊥)
      → T (all_behind key sources k xs)
  after_all k [] order behind other = tt
  after_all k (x ∷ xs) order behind other =
      let first = greater_back sources (key x) k behind.0 (other x xs refl) in
      both _ _ first (behind-all k (key x) xs first order.0)

  pub order-drop : (xs : List A) (i : ℕ) → IsInOrder key sources xs → IsInOrder key sources (drop i xs)
  order-drop [] zero order = tt
  order-drop [] (suc i) order = tt
  order-drop (x ∷ xs) zero order = order
  order-drop (x ∷ xs) (suc i) order = order-drop xs i order.1

  -- an item in its place keeps the order
  pub order-insert : (x : A) (xs : List A) (i : ℕ) → IsInOrder key sources xs → T (all_before key sources (key x) (take i xs)) → T (all_behind key sources (key x) (drop i xs)) → IsInOrder key sources (take i xs ++ x ∷ drop i xs)
  order-insert x [] zero order front behind = (tt, tt)
  order-insert x [] (suc i) order front behind = (tt, tt)
  order-insert x (y ∷ ys) zero order front behind = (behind, order)
  order-insert x (y ∷ ys) (suc i) order front behind =
      (all-insert (λ later. is_lt (page_cmp sources (key y) (key later))) x ys i (and_left _ _ front) order.0, order-insert x ys i order.1 (and_right _ _ front) behind)

  pub order-take : (xs : List A) (n : ℕ) → IsInOrder key sources xs → IsInOrder key sources (take n xs)
  order-take [] zero order = tt
  order-take [] (suc n) order = tt
  order-take (x ∷ xs) zero order = tt
  order-take (x ∷ xs) (suc n) order = (all-take (λ later. is_lt (page_cmp sources (key x) (key later))) xs n order.0, order-take xs n order.1)

  -- no item has the key
  pub absent : (k : Key) (xs : List A) (i : ℕ) → T (all_before key sources k (take i xs)) → T (all_behind key sources k (drop i xs)) → has_key k (map key xs) ≡ false
  absent k [] zero front behind = refl
  absent k [] (suc i) front behind = refl
  absent k (x ∷ xs) zero front behind = ap (λ t. t || has_key k (map key xs)) (differs_back sources (key x) k (and_left _ _ behind)) ∙ none xs (and_right _ _ behind)
    where
      none : (ys : List A) → T (all_behind key sources k ys) → has_key k (map key ys) ≡ false
      none [] all = refl
      none (y ∷ ys) all = ap (λ t. t || has_key k (map key ys)) (differs_back sources (key y) k (and_left _ _ all)) ∙ none ys (and_right _ _ all)
  absent k (x ∷ xs) (suc i) front behind = ap (λ t. t || has_key k (map key xs)) (differs sources (key x) k (and_left _ _ front)) ∙ absent k xs i (and_right _ _ front) behind

-- items that are mapped to others with the same keys
module _ {A B : Type 0} (f : A → B) (key : B → Key) (sources : List CompositeSource) where
  behind-map : (k : Key) (xs : List A) → T (all_behind (λ x. key (f x)) sources k xs) → T (all_behind key sources k (map f xs))
  behind-map k [] all = tt
  behind-map k (x ∷ xs) all = both _ _ (and_left _ _ all) (behind-map k xs (and_right _ _ all))

  pub order-map : (xs : List A) → IsInOrder (λ x. key (f x)) sources xs → IsInOrder key sources (map f xs)
  order-map [] order = tt
  order-map (x ∷ xs) order = (behind-map (key (f x)) xs order.0, order-map xs order.1)

pub all-map : {A B : Type 0} (f : A → B) (p : B → Bool) (xs : List A) → T (list_all (λ x. p (f x)) xs) → T (list_all p (map f xs))
all-map f p [] all = tt
all-map f p (x ∷ xs) all = both _ _ (and_left _ _ all) (all-map f p xs (and_right _ _ all))
