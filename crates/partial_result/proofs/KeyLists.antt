-- Ascending lists of keys: which keys stand in them says all.
use Rattle.std.specs.Prelude.{◌≡◌, refl, ℕ, true, false, cond, ◌&&◌, ◌||◌, T, List, [], ◌∷◌, ◌++◌, map, filter}
use Rattle.std.specs.List.{list_all}
use Rattle.std.specs.Ordering.{is_eq, is_lt}
use Rattle.std.proofs.Common.{sym, ◌∙◌, ap, subst}
use Rattle.agg_evaluation.proofs.KeyLists.{ascending-distinct_keys, distinct_keys-ascending}
use Rattle.list_laws.proofs.Orders.{less_of, equal_of}
use Rattle.list_laws.proofs.Booleans.{true_is, holds, and_first, and_second}
use Rattle.agg_model.specs.declared.key.Key.{Key}
use Rattle.agg_model.specs.declared.partial.Bucket.{Bucket}
use Rattle.agg_evaluation.specs.KeyOrder.{key_cmp, key_eq, has_key}
use Rattle.agg_evaluation.specs.Keys.{distinct_keys}
use Rattle.agg_evaluation.specs.Trees.{is_ascending}
use Rattle.agg_evaluation.proofs.KeyExact.{exact_keys}

-- distinct keys ascend
pub ascending-distinct : (ks : List Key) → is_ascending (distinct_keys ks) ≡ true
ascending-distinct ks = true_is _ (ascending-distinct_keys ks)

-- keys that ascend are distinct
pub distinct-ascending : (ks : List Key) → is_ascending ks ≡ true → distinct_keys ks ≡ ks
distinct-ascending ks h = distinct_keys-ascending ks (holds _ h)

-- a key below all of a list is not in it
pub absent_below : (k : Key) (ks : List Key) → list_all (λ later. is_lt (key_cmp k later)) ks ≡ true → has_key k ks ≡ false
absent_below k [] h = refl
absent_below k (j ∷ ks) h =
    ap (λ r. is_eq r || has_key k ks) (less_of _ (and_first _ _ h)) ∙ absent_below k ks (and_second _ _ h)

-- the bucket of a key among those that are made of ascending keys
module _ (f : Key → Bucket) (keyed : (k : Key) → (f k).key ≡ k) where
  pub none_same : (q : Key) (ks : List Key) → has_key q ks ≡ false → filter (λ b. key_eq q b.key) (map f ks) ≡ []
  none_same q [] h = refl
  none_same q (k ∷ ks) h =
      ap (λ j. cond (key_eq q j) (f k ∷ filter (λ b. key_eq q b.key) (map f ks)) (filter (λ b. key_eq q b.key) (map f ks))) (keyed k)
      ∙ elim (key_eq q k) as (λ b. (b || has_key q ks) ≡ false → cond b (f k ∷ filter (λ b. key_eq q b.key) (map f ks)) (filter (λ b. key_eq q b.key) (map f ks)) ≡ []) [
        | true ↦ λ g. absurd (subst T g tt)
        | false ↦ λ g. none_same q ks g
      ] h

  pub one_same : (q : Key) (ks : List Key) → is_ascending ks ≡ true → filter (λ b. key_eq q b.key) (map f ks) ≡ cond (has_key q ks) (f q ∷ []) []
  one_same q [] h = refl
  one_same q (k ∷ ks) h =
      ap (λ j. cond (key_eq q j) (f k ∷ filter (λ b. key_eq q b.key) (map f ks)) (filter (λ b. key_eq q b.key) (map f ks))) (keyed k)
      ∙ elim (key_eq q k) as (λ b. key_eq q k ≡ b → cond b (f k ∷ filter (λ b. key_eq q b.key) (map f ks)) (filter (λ b. key_eq q b.key) (map f ks)) ≡ cond (b || has_key q ks) (f q ∷ []) []) [
        | true ↦ λ p.
            let same : q ≡ k = exact_keys q k (equal_of _ p) in
            let none = absent_below k ks (and_first _ _ h) in
            (λ i. f (sym same i) ∷ none_same q ks (subst (λ j. has_key j ks ≡ false) (sym same) none) i)
        | false ↦ λ p. one_same q ks (and_second _ _ h)
      ] refl
