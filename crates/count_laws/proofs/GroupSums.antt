-- The sums over the groups of a list by keys, each group summed, are the sum over the list.
use Rattle.std.specs.Prelude.{◌≡◌, refl, ℕ, ◌+◌, ◌||◌, true, false, cond, T, List, [], ◌∷◌, map, filter, sum_by}
use Rattle.std.specs.List.{list_all}
use Rattle.std.proofs.Common.{sym, ◌∙◌, ap, subst, arith}
use Rattle.std.proofs.lemmas.List.Sums.{sum_by-cons}
use Rattle.list_laws.proofs.Booleans.{or_right, and_left, and_right, both, true_is}
use Rattle.agg_model.specs.declared.key.Key.{Key}
use Rattle.agg_evaluation.specs.KeyOrder.{key_eq, has_key}
use Rattle.agg_evaluation.specs.Keys.{distinct_keys}
use Rattle.agg_evaluation.specs.Trees.{is_ascending}
use Rattle.agg_evaluation.proofs.KeyLists.{key_eq-self, filter-ascending, ascending-distinct_keys, has_key-distinct_keys, key_eq-sym}

module _ {B : Type 0} (key : B → Key) (f : B → ℕ) where
  -- the items of a key
  abbrev pub of_key : Key → List B → List B
  of_key q bs = filter (λ b. key_eq q (key b)) bs

  sum-zero : (ks : List Key) → sum_by (λ q. sum_by f (of_key q [])) ks ≡ 0
  sum-zero [] = refl
  sum-zero (k ∷ ks) = omega (arith, sum_by-cons (λ q. sum_by f (of_key q [])) k ks, sum-zero ks)

  -- one item more adds its number once for each place where its key stands
  one_more : (b : B) (bs : List B) (ks : List Key)
      → sum_by (λ q. sum_by f (of_key q (b ∷ bs))) ks ≡ sum_by (λ q. f b) (filter (λ q. key_eq q (key b)) ks) + sum_by (λ q. sum_by f (of_key q bs)) ks
  one_more b bs [] = refl
  one_more b bs (k ∷ ks) =
      sum_by-cons (λ q. sum_by f (of_key q (b ∷ bs))) k ks
      ∙ elim (key_eq k (key b)) as (λ c. sum_by f (cond c (b ∷ of_key k bs) (of_key k bs)) + sum_by (λ q. sum_by f (of_key q (b ∷ bs))) ks
      ≡ sum_by (λ q. f b) (cond c (k ∷ filter (λ q. key_eq q (key b)) ks) (filter (λ q. key_eq q (key b)) ks)) + sum_by (λ q. sum_by f (of_key q bs)) (k ∷ ks)) [
        | true ↦ omega (arith, sum_by-cons f b (of_key k bs), one_more b bs ks, sum_by-cons (λ q. f b) k (filter (λ q. key_eq q (key b)) ks), sum_by-cons (λ q. sum_by f (of_key q bs)) k ks)
        | false ↦ omega (arith, one_more b bs ks, sum_by-cons (λ q. sum_by f (of_key q bs)) k ks)
      ]

  -- a key stands once in an ascending list that has it
  stands_once : (q : Key) (ks : List Key) → T (is_ascending ks) → T (has_key q ks) → filter (λ k. key_eq k q) ks ≡ q ∷ []
  stands_once q ks up there = (λ i. filter (λ k. key_eq-sym k q i) ks) ∙ filter-ascending q ks up ∙ ap (λ b. cond b (q ∷ []) []) (true_is _ there)

  pub sum_by-groups : (ks : List Key) → T (is_ascending ks) → (bs : List B) → T (list_all (λ b. has_key (key b) ks) bs) → sum_by (λ q. sum_by f (of_key q bs)) ks ≡ sum_by f bs
  sum_by-groups ks up [] h = sum-zero ks
  sum_by-groups ks up (b ∷ bs) h =
      omega (arith, one_more b bs ks, ap (sum_by (λ q. f b)) (stands_once (key b) ks up (and_left _ _ h)), sum_by-cons (λ q. f b) (key b) [], sum_by-groups ks up bs (and_right _ _ h), sum_by-cons f b bs)

  all_there : (ks : List Key) (bs : List B) → ((q : Key) → T (has_key q (map key bs)) → T (has_key q ks)) → T (list_all (λ b. has_key (key b) ks) bs)
  all_there ks [] h = tt
  all_there ks (b ∷ bs) h =
      both _ _ (h (key b) (subst (λ c. T (c || has_key (key b) (map key bs))) (sym (key_eq-self (key b))) tt)) (all_there ks bs (λ q there. h q (or_right (key_eq q (key b)) _ there)))

  -- by the distinct keys of the list itself
  pub sum_by-distinct : (bs : List B) → sum_by (λ q. sum_by f (of_key q bs)) (distinct_keys (map key bs)) ≡ sum_by f bs
  sum_by-distinct bs =
      sum_by-groups (distinct_keys (map key bs)) (ascending-distinct_keys (map key bs)) bs
      (all_there (distinct_keys (map key bs)) bs (λ q there. subst T (sym (has_key-distinct_keys q (map key bs))) there))
