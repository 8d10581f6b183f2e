-- The buckets of each key are a part of all buckets, and distinct keys have distinct parts.
use Rattle.std.specs.Prelude.{◌≡◌, refl, ℕ, ◌+◌, ◌<◌, ◌≤◌, Bool, true, false, cond, ◌||◌, T, List, [], ◌∷◌, map, sum_by, length}
use Rattle.std.specs.List.{list_all}
use Rattle.std.proofs.Common.{sym, ◌∙◌, ap, subst, arith}
use Rattle.std.proofs.lemmas.List.Sums.{sum_by-cons}
use Rattle.agg_model.specs.declared.key.Key.{Key}
use Rattle.agg_model.specs.declared.partial.Bucket.{Bucket}
use Rattle.agg_evaluation.specs.KeyOrder.{key_eq, has_key}
use Rattle.agg_evaluation.specs.Orders.{bucket_key}
use Rattle.agg_evaluation.specs.Trees.{is_ascending}
use Rattle.agg_evaluation.proofs.KeyLists.{key_eq-exact, is_below, below-absent, key_eq-sym}
use Rattle.agg_evaluation.proofs.WholeLaws.{with_key}
use Rattle.list_laws.proofs.Booleans.{and_left, and_right, both, holds}

module _ (f : Bucket → ℕ) where
  abbrev pub part : List Bucket → Key → ℕ
  part bs q = sum_by f (with_key q bs)

  part-cons : (b : Bucket) (bs : List Bucket) (q : Key) → part (b ∷ bs) q ≡ cond (key_eq q (bucket_key b)) (f b) 0 + part bs q
  part-cons b bs q =
      elim (key_eq q (bucket_key b)) as (λ c. sum_by f (cond c (b ∷ with_key q bs) (with_key q bs)) ≡ cond c (f b) 0 + part bs q) [
        | true ↦ sum_by-cons f b (with_key q bs)
        | false ↦ omega arith
      ]

  parts-cons : (b : Bucket) (bs : List Bucket) (ks : List Key) → sum_by (part (b ∷ bs)) ks ≡ sum_by (λ q. cond (key_eq q (bucket_key b)) (f b) 0) ks + sum_by (part bs) ks
  parts-cons b bs [] = refl
  parts-cons b bs (k ∷ ks) =
      let whole = sum_by-cons (part (b ∷ bs)) k ks in
      let here = sum_by-cons (λ q. cond (key_eq q (bucket_key b)) (f b) 0) k ks in
      let behind = sum_by-cons (part bs) k ks in
      let first = part-cons b bs k in
      let rest = parts-cons b bs ks in
      omega arith

  not_below : (j : Key) (n : ℕ) (ks : List Key) → T (is_below j ks) → sum_by (λ q. cond (key_eq q j) n 0) ks ≡ 0
  not_below j n [] h = refl
  not_below j n (k ∷ ks) h =
      let cons = sum_by-cons (λ q. cond (key_eq q j) n 0) k ks in
      let rest = not_below j n ks (and_right _ _ h) in
      let apart : key_eq k j ≡ false = key_eq-sym k j ∙ first_false (key_eq j k) (has_key j ks) (below-absent j (k ∷ ks) h) in
      let none : cond (key_eq k j) n 0 ≡ 0 = ap (λ c. cond c n 0) apart in
      omega arith
    where
      first_false : (b c : Bool) → (b || c) ≡ false → b ≡ false
      first_false true c e = absurd (subst T e tt)
      first_false false c e = refl

  -- in ascending keys one key is a bucket's at most
  pub at_most_once : (j : Key) (n : ℕ) (ks : List Key) → T (is_ascending ks) → sum_by (λ q. cond (key_eq q j) n 0) ks ≤ n
  at_most_once j n [] h = omega arith
  at_most_once j n (k ∷ ks) h =
      let cons = sum_by-cons (λ q. cond (key_eq q j) n 0) k ks in
      elim (key_eq k j) as (λ b. key_eq k j ≡ b → sum_by (λ q. cond (key_eq q j) n 0) (k ∷ ks) ≤ n) [
        | true ↦ λ e.
            let none = not_below j n ks (subst (λ l. T (is_below l ks)) (key_eq-exact k j (holds _ e)) (and_left _ _ h)) in
            let one : cond (key_eq k j) n 0 ≡ n = ap (λ c. cond c n 0) e in
            omega arith
        | false ↦ λ e.
            let rest = at_most_once j n ks (and_right _ _ h) in
            let none : cond (key_eq k j) n 0 ≡ 0 = ap (λ c. cond c n 0) e in
            omega arith
      ] refl

  -- the buckets of distinct keys are at most all buckets
  pub parts-at_most : (bs : List Bucket) (ks : List Key) → T (is_ascending ks) → sum_by (part bs) ks ≤ sum_by f bs
  parts-at_most [] ks h = nothing ks
    where
      nothing : (ks : List Key) → sum_by (part []) ks ≤ 0
      nothing [] = omega arith
      nothing (k ∷ ks) = let cons = sum_by-cons (part []) k ks in let rest = nothing ks in omega arith
  parts-at_most (b ∷ bs) ks h =
      let cons = parts-cons b bs ks in
      let whole = sum_by-cons f b bs in
      let first = at_most_once (bucket_key b) (f b) ks h in
      let rest = parts-at_most bs ks h in
      omega arith

-- what holds of all buckets holds of those with a key
pub with_key-all : (p : Bucket → Bool) (q : Key) (bs : List Bucket) → T (list_all p bs) → T (list_all p (with_key q bs))
with_key-all p q [] h = tt
with_key-all p q (b ∷ bs) h =
    elim (key_eq q (bucket_key b)) as (λ c. T (list_all p (cond c (b ∷ with_key q bs) (with_key q bs)))) [
      | true ↦ both _ _ (and_left _ _ h) (with_key-all p q bs (and_right _ _ h))
      | false ↦ with_key-all p q bs (and_right _ _ h)
    ]

pub with_key-some : (q : Key) (bs : List Bucket) → has_key q (map bucket_key bs) ≡ true → 0 < length (with_key q bs)
with_key-some q [] e = absurd (subst T (sym e) tt)
with_key-some q (b ∷ bs) e =
    elim (key_eq q (bucket_key b)) as (λ c. (c || has_key q (map bucket_key bs)) ≡ true → 0 < length (cond c (b ∷ with_key q bs) (with_key q bs))) [
      | true ↦ λ e. omega arith
      | false ↦ λ e. with_key-some q bs e
    ] e
