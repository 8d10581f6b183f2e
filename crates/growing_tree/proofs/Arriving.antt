-- Buckets in the order in which their keys came: sorted by key they grow as the sorted list does. So code may keep them in
-- that order, with any index from keys to places.
use Rattle.std.specs.Prelude.{◌≡◌, refl, ℕ, zero, suc, ◌≤◌, Bool, true, false, cond, T, List, [], ◌∷◌, ◌++◌, map, slice_get, Option, Some, None, if◌then◌else◌}
use Rattle.std.specs.declared.cmp.Ordering.TheVariants.{Less, Equal, Greater}
use Rattle.std.specs.Ordering.{is_eq, is_le, is_lt, is_gt, match_ordering}
use Rattle.std.specs.FinMap.Entries.{find, put, by_order, is_sorted, is_sorted-put, find-put, below_all, same_entries}
use Rattle.std.proofs.Common.{sym, ◌∙◌, ap, subst, arith}
use Rattle.std.proofs.lemmas.Bool.{or_parts, true≢false}
use Rattle.std.proofs.Math.ListN.{set}
use Rattle.list_laws.proofs.Options.{some_same, none_some}
use Rattle.agg_model.specs.declared.key.Key.{Key}
use Rattle.agg_model.specs.declared.partial.Bucket.{Bucket}
use Rattle.agg_evaluation.specs.KeyOrder.{key_cmp, key_eq, has_key}
use Rattle.agg_evaluation.specs.Orders.{bucket_key}
use Rattle.agg_evaluation.specs.Rows.{PlacedRow}
use Rattle.agg_evaluation.specs.Shard.{sorted_by_key}
use Rattle.list_laws.specs.Sorting.{insert_sorted}
use Rattle.agg_evaluation.specs.Trees.{is_ascending}
use Rattle.agg_evaluation.proofs.KeyCompare.{key_cmp_total}
use Rattle.agg_evaluation.proofs.KeyExact.{exact_keys}
use Rattle.agg_evaluation.proofs.KeyLists.{is_below, key_eq-exact, key_eq-self}
use Rattle.list_laws.proofs.Booleans.{and_left, and_right, both, holds}
use Rattle.list_laws.proofs.Orders.{less_is, equal_is}
use Rattle.agg_evaluation.proofs.SortedLists.{ascending-sorted}
use Rattle.list_laws.proofs.Occurrences.{occurrences}
use Rattle.growth_laws.specs.Arrived.{AreDistinct, IsAt}
use Rattle.growth_laws.specs.Gathering.{Gatherer, gathered_bucket, empty_bucket, put_rows}

-- the buckets as entries of a map
abbrev pub entries : List Bucket → List (Key × Bucket)
entries bs = map (λ b. (bucket_key b, b)) bs

-- the buckets of the entries
pub buckets-entries : (bs : List Bucket) → map (λ e. e.1) (entries bs) ≡ bs
buckets-entries [] = refl
buckets-entries (b ∷ bs) = ap (λ xs. b ∷ xs) (buckets-entries bs)

-- entries of ascending keys are sorted
pub sorted-entries : (bs : List Bucket) → T (is_ascending (map bucket_key bs)) → T (is_sorted key_cmp (entries bs))
sorted-entries [] h = tt
sorted-entries (b ∷ bs) h = both _ _ (below b bs (and_left _ _ h)) (sorted-entries bs (and_right _ _ h))
  where
    below : (b : Bucket) (bs : List Bucket) → T (is_below (bucket_key b) (map bucket_key bs)) → T (below_all {X = Bucket} key_cmp (bucket_key b) (entries bs))
    below b [] h = tt
    below b (c ∷ bs) h = both _ _ (and_left _ _ h) (below b bs (and_right _ _ h))

-- two choices in the other order, where both give the same
pub swap : {A : Type 0} (a b : Bool) (x y z : A) → (a ≡ true → b ≡ true → x ≡ y) → cond a x (cond b y z) ≡ cond b y (cond a x z)
swap true true x y z h = h refl refl
swap true false x y z h = refl
swap false true x y z h = refl
swap false false x y z h = refl

-- what is found of a key does not change where the buckets are sorted
find-insert : (q : Key) (x : Bucket) (bs : List Bucket) → find key_cmp q (entries (insert_sorted (λ a b. key_cmp (bucket_key a) (bucket_key b)) x bs)) ≡ find key_cmp q (entries (x ∷ bs))
find-insert q x [] = refl
find-insert q x (b ∷ bs) =
    elim (key_cmp (bucket_key x) (bucket_key b)) as (λ r. key_cmp (bucket_key x) (bucket_key b) ≡ r
    → find key_cmp q (entries (if is_le r then x ∷ b ∷ bs else (b ∷ insert_sorted (λ a b. key_cmp (bucket_key a) (bucket_key b)) x bs))) ≡ find key_cmp q (entries (x ∷ b ∷ bs))) [
      | Less ↦ λ p. refl
      | Equal ↦ λ p. refl
      | Greater ↦ λ p. ap (λ o. cond (key_eq q (bucket_key b)) (Some b) o) (find-insert q x bs)
          ∙ swap (key_eq q (bucket_key b)) (key_eq q (bucket_key x)) (Some b) (Some x) (find key_cmp q (entries bs)) (λ e f.
          absurd (greater_not_equal (sym p ∙ ap (λ k. key_cmp k (bucket_key b)) (sym (key_eq-exact q (bucket_key x) (holds _ f))) ∙ equal_of q (bucket_key b) (holds _ e))))
    ] refl
  where
    greater_not_equal : Greater ≡ Equal → ⊥
    greater_not_equal e = subst (λ o. T (is_gt o)) e tt

    equal_of : (j k : Key) → T (key_eq j k) → key_cmp j k ≡ Equal
    equal_of j k h = equal_is _ h

-- what is found in sorted buckets is what is found in the buckets
pub find-sorted : (q : Key) (bs : List Bucket) → find key_cmp q (entries (sorted_by_key bs)) ≡ find key_cmp q (entries bs)
find-sorted q [] = refl
find-sorted q (b ∷ bs) = find-insert q b (sorted_by_key bs) ∙ ap (cond (key_eq q (bucket_key b)) (Some b)) (find-sorted q bs)

module _ (gs : List Gatherer) (rows : List PlacedRow) (k : Key) where
  -- the bucket of the key, where there was this one or none
  abbrev pub next : Option Bucket → Bucket
  next None = gathered_bucket gs rows (empty_bucket gs k)
  next (Some b) = gathered_bucket gs rows b

  -- a key below all is not found
  absent : (bs : List Bucket) → T (below_all {X = Bucket} key_cmp k (entries bs)) → find key_cmp k (entries bs) ≡ None
  absent [] h = refl
  absent (b ∷ bs) h = ap (λ r. cond (is_eq r) (Some b) (find key_cmp k (entries bs))) (less_is _ (and_left _ _ h)) ∙ absent bs (and_right _ _ h)

  -- a key below another is below what that is below
  below_from : (j : Key) (bs : List Bucket) → key_cmp k j ≡ Less → T (below_all {X = Bucket} key_cmp j (entries bs)) → T (below_all {X = Bucket} key_cmp k (entries bs))
  below_from j [] p h = tt
  below_from j (b ∷ bs) p h = both _ _ (subst (λ r. T (is_lt r)) (sym (key_cmp_total.trans k j (bucket_key b) p (less_is _ (and_left _ _ h)))) tt) (below_from j bs p (and_right _ _ h))

  -- more rows puts the next bucket in the place of the one that was found
  pub put_rows-put : (bs : List Bucket) → T (is_sorted key_cmp (entries bs)) → entries (put_rows gs rows k bs) ≡ put key_cmp k (next (find key_cmp k (entries bs))) (entries bs)
  put_rows-put [] h = refl
  put_rows-put (b ∷ bs) h =
      elim (key_cmp k (bucket_key b)) as (λ r. key_cmp k (bucket_key b) ≡ r
      → entries (match_ordering r (gathered_bucket gs rows (empty_bucket gs k) ∷ b ∷ bs) (gathered_bucket gs rows b ∷ bs) (b ∷ put_rows gs rows k bs))
      ≡ by_order r ((k, next (cond (is_eq r) (Some b) (find key_cmp k (entries bs)))) ∷ entries (b ∷ bs)) ((bucket_key b, next (cond (is_eq r) (Some b) (find key_cmp k (entries bs)))) ∷ entries bs)
      ((bucket_key b, b) ∷ put key_cmp k (next (cond (is_eq r) (Some b) (find key_cmp k (entries bs)))) (entries bs))) [
        | Less ↦ λ p. ap (λ o. (k, next o) ∷ entries (b ∷ bs)) (sym (absent bs (below_from (bucket_key b) bs p (and_left _ _ h))))
        | Equal ↦ λ p. refl
        | Greater ↦ λ p. ap (λ es. (bucket_key b, b) ∷ es) (put_rows-put bs (and_right _ _ h))
      ] refl

  -- two lists in which the same is found
  module _ (bs cs : List Bucket) (distinct : AreDistinct bs) (distinct' : AreDistinct cs) where
    -- sorted buckets ascend
    up : (xs : List Bucket) → AreDistinct xs → T (is_sorted key_cmp (entries (sorted_by_key xs)))
    up xs d = sorted-entries (sorted_by_key xs) (ascending-sorted bucket_key xs d)

    -- where the same is found but for the grown bucket, the sorted buckets grow
    pub grown-sorted : ((q : Key) → find key_cmp q (entries cs) ≡ cond (key_eq q k) (Some (next (find key_cmp k (entries bs)))) (find key_cmp q (entries bs))) → sorted_by_key cs ≡ put_rows gs rows k (sorted_by_key bs)
    grown-sorted found =
        let put_is = put_rows-put (sorted_by_key bs) (up bs distinct) in
        let same = same_entries key_cmp key_cmp_total exact_keys (entries (sorted_by_key cs)) (entries (put_rows gs rows k (sorted_by_key bs))) (up cs distinct')
        (subst (λ es. T (is_sorted key_cmp es)) (sym put_is) (is_sorted-put key_cmp key_cmp_total k _ _ (up bs distinct))) (λ q.
        find-sorted q cs ∙ found q
        ∙ sym (ap (find key_cmp q) put_is ∙ find-put key_cmp key_cmp_total q k _ _ ∙ (λ i. cond (key_eq q k) (Some (next (find-sorted k bs i))) (find-sorted q bs i)))) in
        sym (buckets-entries (sorted_by_key cs)) ∙ ap (map (λ e. e.1)) same ∙ buckets-entries (put_rows gs rows k (sorted_by_key bs))

-- the same choice twice
pub twice : {A : Type 0} (a : Bool) (x y z : A) → cond a x z ≡ cond a x (cond a y z)
twice true x y z = refl
twice false x y z = refl

-- keys that the test takes for one are one
same_key : (q k : Key) → key_eq q k ≡ true → q ≡ k
same_key q k e = key_eq-exact q k (holds _ e)

module _ (gs : List Gatherer) (rows : List PlacedRow) (k : Key) where
  -- a key is not found at the bucket of another
  apart : (c : Bucket) (q : Key) → key_eq k (bucket_key c) ≡ false → key_eq q (bucket_key c) ≡ true → key_eq q k ≡ true → ⊥
  apart c q not_yet e f = true≢false (sym (key_eq-self k) ∙ ap (key_eq k) (sym (same_key q k f) ∙ same_key q (bucket_key c) e) ∙ not_yet)

  -- what is found once the bucket of the key has grown
  found-set : (bs : List Bucket) (i : ℕ) (b : Bucket) → IsAt k bs i b → (q : Key) → find key_cmp q (entries (set bs i (gathered_bucket gs rows b))) ≡ cond (key_eq q k) (Some (gathered_bucket gs rows b)) (find key_cmp q (entries bs))
  found-set [] zero b h q = none_some b h.here
  found-set [] (suc i) b h q = none_some b h.here
  found-set (c ∷ bs) zero b h q =
      let same = ap bucket_key (some_same c b h.here) ∙ h.key_is in
      ap (λ j. cond (key_eq q j) (Some (gathered_bucket gs rows b)) (find key_cmp q (entries bs))) h.key_is
      ∙ twice (key_eq q k) (Some (gathered_bucket gs rows b)) (Some c) (find key_cmp q (entries bs))
      ∙ ap (λ j. cond (key_eq q k) (Some (gathered_bucket gs rows b)) (cond (key_eq q j) (Some c) (find key_cmp q (entries bs)))) (sym same)
  found-set (c ∷ bs) (suc i) b h q =
      let parts = or_parts _ _ h.first in
      ap (cond (key_eq q (bucket_key c)) (Some c)) (found-set bs i b (record { here = h.here; key_is = h.key_is; first = parts.1 }) q)
      ∙ swap (key_eq q (bucket_key c)) (key_eq q k) (Some c) (Some (gathered_bucket gs rows b)) (find key_cmp q (entries bs)) (λ e f. absurd (apart c q parts.0 e f))

  -- the bucket of the key is found
  found-here : (bs : List Bucket) (i : ℕ) (b : Bucket) → IsAt k bs i b → find key_cmp k (entries bs) ≡ Some b
  found-here [] zero b h = none_some b h.here
  found-here [] (suc i) b h = none_some b h.here
  found-here (c ∷ bs) zero b h =
      ap (λ j. cond (key_eq k j) (Some c) (find key_cmp k (entries bs))) (ap bucket_key (some_same c b h.here) ∙ h.key_is)
      ∙ ap (λ x. cond x (Some c) (find key_cmp k (entries bs))) (key_eq-self k) ∙ h.here
  found-here (c ∷ bs) (suc i) b h =
      let parts = or_parts _ _ h.first in
      ap (λ x. cond x (Some c) (find key_cmp k (entries bs))) parts.0 ∙ found-here bs i b (record { here = h.here; key_is = h.key_is; first = parts.1 })

  -- a bucket of the same key in the place of another
  occurrences-set : (q : Key) (bs : List Bucket) (i : ℕ) (b x : Bucket) → slice_get bs i ≡ Some b → bucket_key x ≡ bucket_key b → occurrences (λ b. key_eq q (bucket_key b)) (set bs i x) ≡ occurrences (λ b. key_eq q (bucket_key b)) bs
  occurrences-set q [] i b x e s = refl
  occurrences-set q (c ∷ bs) zero b x e s = ap (λ j. cond (key_eq q j) (suc (occurrences (λ b. key_eq q (bucket_key b)) bs)) (occurrences (λ b. key_eq q (bucket_key b)) bs)) (s ∙ ap bucket_key (sym (some_same c b e)))
  occurrences-set q (c ∷ bs) (suc i) b x e s = ap (λ n. cond (key_eq q (bucket_key c)) (suc n) n) (occurrences-set q bs i b x e s)

  -- more rows in the bucket that has the key
  pub arrived-set : (bs : List Bucket) (i : ℕ) (b : Bucket) → AreDistinct bs → IsAt k bs i b → sorted_by_key (set bs i (gathered_bucket gs rows b)) ≡ put_rows gs rows k (sorted_by_key bs)
  arrived-set bs i b distinct h =
      grown-sorted gs rows k bs (set bs i (gathered_bucket gs rows b)) distinct (λ q. subst (λ n. n ≤ 1) (sym (occurrences-set q bs i b (gathered_bucket gs rows b) h.here refl)) (distinct q)) (λ q.
      found-set bs i b h q ∙ ap (λ o. cond (key_eq q k) (Some (next gs rows k o)) (find key_cmp q (entries bs))) (sym (found-here bs i b h)))

  module _ (n : Bucket) (key_is : bucket_key n ≡ k) where
    -- what is found with one more bucket at the end
    found-push : (bs : List Bucket) → has_key k (map bucket_key bs) ≡ false → (q : Key) → find key_cmp q (entries (bs ++ n ∷ [])) ≡ cond (key_eq q k) (Some n) (find key_cmp q (entries bs))
    found-push [] not_yet q = ap (λ j. cond (key_eq q j) (Some n) None) key_is
    found-push (c ∷ bs) not_yet q =
        let parts = or_parts _ _ not_yet in
        ap (cond (key_eq q (bucket_key c)) (Some c)) (found-push bs parts.1 q)
        ∙ swap (key_eq q (bucket_key c)) (key_eq q k) (Some c) (Some n) (find key_cmp q (entries bs)) (λ e f. absurd (apart c q parts.0 e f))

    -- a key that no bucket has is not found
    found-none : (bs : List Bucket) → has_key k (map bucket_key bs) ≡ false → find key_cmp k (entries bs) ≡ None
    found-none [] not_yet = refl
    found-none (c ∷ bs) not_yet = let parts = or_parts _ _ not_yet in ap (λ x. cond x (Some c) (find key_cmp k (entries bs))) parts.0 ∙ found-none bs parts.1

    -- a key that no bucket has does not occur
    none-of : (bs : List Bucket) (q : Key) → has_key k (map bucket_key bs) ≡ false → key_eq q k ≡ true → occurrences (λ b. key_eq q (bucket_key b)) bs ≡ 0
    none-of [] q not_yet e = refl
    none-of (c ∷ bs) q not_yet e =
        let parts = or_parts _ _ not_yet in
        ap (λ x. cond x (suc (occurrences (λ b. key_eq q (bucket_key b)) bs)) (occurrences (λ b. key_eq q (bucket_key b)) bs)) (ap (λ j. key_eq j (bucket_key c)) (same_key q k e) ∙ parts.0) ∙ none-of bs q parts.1 e

    -- a bucket at the end occurs as one in front
    occurrences-push : (q : Key) (bs : List Bucket) → occurrences (λ b. key_eq q (bucket_key b)) (bs ++ n ∷ []) ≡ occurrences (λ b. key_eq q (bucket_key b)) (n ∷ bs)
    occurrences-push q [] = refl
    occurrences-push q (c ∷ bs) = ap (λ m. cond (key_eq q (bucket_key c)) (suc m) m) (occurrences-push q bs) ∙ both_ways (key_eq q (bucket_key c)) (key_eq q (bucket_key n)) (occurrences (λ b. key_eq q (bucket_key b)) bs)
      where
        both_ways : (a b : Bool) (m : ℕ) → cond a (suc (cond b (suc m) m)) (cond b (suc m) m) ≡ cond b (suc (cond a (suc m) m)) (cond a (suc m) m)
        both_ways true true m = refl
        both_ways true false m = refl
        both_ways false true m = refl
        both_ways false false m = refl

    -- a bucket of a new key leaves no key twice
    pub distinct-push : (bs : List Bucket) → AreDistinct bs → has_key k (map bucket_key bs) ≡ false → AreDistinct (bs ++ n ∷ [])
    distinct-push bs distinct not_yet q =
        subst (λ m. m ≤ 1) (sym (occurrences-push q bs))
        (elim (key_eq q (bucket_key n)) as (λ x. key_eq q (bucket_key n) ≡ x → cond x (suc (occurrences (λ b. key_eq q (bucket_key b)) bs)) (occurrences (λ b. key_eq q (bucket_key b)) bs) ≤ 1) [
          | true ↦ λ e. let none = none-of bs q not_yet (ap (key_eq q) (sym key_is) ∙ e) in omega arith
          | false ↦ λ e. distinct q
        ] refl)

  -- the first row of a key
  pub arrived-push : (bs : List Bucket) → AreDistinct bs → has_key k (map bucket_key bs) ≡ false → sorted_by_key (bs ++ gathered_bucket gs rows (empty_bucket gs k) ∷ []) ≡ put_rows gs rows k (sorted_by_key bs)
  arrived-push bs distinct not_yet =
      let n = gathered_bucket gs rows (empty_bucket gs k) in
      grown-sorted gs rows k bs (bs ++ n ∷ []) distinct (distinct-push n refl bs distinct not_yet) (λ q.
      found-push n refl bs not_yet q ∙ ap (λ o. cond (key_eq q k) (Some (next gs rows k o)) (find key_cmp q (entries bs))) (sym (found-none n refl bs not_yet)))
