-- Buckets found by their keys, in lists that ascend and in the union of two.
use Rattle.std.specs.Prelude.{◌≡◌, refl, ℕ, Bool, true, false, cond, ◌&&◌, ◌||◌, T, List, [], ◌∷◌, ◌++◌, map, filter, Option, Some, None, is_some, option_to_list, unwrap_or}
use Rattle.std.specs.List.{list_all}
use Rattle.std.specs.declared.cmp.Ordering.TheVariants.{Less, Equal, Greater}
use Rattle.std.specs.Ordering.{is_eq, is_lt, match_ordering, ordering_reverse}
use Rattle.std.specs.FinMap.Entries.{find, is_sorted, below_all, same_entries}
use Rattle.std.proofs.Common.{sym, ◌∙◌, ap, subst}
use Rattle.agg_model.specs.declared.key.Key.{Key}
use Rattle.agg_model.specs.declared.partial.Bucket.{Bucket}
use Rattle.agg_evaluation.specs.KeyOrder.{key_cmp, key_eq, has_key}
use Rattle.agg_evaluation.specs.Orders.{bucket_key}
use Rattle.agg_evaluation.specs.Trees.{is_ascending}
use Rattle.agg_evaluation.proofs.KeyCompare.{key_cmp_total}
use Rattle.agg_evaluation.proofs.KeyExact.{exact_keys}
use Rattle.partial_result.specs.Merged.{OtherBucket, put_in, united, other_bucket, merged_bucket}
use Rattle.partial_result.proofs.MergeLevels.{merged_bucket_level}
use Rattle.list_laws.proofs.Booleans.{holds, and_first, and_second, and_both}
use Rattle.list_laws.proofs.Orders.{less_of, equal_of}

abbrev pub entries : List Bucket → List (Key × Bucket)
entries bs = map (λ b. (b.key, b)) bs

-- the bucket of a key
abbrev pub found : Key → List Bucket → Option Bucket
found q bs = find key_cmp q (entries bs)

buckets-entries : (bs : List Bucket) → map (λ (e : Key × Bucket). e.1) (entries bs) ≡ bs
buckets-entries [] = refl
buckets-entries (b ∷ bs) = ap (λ xs. b ∷ xs) (buckets-entries bs)

-- whether the key is below those of all buckets
abbrev pub is_below : Key → List Bucket → Bool
is_below k bs = below_all key_cmp k (entries bs)

below-keys : (k : Key) (bs : List Bucket) → is_below k bs ≡ list_all (λ later. is_lt (key_cmp k later)) (map bucket_key bs)
below-keys k [] = refl
below-keys k (b ∷ bs) = ap (λ r. is_lt (key_cmp k b.key) && r) (below-keys k bs)

pub sorted-entries : (bs : List Bucket) → is_sorted key_cmp (entries bs) ≡ is_ascending (map bucket_key bs)
sorted-entries [] = refl
sorted-entries (b ∷ bs) = λ i. below-keys b.key bs i && sorted-entries bs i

pub same_found : (cs bs : List Bucket) → is_sorted key_cmp (entries cs) ≡ true → is_sorted key_cmp (entries bs) ≡ true → ((q : Key) → found q cs ≡ found q bs) → cs ≡ bs
same_found cs bs h g same =
    sym (buckets-entries cs) ∙ ap (map (λ (e : Key × Bucket). e.1)) (same_entries key_cmp key_cmp_total exact_keys (entries cs) (entries bs) (holds _ h) (holds _ g) same) ∙ buckets-entries bs

pub is_some-found : (q : Key) (bs : List Bucket) → is_some (found q bs) ≡ has_key q (map bucket_key bs)
is_some-found q [] = refl
is_some-found q (b ∷ bs) =
    elim (key_eq q b.key) as (λ r. is_some (cond r (Some b) (found q bs)) ≡ (r || has_key q (map bucket_key bs))) [ true ↦ refl | false ↦ is_some-found q bs ]

none_some : {A : Type 0} (b : Bucket) → None ≡ Some b → A
none_some b h = absurd (subst (λ (o : Option Bucket). T (is_some o)) (sym h) tt)

same_some : (a b : Bucket) → Some a ≡ Some b → a ≡ b
same_some a b h = ap (λ o. unwrap_or o a) h

-- what is found has the key, and passes what all pass
pub found-key : (q : Key) (bs : List Bucket) (b : Bucket) → found q bs ≡ Some b → q ≡ b.key
found-key q [] b h = none_some b h
found-key q (x ∷ xs) b h =
    elim (key_eq q x.key) as (λ r. key_eq q x.key ≡ r → cond r (Some x) (found q xs) ≡ Some b → q ≡ b.key) [
      | true ↦ λ p g. exact_keys q x.key (equal_of _ p) ∙ ap (λ (y : Bucket). y.key) (same_some x b g)
      | false ↦ λ p g. found-key q xs b g
    ] refl h

pub found-pass : (test : Bucket → Bool) (q : Key) (bs : List Bucket) (b : Bucket) → list_all test bs ≡ true → found q bs ≡ Some b → test b ≡ true
found-pass test q [] b all h = none_some b h
found-pass test q (x ∷ xs) b all h =
    elim (key_eq q x.key) as (λ r. cond r (Some x) (found q xs) ≡ Some b → test b ≡ true) [
      | true ↦ λ g. ap test (sym (same_some x b g)) ∙ and_first _ _ all
      | false ↦ λ g. found-pass test q xs b (and_second _ _ all) g
    ] h

pub found_below : (q : Key) (bs : List Bucket) → is_below q bs ≡ true → found q bs ≡ None
found_below q [] h = refl
found_below q (b ∷ bs) h = ap (λ r. cond (is_eq r) (Some b) (found q bs)) (less_of _ (and_first _ _ h)) ∙ found_below q bs (and_second _ _ h)

pub below-less : (k j : Key) (bs : List Bucket) → key_cmp k j ≡ Less → is_below j bs ≡ true → is_below k bs ≡ true
below-less k j [] p h = refl
below-less k j (b ∷ bs) p h = and_both _ _ (ap is_lt (key_cmp_total.trans k j b.key p (less_of _ (and_first _ _ h)))) (below-less k j bs p (and_second _ _ h))

-- in a list that ascends, the buckets of a key are the one that is found
pub same-found : (q : Key) (bs : List Bucket) → is_sorted key_cmp (entries bs) ≡ true → filter (λ b. key_eq q b.key) bs ≡ option_to_list (found q bs)
same-found q [] h = refl
same-found q (b ∷ bs) h =
    elim (key_eq q b.key) as (λ r. key_eq q b.key ≡ r → cond r (b ∷ filter (λ x. key_eq q x.key) bs) (filter (λ x. key_eq q x.key) bs) ≡ option_to_list (cond r (Some b) (found q bs))) [
      | true ↦ λ p. ap (λ xs. b ∷ xs) (same-found q bs (and_second _ _ h)
          ∙ ap option_to_list (found_below q bs (subst (λ k. is_below k bs ≡ true) (sym (exact_keys q b.key (equal_of _ p))) (and_first _ _ h))))
      | false ↦ λ p. same-found q bs (and_second _ _ h)
    ] refl

-- what two lists have of a key, together
abbrev pub both_found : Option Bucket → Option Bucket → Option Bucket
both_found None o = o
both_found (Some c) None = Some c
both_found (Some c) (Some b) = Some (merged_bucket c b)

greater_less : (j k : Key) → key_cmp j k ≡ Greater → key_cmp k j ≡ Less
greater_less j k p = key_cmp_total.antisymm k j ∙ ap ordering_reverse p

merged-key : (c b : Bucket) → (merged_bucket c b).key ≡ b.key
merged-key c b = ap (λ (x : Bucket). x.key) (merged_bucket_level c b)

abbrev pub others : List Bucket → List OtherBucket
others cs = map other_bucket cs

-- `next` makes of the buckets that are left what is below a key, wherever they are
module _ (k : Key) (c : Bucket) (next : List Bucket → List Bucket) (rest : (bs : List Bucket) → is_below k bs ≡ true → is_below k (next bs) ≡ true) (here : is_lt (key_cmp k c.key) ≡ true) where
  below-put : (bs : List Bucket) → is_below k bs ≡ true → is_below k (put_in (other_bucket c) next bs) ≡ true
  below-put [] g = and_both _ _ here (rest [] refl)
  below-put (b ∷ bs) g =
      elim (key_cmp c.key b.key) as (λ r. is_below k (match_ordering r (c ∷ next (b ∷ bs)) (merged_bucket c b ∷ next bs) (b ∷ put_in (other_bucket c) next bs)) ≡ true) [
        | Less ↦ and_both _ _ here (rest (b ∷ bs) g)
        | Equal ↦ and_both _ _ (ap (λ j. is_lt (key_cmp k j)) (merged-key c b) ∙ and_first _ _ g) (rest bs (and_second _ _ g))
        | Greater ↦ and_both _ _ (and_first _ _ g) (below-put bs (and_second _ _ g))
      ]

-- a key below all of two lists is below all of their union
pub below-united : (k : Key) (cs bs : List Bucket) → is_below k cs ≡ true → is_below k bs ≡ true → is_below k (united (others cs) bs) ≡ true
below-united k [] bs h g = g
below-united k (c ∷ cs) bs h g = below-put k c (united (others cs)) (λ ds. below-united k cs ds (and_second _ _ h)) (and_first _ _ h) bs g

abbrev pub IsRising : List Bucket → Type 0
IsRising bs = is_sorted key_cmp (entries bs) ≡ true

module _ (c : Bucket) (cs : List Bucket) (below : is_below c.key cs ≡ true) where
  abbrev behind : List Bucket → List Bucket
  behind = united (others cs)

  module _ (rest : (bs : List Bucket) → IsRising bs → IsRising (behind bs)) where
    rising-put : (bs : List Bucket) → IsRising bs → IsRising (put_in (other_bucket c) behind bs)
    rising-put [] g = and_both _ _ (below-united c.key cs [] below refl) (rest [] refl)
    rising-put (b ∷ bs) g =
        elim (key_cmp c.key b.key) as (λ r. key_cmp c.key b.key ≡ r → IsRising (match_ordering r (c ∷ behind (b ∷ bs)) (merged_bucket c b ∷ behind bs) (b ∷ put_in (other_bucket c) behind bs))) [
          | Less ↦ λ p. and_both _ _ (below-united c.key cs (b ∷ bs) below (and_both _ _ (ap is_lt p) (below-less c.key b.key bs p (and_first _ _ g)))) (rest (b ∷ bs) g)
          | Equal ↦ λ p.
              let same : c.key ≡ b.key = exact_keys c.key b.key p in
              and_both _ _ (ap (λ j. is_below j (behind bs)) (merged-key c b) ∙ below-united b.key cs bs (ap (λ j. is_below j cs) (sym same) ∙ below) (and_first _ _ g)) (rest bs (and_second _ _ g))
          | Greater ↦ λ p.
              let less = greater_less c.key b.key p in
              and_both _ _ (below-put b.key c behind (λ ds. below-united b.key cs ds (below-less b.key c.key cs less below)) (ap is_lt less) bs (and_first _ _ g)) (rising-put bs (and_second _ _ g))
        ] refl

  module _ (q : Key) (rest : (bs : List Bucket) → IsRising bs → found q (behind bs) ≡ both_found (found q cs) (found q bs)) where
    found-put : (bs : List Bucket) → IsRising bs → found q (put_in (other_bucket c) behind bs) ≡ both_found (cond (key_eq q c.key) (Some c) (found q cs)) (found q bs)
    found-put [] g =
        elim (key_eq q c.key) as (λ r. cond r (Some c) (found q (behind [])) ≡ both_found (cond r (Some c) (found q cs)) None) [ true ↦ refl | false ↦ rest [] refl ]
    found-put (b ∷ bs) g =
        elim (key_cmp c.key b.key) as (λ r. key_cmp c.key b.key ≡ r → found q (match_ordering r (c ∷ behind (b ∷ bs)) (merged_bucket c b ∷ behind bs) (b ∷ put_in (other_bucket c) behind bs))
        ≡ both_found (cond (key_eq q c.key) (Some c) (found q cs)) (found q (b ∷ bs))) [
          | Less ↦ λ p.
              elim (key_eq q c.key) as (λ s. key_eq q c.key ≡ s → cond s (Some c) (found q (behind (b ∷ bs))) ≡ both_found (cond s (Some c) (found q cs)) (found q (b ∷ bs))) [
                | true ↦ λ e.
                    let same : q ≡ c.key = exact_keys q c.key (equal_of _ e) in
                    ap (both_found (Some c)) (sym (found_below q (b ∷ bs) (ap (λ j. is_below j (b ∷ bs)) same ∙ and_both _ _ (ap is_lt p) (below-less c.key b.key bs p (and_first _ _ g)))))
                | false ↦ λ e. rest (b ∷ bs) g
              ] refl
          | Equal ↦ λ p.
              let same : c.key ≡ b.key = exact_keys c.key b.key p in
              ap (λ j. cond (key_eq q j) (Some (merged_bucket c b)) (found q (behind bs))) (merged-key c b)
              ∙ ap (cond (key_eq q b.key) (Some (merged_bucket c b))) (rest bs (and_second _ _ g))
              ∙ elim (key_eq q b.key) as (λ s. cond s (Some (merged_bucket c b)) (both_found (found q cs) (found q bs)) ≡ both_found (cond s (Some c) (found q cs)) (cond s (Some b) (found q bs))) [ true ↦ refl | false ↦ refl ]
              ∙ ap (λ j. both_found (cond (key_eq q j) (Some c) (found q cs)) (found q (b ∷ bs))) (sym same)
          | Greater ↦ λ p.
              let less = greater_less c.key b.key p in
              elim (key_eq q b.key) as (λ s. key_eq q b.key ≡ s → cond s (Some b) (found q (put_in (other_bucket c) behind bs)) ≡ both_found (cond (key_eq q c.key) (Some c) (found q cs)) (cond s (Some b) (found q bs))) [
                | true ↦ λ e.
                    let same : q ≡ b.key = exact_keys q b.key (equal_of _ e) in
                    ap (λ o. both_found o (Some b)) (sym (found_below q (c ∷ cs) (ap (λ j. is_below j (c ∷ cs)) same ∙ and_both _ _ (ap is_lt less) (below-less b.key c.key cs less below))))
                | false ↦ λ e. found-put bs (and_second _ _ g)
              ] refl
        ] refl

-- the union of lists that ascend ascends
pub rising-united : (cs bs : List Bucket) → IsRising cs → IsRising bs → IsRising (united (others cs) bs)
rising-united [] bs h g = g
rising-united (c ∷ cs) bs h g = rising-put c cs (and_first _ _ h) (λ ds. rising-united cs ds (and_second _ _ h)) bs g

-- and has of each key what the two have, together
pub found-united : (q : Key) (cs bs : List Bucket) → IsRising cs → IsRising bs → found q (united (others cs) bs) ≡ both_found (found q cs) (found q bs)
found-united q [] bs h g = refl
found-united q (c ∷ cs) bs h g = found-put c cs (and_first _ _ h) q (λ ds. found-united q cs ds (and_second _ _ h)) bs g
