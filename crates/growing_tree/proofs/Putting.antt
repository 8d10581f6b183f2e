-- Rows that are put into the bucket of a code, where the code has its place or is new.
use Rattle.std.specs.Prelude.{◌≡◌, refl, ℕ, zero, suc, ℤ, ◌+◌, ◌≤◌, ◌||◌, Bool, true, false, cond, List, [], ◌∷◌, ◌++◌, map, length, take, slice_get, Some, sum_by}
use Rattle.std.specs.List.{IsDistinct, list_any}
use Rattle.std.specs.Ordering.{int_eq, match_ordering, nat_cmp}
use Rattle.std.specs.Cmp.{nat_cmp_is}
use Rattle.std.specs.declared.cmp.Ordering.{Ordering}
use Rattle.std.specs.declared.cmp.Ordering.TheVariants.{Equal, Greater}
use Rattle.std.proofs.Common.{sym, ◌∙◌, ap, subst, arith, inl, inr}
use Rattle.std.proofs.Math.ListN.{set}
use Rattle.std.proofs.lemmas.Bool.{cases_Bool, false≢true, or_parts}
use Rattle.std.proofs.lemmas.Bool.Decides.{Decides-int_eq}
use Rattle.std.proofs.lemmas.Cmp.{int_eq_equiv}
use Rattle.std.proofs.lemmas.List.Sums.{sum_by-cons, sum_by-append}
use Rattle.list_laws.proofs.Booleans.{holds}
use Rattle.list_laws.proofs.Options.{none_some, some_same}
use Rattle.list_laws.proofs.Occurrences.{occurrences}
use Rattle.agg_model.specs.declared.key.Key.{Key}
use Rattle.agg_model.specs.declared.key.Key.TheVariants as key
use Rattle.agg_model.specs.declared.partial.Bucket.{Bucket}
use Rattle.agg_model.specs.declared.partial.Node.{Node}
use Rattle.agg_evaluation.specs.Cost.{key_bytes, node_cost}
use Rattle.agg_evaluation.specs.KeyOrder.{key_eq, has_key}
use Rattle.agg_evaluation.specs.Orders.{bucket_key}
use Rattle.agg_evaluation.specs.Rows.{PlacedRow}
use Rattle.agg_evaluation.specs.Shard.{sorted_by_key}
use Rattle.agg_evaluation.proofs.Computing.{computing}
use Rattle.agg_evaluation.proofs.KeyLists.{key_eq-exact}
use Rattle.evaluation_laws.proofs.CostLaws.{bytes}
use Rattle.growth_laws.specs.Arrived.{AreDistinct}
use Rattle.growth_laws.specs.Gathering.{Gatherer, empty_bucket, gathered_bucket, gathered_children, put_rows}
use Rattle.growing_tree.specs.Decoded.{decoded_bucket, decoded_children}
use Rattle.growing_tree.specs.Shown.{HasGathered}
use Rattle.growing_tree.specs.Trees.{bucket_with, coded_with, numbered_buckets}
use Rattle.growing_tree.specs.declared.tree.Growing.{Growing}
use Rattle.growing_tree.proofs.Arriving.{arrived-set, arrived-push}

-- where no bucket has the key, it does not occur
none-occurs : (q : Key) (bs : List Bucket) → has_key q (map bucket_key bs) ≡ false → occurrences (λ b. key_eq q (bucket_key b)) bs ≡ 0
none-occurs q [] e = refl
none-occurs q (b ∷ bs) e =
    let parts = or_parts (key_eq q (bucket_key b)) (has_key q (map bucket_key bs)) e in
    ap (λ x. cond x (suc (occurrences (λ b. key_eq q (bucket_key b)) bs)) (occurrences (λ b. key_eq q (bucket_key b)) bs)) parts.0 ∙ none-occurs q bs parts.1

-- a code that comes first of distinct ones is none of the others
pub first-absent : (c : ℤ) (cs : List ℤ) → IsDistinct int_eq (c ∷ cs) → list_any (int_eq c) cs ≡ false
unfolding IsDistinct
first-absent c [] h = refl
first-absent c (d ∷ cs) h = λ i. h.0.0 i || first-absent c cs (h.0.1, h.1.1) i

pub rest-distinct : (c : ℤ) (cs : List ℤ) → IsDistinct int_eq (c ∷ cs) → IsDistinct int_eq cs
unfolding IsDistinct
rest-distinct c cs h = h.1

-- a code that stands in a list is there
there-at : (c : ℤ) (cs : List ℤ) (i : ℕ) → slice_get cs i ≡ Some c → list_any (int_eq c) cs ≡ true
there-at c [] zero e = none_some c e
there-at c [] (suc i) e = none_some c e
there-at c (d ∷ cs) zero e = ap (λ x. int_eq c x || list_any (int_eq c) cs) (some_same d c e) ∙ ap (λ b. b || list_any (int_eq c) cs) (int_eq_equiv.refl c)
there-at c (d ∷ cs) (suc i) e = ap (λ b. int_eq c d || b) (there-at c cs i e) ∙ or-yes (int_eq c d)
  where
    or-yes : (b : Bool) → (b || true) ≡ true
    or-yes true = refl
    or-yes false = refl

-- the first of distinct codes is not one that stands behind it
pub apart-at : (c d : ℤ) (cs : List ℤ) (i : ℕ) → IsDistinct int_eq (d ∷ cs) → slice_get cs i ≡ Some c → int_eq c d ≡ false
apart-at c d cs i h e = elim (cases_Bool (int_eq c d)) [
  | inl same ↦ absurd (false≢true (sym (first-absent d cs h) ∙ (ap (λ x. list_any (int_eq x) cs) (sym ((Decides-int_eq c d).0 same)) ∙ there-at c cs i e)))
  | inr other ↦ other
]

-- `count_of` and `children_of` say how many rows a bucket has, and what its children are
module _ {G : Type 0} (count_of : G → ℕ) (children_of : G → List Node) (gs : List Gatherer) (rows : List PlacedRow) (ds : List (Node → Node)) (key_of : ℤ → Key) where
  -- what callers see of the buckets of codes
  abbrev pub shown : List ℤ → List G → List Bucket
  shown cs bs = map (decoded_bucket ds key_of) (coded_with (bucket_with count_of children_of) cs bs)

  abbrev keyed : Key → G → Bucket
  keyed k g = record { key = k; count = count_of g; covered = 0; children = decoded_children ds (children_of g) }

  -- the one has the rows besides those of the other
  pub record Gathers (old new : G) : Type 0 where
    pub count : count_of new ≡ count_of old + length rows
    pub children : decoded_children ds (children_of new) ≡ gathered_children gs rows (decoded_children ds (children_of old))

  gathered-is : (k : Key) (old new : G) → Gathers old new → keyed k new ≡ gathered_bucket gs rows (keyed k old)
  gathered-is k old new h = λ i. record { key = k; count = h.count i; covered = 0; children = h.children i }

  changed : (c : ℤ) (cs : List ℤ) (bs : List G) (i : ℕ) (new : G) → slice_get cs i ≡ Some c → shown cs (set bs i new) ≡ set (shown cs bs) i (keyed (key_of c) new)
  unfolding computing
  changed c [] bs zero new e = none_some c e
  changed c [] bs (suc i) new e = none_some c e
  changed c (d ∷ cs) [] zero new e = refl
  changed c (d ∷ cs) [] (suc i) new e = refl
  changed c (d ∷ cs) (b ∷ bs) zero new e = λ i. keyed (key_of (some_same d c e i)) new ∷ shown cs bs
  changed c (d ∷ cs) (b ∷ bs) (suc i) new e = ap (λ xs. keyed (key_of d) b ∷ xs) (changed c cs bs i new e)

  pushed : (c : ℤ) (cs : List ℤ) (bs : List G) (new : G) → length bs ≡ length cs → shown (cs ++ c ∷ []) (bs ++ new ∷ []) ≡ shown cs bs ++ keyed (key_of c) new ∷ []
  unfolding computing
  pushed c [] [] new l = refl
  pushed c [] (b ∷ bs) new l = absurd (omega arith)
  pushed c (d ∷ cs) [] new l = absurd (omega arith)
  pushed c (d ∷ cs) (b ∷ bs) new l = ap (λ xs. keyed (key_of d) b ∷ xs) (pushed c cs bs new (omega arith))

  here-at : (c : ℤ) (cs : List ℤ) (bs : List G) (i : ℕ) (b : G) → slice_get cs i ≡ Some c → slice_get bs i ≡ Some b → slice_get (shown cs bs) i ≡ Some (keyed (key_of c) b)
  unfolding computing
  here-at c [] bs zero b e f = none_some c e
  here-at c [] bs (suc i) b e f = none_some c e
  here-at c (d ∷ cs) [] zero b e f = none_some b f
  here-at c (d ∷ cs) [] (suc i) b e f = none_some b f
  here-at c (d ∷ cs) (x ∷ bs) zero b e f = λ i. Some (keyed (key_of (some_same d c e i)) (some_same x b f i))
  here-at c (d ∷ cs) (x ∷ bs) (suc i) b e f = here-at c cs bs i b e f

  module _ (own : (c d : ℤ) → key_of c ≡ key_of d → c ≡ d) where
    -- codes that are not one have keys that are not one
    keys-apart : (c d : ℤ) → int_eq c d ≡ false → key_eq (key_of c) (key_of d) ≡ false
    keys-apart c d other = elim (cases_Bool (key_eq (key_of c) (key_of d))) [
      | inl same ↦ absurd (false≢true (sym other ∙ (Decides-int_eq c d).1 (own c d (key_eq-exact (key_of c) (key_of d) (holds _ same)))))
      | inr f ↦ f
    ]

    absent : (c : ℤ) (cs : List ℤ) (bs : List G) → list_any (int_eq c) cs ≡ false → has_key (key_of c) (map bucket_key (shown cs bs)) ≡ false
    unfolding computing
    absent c [] bs e = refl
    absent c (d ∷ cs) [] e = refl
    absent c (d ∷ cs) (b ∷ bs) e =
        let parts = or_parts (int_eq c d) (list_any (int_eq c) cs) e in
        λ i. keys-apart c d parts.0 i || absent c cs bs parts.1 i

    pub distinct : (cs : List ℤ) (bs : List G) → IsDistinct int_eq cs → AreDistinct (shown cs bs)
    unfolding computing
    distinct [] bs h q = omega arith
    distinct (d ∷ cs) [] h q = omega arith
    distinct (d ∷ cs) (b ∷ bs) h q =
        elim (key_eq q (key_of d)) as (λ x. key_eq q (key_of d) ≡ x → cond x (suc (occurrences (λ b. key_eq q (bucket_key b)) (shown cs bs))) (occurrences (λ b. key_eq q (bucket_key b)) (shown cs bs)) ≤ 1) [
          | true ↦ λ e.
              let none = none-occurs q (shown cs bs) (ap (λ k. has_key k (map bucket_key (shown cs bs))) (key_eq-exact q (key_of d) (holds _ e)) ∙ absent d cs bs (first-absent d cs h)) in
              omega arith
          | false ↦ λ e. distinct cs bs (rest-distinct d cs h) q
        ] refl

    at-place : (c : ℤ) (cs : List ℤ) (bs : List G) (i : ℕ) (b : G) → IsDistinct int_eq cs → slice_get cs i ≡ Some c → slice_get bs i ≡ Some b → has_key (key_of c) (map bucket_key (take i (shown cs bs))) ≡ false
    unfolding computing
    at-place c [] bs zero b h e f = refl
    at-place c [] bs (suc i) b h e f = none_some c e
    at-place c (d ∷ cs) [] zero b h e f = refl
    at-place c (d ∷ cs) [] (suc i) b h e f = none_some b f
    at-place c (d ∷ cs) (x ∷ bs) zero b h e f = refl
    at-place c (d ∷ cs) (x ∷ bs) (suc i) b h e f = λ j. keys-apart c d (apart-at c d cs i h e) j || at-place c cs bs i b (rest-distinct d cs h) e f j

    -- the code stood here
    pub put-found : (c : ℤ) (cs : List ℤ) (bs : List G) (i : ℕ) (old new : G) → IsDistinct int_eq cs → slice_get cs i ≡ Some c → slice_get bs i ≡ Some old → Gathers old new
        → sorted_by_key (shown cs (set bs i new)) ≡ put_rows gs rows (key_of c) (sorted_by_key (shown cs bs))
    put-found c cs bs i old new h e f g =
        ap sorted_by_key (changed c cs bs i new e ∙ ap (set (shown cs bs) i) (gathered-is (key_of c) old new g))
        ∙ arrived-set gs rows (key_of c) (shown cs bs) i (keyed (key_of c) old) (distinct cs bs h) (record { here = here-at c cs bs i old e f; key_is = refl; first = at-place c cs bs i old h e f })

    -- the code is new
    pub put-added : (c : ℤ) (cs : List ℤ) (bs : List G) (old new : G) → IsDistinct int_eq cs → list_any (int_eq c) cs ≡ false → length bs ≡ length cs
        → count_of old ≡ 0 → decoded_children ds (children_of old) ≡ map (λ g. g.empty) gs → Gathers old new
        → sorted_by_key (shown (cs ++ c ∷ []) (bs ++ new ∷ [])) ≡ put_rows gs rows (key_of c) (sorted_by_key (shown cs bs))
    put-added c cs bs old new h e l zero_is empty_is g =
        ap sorted_by_key (pushed c cs bs new l ∙ ap (λ b. shown cs bs ++ b ∷ []) (gathered-is (key_of c) old new g
        ∙ ap (gathered_bucket gs rows) (λ i. record { key = key_of c; count = zero_is i; covered = 0; children = empty_is i })))
        ∙ arrived-push gs rows (key_of c) (shown cs bs) (distinct cs bs h) (absent c cs bs e)

  -- what the bucket costs with more rows
  pub found-bytes : (c : ℤ) (cs : List ℤ) (bs : List G) (i : ℕ) (old new : G) (added : ℕ) → slice_get cs i ≡ Some c → slice_get bs i ≡ Some old
      → sum_by node_cost (decoded_children ds (children_of new)) ≡ sum_by node_cost (decoded_children ds (children_of old)) + added
      → sum_by bytes (shown cs (set bs i new)) ≡ sum_by bytes (shown cs bs) + added
  unfolding computing
  found-bytes c [] bs zero old new added e f g = none_some c e
  found-bytes c [] bs (suc i) old new added e f g = none_some c e
  found-bytes c (d ∷ cs) [] zero old new added e f g = none_some old f
  found-bytes c (d ∷ cs) [] (suc i) old new added e f g = none_some old f
  found-bytes c (d ∷ cs) (b ∷ bs) zero old new added e f g =
      let before = sum_by-cons bytes (keyed (key_of d) b) (shown cs bs) in
      let after = sum_by-cons bytes (keyed (key_of d) new) (shown cs bs) in
      let same = ap (λ (x : G). sum_by node_cost (decoded_children ds (children_of x))) (some_same b old f) in
      omega arith
  found-bytes c (d ∷ cs) (b ∷ bs) (suc i) old new added e f g =
      let before = sum_by-cons bytes (keyed (key_of d) b) (shown cs bs) in
      let after = sum_by-cons bytes (keyed (key_of d) b) (shown cs (set bs i new)) in
      let rest = found-bytes c cs bs i old new added e f g in
      omega arith

  pub added-bytes : (c : ℤ) (cs : List ℤ) (bs : List G) (new : G) → length bs ≡ length cs
      → sum_by bytes (shown (cs ++ c ∷ []) (bs ++ new ∷ [])) ≡ sum_by bytes (shown cs bs) + (128 + key_bytes (key_of c) + sum_by node_cost (decoded_children ds (children_of new)))
  added-bytes c cs bs new l =
      let all = ap (sum_by bytes) (pushed c cs bs new l) ∙ sum_by-append bytes (shown cs bs) (keyed (key_of c) new ∷ []) in
      let one = sum_by-cons bytes (keyed (key_of c) new) [] in
      omega arith

module _ (gs : List Gatherer) (rows : List PlacedRow) (ds : List (Node → Node)) (key_of : ℤ → Key) where
  abbrev pub shown_from : ℕ → List Growing → List Bucket
  shown_from n bs = map (decoded_bucket ds key_of) (numbered_buckets n bs)

  abbrev number : Key → Growing → Bucket
  number k g = record { key = k; count = g.count; covered = 0; children = decoded_children ds g.children.items }

  number-is : (k : Key) (old new : Growing) → HasGathered gs rows ds old new → number k new ≡ gathered_bucket gs rows (number k old)
  number-is k old new h = λ i. record { key = k; count = h.count i; covered = 0; children = h.children i }

  abbrev chosen : ℕ → ℕ → Growing → List Growing → Ordering → List Bucket
  chosen k n b bs r = match_ordering r (gathered_bucket gs rows (empty_bucket gs (key.Fixed k)) ∷ number (key.Fixed n) b ∷ shown_from (suc n) bs)
      (gathered_bucket gs rows (number (key.Fixed n) b) ∷ shown_from (suc n) bs) (number (key.Fixed n) b ∷ put_rows gs rows (key.Fixed k) (shown_from (suc n) bs))

  -- a bucket that exists from the start
  pub put-number : (bs : List Growing) (n i k : ℕ) (old new : Growing) → k ≡ n + i → slice_get bs i ≡ Some old → HasGathered gs rows ds old new → shown_from n (set bs i new) ≡ put_rows gs rows (key.Fixed k) (shown_from n bs)
  unfolding computing
  put-number [] n zero k old new e f g = none_some old f
  put-number [] n (suc i) k old new e f g = none_some old f
  put-number (b ∷ bs) n zero k old new e f g =
      let equal : nat_cmp k n ≡ Equal = sym (nat_cmp_is k n Equal (omega (arith, e))) in
      (λ j. number-is (key.Fixed n) b new (subst (λ x. HasGathered gs rows ds x new) (sym (some_same b old f)) g) j ∷ shown_from (suc n) bs) ∙ sym (ap (chosen k n b bs) equal)
  put-number (b ∷ bs) n (suc i) k old new e f g =
      let greater : nat_cmp k n ≡ Greater = sym (nat_cmp_is k n Greater (omega (arith, e))) in
      ap (λ xs. number (key.Fixed n) b ∷ xs) (put-number bs (suc n) i k old new (omega (arith, e)) f g) ∙ sym (ap (chosen k n b bs) greater)

  pub number-bytes : (bs : List Growing) (n i : ℕ) (old new : Growing) (added : ℕ) → slice_get bs i ≡ Some old
      → sum_by node_cost (decoded_children ds new.children.items) ≡ sum_by node_cost (decoded_children ds old.children.items) + added
      → sum_by bytes (shown_from n (set bs i new)) ≡ sum_by bytes (shown_from n bs) + added
  unfolding computing
  number-bytes [] n zero old new added f g = none_some old f
  number-bytes [] n (suc i) old new added f g = none_some old f
  number-bytes (b ∷ bs) n zero old new added f g =
      let before = sum_by-cons bytes (number (key.Fixed n) b) (shown_from (suc n) bs) in
      let after = sum_by-cons bytes (number (key.Fixed n) new) (shown_from (suc n) bs) in
      let same = ap (λ (x : Growing). sum_by node_cost (decoded_children ds x.children.items)) (some_same b old f) in
      omega arith
  number-bytes (b ∷ bs) n (suc i) old new added f g =
      let before = sum_by-cons bytes (number (key.Fixed n) b) (shown_from (suc n) bs) in
      let after = sum_by-cons bytes (number (key.Fixed n) b) (shown_from (suc n) (set bs i new)) in
      let rest = number-bytes bs (suc n) i old new added f g in
      omega arith
