-- Buckets in the order of their codes are, sorted by key, what they are in the order in which their codes came.
use Rattle.std.specs.Prelude.{◌≡◌, refl, ℕ, ℤ, ◌||◌, ◌++◌, Bool, true, false, not, cond, List, [], ◌∷◌, map}
use Rattle.std.specs.declared.cmp.Ordering.{Ordering}
use Rattle.std.specs.declared.cmp.Ordering.TheVariants.{Less, Equal, Greater}
use Rattle.std.specs.Cmp.{IsTotalOrder}
use Rattle.std.specs.List.{IsDistinct, list_any}
use Rattle.std.specs.Ordering.{int_eq, is_eq, is_le, ordering_reverse}
use Rattle.std.proofs.Common.{sym, ◌∙◌, ap, ⊎_elim, append_assoc}
use Rattle.std.proofs.lemmas.Bool.{cases_Bool, true≢false, or_parts}
use Rattle.std.proofs.lemmas.Cmp.{on_total}
use Rattle.list_laws.proofs.StableSort.{above, at_most, weak}
use Rattle.list_laws.specs.Sorting.{insert_sorted, sorted}
use Rattle.agg_model.specs.declared.aggregation.Agg.{Agg}
use Rattle.agg_model.specs.declared.key.Key.{Key}
use Rattle.agg_model.specs.declared.key.Key.TheVariants as key
use Rattle.agg_model.specs.declared.partial.Bucket.{Bucket}
use Rattle.agg_model.specs.declared.partial.Node.{Node}
use Rattle.agg_evaluation.specs.KeyOrder.{key_cmp, key_eq, has_key}
use Rattle.agg_evaluation.specs.Orders.{bucket_key}
use Rattle.agg_evaluation.specs.Shard.{sorted_by_key}
use Rattle.agg_evaluation.proofs.Computing.{computing}
use Rattle.agg_evaluation.proofs.KeyCompare.{key_cmp_total}
use Rattle.agg_evaluation.proofs.KeyLists.{key_eq-sym}
use Rattle.shard_columns.specs.Columns.{Columns}
use Rattle.growing_tree.specs.CodedBuckets.{coded_bucket}
use Rattle.growing_tree.specs.Codes.{code_key}
use Rattle.growing_tree.specs.Finished.{finished_bucket, finished_with}
use Rattle.growing_tree.specs.Grouped.{AreApart, HasOwnKeys}
use Rattle.growing_tree.specs.Trees.{bucket_with, coded_with}
use Rattle.growing_tree.specs.declared.coded.Coded.{Coded}
use Rattle.growing_tree.specs.declared.ready.Ready.{Ready, out-Ready}
use Rattle.growing_tree.specs.declared.tree.Growing.{Growing}
use Rattle.growing_tree.proofs.Cuts.{coded-with}
use Rattle.growing_tree.proofs.Grouping.{apart-keys}
use Rattle.growing_tree.proofs.Putting.{first-absent, rest-distinct}

module _ {A : Type 0} (cmp : A → A → Ordering) (total : IsTotalOrder cmp) where
  -- an item that goes in front of the first, and one that goes behind it
  first-is : (x y : A) (ys : List A) → is_le (cmp x y) ≡ true → insert_sorted cmp x (y ∷ ys) ≡ x ∷ y ∷ ys
  first-is x y ys e = ap (λ b. cond b (x ∷ y ∷ ys) (y ∷ insert_sorted cmp x ys)) e

  behind-is : (x y : A) (ys : List A) → is_le (cmp x y) ≡ false → insert_sorted cmp x (y ∷ ys) ≡ y ∷ insert_sorted cmp x ys
  behind-is x y ys e = ap (λ b. cond b (x ∷ y ∷ ys) (y ∷ insert_sorted cmp x ys)) e

  -- what is behind an item is behind what is in front of that
  behind-both : (x y z : A) → is_le (cmp y z) ≡ true → is_le (cmp x z) ≡ false → is_le (cmp x y) ≡ false
  behind-both x y z d e =
      ⊎_elim (λ t. absurd (true≢false (sym (above cmp total x z e) ∙ (weak cmp total).chain z y x (at_most cmp total y z d) (at_most cmp total x y t)))) (λ f. f) (cases_Bool (is_le (cmp x y)))

  other-way : (o : Ordering) → is_eq o ≡ false → is_le (ordering_reverse o) ≡ not (is_le o)
  other-way Less e = refl
  other-way Equal e = absurd (true≢false e)
  other-way Greater e = refl

  -- two items that do not compare alike may be inserted in either order
  insert-swap : (x y : A) → is_eq (cmp x y) ≡ false → (zs : List A) → insert_sorted cmp x (insert_sorted cmp y zs) ≡ insert_sorted cmp y (insert_sorted cmp x zs)
  insert-swap x y apart zs = swap zs
    where
      flip : is_le (cmp y x) ≡ not (is_le (cmp x y))
      flip = ap is_le (total.antisymm y x) ∙ other-way (cmp x y) apart

      in-front : (zs : List A) → insert_sorted cmp y zs ≡ y ∷ zs → insert_sorted cmp x zs ≡ x ∷ zs → insert_sorted cmp x (y ∷ zs) ≡ insert_sorted cmp y (x ∷ zs)
      in-front zs d e =
          ⊎_elim (λ p. first-is x y zs p ∙ ap (λ us. x ∷ us) (sym d) ∙ sym (behind-is y x zs (flip ∙ ap not p)))
          (λ p. behind-is x y zs p ∙ ap (λ us. y ∷ us) e ∙ sym (first-is y x zs (flip ∙ ap not p)))
          (cases_Bool (is_le (cmp x y)))

      swap : (zs : List A) → insert_sorted cmp x (insert_sorted cmp y zs) ≡ insert_sorted cmp y (insert_sorted cmp x zs)
      swap [] = in-front [] refl refl
      swap (z ∷ zs) =
          ⊎_elim
          (λ d. ⊎_elim
          (λ e. ap (insert_sorted cmp x) (first-is y z zs d) ∙ in-front (z ∷ zs) (first-is y z zs d) (first-is x z zs e) ∙ sym (ap (insert_sorted cmp y) (first-is x z zs e)))
          (λ e.
          ap (insert_sorted cmp x) (first-is y z zs d) ∙ behind-is x y (z ∷ zs) (behind-both x y z d e) ∙ ap (λ us. y ∷ us) (behind-is x z zs e)
          ∙ sym (ap (insert_sorted cmp y) (behind-is x z zs e) ∙ first-is y z (insert_sorted cmp x zs) d))
          (cases_Bool (is_le (cmp x z))))
          (λ d. ⊎_elim
          (λ e.
          ap (insert_sorted cmp x) (behind-is y z zs d) ∙ first-is x z (insert_sorted cmp y zs) e
          ∙ sym (ap (insert_sorted cmp y) (first-is x z zs e) ∙ behind-is y x (z ∷ zs) (behind-both y x z e d) ∙ ap (λ us. x ∷ us) (behind-is y z zs d)))
          (λ e.
          ap (insert_sorted cmp x) (behind-is y z zs d) ∙ behind-is x z (insert_sorted cmp y zs) e ∙ ap (λ us. z ∷ us) (swap zs)
          ∙ sym (ap (insert_sorted cmp y) (behind-is x z zs e) ∙ behind-is y z (insert_sorted cmp x zs) d))
          (cases_Bool (is_le (cmp x z))))
          (cases_Bool (is_le (cmp y z)))

-- items of which buckets are made, in any order of their own
module _ {A : Type 0} (f : A → Bucket) (by : A → A → Ordering) where
  abbrev keys_of : List A → List Key
  keys_of xs = map bucket_key (map f xs)

  either : (a b c : Bool) → (a || (b || c)) ≡ (b || (a || c))
  either true true c = refl
  either true false c = refl
  either false b c = refl

  has-insert : (q : Key) (x : A) (ys : List A) → has_key q (keys_of (insert_sorted by x ys)) ≡ has_key q (keys_of (x ∷ ys))
  has-insert q x [] = refl
  has-insert q x (y ∷ ys) =
      elim (is_le (by x y)) as (λ b. has_key q (keys_of (cond b (x ∷ y ∷ ys) (y ∷ insert_sorted by x ys))) ≡ has_key q (keys_of (x ∷ y ∷ ys))) [
        | true ↦ refl
        | false ↦ ap (λ b. key_eq q (bucket_key (f y)) || b) (has-insert q x ys) ∙ either (key_eq q (bucket_key (f y))) (key_eq q (bucket_key (f x))) (has_key q (keys_of ys))
      ]

  has-sorted : (q : Key) (xs : List A) → has_key q (keys_of (sorted by xs)) ≡ has_key q (keys_of xs)
  has-sorted q [] = refl
  has-sorted q (x ∷ xs) = has-insert q x (sorted by xs) ∙ ap (λ b. key_eq q (bucket_key (f x)) || b) (has-sorted q xs)

  apart-insert : (x : A) (ys : List A) → has_key (bucket_key (f x)) (keys_of ys) ≡ false → AreApart (keys_of ys) → AreApart (keys_of (insert_sorted by x ys))
  apart-insert x [] other apart = (other, apart)
  apart-insert x (y ∷ ys) other apart =
      let parts = or_parts (key_eq (bucket_key (f x)) (bucket_key (f y))) (has_key (bucket_key (f x)) (keys_of ys)) other in
      elim (is_le (by x y)) as (λ b. AreApart (keys_of (cond b (x ∷ y ∷ ys) (y ∷ insert_sorted by x ys)))) [
        | true ↦ (other, apart)
        | false ↦ (has-insert (bucket_key (f y)) x ys ∙ (λ i. (key_eq-sym (bucket_key (f y)) (bucket_key (f x)) ∙ parts.0) i || apart.0 i), apart-insert x ys parts.1 apart.1)
      ]

  -- keys that are apart are so in any order
  pub apart-sorted : (xs : List A) → AreApart (keys_of xs) → AreApart (keys_of (sorted by xs))
  apart-sorted [] apart = tt
  apart-sorted (x ∷ xs) apart = apart-insert x (sorted by xs) (has-sorted (bucket_key (f x)) xs ∙ apart.0) (apart-sorted xs apart.1)

  -- an order in which buckets of different keys do not compare alike
  module _ (cmp : Bucket → Bucket → Ordering) (total : IsTotalOrder cmp) (differ : (a b : Bucket) → key_eq (bucket_key a) (bucket_key b) ≡ false → is_eq (cmp a b) ≡ false) where
    insert-any : (x : A) (ys : List A) → has_key (bucket_key (f x)) (keys_of ys) ≡ false → sorted cmp (map f (insert_sorted by x ys)) ≡ insert_sorted cmp (f x) (sorted cmp (map f ys))
    insert-any x [] h = refl
    insert-any x (y ∷ ys) h =
        let parts = or_parts (key_eq (bucket_key (f x)) (bucket_key (f y))) (has_key (bucket_key (f x)) (keys_of ys)) h in
        elim (is_le (by x y)) as (λ b. sorted cmp (map f (cond b (x ∷ y ∷ ys) (y ∷ insert_sorted by x ys))) ≡ insert_sorted cmp (f x) (sorted cmp (map f (y ∷ ys)))) [
          | true ↦ refl
          | false ↦ ap (insert_sorted cmp (f y)) (insert-any x ys parts.1) ∙ sym (insert-swap cmp total (f x) (f y) (differ (f x) (f y) parts.0) (sorted cmp (map f ys)))
        ]

    -- where no key stands twice, an order before that one is no matter
    pub sorted-any : (xs : List A) → AreApart (keys_of xs) → sorted cmp (map f (sorted by xs)) ≡ sorted cmp (map f xs)
    sorted-any [] apart = refl
    sorted-any (x ∷ xs) apart = insert-any x (sorted by xs) (has-sorted (bucket_key (f x)) xs ∙ apart.0) ∙ ap (insert_sorted cmp (f x)) (sorted-any xs apart.1)

  pub sorted-before : (xs : List A) → AreApart (keys_of xs) → sorted_by_key (map f (sorted by xs)) ≡ sorted_by_key (map f xs)
  sorted-before = sorted-any (λ a b. key_cmp (bucket_key a) (bucket_key b)) (on_total bucket_key key_cmp_total) (λ a b e. e)

module _ (shard : Columns) (a : Agg) (r : Ready) where
  abbrev key_of : ℤ → Key
  key_of = code_key shard (out-Ready r).kind

  abbrev finish : Bucket → Bucket
  finish = finished_bucket shard a r

  -- buckets of codes, whatever says what they are
  module _ {G : Type 0} (count_of : G → ℕ) (children_of : G → List Node) where
    abbrev at : Key → G → Bucket
    at = bucket_with count_of children_of

    key-is : (code : ℤ) (g : G) → bucket_key (finish (at (key.Whole code) g)) ≡ key_of code
    unfolding computing
    key-is code g = refl

    -- the keys of different codes
    pub keys-apart : HasOwnKeys key_of → (cs : List ℤ) (gs : List G) → IsDistinct int_eq cs → AreApart (map bucket_key (map finish (coded_with at cs gs)))
    keys-apart own [] gs h = tt
    keys-apart own (c ∷ cs) [] h = tt
    keys-apart own (c ∷ cs) (g ∷ gs) h = (ap (λ k. has_key k (map bucket_key (map finish (coded_with at cs gs)))) (key-is c g) ∙ none cs gs (first-absent c cs h), keys-apart own cs gs (rest-distinct c cs h))
      where
        none : (ds : List ℤ) (gs : List G) → list_any (int_eq c) ds ≡ false → has_key (key_of c) (map bucket_key (map finish (coded_with at ds gs))) ≡ false
        none [] gs e = refl
        none (d ∷ ds) [] e = refl
        none (d ∷ ds) (g ∷ gs) e =
            let parts = or_parts (int_eq c d) (list_any (int_eq c) ds) e in
            ap (λ k. key_eq (key_of c) k || has_key (key_of c) (map bucket_key (map finish (coded_with at ds gs)))) (key-is d g) ∙ (λ i. apart-keys key_of own c d parts.0 i || none ds gs parts.1 i)

  -- one more finished bucket, and those that are left
  pub finished-more : (done : List Bucket) (code : ℤ) (g : Growing) (left : List Coded)
      → (done ++ finished_with shard a r (key_of code) g ∷ []) ++ map finish (map coded_bucket left) ≡ done ++ map finish (map coded_bucket (record { code = code; bucket = g } ∷ left))
  finished-more done code g left = append_assoc done (finished_with shard a r (key_of code) g ∷ []) _ ∙ ap (λ b. done ++ b ∷ map finish (map coded_bucket left)) (sym (coded-with shard a r code g))
