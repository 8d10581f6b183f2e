-- Buckets by descending count: what is left out has at most the count of the last that is kept.
use Rattle.std.specs.Prelude.{◌≡◌, ◌≤◌, ◌<◌, ⊤, ℕ, zero, suc, Bool, true, false, if◌then◌else◌, List, [], ◌∷◌, map, take, drop, Some, None, unwrap_or}
use Rattle.std.specs.List.{AllByRecursion, last_or}
use Rattle.std.specs.Cmp.{ranks}
use Rattle.std.specs.declared.cmp.Ordering.{Ordering}
use Rattle.std.specs.declared.cmp.Ordering.TheVariants.{Less, Equal, Greater}
use Rattle.std.specs.Ordering.{MatchOrdering, nat_cmp, is_le, ordering_then}
use Rattle.std.proofs.Common.{arith}
use Rattle.agg_model.specs.declared.aggregation.Kind.{Kind}
use Rattle.agg_model.specs.declared.aggregation.Order.{Order}
use Rattle.agg_model.specs.declared.aggregation.OrderBy.TheVariants as by
use Rattle.agg_model.specs.declared.partial.Bucket.{Bucket}
use Rattle.agg_evaluation.specs.KeyOrder.{directed}
use Rattle.list_laws.specs.Sorting.{insert_sorted, sorted}
use Rattle.agg_evaluation.specs.Orders.{bucket_cmp, bucket_count}

-- each bucket of the list has at most so many documents
abbrev pub AtMost : ℕ → List Bucket → Type 0
AtMost m bs = AllByRecursion (λ b. bucket_count b ≤ m) bs

at_most-more : (m n : ℕ) (bs : List Bucket) → m ≤ n → AtMost m bs → AtMost n bs
at_most-more m n [] le h = tt
at_most-more m n (b ∷ bs) le h = (omega (arith, h.0), at_most-more m n bs le h.1)

-- each bucket has at least as many documents as each that follows
abbrev pub Falls : List Bucket → Type 0
Falls [] = ⊤
Falls (b ∷ bs) = AtMost (bucket_count b) bs × Falls bs

module _ (kinds : List Kind) (later : List Order) where
  abbrev pub by_count : List Order
  by_count = record { by = by.Count; descending = true } ∷ later

  -- what a comparison that begins with the descending count tells of the counts
  abbrev Told : ℕ → ℕ → Bool → Type 0
  Told m n true = n ≤ m
  Told m n false = m ≤ n

  told_at : (m n : ℕ) (r s : Ordering) → MatchOrdering r (m < n) (m ≡ n) (n < m) → Told m n (is_le (ordering_then (directed true r) s))
  told_at m n Less s h = omega (arith, h)
  told_at m n Equal Less h = omega (arith, h)
  told_at m n Equal Equal h = omega (arith, h)
  told_at m n Equal Greater h = omega (arith, h)
  told_at m n Greater s h = omega (arith, h)

  told : (a b : Bucket) → Told (bucket_count a) (bucket_count b) (is_le (bucket_cmp kinds by_count a b))
  told a b = told_at (bucket_count a) (bucket_count b) (nat_cmp (bucket_count a) (bucket_count b)) (bucket_cmp kinds later a b) (ranks (bucket_count a) (bucket_count b))

  abbrev insert_bucket : Bucket → List Bucket → List Bucket
  insert_bucket = insert_sorted (bucket_cmp kinds by_count)

  at_most-insert : (m : ℕ) (x : Bucket) (ys : List Bucket) → bucket_count x ≤ m → AtMost m ys → AtMost m (insert_bucket x ys)
  at_most-insert m x [] le h = (le, tt)
  at_most-insert m x (y ∷ ys) le h =
      elim (is_le (bucket_cmp kinds by_count x y)) as (λ c. AtMost m (if c then x ∷ y ∷ ys else (y ∷ insert_bucket x ys))) [
        | true ↦ (le, h)
        | false ↦ (h.0, at_most-insert m x ys le h.1)
      ]

  falls-insert : (x : Bucket) (ys : List Bucket) → Falls ys → Falls (insert_bucket x ys)
  falls-insert x [] h = (tt, tt)
  falls-insert x (y ∷ ys) h =
      elim (is_le (bucket_cmp kinds by_count x y)) as (λ c. Told (bucket_count x) (bucket_count y) c → Falls (if c then x ∷ y ∷ ys else (y ∷ insert_bucket x ys))) [
        | true ↦ λ t. ((t, at_most-more (bucket_count y) (bucket_count x) ys t h.0), h)
        | false ↦ λ t. (at_most-insert (bucket_count y) x ys t h.0, falls-insert x ys h.1)
      ] (told x y)

  pub falls-sorted : (bs : List Bucket) → Falls (sorted (bucket_cmp kinds by_count) bs)
  falls-sorted [] = tt
  falls-sorted (b ∷ bs) = falls-insert b (sorted (bucket_cmp kinds by_count) bs) (falls-sorted bs)

-- behind the first n there is none above the last of them
behind : (n m : ℕ) (bs : List Bucket) → AtMost m bs → Falls bs → AtMost (unwrap_or (last_or (Some m) (map bucket_count (take n bs))) 0) (drop n bs)
behind zero m bs h f = h
behind (suc n) m [] h f = tt
behind (suc n) m (b ∷ bs) h f = behind n (bucket_count b) bs f.0 f.1

pub behind_last : (n : ℕ) (bs : List Bucket) → 0 < n → Falls bs → AtMost (unwrap_or (last_or None (map bucket_count (take n bs))) 0) (drop n bs)
behind_last zero bs lt f = let e : ⊥ = omega (arith, lt) in absurd e
behind_last (suc n) [] lt f = tt
behind_last (suc n) (b ∷ bs) lt f = behind n (bucket_count b) bs f.0 f.1
