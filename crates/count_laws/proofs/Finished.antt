-- Finished nodes and buckets, and the keys that an answer of buckets returns.
use Rattle.std.specs.Prelude.{◌≡◌, refl, ℕ, zero, suc, ◌||◌, true, false, if◌then◌else◌, List, [], ◌∷◌, map, take, Option, Some, None, ℤ, slice_get}
use Rattle.std.specs.List.{list_any}
use Rattle.std.specs.declared.cmp.Ordering.{Ordering}
use Rattle.std.specs.Ordering.{is_le}
use Rattle.std.proofs.Common.{◌∙◌, ap}
use Rattle.agg_model.specs.declared.key.Key.{Key}
use Rattle.agg_model.specs.declared.aggregation.Agg.{Agg}
use Rattle.agg_model.specs.declared.partial.Bucket.{Bucket}
use Rattle.agg_model.specs.declared.partial.Node.{Node}
use Rattle.agg_model.specs.declared.answer.BucketAnswer.{BucketAnswer, out-BucketAnswer, out-roll-BucketAnswer}
use Rattle.agg_model.specs.declared.answer.BucketAnswer.TheOpen.{NodeAnswer-F, BucketAnswer-F}
use Rattle.agg_model.specs.declared.answer.NodeAnswer.{NodeAnswer, out-NodeAnswer, out-roll-NodeAnswer}
use Rattle.agg_evaluation.specs.KeyOrder.{key_eq, has_key}
use Rattle.agg_evaluation.specs.Orders.{bucket_key}
use Rattle.list_laws.specs.Sorting.{insert_sorted, sorted}
use Rattle.list_laws.proofs.Options.{none_some}
use Rattle.agg_spec.specs.Final.{Finisher, buckets_answer, finish_bucket, finish_each, finisher, no_metric}
use Rattle.count_laws.specs.Paths.{returns}

-- sorting by what a function gives sorts what it gives
module _ {A B : Type 0} (cmp : B → B → Ordering) (f : A → B) where
  insert-mapped : (x : A) (xs : List A) → map f (insert_sorted (λ a b. cmp (f a) (f b)) x xs) ≡ insert_sorted cmp (f x) (map f xs)
  insert-mapped x [] = refl
  insert-mapped x (y ∷ ys) =
      elim (is_le (cmp (f x) (f y))) as (λ b. map f (if b then x ∷ y ∷ ys else (y ∷ insert_sorted (λ a b. cmp (f a) (f b)) x ys)) ≡ (if b then f x ∷ f y ∷ map f ys else (f y ∷ insert_sorted cmp (f x) (map f ys)))) [
        | true ↦ refl
        | false ↦ ap (λ zs. f y ∷ zs) (insert-mapped x ys)
      ]

  pub sorted-mapped : (xs : List A) → map f (sorted (λ a b. cmp (f a) (f b)) xs) ≡ sorted cmp (map f xs)
  sorted-mapped [] = refl
  sorted-mapped (x ∷ xs) = insert-mapped x (sorted (λ a b. cmp (f a) (f b)) xs) ∙ ap (insert_sorted cmp (f x)) (sorted-mapped xs)

pub take-mapped : {A B : Type 0} (f : A → B) (n : ℕ) (xs : List A) → map f (take n xs) ≡ take n (map f xs)
take-mapped f zero xs = refl
take-mapped f (suc n) [] = refl
take-mapped f (suc n) (x ∷ xs) = ap (λ ys. f x ∷ ys) (take-mapped f n xs)

module _ (children : List Finisher) (error : Option ℤ) where
  abbrev pub finished : Bucket → BucketAnswer
  finished = finish_bucket children error

  -- a finished bucket, level by level
  pub finished-is : (b : Bucket) → out-BucketAnswer (finished b) ≡ record { key = b.key; count = b.count; error = error; children = finish_each children b.children }
  finished-is b = out-roll-BucketAnswer (record { key = b.key; count = b.count; error = error; children = finish_each children b.children })

  pub finished-key : (b : Bucket) → (out-BucketAnswer (finished b)).key ≡ bucket_key b
  finished-key b = ap (λ (l : BucketAnswer-F BucketAnswer NodeAnswer). l.key) (finished-is b)

  keys-finished : (q : Key) (bs : List Bucket) → list_any (λ b. key_eq q (out-BucketAnswer b).key) (map finished bs) ≡ has_key q (map bucket_key bs)
  keys-finished q [] = refl
  keys-finished q (b ∷ bs) = λ i. key_eq q (finished-key b i) || keys-finished q bs i

pub buckets-are : (name : List ℕ) (bs : List BucketAnswer) → (out-NodeAnswer (buckets_answer name bs)).buckets ≡ bs
buckets-are name bs = ap (λ (l : NodeAnswer-F BucketAnswer NodeAnswer). l.buckets) (out-roll-NodeAnswer (record { name = name; buckets = bs; error = _; other = 0; metric = no_metric }))

-- which keys an answer of buckets alone returns
pub returns-buckets : (name : List ℕ) (children : List Finisher) (q : Key) (bs : List Bucket) → returns q (buckets_answer name (map (finish_bucket children None) bs)) ≡ has_key q (map bucket_key bs)
returns-buckets name children q bs =
    ap (list_any (λ b. key_eq q (out-BucketAnswer b).key)) (buckets-are name (map (finish_bucket children None) bs)) ∙ keys-finished children None q bs

-- each node of an answer is finished of one of the whole
pub finished-at : (aggs : List Agg) (ns : List Node) (j : ℕ) (a : Agg) (n : Node) → slice_get aggs j ≡ Some a → slice_get ns j ≡ Some n → slice_get (finish_each (map finisher aggs) ns) j ≡ Some ((finisher a).finish n)
finished-at [] ns j a n at node = absurd (none_some a at)
finished-at (b ∷ bs) [] j a n at node = absurd (none_some n node)
finished-at (b ∷ bs) (m ∷ ms) zero a n at node =
    let same_agg : b ≡ a = cc in
    let same_node : m ≡ n = cc in
    λ i. Some ((finisher (same_agg i)).finish (same_node i))
finished-at (b ∷ bs) (m ∷ ms) (suc j) a n at node = finished-at bs ms j a n at node
