-- What the check of an answer's numbers says of each part of it.
use Rattle.std.specs.Prelude.{◌≡◌, refl, ℕ, zero, suc, Bool, true, false, List, [], ◌∷◌, ◌++◌, map, flat_map, Option, Some, slice_get, codes}
use Rattle.std.proofs.Common.{◌∙◌, ap, subst, sym}
use Rattle.agg_evaluation.proofs.AggFolds.{fold_agg-level}
use Rattle.agg_model.specs.declared.answer.BucketAnswer.{BucketAnswer, out-BucketAnswer}
use Rattle.agg_model.specs.declared.answer.NodeAnswer.{NodeAnswer, out-NodeAnswer}
use Rattle.agg_model.specs.declared.aggregation.Agg.{Agg, out-Agg}
use Rattle.agg_spec.specs.RangeCheck.{Checker, key_in_range, check_each, check_bucket, checker, unless, sum_in_range}
use Rattle.pipeline_agg.specs.Bounds.{AreInRange}

module _ {X : Type 0} where
  pub no-first : (xs ys : List X) → xs ++ ys ≡ [] → xs ≡ []
  no-first [] ys h = refl
  no-first (x ∷ xs) ys h = absurd (cc (h))

  pub no-second : (xs ys : List X) → xs ++ ys ≡ [] → ys ≡ []
  no-second [] ys h = h
  no-second (x ∷ xs) ys h = absurd (cc (h))

none-mapped : {X Y : Type 0} (f : X → Y) (xs : List X) → map f xs ≡ [] → xs ≡ []
none-mapped f [] h = refl
none-mapped f (x ∷ xs) h = absurd (cc (h))

unless-holds : (b : Bool) (path : List ℕ) → unless b path ≡ [] → b ≡ true
unless-holds true path h = refl
unless-holds false path h = absurd (cc (h))

pub children-of-bucket : (children : List Agg) (b : BucketAnswer) → check_bucket (map checker children) b ≡ [] → AreInRange children (out-BucketAnswer b).children
children-of-bucket children b h = no-second (unless (key_in_range (out-BucketAnswer b).key) []) (check_each (map checker children) (out-BucketAnswer b).children) h

-- each of the buckets, and those behind it
pub bucket-here : (children : List Agg) (b : BucketAnswer) (bs : List BucketAnswer) → flat_map (check_bucket (map checker children)) (b ∷ bs) ≡ [] → check_bucket (map checker children) b ≡ []
bucket-here children b bs h = no-first (check_bucket (map checker children) b) (flat_map (check_bucket (map checker children)) bs) h

pub buckets-later : (children : List Agg) (b : BucketAnswer) (bs : List BucketAnswer) → flat_map (check_bucket (map checker children)) (b ∷ bs) ≡ [] → flat_map (check_bucket (map checker children)) bs ≡ []
buckets-later children b bs h = no-second (check_bucket (map checker children) b) (flat_map (check_bucket (map checker children)) bs) h

pub bucket-at : (children : List Agg) (bs : List BucketAnswer) (i : ℕ) (b : BucketAnswer) → flat_map (check_bucket (map checker children)) bs ≡ [] → slice_get bs i ≡ Some b → AreInRange children (out-BucketAnswer b).children
bucket-at children [] i b h is = absurd (cc (is))
bucket-at children (c ∷ bs) zero b h is = children-of-bucket children b (subst (λ (x : BucketAnswer). check_bucket (map checker children) x ≡ []) (same is) (bucket-here children c bs h)) where
  same : Some c ≡ Some b → c ≡ b
  same e = cc (e)
bucket-at children (c ∷ bs) (suc i) b h is = bucket-at children bs i b (buckets-later children c bs h) is

checker-level : (a : Agg) (n : NodeAnswer) → checker a n ≡ map (λ path. codes "/" ++ ((out-Agg a).name ++ path))
    (unless (sum_in_range (out-Agg a).kind (out-NodeAnswer n).metric.sum) [] ++ flat_map (check_bucket (map checker (out-Agg a).children)) (out-NodeAnswer n).buckets)
checker-level a n = ap (λ (p : Checker). p n) (fold_agg-level (λ x m. map (λ path. codes "/" ++ (x.name ++ path))
    (unless (sum_in_range x.kind (out-NodeAnswer m).metric.sum) [] ++ flat_map (check_bucket x.children) (out-NodeAnswer m).buckets)) a)

module _ (a : Agg) (n : NodeAnswer) (h : checker a n ≡ []) where
  inside : unless (sum_in_range (out-Agg a).kind (out-NodeAnswer n).metric.sum) [] ++ flat_map (check_bucket (map checker (out-Agg a).children)) (out-NodeAnswer n).buckets ≡ []
  inside = none-mapped _ _ (sym (checker-level a n) ∙ h)

  pub sum-of-answer : sum_in_range (out-Agg a).kind (out-NodeAnswer n).metric.sum ≡ true
  sum-of-answer = unless-holds _ [] (no-first _ (flat_map (check_bucket (map checker (out-Agg a).children)) (out-NodeAnswer n).buckets) inside)

  pub buckets-of-answer : flat_map (check_bucket (map checker (out-Agg a).children)) (out-NodeAnswer n).buckets ≡ []
  buckets-of-answer = no-second (unless (sum_in_range (out-Agg a).kind (out-NodeAnswer n).metric.sum) []) _ inside

-- the answer at a place, where an aggregation stands there
pub answer-at : (aggs : List Agg) (nodes : List NodeAnswer) (i : ℕ) (a : Agg) (n : NodeAnswer) → AreInRange aggs nodes → slice_get aggs i ≡ Some a → slice_get nodes i ≡ Some n → checker a n ≡ []
answer-at [] nodes i a n h is there = absurd (cc (is))
answer-at (b ∷ aggs) [] i a n h is there = absurd (cc (there))
answer-at (b ∷ aggs) (m ∷ nodes) zero a n h is there = both is there where
  both : Some b ≡ Some a → Some m ≡ Some n → checker a n ≡ []
  both e f =
      let same : b ≡ a = cc (e) in
      let like : m ≡ n = cc (f) in
      sym (ap (λ x. checker x n) same) ∙ sym (ap (checker b) like) ∙ no-first (checker b m) (check_each (map checker aggs) nodes) h
answer-at (b ∷ aggs) (m ∷ nodes) (suc i) a n h is there = answer-at aggs nodes i a n (no-second (checker b m) (check_each (map checker aggs) nodes) h) is there
