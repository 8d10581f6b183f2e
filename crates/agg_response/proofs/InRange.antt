-- What the check of an answer's numbers says of each part of it.
use Rattle.std.specs.Prelude.{◌≡◌, refl, ℕ, Bool, true, false, ◌&&◌, List, [], ◌∷◌, ◌++◌, map, flat_map}
use Rattle.std.specs.List.{list_all}
use Rattle.std.proofs.Common.{◌∙◌, ap, sym}
use Rattle.agg_model.specs.declared.answer.BucketAnswer.{BucketAnswer, out-BucketAnswer}
use Rattle.agg_model.specs.declared.answer.NodeAnswer.{NodeAnswer, out-NodeAnswer}
use Rattle.agg_model.specs.declared.aggregation.Agg.{Agg, out-Agg}
use Rattle.agg_spec.specs.RangeCheck.{Checker, key_in_range, check_each, check_bucket, checker, unless, sum_in_range}
use Rattle.agg_response.proofs.Levels.{checker-level}

module _ {X : Type 0} where
  no_first : (xs ys : List X) → xs ++ ys ≡ [] → xs ≡ []
  no_first [] ys h = refl
  no_first (x ∷ xs) ys h = absurd (cc (h))

  no_second : (xs ys : List X) → xs ++ ys ≡ [] → ys ≡ []
  no_second [] ys h = h
  no_second (x ∷ xs) ys h = absurd (cc (h))

no_mapped : {X Y : Type 0} (f : X → Y) (xs : List X) → map f xs ≡ [] → xs ≡ []
no_mapped f [] h = refl
no_mapped f (x ∷ xs) h = absurd (cc (h))

unless_holds : (b : Bool) (path : List ℕ) → unless b path ≡ [] → b ≡ true
unless_holds true path h = refl
unless_holds false path h = absurd (cc (h))

pub key_of_bucket : (cs : List Checker) (b : BucketAnswer) → check_bucket cs b ≡ [] → key_in_range (out-BucketAnswer b).key ≡ true
key_of_bucket cs b h = unless_holds _ [] (no_first (unless (key_in_range (out-BucketAnswer b).key) []) (check_each cs (out-BucketAnswer b).children) h)

pub children_of_bucket : (cs : List Checker) (b : BucketAnswer) → check_bucket cs b ≡ [] → check_each cs (out-BucketAnswer b).children ≡ []
children_of_bucket cs b h = no_second (unless (key_in_range (out-BucketAnswer b).key) []) (check_each cs (out-BucketAnswer b).children) h

module _ (check : BucketAnswer → List (List ℕ)) where
  pub bucket_here : (b : BucketAnswer) (left rest : List BucketAnswer) → left ≡ b ∷ rest → flat_map check left ≡ [] → check b ≡ []
  bucket_here b left rest e h = no_first (check b) (flat_map check rest) (sym (ap (flat_map check) e) ∙ h)

  pub buckets_later : (b : BucketAnswer) (left rest : List BucketAnswer) → left ≡ b ∷ rest → flat_map check left ≡ [] → flat_map check rest ≡ []
  buckets_later b left rest e h = no_second (check b) (flat_map check rest) (sym (ap (flat_map check) e) ∙ h)

module _ (a : Agg) (n : NodeAnswer) (h : checker a n ≡ []) where
  inside : unless (sum_in_range (out-Agg a).kind (out-NodeAnswer n).metric.sum) [] ++ flat_map (check_bucket (map checker (out-Agg a).children))
      (out-NodeAnswer n).buckets ≡ []
  inside = no_mapped _ _ (sym (checker-level a n) ∙ h)

  pub sum_of_answer : sum_in_range (out-Agg a).kind (out-NodeAnswer n).metric.sum ≡ true
  sum_of_answer = unless_holds _ [] (no_first _ (flat_map (check_bucket (map checker (out-Agg a).children)) (out-NodeAnswer n).buckets) inside)

  pub buckets_of_answer : flat_map (check_bucket (map checker (out-Agg a).children)) (out-NodeAnswer n).buckets ≡ []
  buckets_of_answer = no_second (unless (sum_in_range (out-Agg a).kind (out-NodeAnswer n).metric.sum) []) _ inside

-- the answers to several aggregations
abbrev pub pairs_check : List Agg → List NodeAnswer → List (List ℕ)
pairs_check aggs nodes = check_each (map checker aggs) nodes

module _ (a : Agg) (n : NodeAnswer) (aggs more_aggs : List Agg) (nodes more_nodes : List NodeAnswer) (p : aggs ≡ a ∷ more_aggs) (q : nodes ≡ n ∷ more_nodes)
    (h : pairs_check aggs nodes ≡ []) where
  both : checker a n ++ pairs_check more_aggs more_nodes ≡ []
  both = sym (ap (λ xs. pairs_check xs nodes) p ∙ ap (λ ns. pairs_check (a ∷ more_aggs) ns) q) ∙ h

  pub answer_here : checker a n ≡ []
  answer_here = no_first (checker a n) (pairs_check more_aggs more_nodes) both

  pub answers_later : pairs_check more_aggs more_nodes ≡ []
  answers_later = no_second (checker a n) (pairs_check more_aggs more_nodes) both

-- each bucket's key is in range
pub keys_of_buckets : (cs : List Checker) (bs : List BucketAnswer) → flat_map (check_bucket cs) bs ≡ []
    → list_all (λ b. key_in_range (out-BucketAnswer b).key) bs ≡ true
keys_of_buckets cs [] h = refl
keys_of_buckets cs (b ∷ bs) h =
    let here : key_in_range (out-BucketAnswer b).key ≡ true = key_of_bucket cs b (no_first (check_bucket cs b) (flat_map (check_bucket cs) bs) h) in
    ap (λ r. r && list_all (λ b. key_in_range (out-BucketAnswer b).key) bs) here
    ∙ keys_of_buckets cs bs (no_second (check_bucket cs b) (flat_map (check_bucket cs) bs) h)
