-- The two parts of the tests are parts of one search.
use Rattle.std.specs.Prelude.{◌≡◌, refl, ℕ, true, List, [], ◌∷◌, ◌++◌, codes}
use Rattle.std.proofs.Common.{subst, ap}
use Rattle.agg_evaluation.proofs.Computing.{computing}
use Rattle.agg_evaluation.specs.Trees.{is_result_of, numbers_fit}
use Rattle.agg_evaluation.specs.Whole.{whole}
use Rattle.agg_model.specs.declared.aggregation.Search.{Search}
use Rattle.agg_model.specs.declared.key.Key.TheVariants.{Word}
use Rattle.agg_model.specs.declared.partial.Partial.{Partial}
use Rattle.agg_model.specs.declared.query.Query.TheVariants as query
use Rattle.batch_reduce.specs.Parts.{AreParts, cost_of_parts}
use Rattle.evaluation_laws.proofs.Samples.{agg, bucket, keyed, result, search_of, terms}

abbrev pub sample : Search
sample = search_of query.All (agg (codes "t") (terms 2) [] ∷ [])

abbrev pub one : Partial
one = result 1 (keyed (bucket (Word (codes "a")) 1 [] ∷ []) ∷ [])

abbrev pub other : Partial
other = result 1 (keyed (bucket (Word (codes "b")) 1 [] ∷ []) ∷ [])

fits-none : numbers_fit (whole sample []) ≡ true
unfolding computing
fits-none = refl

fits-one : numbers_fit (whole sample (one ∷ [])) ≡ true
unfolding computing
fits-one = refl

fits-other : numbers_fit (whole sample (other ∷ [])) ≡ true
unfolding computing
fits-other = refl

fits-both : numbers_fit (whole sample (one ∷ other ∷ [])) ≡ true
unfolding computing
fits-both = refl

runs : (P : List Partial → Type 0) (p q : Partial) → P [] → P (p ∷ []) → P (q ∷ []) → P (p ∷ q ∷ []) → (before some after : List Partial) → p ∷ q ∷ [] ≡ before ++ some ++ after → P some
runs P p q none one other both [] [] after e = none
runs P p q none one other both [] (s ∷ []) after e = let f : p ≡ s = cc in subst (λ x. P (x ∷ [])) f one
runs P p q none one other both [] (s ∷ t ∷ []) after e = let f : p ≡ s = cc in let g : q ≡ t = cc in let h : p ∷ q ∷ [] ≡ s ∷ t ∷ [] = (λ i. f i ∷ g i ∷ []) in subst P h both
runs P p q none one other both [] (s ∷ t ∷ u ∷ some) after e = cc
runs P p q none one other both (b ∷ []) [] after e = none
runs P p q none one other both (b ∷ []) (s ∷ []) after e = let f : q ≡ s = cc in subst (λ x. P (x ∷ [])) f other
runs P p q none one other both (b ∷ []) (s ∷ t ∷ some) after e = cc
runs P p q none one other both (b ∷ c ∷ before) [] after e = none
runs P p q none one other both (b ∷ c ∷ []) (s ∷ some) after e = cc
runs P p q none one other both (b ∷ c ∷ d ∷ before) (s ∷ some) after e = cc

pub two-parts : AreParts sample (one ∷ other ∷ [])
unfolding computing
two-parts = record {
  results = refl;
  fit = runs (λ some. numbers_fit (whole sample some) ≡ true) one other fits-none fits-one fits-other fits-both;
}

pub two-cost : cost_of_parts (one ∷ other ∷ []) ≡ 1282
unfolding computing
two-cost = refl
