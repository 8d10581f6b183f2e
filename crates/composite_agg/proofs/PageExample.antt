-- A page of two that is offered 5, 3, 4 and 5, step by step.
use Rattle.std.proofs.Common.{◌≡◌, refl, ℕ, [], ◌∷◌, map, Some, None, ◌∙◌, ap}
use Rattle.agg_model.specs.declared.partial.Bucket.{Bucket}
use Rattle.agg_evaluation.specs.Orders.{bucket_key}
use Rattle.agg_evaluation.proofs.Computing.{computing}
use Rattle.composite_agg.specs.FirstPages.{FirstPage, answer_of, new_bucket, page_with, with_buckets}
use Rattle.composite_agg.specs.PageExample.{answers, key_of, offered, page_of_two}
use Rattle.composite_agg.specs.declared.offered.Offered.TheVariants.{Entered, Outside}

abbrev bucket : ℕ → Bucket
bucket n = new_bucket (key_of n) []

abbrev one : FirstPage
one = with_buckets page_of_two (bucket 5 ∷ [])

abbrev two : FirstPage
two = with_buckets page_of_two (bucket 3 ∷ bucket 5 ∷ [])

abbrev three : FirstPage
three = with_buckets page_of_two (bucket 3 ∷ bucket 4 ∷ [])

enters-5 : answer_of page_of_two (key_of 5) ≡ Entered None
unfolding computing
enters-5 = refl

with-5 : page_with page_of_two (key_of 5) [] ≡ one
unfolding computing
with-5 = refl

enters-3 : answer_of one (key_of 3) ≡ Entered None
unfolding computing
enters-3 = refl

with-3 : page_with one (key_of 3) [] ≡ two
unfolding computing
with-3 = refl

enters-4 : answer_of two (key_of 4) ≡ Entered (Some (bucket 5))
unfolding computing
enters-4 = refl

with-4 : page_with two (key_of 4) [] ≡ three
unfolding computing
with-4 = refl

outside-5 : answer_of three (key_of 5) ≡ Outside
unfolding computing
outside-5 = refl

without-5 : page_with three (key_of 5) [] ≡ three
unfolding computing
without-5 = refl

pub keys-are : map bucket_key (offered page_of_two (5 ∷ 3 ∷ 4 ∷ 5 ∷ [])).buckets ≡ key_of 3 ∷ key_of 4 ∷ []
keys-are =
    ap (λ p. map bucket_key (offered p (3 ∷ 4 ∷ 5 ∷ [])).buckets) with-5 ∙ ap (λ p. map bucket_key (offered p (4 ∷ 5 ∷ [])).buckets) with-3
    ∙ ap (λ p. map bucket_key (offered p (5 ∷ [])).buckets) with-4 ∙ ap (λ (p : FirstPage). map bucket_key p.buckets) without-5

fourth : answers three (5 ∷ []) ≡ Outside ∷ []
fourth = ap (λ o. o ∷ answers (page_with three (key_of 5) []) []) outside-5

third : answers two (4 ∷ 5 ∷ []) ≡ Entered (Some (bucket 5)) ∷ Outside ∷ []
third = ap (λ o. o ∷ answers (page_with two (key_of 4) []) (5 ∷ [])) enters-4 ∙ ap (λ p. Entered (Some (bucket 5)) ∷ answers p (5 ∷ [])) with-4 ∙ ap (λ os. Entered (Some (bucket 5)) ∷ os) fourth

second : answers one (3 ∷ 4 ∷ 5 ∷ []) ≡ Entered None ∷ Entered (Some (bucket 5)) ∷ Outside ∷ []
second = ap (λ o. o ∷ answers (page_with one (key_of 3) []) (4 ∷ 5 ∷ [])) enters-3 ∙ ap (λ p. Entered None ∷ answers p (4 ∷ 5 ∷ [])) with-3 ∙ ap (λ os. Entered None ∷ os) third

pub answers-are : answers page_of_two (5 ∷ 3 ∷ 4 ∷ 5 ∷ []) ≡ Entered None ∷ Entered None ∷ Entered (Some (bucket 5)) ∷ Outside ∷ []
answers-are = ap (λ o. o ∷ answers (page_with page_of_two (key_of 5) []) (3 ∷ 4 ∷ 5 ∷ [])) enters-5 ∙ ap (λ p. Entered None ∷ answers p (3 ∷ 4 ∷ 5 ∷ [])) with-5 ∙ ap (λ os. Entered None ∷ os) second
