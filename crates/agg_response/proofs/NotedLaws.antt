-- Buckets with their notes, from some place on.
use Rattle.std.specs.Prelude.{◌≡◌, refl, ℕ, zero, suc, ◌+◌, List, [], ◌∷◌, map, drop}
use Rattle.std.specs.List.{enumerate_from}
use Rattle.std.proofs.Common.{◌∙◌, sym, ap, arith}
use Rattle.agg_model.specs.declared.answer.BucketAnswer.{BucketAnswer}
use Rattle.agg_spec.specs.AnswerTree.{NotedBucket, ZonedNote, noted_at, noted_buckets}

module _ (notes : List ZonedNote) where
  abbrev from : ℕ → List BucketAnswer → List NotedBucket
  from k bs = map (noted_at notes) (enumerate_from k bs)

  drop-from : (i k : ℕ) (bs : List BucketAnswer) → drop i (from k bs) ≡ from (k + i) (drop i bs)
  drop-from zero k bs = let e : k ≡ k + 0 = omega arith in ap (λ n. from n bs) e
  drop-from (suc i) k [] = refl
  drop-from (suc i) k (b ∷ bs) = let e : k + 1 + i ≡ k + suc i = omega arith in drop-from i (k + 1) bs ∙ ap (λ n. from n (drop i bs)) e

  -- the bucket of a place with its notes, and those behind it
  pub noted_here : (bs : List BucketAnswer) (i : ℕ) (b : BucketAnswer) → drop i bs ≡ b ∷ drop (i + 1) bs
      → drop i (noted_buckets notes bs) ≡ noted_at notes (i, b) ∷ drop (i + 1) (noted_buckets notes bs)
  noted_here bs i b here =
      let start : 0 + i ≡ i = omega arith in
      let next : 0 + (i + 1) ≡ i + 1 = omega arith in
      drop-from i 0 bs ∙ ap (λ n. from n (drop i bs)) start ∙ ap (from i) here
      ∙ ap (λ them. noted_at notes (i, b) ∷ them) (sym (drop-from (i + 1) 0 bs ∙ ap (λ n. from n (drop (i + 1) bs)) next))

  -- no bucket, noted or not, stands behind the last
  pub noted_end : (bs : List BucketAnswer) (i : ℕ) → drop i bs ≡ [] → drop i (noted_buckets notes bs) ≡ []
  noted_end bs i end = drop-from i 0 bs ∙ ap (from (0 + i)) end
