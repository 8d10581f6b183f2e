-- A bucket put into a list that ascends by key, step by step from the front.
use Rattle.std.specs.Prelude.{◌≡◌, refl, ℕ, ◌<◌, List, [], ◌∷◌, length, drop, Some, slice_index_or}
use Rattle.std.specs.declared.cmp.Ordering.{Ordering}
use Rattle.std.specs.declared.cmp.Ordering.TheVariants.{Less, Equal, Greater}
use Rattle.std.specs.Ordering.{match_ordering}
use Rattle.std.proofs.Common.{sym, ◌∙◌, ap, arith}
use Rattle.agg_model.specs.declared.key.Key.{Key}
use Rattle.agg_model.specs.declared.partial.Bucket.{Bucket}
use Rattle.agg_evaluation.specs.KeyOrder.{key_cmp}
use Rattle.partial_result.specs.Merged.{OtherBucket, put_in, joined}

module _ (key : Key) (b : Bucket) (o : OtherBucket) (next : List Bucket → List Bucket) (same : o.0.key ≡ key) where
  -- the comparison with the first bucket is the outcome that is given
  first_by : (x : Bucket) → b ≡ x → (r : Ordering) → key_cmp key b.key ≡ r → key_cmp o.0.key x.key ≡ r
  first_by x is r p = (λ i. key_cmp (same i) (sym is i).key) ∙ p

  pub put_in-Less : (bs : List Bucket) → 0 < length bs → b ≡ slice_index_or bs 0 b → key_cmp key b.key ≡ Less → put_in o next bs ≡ o.0 ∷ next bs
  put_in-Less [] within is p = absurd (omega arith)
  put_in-Less (x ∷ xs) within is p = ap (λ r. match_ordering r (o.0 ∷ next (x ∷ xs)) (o.1 x ∷ next xs) (x ∷ put_in o next xs)) (first_by x is Less p)

  pub put_in-Equal : (bs : List Bucket) → 0 < length bs → b ≡ slice_index_or bs 0 b → key_cmp key b.key ≡ Equal → put_in o next bs ≡ joined (Some (slice_index_or bs 0 b)) o ∷ next (drop 1 bs)
  put_in-Equal [] within is p = absurd (omega arith)
  put_in-Equal (x ∷ xs) within is p = ap (λ r. match_ordering r (o.0 ∷ next (x ∷ xs)) (o.1 x ∷ next xs) (x ∷ put_in o next xs)) (first_by x is Equal p)

  pub put_in-Greater : (bs : List Bucket) → 0 < length bs → b ≡ slice_index_or bs 0 b → key_cmp key b.key ≡ Greater → put_in o next bs ≡ slice_index_or bs 0 b ∷ put_in o next (drop 1 bs)
  put_in-Greater [] within is p = absurd (omega arith)
  put_in-Greater (x ∷ xs) within is p = ap (λ r. match_ordering r (o.0 ∷ next (x ∷ xs)) (o.1 x ∷ next xs) (x ∷ put_in o next xs)) (first_by x is Greater p)
