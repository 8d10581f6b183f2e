-- What holds of the buckets of a histogram, and of each empty one, holds of all buckets that it has with its gaps filled.
use Rattle.std.specs.Prelude.{◌≡◌, refl, ℕ, ◌==◌, Bool, true, false, cond, List, [], ◌∷◌, map, Some, unwrap_or, find}
use Rattle.std.specs.List.{list_all}
use Rattle.std.proofs.lemmas.Bool.{and_parts, and_from}
use Rattle.agg_model.specs.declared.key.Key.{Key}
use Rattle.agg_model.specs.declared.partial.Bucket.{Bucket}
use Rattle.agg_model.specs.declared.aggregation.Bounds.{Bounds}
use Rattle.agg_model.specs.declared.aggregation.Spacing.{Spacing}
use Rattle.agg_evaluation.specs.KeyOrder.{key_eq}
use Rattle.agg_evaluation.specs.Orders.{bucket_key}
use Rattle.agg_spec.specs.Filling.{bucket_at, filled_keys}
use Rattle.final_reduce.specs.Standing.{with_gaps}
use Rattle.final_reduce.specs.Steps.{key_numbers}

module _ (passes : Bucket → Bool) (empty : Key → Bucket) (empties : (key : Key) → passes (empty key) ≡ true) where
  bucket_at-passes : (bs : List Bucket) → list_all passes bs ≡ true → (key : Key) → passes (bucket_at empty bs key) ≡ true
  bucket_at-passes [] all key = empties key
  bucket_at-passes (b ∷ bs) all key =
      let parts = and_parts _ _ all in
      elim (key_eq key (bucket_key b)) as (λ t. passes (unwrap_or (cond t (Some b) (find (λ b. key_eq key (bucket_key b)) bs)) (empty key)) ≡ true) [
        | true ↦ parts.0
        | false ↦ bucket_at-passes bs parts.1 key
      ]

  each-passes : (bs : List Bucket) → list_all passes bs ≡ true → (keys : List Key) → list_all passes (map (bucket_at empty bs) keys) ≡ true
  each-passes bs all [] = refl
  each-passes bs all (key ∷ keys) = and_from _ _ (bucket_at-passes bs all key) (each-passes bs all keys)

  pub gaps-pass : (spacing : Spacing) (m : ℕ) (extended hard : Bounds) (bs : List Bucket) → list_all passes bs ≡ true → list_all passes (with_gaps empty spacing m extended hard bs) ≡ true
  gaps-pass spacing m extended hard bs all =
      elim (m == 0) as (λ b. list_all passes (cond b (map (bucket_at empty bs) (filled_keys spacing extended hard (key_numbers bs))) bs) ≡ true) [
        | true ↦ each-passes bs all (filled_keys spacing extended hard (key_numbers bs))
        | false ↦ all
      ]
