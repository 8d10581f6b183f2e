-- What the rows of one key add to the cost of a node.
use Rattle.std.specs.Prelude.{◌≡◌, refl, ℕ, ◌+◌, true, false, cond, T, List, [], ◌∷◌, find, map, None, Option, Some, sum_by, unwrap_or}
use Rattle.std.specs.Option.{option_map_or}
use Rattle.std.specs.Ordering.{is_eq, match_ordering}
use Rattle.std.specs.declared.cmp.Ordering.TheVariants.{Less, Equal, Greater}
use Rattle.std.proofs.Common.{sym, subst, arith}
use Rattle.std.proofs.lemmas.Bool.{or_parts}
use Rattle.std.proofs.lemmas.List.Sums.{sum_by-cons}
use Rattle.agg_model.specs.declared.key.Key.{Key}
use Rattle.agg_model.specs.declared.partial.Bucket.{Bucket}
use Rattle.agg_model.specs.declared.partial.Node.TheVariants.{Keyed}
use Rattle.agg_evaluation.specs.Cost.{node_cost}
use Rattle.agg_evaluation.specs.KeyOrder.{has_key, key_cmp, key_eq}
use Rattle.agg_evaluation.specs.Orders.{bucket_key}
use Rattle.agg_evaluation.specs.Rows.{PlacedRow}
use Rattle.agg_evaluation.specs.Trees.{is_ascending}
use Rattle.agg_evaluation.proofs.KeyLists.{below-absent, below-trans}
use Rattle.list_laws.proofs.Booleans.{and_left, and_right}
use Rattle.evaluation_laws.proofs.CostLaws.{cost-Keyed}
use Rattle.growth_laws.specs.BucketBytes.{bucket_bytes, bucket_or_empty}
use Rattle.growth_laws.specs.Gathering.{Gatherer, empty_bucket, gathered_bucket, put_rows}

module _ (gs : List Gatherer) (rows : List PlacedRow) (k : Key) where
  -- the bucket of the key, where there is one
  abbrev here : List Bucket → Option Bucket
  here bs = find (λ b. key_eq k (bucket_key b)) bs

  -- where no bucket has the key, none is found
  absent : (bs : List Bucket) → has_key k (map bucket_key bs) ≡ false → here bs ≡ None
  absent [] e = refl
  absent (b ∷ bs) e =
      let parts = or_parts (key_eq k (bucket_key b)) (has_key k (map bucket_key bs)) e in
      elim (key_eq k (bucket_key b)) as (λ x. x ≡ false → cond x (Some b) (here bs) ≡ None) [
        | true ↦ λ f. absurd (subst T f tt)
        | false ↦ λ f. absent bs parts.1
      ] parts.0

  -- the buckets with more rows at one key
  pub put-bytes : (bs : List Bucket) → T (is_ascending (map bucket_key bs))
      → sum_by bucket_bytes (put_rows gs rows k bs) + option_map_or bucket_bytes (here bs) 0 ≡ sum_by bucket_bytes bs + bucket_bytes (gathered_bucket gs rows (unwrap_or (here bs) (empty_bucket gs k)))
  put-bytes [] up = let one = sum_by-cons bucket_bytes (gathered_bucket gs rows (empty_bucket gs k)) [] in omega arith
  put-bytes (b ∷ bs) up =
      let whole = sum_by-cons bucket_bytes b bs in
      elim (key_cmp k (bucket_key b)) as (λ r. key_cmp k (bucket_key b) ≡ r
      → sum_by bucket_bytes (match_ordering r (gathered_bucket gs rows (empty_bucket gs k) ∷ b ∷ bs) (gathered_bucket gs rows b ∷ bs) (b ∷ put_rows gs rows k bs))
      + option_map_or bucket_bytes (cond (is_eq r) (Some b) (here bs)) 0
      ≡ sum_by bucket_bytes (b ∷ bs) + bucket_bytes (gathered_bucket gs rows (unwrap_or (cond (is_eq r) (Some b) (here bs)) (empty_bucket gs k)))) [
        | Less ↦ λ p.
            let none : here bs ≡ None = absent bs (below-absent k (map bucket_key bs) (below-trans k (bucket_key b) (map bucket_key bs) p (and_left _ _ up))) in
            subst (λ o. sum_by bucket_bytes (gathered_bucket gs rows (empty_bucket gs k) ∷ b ∷ bs) + option_map_or bucket_bytes o 0 ≡ sum_by bucket_bytes (b ∷ bs) + bucket_bytes (gathered_bucket gs rows (unwrap_or o (empty_bucket gs k)))) (sym none)
            (let new = sum_by-cons bucket_bytes (gathered_bucket gs rows (empty_bucket gs k)) (b ∷ bs) in omega arith)
        | Equal ↦ λ p. let grown = sum_by-cons bucket_bytes (gathered_bucket gs rows b) bs in omega arith
        | Greater ↦ λ p. let rest = put-bytes bs (and_right _ _ up) in let put = sum_by-cons bucket_bytes b (put_rows gs rows k bs) in omega arith
      ] refl

  -- the node with more rows at one key
  pub put-cost : (bs : List Bucket) (error full cut : ℕ) → T (is_ascending (map bucket_key bs))
      → node_cost (Keyed (put_rows gs rows k bs) error full cut) + option_map_or bucket_bytes (here bs) 0 ≡ node_cost (Keyed bs error full cut) + bucket_bytes (gathered_bucket gs rows (bucket_or_empty gs k bs))
  put-cost bs error full cut up =
      let before = cost-Keyed bs error full cut in
      let after = cost-Keyed (put_rows gs rows k bs) error full cut in
      let put = put-bytes bs up in
      omega arith
