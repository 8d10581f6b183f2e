-- The shards of lists of documents are those of an index.
use Rattle.std.specs.Prelude.{◌≡◌, refl, ℕ, suc, zero, ◌+◌, ◌<◌, ◌≤◌, List, [], ◌∷◌, map, length, slice_index_or, true}
use Rattle.std.specs.List.{list_all}
use Rattle.std.proofs.Common.{sym, ◌∙◌, ap, arith}
use Rattle.std.proofs.lemmas.Bool.{and_parts}
use Rattle.std.proofs.lemmas.List.Sums.{sum_by-cons}
use Rattle.agg_model.specs.declared.limits.TheConstants.{MAX_PATHS, WEIGHT_LIMIT}
use Rattle.agg_model.specs.declared.mapping.Mapping.{Mapping}
use Rattle.agg_model.specs.declared.row.Document.{Document}
use Rattle.agg_model.specs.Contexts.{parents_before}
use Rattle.agg_evaluation.specs.DocumentFits.{all_fit}
use Rattle.agg_evaluation.specs.Rows.{rows_of_documents}
use Rattle.agg_evaluation.specs.RowsWeight.{rows_weight}
use Rattle.shard_columns.specs.Built.{columns_from}
use Rattle.shard_columns.specs.Columns.{Columns}
use Rattle.shard_columns.specs.Index.{AreShardsOf, rows_by_shard, shards_weight, lists_weight}

module _ (m : Mapping) where
  -- the list at each place fits
  pub fits-at : (lists : List (List Document)) (n : ℕ) → list_all (all_fit m) lists ≡ true → all_fit m (slice_index_or lists n []) ≡ true
  fits-at [] n h = refl
  fits-at (l ∷ ls) zero h = (and_parts (all_fit m l) (list_all (all_fit m) ls) h).0
  fits-at (l ∷ ls) (suc n) h = fits-at ls n (and_parts (all_fit m l) (list_all (all_fit m) ls) h).1

  -- and is no heavier than all
  pub light-at : (lists : List (List Document)) (n : ℕ) → rows_weight (rows_of_documents (slice_index_or lists n [])) ≤ lists_weight lists
  light-at [] n = omega arith
  light-at (l ∷ ls) zero = let all = sum_by-cons (λ (documents : List Document). rows_weight (rows_of_documents documents)) l ls in omega (arith, all)
  light-at (l ∷ ls) (suc n) = let all = sum_by-cons (λ (documents : List Document). rows_weight (rows_of_documents documents)) l ls in omega (arith, all, light-at ls n)

  pub are-shards : (lists : List (List Document)) → length m.fields + length m.nested ≤ MAX_PATHS → parents_before m ≡ true → list_all (all_fit m) lists ≡ true → lists_weight lists < WEIGHT_LIMIT → AreShardsOf m (map (columns_from m) lists)
  are-shards [] few paths fit light = tt
  are-shards (l ∷ ls) few paths fit light =
      let all = sum_by-cons (λ (documents : List Document). rows_weight (rows_of_documents documents)) l ls in
      let parts = and_parts (all_fit m l) (list_all (all_fit m) ls) fit in
      (∣ (l, record { few = few; paths = paths; fit = parts.0; light = omega (arith, all, light); columns_are = refl }) ∣₁, are-shards ls few paths parts.1 (omega (arith, all, light)))

  pub weigh-same : (lists : List (List Document)) → shards_weight (map (columns_from m) lists) ≡ lists_weight lists
  weigh-same [] = refl
  weigh-same (l ∷ ls) =
      sum_by-cons (λ (s : Columns). rows_weight s.rows) (columns_from m l) (map (columns_from m) ls)
      ∙ (ap (λ (n : ℕ). rows_weight (rows_of_documents l) + n) (weigh-same ls)
      ∙ sym (sum_by-cons (λ (documents : List Document). rows_weight (rows_of_documents documents)) l ls))

  pub rows-same : (lists : List (List Document)) → rows_by_shard (map (columns_from m) lists) ≡ map rows_of_documents lists
  rows-same [] = refl
  rows-same (l ∷ ls) = ap (λ rs. rows_of_documents l ∷ rs) (rows-same ls)
