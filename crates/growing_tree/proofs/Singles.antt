-- Rows that all have the one key of an aggregation.
use Rattle.std.specs.Prelude.{◌≡◌, refl, List, [], ◌∷◌, ◌++◌, filter, flat_map, IsTrue, cond}
use Rattle.std.proofs.Common.{◌∙◌, ap}
use Rattle.std.proofs.lemmas.Bool.{false≢true}
use Rattle.agg_model.specs.declared.aggregation.Kind.{Kind}
use Rattle.agg_model.specs.declared.aggregation.Kind.TheVariants as kind
use Rattle.agg_model.specs.declared.key.Key.{Key}
use Rattle.agg_model.specs.declared.key.Key.TheVariants as key
use Rattle.agg_model.specs.declared.partial.Bucket.{Bucket}
use Rattle.agg_evaluation.specs.Groups.{group}
use Rattle.agg_evaluation.specs.KeyOrder.{has_key, key_cmp}
use Rattle.agg_evaluation.specs.Keys.{distinct_keys, keys}
use Rattle.agg_evaluation.specs.Rows.{PlacedRow}
use Rattle.agg_evaluation.proofs.Computing.{computing}
use Rattle.list_laws.specs.Sorting.{insert_once}
use Rattle.growth_laws.specs.Gathering.{Gatherer, gathered_buckets, put_groups, put_rows}
use Rattle.growing_tree.specs.Readiness.{has_single_key}

abbrev one : List Key
one = key.Fixed 0 ∷ []

module _ (keys_of : PlacedRow → List Key) (same : (row : PlacedRow) → keys_of row ≡ one) where
  keys-are : (row : PlacedRow) (rows : List PlacedRow) → distinct_keys (flat_map keys_of (row ∷ rows)) ≡ one
  unfolding computing
  keys-are row [] = ap (λ ks. distinct_keys (ks ++ [])) (same row)
  keys-are row (next ∷ rows) = ap (λ ks. distinct_keys (ks ++ flat_map keys_of (next ∷ rows))) (same row) ∙ ap (insert_once key_cmp (key.Fixed 0)) (keys-are next rows)

  rows-are : (rows : List PlacedRow) → filter (λ row. has_key (key.Fixed 0) (keys_of row)) rows ≡ rows
  unfolding computing
  rows-are [] = refl
  rows-are (row ∷ rows) = (λ i. cond (has_key (key.Fixed 0) (same row i)) (row ∷ filter (λ row. has_key (key.Fixed 0) (keys_of row)) rows) (filter (λ row. has_key (key.Fixed 0) (keys_of row)) rows)) ∙ ap (λ rs. row ∷ rs) (rows-are rows)

-- they go into the one bucket together
pub single-gathered : (all : List PlacedRow) (gs : List Gatherer) (k : Kind) (row : PlacedRow) (rows : List PlacedRow) (bs : List Bucket) → IsTrue (has_single_key k)
    → gathered_buckets all gs k (row ∷ rows) bs ≡ put_rows gs (row ∷ rows) (key.Fixed 0) bs
single-gathered all gs kind.Global row rows bs h =
    ap (λ ks. put_groups (group all kind.Global (row ∷ rows)) gs kind.Global ks bs) (keys-are (keys all kind.Global) (λ r. refl) row rows)
    ∙ ap (λ rs. put_rows gs rs (key.Fixed 0) bs) (rows-are (keys all kind.Global) (λ r. refl) (row ∷ rows))
single-gathered all gs (kind.Nested c) row rows bs h =
    ap (λ ks. put_groups (group all (kind.Nested c) (row ∷ rows)) gs (kind.Nested c) ks bs) (keys-are (keys all (kind.Nested c)) (λ r. refl) row rows)
    ∙ ap (λ rs. put_rows gs rs (key.Fixed 0) bs) (rows-are (keys all (kind.Nested c)) (λ r. refl) (row ∷ rows))
single-gathered all gs (kind.ReverseNested c) row rows bs h =
    ap (λ ks. put_groups (group all (kind.ReverseNested c) (row ∷ rows)) gs (kind.ReverseNested c) ks bs) (keys-are (keys all (kind.ReverseNested c)) (λ r. refl) row rows)
    ∙ ap (λ rs. put_rows gs rs (key.Fixed 0) bs) (rows-are (keys all (kind.ReverseNested c)) (λ r. refl) (row ∷ rows))
single-gathered all gs _ row rows bs h = absurd (false≢true h)
