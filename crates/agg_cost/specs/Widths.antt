-- Bounds on what a search can hold, from how many values a row has at most of each aggregation's fields of keys: each shard has
-- counted that once, and no path to a row is followed (Elasticsearch Reference 8, 'Circuit breaker settings').
use Rattle.std.specs.Prelude.{◌≡◌, ℕ, ◌*◌, ◌<◌, ◌≤◌, false, List, length, sum_by, Some}
use Rattle.agg_evaluation.specs.Ceiling.{Reached, ceiling, combination_count, handed_on, is_wide_at, node_bound, search_ceiling}
use Rattle.agg_evaluation.specs.Keys.{keys}
use Rattle.agg_evaluation.specs.Rows.{PlacedRow, row_of, values_of}
use Rattle.agg_model.specs.declared.aggregation.Agg.{Agg}
use Rattle.agg_model.specs.declared.aggregation.CompositeSource.{CompositeSource}
use Rattle.agg_model.specs.declared.aggregation.Kind.{Kind}
use Rattle.agg_model.specs.declared.aggregation.Search.{Search}
use Rattle.agg_model.specs.declared.mapping.FieldKind.{FieldKind}
use Rattle.agg_cost.specs.Paths.{over_paths}

-- each row has at most so many values of the field
abbrev pub HasValuesAtMost : ℕ → ℕ → List PlacedRow → Type 0
HasValuesAtMost most field rows = (i : ℕ) → i < length rows → length (values_of field (row_of rows i)) ≤ most

-- each row has at most so many keys at the aggregation
abbrev pub HasKeysAtMost : ℕ → Kind → List PlacedRow → Type 0
HasKeysAtMost most k rows = (i : ℕ) → i < length rows → length (keys rows k (row_of rows i)) ≤ most

-- each row has at most so many combinations of keys
abbrev pub HasCombinationsAtMost : ℕ → List CompositeSource → List PlacedRow → Type 0
HasCombinationsAtMost most sources rows = (i : ℕ) → i < length rows → combination_count sources (row_of rows i) ≤ most

-- no row has more combinations than a composite aggregation may have
abbrev pub IsNarrow : Kind → List PlacedRow → Type 0
IsNarrow k rows = is_wide_at k rows ≡ false

-- whatever each row stands for, the paths come to at most so many times what all rows come to
abbrev pub IsReachedAtMost : ℕ → List PlacedRow → List Reached → Type 0
IsReachedAtMost each rows reached = (amount : PlacedRow → ℕ) → over_paths amount reached ≤ each * sum_by amount rows

-- the aggregation makes at most so many paths to a row of each
abbrev pub HandsOnAtMost : ℕ → List FieldKind → List PlacedRow → Kind → Type 0
HandsOnAtMost most kinds rows k =
    (each : ℕ) (reached : List Reached) → IsReachedAtMost each rows reached → IsReachedAtMost (each * most) rows (handed_on kinds rows k reached)

-- what at most so many nodes of the aggregation and all below them hold, where at most so many paths lead to each row
abbrev pub HoldsAtMost : ℕ → List FieldKind → List PlacedRow → Agg → ℕ → ℕ → Type 0
HoldsAtMost most kinds rows agg nodes each =
    (n : ℕ) (reached : List Reached) → n ≤ nodes → IsReachedAtMost each rows reached → node_bound kinds rows agg n reached ≤ most

-- the task has a ceiling, of at most so much
pub record HasCeilingAtMost (most : ℕ) (kinds : List FieldKind) (search : Search) (rows : List PlacedRow) : Type 0 where
  pub bytes : ℕ
  pub is : ceiling kinds search rows ≡ Some bytes
  pub low : bytes ≤ most

-- the search has a ceiling over all shards, of at most so much
pub record HasSumAtMost (most : ℕ) (kinds : List FieldKind) (search : Search) (shards : List (List PlacedRow)) : Type 0 where
  pub bytes : ℕ
  pub is : search_ceiling kinds search shards ≡ Some bytes
  pub low : bytes ≤ most
