-- Roots that are collected one after another, in blocks, and what each changes (Elasticsearch Reference 8, 'Aggregations').
use Rattle.std.specs.Prelude.{◌≡◌, ℕ, ◌+◌, ◌<◌, All, List, Some, length, slice_get, slice_index}
use Rattle.agg_evaluation.specs.Cost.{cost}
use Rattle.agg_evaluation.specs.Rows.{PlacedRow, row_of}
use Rattle.agg_evaluation.specs.Trace.{built, global_roots, matched}
use Rattle.agg_model.specs.declared.aggregation.Search.{Search}
use Rattle.shard_columns.specs.Columns.{Columns}
use Rattle.collect_tree.specs.declared.phase.Phase.{Phase}
use Rattle.collect_tree.specs.declared.phase.Phase.TheVariants.{Matched, Global}

-- the roots that are collected in a phase
abbrev pub phase_roots : Search → List PlacedRow → Phase → List PlacedRow
phase_roots search all Matched = matched search all
phase_roots search all Global = global_roots search all

-- how many roots are collected before this one of a phase
abbrev pub before_root : Search → List PlacedRow → Phase → ℕ → ℕ
before_root search all Matched first = first
before_root search all Global first = length (matched search all) + first

-- the rows are roots of a phase that follow one another, from this one on
pub record IsBlock (shard : Columns) (search : Search) (phase : Phase) (first : ℕ) (rows : List ℕ) : Type 0 where
  pub in_range : All (λ r. r < length shard.rows) rows
  pub roots : (n : ℕ) → n < length rows → slice_get (phase_roots search shard.rows phase) (first + n) ≡ Some (row_of shard.rows (slice_index rows n))

-- Of each of so many roots there are two numbers, what it adds to a cost and what it takes from it, which rose by what the cost
-- does from its place to the next.
pub record AreChanges (cost_at : ℕ → ℕ) (count : ℕ) (added removed more_added more_removed : List ℕ) : Type 0 where
  pub many_added : length more_added ≡ length added
  pub many_removed : length more_removed ≡ length removed
  pub each : (n : ℕ) → n < count →
      slice_index more_added n + slice_index removed n + cost_at n
      ≡ slice_index added n + slice_index more_removed n + cost_at (n + 1)

-- what the trees cost after each of so many roots, where these were collected before them
pub record AreCosts (search : Search) (all : List PlacedRow) (collected count : ℕ) (costs : List ℕ) : Type 0 where
  pub many : length costs ≡ count
  pub each : (n : ℕ) → n < count → slice_index costs n ≡ cost (built search all (collected + n + 1))
