-- Rows that go into a tree one after another, each alone, and by how much its cost rises at each (Elasticsearch Reference 8,
-- 'Bucket aggregations').
use Rattle.std.specs.Prelude.{◌≡◌, ℕ, ◌+◌, ◌<◌, List, [], ◌∷◌, fold, length, slice_index, sum_by, take}
use Rattle.agg_model.specs.declared.aggregation.Agg.{Agg}
use Rattle.agg_model.specs.declared.aggregation.Kind.{Kind}
use Rattle.agg_model.specs.declared.partial.Bucket.{Bucket}
use Rattle.agg_model.specs.declared.partial.Node.{Node}
use Rattle.agg_evaluation.specs.Cost.{node_cost}
use Rattle.agg_evaluation.specs.Keys.{keys}
use Rattle.agg_evaluation.specs.Rows.{PlacedRow}
use Rattle.evaluation_laws.proofs.CostLaws.{bytes}
use Rattle.growth_laws.specs.Gathering.{Gatherer, counted, gathered}
use Rattle.growing_tree.specs.Shown.{put_all}

-- what is after a step for each of the rows
abbrev pub after_each : {A : Type 0} → (PlacedRow → A → A) → List PlacedRow → A → A
after_each step rows x = fold (λ y row. step row y) x rows

-- what the tree costs after so many of the rows
abbrev pub cost_after : (PlacedRow → Node → Node) → List PlacedRow → Node → ℕ → ℕ
cost_after step rows n count = node_cost (after_each step (take count rows) n)

-- what the buckets cost after so many of the rows
abbrev pub bytes_after : (PlacedRow → List Bucket → List Bucket) → List PlacedRow → List Bucket → ℕ → ℕ
bytes_after step rows bs count = sum_by bytes (after_each step (take count rows) bs)

-- the tree with one more row that the aggregation is handed
abbrev pub gathered_one : List PlacedRow → Agg → PlacedRow → Node → Node
gathered_one all a row n = gathered all a (row ∷ []) n

-- the tree with one more row that the aggregation counts
abbrev pub counted_one : List PlacedRow → Agg → PlacedRow → Node → Node
counted_one all a row n = counted all a (row ∷ []) n

-- the buckets with one more row at its own keys
abbrev pub put_at_keys : List PlacedRow → List Gatherer → Kind → PlacedRow → List Bucket → List Bucket
put_at_keys all gs k row bs = put_all (λ q. row ∷ []) gs (keys all k row) bs

-- each of so many numbers rose by as much as a cost does from its place to the next
pub record AreRises (cost_at : ℕ → ℕ) (count : ℕ) (old new : List ℕ) : Type 0 where
  pub many : length new ≡ length old
  pub each : (n : ℕ) → n < count → slice_index new n + cost_at n ≡ slice_index old n + cost_at (n + 1)
