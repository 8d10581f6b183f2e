-- Trees side by side that take the same rows, one after another, and what they cost together.
use Rattle.std.specs.Prelude.{◌≡◌, ◌+◌, ◌<◌, ℕ, List, [], ◌∷◌, length, slice_index, sum_by, take}
use Rattle.agg_model.specs.declared.partial.Node.{Node}
use Rattle.agg_evaluation.specs.Cost.{node_cost}
use Rattle.agg_evaluation.specs.Rows.{PlacedRow}
use Rattle.growth_laws.specs.Gathering.{Gatherer, gathered_children}
use Rattle.growing_tree.specs.GatheredEach.{after_each}

-- trees side by side, with one more row in each
abbrev pub side_by_side : List Gatherer → PlacedRow → List Node → List Node
side_by_side gs row ns = gathered_children gs (row ∷ []) ns

-- what they cost after so many of the rows
abbrev pub side_cost : List Gatherer → List PlacedRow → List Node → ℕ → ℕ
side_cost gs rows ns count = sum_by node_cost (after_each (side_by_side gs) (take count rows) ns)

-- what a cost rises by, place by place
abbrev pub AreCharges : (ℕ → ℕ) → List ℕ → Type 0
AreCharges cost_at xs = (n : ℕ) → n < length xs → slice_index xs n + cost_at n ≡ cost_at (n + 1)
