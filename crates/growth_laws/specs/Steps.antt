-- The trees of a task, root by root (Elasticsearch Reference 8, 'Global aggregation': it counts all documents, whatever the
-- query matches).
use Rattle.std.specs.Prelude.{ℕ, ◌-◌, false, if◌then◌else◌, List, [], ◌∷◌, length, take}
use Rattle.agg_model.specs.declared.aggregation.Agg.{Agg, out-Agg}
use Rattle.agg_model.specs.declared.aggregation.Search.{Search}
use Rattle.agg_model.specs.declared.partial.Node.{Node}
use Rattle.agg_evaluation.specs.Rows.{PlacedRow}
use Rattle.agg_evaluation.specs.Shard.{collected_node}
use Rattle.agg_evaluation.specs.Trace.{global_roots, is_global, matched}
use Rattle.growth_laws.specs.Gathering.{counted, gathered}

-- the tree of an aggregation after so many collected rows
abbrev pub tree_after : Search → List PlacedRow → Agg → ℕ → Node
tree_after search all a n =
    collected_node false all (take (n - length (matched search all)) (global_roots search all)) a (take n (matched search all))

-- one more matched root, which the global aggregations do not collect
abbrev pub with_matched : List PlacedRow → Agg → PlacedRow → Node → Node
with_matched all a root n = if is_global (out-Agg a).kind then n else gathered all a (root ∷ []) n

-- one more root behind the matched ones, which the global aggregations alone collect
abbrev pub with_root : List PlacedRow → Agg → PlacedRow → Node → Node
with_root all a root n = if is_global (out-Agg a).kind then counted all a (root ∷ []) n else n
