-- The two phases in which a task collects roots (Elasticsearch Reference 8, 'Global aggregation').
use Rattle.std.specs.Prelude.{◌≡◌, ℕ, ◌+◌, ◌≤◌, true, List, filter, length, take}
use Rattle.agg_model.specs.declared.aggregation.Agg.{Agg, out-Agg}
use Rattle.agg_model.specs.declared.aggregation.Search.{Search}
use Rattle.agg_model.specs.declared.partial.Node.{Node}
use Rattle.agg_evaluation.specs.Ceiling.{greatest_combinations}
use Rattle.agg_evaluation.specs.Keys.{keys}
use Rattle.agg_evaluation.specs.Matching.{matches}
use Rattle.agg_evaluation.specs.Rows.{PlacedRow, roots}
use Rattle.agg_evaluation.specs.Trace.{matched}
use Rattle.composite_agg.specs.FirstPages.{is_composite}
use Rattle.growth_laws.specs.Steps.{with_matched, with_root}
use Rattle.collect_tree.specs.declared.phase.Phase.{Phase}
use Rattle.collect_tree.specs.declared.phase.Phase.TheVariants.{Matched, Global}

-- one more root that is collected in a phase
abbrev pub with_one : Phase → List PlacedRow → Agg → PlacedRow → Node → Node
with_one Matched all a root n = with_matched all a root n
with_one Global all a root n = with_root all a root n

-- how many roots are collected before the one at this place
abbrev pub collected_before : Search → List PlacedRow → Phase → ℕ → ℕ
collected_before search all Matched place = length (filter (matches all search.query) (take place (roots all)))
collected_before search all Global place = length (matched search all) + place

-- where a composite aggregation collects the root, it has at most so many combinations of keys
abbrev pub HasFewKeys : Phase → List PlacedRow → Agg → PlacedRow → Type 0
HasFewKeys Matched all a root = is_composite (out-Agg a).kind ≡ true → length (keys all (out-Agg a).kind root) ≤ greatest_combinations
HasFewKeys Global all a root = Unit {0}
