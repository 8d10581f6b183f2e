-- A task stays below its ceiling, and a ceiling is a number of 64 bits.
use Rattle.std.specs.Prelude.{◌≡◌, refl, ℕ, ◌+◌, ◌-◌, ◌*◌, ◌^◌, ◌<◌, ◌≤◌, true, false, if◌then◌else◌, min, nat_lt, List, Some, None, map, sum_by}
use Rattle.std.proofs.Common.{ap, arith}
use Rattle.std.proofs.lemmas.Bool.Decides.{nat_tests}
use Rattle.agg_model.specs.declared.aggregation.Search.{Search}
use Rattle.agg_model.specs.declared.mapping.FieldKind.{FieldKind}
use Rattle.agg_evaluation.proofs.BeginLaws.{built-begins}
use Rattle.agg_evaluation.proofs.MadeSearches.{made_globals}
use Rattle.agg_evaluation.specs.Ceiling.{ceiling, ceiling_by, has_wide_row, task_bound}
use Rattle.agg_evaluation.specs.Cost.{cost, node_cost}
use Rattle.agg_evaluation.specs.Rows.{PlacedRow}
use Rattle.agg_evaluation.specs.Shard.{shard_answer}
use Rattle.agg_evaluation.specs.Trace.{built}
use Rattle.agg_evaluation.specs.Whole.{empty_node}
use Rattle.evaluation_laws.proofs.TaskLaws.{twice-cost}
use Rattle.growth_laws.proofs.Halves.{twice-tree}
use Rattle.list_laws.proofs.Booleans.{holds}
use Rattle.list_laws.proofs.Options.{none_some, some_same}
use Rattle.shard_columns.specs.Columns.{Columns}
use Rattle.shard_columns.specs.Made.{IsSearchFor}
use Rattle.collect_tree.proofs.Made.{is-made}

-- a ceiling that is there is at most 2 ^ 50
pub ceiling-low : (kinds : List FieldKind) (search : Search) (all : List PlacedRow) (bound : ℕ) → ceiling kinds search all ≡ Some bound → bound ≤ 1125899906842624
ceiling-low kinds s all bound e =
    elim (has_wide_row s all) as (λ b. ceiling_by b kinds s all ≡ Some bound → bound ≤ 1125899906842624) [
      | true ↦ λ e. none_some bound e
      | false ↦ λ e. low (task_bound kinds s all) e
    ] e
  where
    low : (n : ℕ) → (if nat_lt 1125899906842624 n then None else Some n) ≡ Some bound → bound ≤ 1125899906842624
    low n e =
        elim (nat_lt 1125899906842624 n) as (λ b. nat_lt 1125899906842624 n ≡ b → (if b then None else Some n) ≡ Some bound → bound ≤ 1125899906842624) [
          | true ↦ λ above e. none_some bound e
          | false ↦ λ above e. let same = some_same n bound e in grind (arith, nat_tests)
        ] refl e

module _ (shard : Columns) (search : Search) (made : IsSearchFor shard search) (bound : ℕ) (is : ceiling shard.kinds search shard.rows ≡ Some bound) where
  -- the trees of n roots, with the overhead
  pub tree-room : (n : ℕ) → 2 * (4096 + cost (built search shard.rows n)) ≤ bound
  tree-room n = twice-tree shard.kinds search shard.rows bound n (holds _ (made_globals search (is-made shard search made))) is

  pub answer-room : 2 * cost (shard_answer search shard.rows) ≤ bound
  answer-room = twice-cost shard.kinds search shard.rows bound (holds _ (made_globals search (is-made shard search made))) is

  pub low : bound ≤ 1125899906842624
  low = ceiling-low shard.kinds search shard.rows bound is

  -- what the empty trees cost
  pub empty-low : sum_by node_cost (map empty_node search.aggs) < 18446744073709551616
  empty-low =
      let same = ap (sum_by node_cost) (built-begins search shard.rows) in
      let tree = tree-room 0 in
      let top = low in
      omega arith

  -- they fit in 64 bits
  pub empty-exact : (bytes : ℕ) → bytes ≡ min (sum_by node_cost (map empty_node search.aggs)) (2 ^ 64 - 1) → bytes ≡ cost (built search shard.rows 0)
  empty-exact bytes is =
      let same = ap (sum_by node_cost) (built-begins search shard.rows) in
      let less = empty-low in
      omega (arith, is, same, less)
