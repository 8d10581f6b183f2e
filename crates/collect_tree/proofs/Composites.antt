-- Composite aggregations at the top of a search.
use Rattle.std.specs.Prelude.{◌≡◌, refl, ℕ, ◌≤◌, true, false, if◌then◌else◌, nat_lt, List, [], ◌∷◌, length, Some, slice_get}
use Rattle.std.proofs.Common.{ap, arith}
use Rattle.std.proofs.lemmas.Bool.{false≢true}
use Rattle.std.proofs.lemmas.Bool.Decides.{nat_tests}
use Rattle.agg_cost.proofs.Conditions.{countable}
use Rattle.filters_agg.proofs.MadeAggs.{kind-made}
use Rattle.agg_cost.specs.Counters.{IsCountable}
use Rattle.agg_evaluation.proofs.Computing.{computing}
use Rattle.agg_evaluation.specs.Ceiling.{ceiling, ceiling_by, combination_count, greatest_combinations, has_wide_row, is_wide_at}
use Rattle.agg_evaluation.specs.Keys.{keys}
use Rattle.agg_evaluation.specs.Rows.{PlacedRow}
use Rattle.agg_evaluation.specs.Trace.{is_global, matched}
use Rattle.agg_model.specs.declared.aggregation.Agg.{Agg, Agg', out-Agg}
use Rattle.agg_model.specs.declared.aggregation.Kind.{Kind}
use Rattle.agg_model.specs.declared.aggregation.Kind.TheVariants as kind
use Rattle.agg_model.specs.declared.aggregation.Search.{Search}
use Rattle.agg_model.specs.declared.partial.Node.{Node}
use Rattle.composite_agg.specs.FirstPages.{is_composite}
use Rattle.composite_agg.specs.Sources.{IsComposite}
use Rattle.growth_laws.proofs.Combinations.{composite-count}
use Rattle.growth_laws.specs.Gathering.{counted}
use Rattle.growth_laws.specs.Steps.{with_matched, with_root}
use Rattle.list_laws.proofs.Options.{none_some}
use Rattle.shard_columns.specs.Columns.{Columns}
use Rattle.shard_columns.specs.Made.{IsAggFor}
use Rattle.collect_tree.proofs.Trees.{none-at}
use Rattle.collect_tree.specs.Blocks.{phase_roots}
use Rattle.collect_tree.specs.Phases.{HasFewKeys}
use Rattle.collect_tree.specs.declared.phase.Phase.{Phase}
use Rattle.collect_tree.specs.declared.phase.Phase.TheVariants.{Matched, Global}

-- the intervals of a composite that is made for the shard are above 0
pub composite-made : (shard : Columns) (a : Agg) → IsAggFor shard a → is_composite (out-Agg a).kind ≡ true → IsComposite (out-Agg a).kind
composite-made shard a made e = by (out-Agg a).kind e (countable shard (out-Agg a).kind (kind-made shard a made))
  where
    by : (k : Kind) → is_composite k ≡ true → IsCountable shard k → IsComposite k
    by (kind.Composite sources size after) e h = h
    by _ e h = absurd (false≢true e)

-- a matched root is one that a composite counts
pub page-matched : (all : List PlacedRow) (a : Agg) → is_composite (out-Agg a).kind ≡ true → (root : PlacedRow) (n : Node) → with_matched all a root n ≡ counted all a (root ∷ []) n
unfolding computing
page-matched all (Agg' name (kind.Composite sources size after) n children) e root node = refl
page-matched all (Agg' name _ n children) e root node = absurd (false≢true e)

-- and no root counts for it in the other phase
composite-local : (k : Kind) → IsComposite k → is_global k ≡ false
composite-local (kind.Composite sources size after) h = refl
composite-local _ h = absurd h

pub page-global : (all : List PlacedRow) (a : Agg) → IsComposite (out-Agg a).kind → (root : PlacedRow) (n : Node) → with_root all a root n ≡ n
page-global all a h root n = ap (λ b. if b then counted all a (root ∷ []) n else n) (composite-local (out-Agg a).kind h)

module _ (shard : Columns) (search : Search) (bound : ℕ) (is : ceiling shard.kinds search shard.rows ≡ Some bound) where
  abbrev all : List PlacedRow
  all = shard.rows

  -- where a task has a ceiling, no matched root has too many combinations of keys
  no-wide : has_wide_row search all ≡ false
  no-wide =
      elim (has_wide_row search all) as (λ b. ceiling_by b shard.kinds search all ≡ Some bound → b ≡ false) [ true ↦ λ e. none_some bound e | false ↦ λ e. refl ] is

  -- so each has few at a composite
  few-at : (k : Kind) (rows : List PlacedRow) (n : ℕ) (root : PlacedRow) → is_composite k ≡ true → is_wide_at k rows ≡ false → slice_get rows n ≡ Some root → length (keys all k root) ≤ greatest_combinations
  few-at (kind.Composite sources size after) rows n root e narrow here =
      let count = composite-count sources root in
      let low = none-at (λ row. nat_lt greatest_combinations (combination_count sources row)) rows n root narrow here in
      grind (arith, nat_tests)
  few-at _ rows n root e narrow here = absurd (false≢true e)

  pub few-keys : (i : ℕ) (a : Agg) (phase : Phase) (first : ℕ) (root : PlacedRow) → slice_get search.aggs i ≡ Some a → slice_get (phase_roots search all phase) first ≡ Some root → HasFewKeys phase all a root
  few-keys i a Matched first root there here = λ e. few-at (out-Agg a).kind (matched search all) first root e (none-at (λ b. is_wide_at (out-Agg b).kind (matched search all)) search.aggs i a no-wide there) here
  few-keys i a Global first root there here = tt
