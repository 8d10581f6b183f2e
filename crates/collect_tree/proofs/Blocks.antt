-- Trees that grow by a block of roots.
use Rattle.std.specs.Prelude.{◌≡◌, refl, ℕ, zero, suc, ◌+◌, ◌<◌, ◌≤◌, Bool, true, false, if◌then◌else◌, List, [], ◌∷◌, length, map, slice_get, sum_by, take, Some}
use Rattle.std.proofs.Common.{sym, ◌∙◌, ap, subst, arith, add-one}
use Rattle.std.proofs.Math.ListN.{get_or}
use Rattle.std.proofs.lemmas.List.Sums.{sum_by-cons}
use Rattle.agg_model.specs.declared.aggregation.Agg.{Agg, out-Agg}
use Rattle.agg_model.specs.declared.aggregation.Search.{Search}
use Rattle.agg_model.specs.declared.partial.Node.{Node}
use Rattle.agg_evaluation.specs.Cost.{cost, node_cost}
use Rattle.agg_evaluation.specs.Rows.{PlacedRow, row_of}
use Rattle.agg_evaluation.specs.Trace.{built, is_global}
use Rattle.growing_tree.proofs.Each.{after-all, after-next}
use Rattle.growing_tree.specs.GatheredEach.{after_each, cost_after, counted_one, gathered_one}
use Rattle.growth_laws.specs.Gathering.{counted, gathered}
use Rattle.growth_laws.specs.Steps.{tree_after}
use Rattle.shard_columns.specs.Columns.{Columns}
use Rattle.shard_columns.specs.Made.{IsSearchFor}
use Rattle.collect_tree.specs.Blocks.{IsBlock, before_root}
use Rattle.collect_tree.specs.Phases.{with_one}
use Rattle.collect_tree.specs.declared.phase.Phase.{Phase}
use Rattle.collect_tree.specs.declared.phase.Phase.TheVariants.{Matched, Global}
use Rattle.collect_tree.proofs.Trees.{next-root}

-- steps that change nothing
pub each-same : {A : Type 0} (step : PlacedRow → A → A) → ((row : PlacedRow) (x : A) → step row x ≡ x) → (rows : List PlacedRow) (x : A) → after_each step rows x ≡ x
each-same step h [] x = refl
each-same step h (row ∷ rows) x = ap (after_each step rows) (h row x) ∙ each-same step h rows x

module _ (all : List PlacedRow) (a : Agg) (phase : Phase) where
  -- the matched roots are for aggregations that are no global ones
  pub matched-gathers : phase ≡ Matched → is_global (out-Agg a).kind ≡ false → with_one phase all a ≡ gathered_one all a
  matched-gathers is local =
      ap (λ (p : Phase). with_one p all a) is
      ∙ ap (λ (b : Bool). λ (root : PlacedRow) (n : Node). if b then n else gathered all a (root ∷ []) n) local

  pub matched-skips : phase ≡ Matched → is_global (out-Agg a).kind ≡ true → (rows : List PlacedRow) (n : Node) → after_each (with_one phase all a) rows n ≡ n
  matched-skips is global rows n =
      ap (λ (p : Phase). after_each (with_one p all a) rows n) is
      ∙ each-same (with_one Matched all a) (λ root m. ap (λ (b : Bool). if b then m else gathered all a (root ∷ []) m) global) rows n

  -- those behind them are for the global ones alone
  pub global-counts : phase ≡ Global → is_global (out-Agg a).kind ≡ true → with_one phase all a ≡ counted_one all a
  global-counts is global =
      ap (λ (p : Phase). with_one p all a) is
      ∙ ap (λ (b : Bool). λ (root : PlacedRow) (n : Node). if b then counted all a (root ∷ []) n else n) global

  pub global-skips : phase ≡ Global → is_global (out-Agg a).kind ≡ false → (rows : List PlacedRow) (n : Node) → after_each (with_one phase all a) rows n ≡ n
  global-skips is local rows n =
      ap (λ (p : Phase). after_each (with_one p all a) rows n) is
      ∙ each-same (with_one Global all a) (λ root m. ap (λ (b : Bool). if b then counted all a (root ∷ []) m else m) local) rows n

-- how many roots are collected before a later one
pub before-more : (search : Search) (all : List PlacedRow) (phase : Phase) (first n : ℕ) → before_root search all phase (first + n) ≡ before_root search all phase first + n
before-more search all Matched first n = refl
before-more search all Global first n = omega arith

module _ (shard : Columns) (search : Search) (made : IsSearchFor shard search) (phase : Phase) (first : ℕ) (rows : List ℕ) (block : IsBlock shard search phase first rows) where
  abbrev before : ℕ
  before = before_root search shard.rows phase first

  abbrev block_roots : List PlacedRow
  block_roots = map (row_of shard.rows) rows

  module _ (i : ℕ) (a : Agg) (there : slice_get search.aggs i ≡ Some a) where
    step-next : (n : ℕ) → n < length rows
        → tree_after search shard.rows a (before + n + 1) ≡ with_one phase shard.rows a (row_of shard.rows (get_or rows n 0)) (tree_after search shard.rows a (before + n))
    step-next n below =
        subst (λ b. tree_after search shard.rows a (b + 1) ≡ with_one phase shard.rows a (row_of shard.rows (get_or rows n 0)) (tree_after search shard.rows a b)) (before-more search shard.rows phase first n)
        (next-root shard search made i a there phase (first + n) (row_of shard.rows (get_or rows n 0)) (block.roots n below))

    -- the tree with so many of the roots
    pub block-tree : (n : ℕ) → n ≤ length rows → after_each (with_one phase shard.rows a) (take n block_roots) (tree_after search shard.rows a before) ≡ tree_after search shard.rows a (before + n)
    block-tree zero few = ap (tree_after search shard.rows a) (let none : before ≡ before + 0 = omega arith in none)
    block-tree (suc n) few =
        let start = tree_after search shard.rows a before in
        let step : PlacedRow → Node → Node = with_one phase shard.rows a in
        let below : n < length rows = omega arith in
        let next : before + n + 1 ≡ before + suc n = omega arith in
        ap (λ m. after_each step (take m block_roots) start) (sym (add-one n))
        ∙ after-next step (row_of shard.rows) rows n start below
        ∙ ap (step (row_of shard.rows (get_or rows n 0))) (block-tree n (omega arith))
        ∙ sym (step-next n below) ∙ ap (tree_after search shard.rows a) next

    -- with all of them
    pub whole-block : after_each (with_one phase shard.rows a) block_roots (tree_after search shard.rows a before) ≡ tree_after search shard.rows a (before + length rows)
    whole-block =
        sym (after-all (with_one phase shard.rows a) (row_of shard.rows) rows (length rows) (tree_after search shard.rows a before) (omega arith)) ∙ block-tree (length rows) (omega arith)

-- a sum over aggregations, by the cost of a tree of each
sum-nodes : (f : Agg → ℕ) (tree_of : Agg → Node) (aggs : List Agg) → ((i : ℕ) (a : Agg) → slice_get aggs i ≡ Some a → f a ≡ node_cost (tree_of a)) → sum_by f aggs ≡ sum_by node_cost (map tree_of aggs)
sum-nodes f tree_of [] h = refl
sum-nodes f tree_of (a ∷ aggs) h =
    let here = h 0 a refl in
    let rest = sum-nodes f tree_of aggs (λ i b there. h (suc i) b there) in
    let left = sum_by-cons f a aggs in
    let right = sum_by-cons node_cost (tree_of a) (map tree_of aggs) in
    omega arith

-- what the trees cost together with so many of the roots
pub block-cost : (shard : Columns) (search : Search) (made : IsSearchFor shard search) (phase : Phase) (first : ℕ) (rows : List ℕ) (block : IsBlock shard search phase first rows) (n : ℕ) → n ≤ length rows
    → sum_by (λ a. cost_after (with_one phase shard.rows a) (map (row_of shard.rows) rows) (tree_after search shard.rows a (before_root search shard.rows phase first)) n) search.aggs
    ≡ cost (built search shard.rows (before_root search shard.rows phase first + n))
block-cost shard search made phase first rows block n few =
    sum-nodes (λ a. cost_after (with_one phase shard.rows a) (map (row_of shard.rows) rows) (tree_after search shard.rows a (before_root search shard.rows phase first)) n)
    (λ a. tree_after search shard.rows a (before_root search shard.rows phase first + n)) search.aggs
    (λ i a there. ap node_cost (block-tree shard search made phase first rows block i a there n few))
