-- The trees of a task, root by root.
use Rattle.std.specs.Prelude.{◌≡◌, refl, ℕ, zero, suc, ◌+◌, ◌-◌, Bool, true, false, if◌then◌else◌, not, ◌||◌, T, List, [], ◌∷◌, length, take, slice_get, Some}
use Rattle.std.specs.List.{list_any}
use Rattle.std.proofs.Common.{sym, ◌∙◌, ap, subst, arith}
use Rattle.std.proofs.lemmas.Bool.{false≢true}
use Rattle.std.proofs.lemmas.List.{take_all}
use Rattle.agg_model.specs.declared.aggregation.Agg.{Agg, Agg', out-Agg}
use Rattle.agg_model.specs.declared.aggregation.Search.{Search}
use Rattle.agg_evaluation.proofs.BeginLaws.{collected-begins}
use Rattle.agg_evaluation.proofs.Computing.{computing}
use Rattle.agg_evaluation.specs.Placement.{is_placed}
use Rattle.agg_evaluation.specs.Rows.{PlacedRow, roots}
use Rattle.agg_evaluation.specs.Shard.{collected_node, shard_node}
use Rattle.agg_evaluation.specs.Trace.{global_roots, is_global, matched}
use Rattle.agg_evaluation.specs.Whole.{empty_node}
use Rattle.growth_laws.proofs.Built.{collector-same}
use Rattle.growth_laws.proofs.Cuts.{collected-cut}
use Rattle.growth_laws.proofs.RootSteps.{global-step, matched-step}
use Rattle.growth_laws.specs.Amounts.{row_count}
use Rattle.growth_laws.specs.Cutting.{cut_tree}
use Rattle.growth_laws.specs.Steps.{tree_after, with_matched, with_root}
use Rattle.list_laws.proofs.Booleans.{and_right, both, holds}
use Rattle.list_laws.proofs.Options.{none_some, some_same}
use Rattle.shard_columns.specs.Columns.{Columns}
use Rattle.shard_columns.specs.Made.{IsSearchFor}
use Rattle.collect_tree.proofs.Made.{agg-placed, by-documents, given, one-tree}
use Rattle.collect_tree.specs.Blocks.{before_root, phase_roots}
use Rattle.collect_tree.specs.Phases.{with_one}
use Rattle.collect_tree.specs.declared.phase.Phase.{Phase}
use Rattle.collect_tree.specs.declared.phase.Phase.TheVariants.{Matched, Global}

or_none : (a b : Bool) → (a || b) ≡ false → (a ≡ false) × (b ≡ false)
or_none true b e = absurd (false≢true (sym e))
or_none false b e = (refl, e)

-- what none of a list has
pub none-at : {A : Type 0} (p : A → Bool) (xs : List A) (n : ℕ) (x : A) → list_any p xs ≡ false → slice_get xs n ≡ Some x → p x ≡ false
none-at p [] zero x none e = none_some x e
none-at p [] (suc n) x none e = none_some x e
none-at p (y ∷ xs) zero x none e = ap p (sym (some_same y x e)) ∙ (or_none (p y) (list_any p xs) none).0
none-at p (y ∷ xs) (suc n) x none e = none-at p xs n x (or_none (p y) (list_any p xs) none).1 e

-- an aggregation at the top that is no global one has none below it
local-placed : (a : Agg) → is_global (out-Agg a).kind ≡ false → T (is_placed a true) → T (is_placed a false)
unfolding computing
local-placed (Agg' name k n children) e p = both _ _ (holds _ (ap not e)) (and_right true _ p)

module _ (shard : Columns) (search : Search) (made : IsSearchFor shard search) where
  abbrev all : List PlacedRow
  all = shard.rows

  module _ (i : ℕ) (a : Agg) (there : slice_get search.aggs i ≡ Some a) where
    matched-next : (n : ℕ) (root : PlacedRow) → slice_get (matched search all) n ≡ Some root → tree_after search all a (n + 1) ≡ with_matched all a root (tree_after search all a n)
    matched-next n root e = by-documents shard search made (tree_after search all a (n + 1) ≡ with_matched all a root (tree_after search all a n)) (one-tree _ _) (λ documents is.
        subst (λ rows. slice_get (matched search rows) n ≡ Some root → tree_after search rows a (n + 1) ≡ with_matched rows a root (tree_after search rows a n)) (sym is)
        (matched-step search (given documents) a (holds _ (agg-placed shard search made i a there)) n root) e)

    global-next : (n : ℕ) (root : PlacedRow) → slice_get (global_roots search all) n ≡ Some root
        → tree_after search all a (length (matched search all) + n + 1) ≡ with_root all a root (tree_after search all a (length (matched search all) + n))
    global-next n root e = by-documents shard search made (tree_after search all a (length (matched search all) + n + 1) ≡ with_root all a root (tree_after search all a (length (matched search all) + n))) (one-tree _ _) (λ documents is.
        subst (λ rows. slice_get (global_roots search rows) n ≡ Some root → tree_after search rows a (length (matched search rows) + n + 1) ≡ with_root rows a root (tree_after search rows a (length (matched search rows) + n))) (sym is)
        (global-step search (given documents) a (holds _ (agg-placed shard search made i a there)) n root) e)

    -- one more root of a phase
    pub next-root : (phase : Phase) (first : ℕ) (root : PlacedRow) → slice_get (phase_roots search all phase) first ≡ Some root
        → tree_after search all a (before_root search all phase first + 1) ≡ with_one phase all a root (tree_after search all a (before_root search all phase first))
    next-root Matched first root e = matched-next first root e
    next-root Global first root e = global-next first root e

  -- no root yet
  pub first-tree : (a : Agg) → tree_after search all a 0 ≡ empty_node a
  first-tree a =
      (let none : 0 - length (matched search all) ≡ 0 = omega arith in λ i. collected_node false all (take (none i) (global_roots search all)) a [])
      ∙ collected-begins all a

  -- the tree of all roots
  all-roots : (a : Agg) → tree_after search all a (row_count search all) ≡ collected_node false all (global_roots search all) a (matched search all)
  all-roots a =
      let rest : (row_count search all) - length (matched search all) ≡ length (global_roots search all) = omega arith in
      let globals : take ((row_count search all) - length (matched search all)) (global_roots search all) ≡ global_roots search all = take_all _ (global_roots search all) (omega arith) in
      let rows : take (row_count search all) (matched search all) ≡ matched search all = take_all _ (matched search all) (omega arith) in
      λ i. collected_node false all (globals i) a (rows i)

  -- where there is no global aggregation, it does not matter which roots one would count
  any-globals : (i : ℕ) (a : Agg) → slice_get search.aggs i ≡ Some a → collected_node true all (global_roots search all) a (matched search all) ≡ shard_node all a (matched search all)
  any-globals i a there =
      elim (list_any (λ a. is_global (out-Agg a).kind) search.aggs) as (λ b. list_any (λ a. is_global (out-Agg a).kind) search.aggs ≡ b → collected_node true all (if b then roots all else []) a (matched search all) ≡ shard_node all a (matched search all)) [
        | true ↦ λ e. refl
        | false ↦ λ e. collector-same true all [] (roots all) a (local-placed a (none-at (λ a. is_global (out-Agg a).kind) search.aggs i a e there) (holds _ (agg-placed shard search made i a there))) (matched search all)
      ] refl

  -- all roots, and the cut
  pub last-tree : (i : ℕ) (a : Agg) → slice_get search.aggs i ≡ Some a → cut_tree a (tree_after search all a (row_count search all)) ≡ shard_node all a (matched search all)
  last-tree i a there =
      ap (cut_tree a) (all-roots a) ∙ sym (collected-cut all (global_roots search all) a (matched search all)) ∙ any-globals i a there
