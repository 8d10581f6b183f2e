-- One more root makes of the trees of a task what the definition says.
use Rattle.std.specs.Prelude.{◌≡◌, refl, ℕ, zero, suc, ◌+◌, ◌-◌, ◌<◌, true, false, not, ◌++◌, T, List, [], ◌∷◌, if◌then◌else◌, length, take, slice_get, Some}
use Rattle.std.specs.List.{list_any}
use Rattle.std.proofs.Common.{sym, ◌∙◌, ap, subst, add-one, arith}
use Rattle.std.proofs.lemmas.List.{take_all}
use Rattle.agg_model.specs.declared.aggregation.Agg.{Agg, Agg', out-Agg}
use Rattle.agg_model.specs.declared.aggregation.Kind.TheVariants as kind
use Rattle.agg_model.specs.declared.aggregation.Search.{Search}
use Rattle.agg_model.specs.declared.row.Row.{Row}
use Rattle.agg_evaluation.specs.Matching.{matches}
use Rattle.agg_evaluation.specs.Placement.{is_placed}
use Rattle.agg_evaluation.specs.Rows.{PlacedRow, roots, shard_rows}
use Rattle.agg_evaluation.specs.Shard.{collected_node}
use Rattle.agg_evaluation.specs.Trace.{global_roots, is_global, matched}
use Rattle.agg_evaluation.proofs.Computing.{computing}
use Rattle.list_laws.proofs.Booleans.{and_right, both, holds}
use Rattle.list_laws.proofs.Options.{none_some, some_same}
use Rattle.growth_laws.specs.Gathering.{counted, gathered}
use Rattle.growth_laws.specs.Steps.{tree_after, with_matched, with_root}
use Rattle.growth_laws.proofs.Built.{collector-same}
use Rattle.growth_laws.proofs.Gathered.{collected-gathers, global-gathers}
use Rattle.growth_laws.proofs.Rising.{Rising, own-document, rising-filter, rising-split, roots-rise}
use Rattle.growth_laws.proofs.ShardRows.{shard-cut}
use Rattle.std.proofs.lemmas.Option.{slice_get_within}

-- one more item of the first ones
take-next : {A : Type 0} (xs : List A) (n : ℕ) (x : A) → slice_get xs n ≡ Some x → take (suc n) xs ≡ take n xs ++ x ∷ []
take-next [] zero x e = none_some x e
take-next [] (suc n) x e = none_some x e
take-next (y ∷ xs) zero x e = ap (λ z. z ∷ []) (some_same y x e)
take-next (y ∷ xs) (suc n) x e = ap (λ ys. y ∷ ys) (take-next xs n x e)

-- an aggregation at the top that is no global one has none below it
local-placed : (a : Agg) → is_global (out-Agg a).kind ≡ false → T (is_placed a true) → T (is_placed a false)
unfolding computing
local-placed (Agg' name k n children) e p = both _ _ (holds _ (ap not e)) (and_right true _ p)

-- a global aggregation does not see what it is handed
global-handed : (all globals : List PlacedRow) (a : Agg) → is_global (out-Agg a).kind ≡ true → (rows more : List PlacedRow) → collected_node false all globals a rows ≡ collected_node false all globals a more
unfolding computing
global-handed all globals (Agg' name kind.Global n children) e rows more = refl
global-handed all globals (Agg' name _ n children) e rows more = absurd (subst T (sym e) tt)

module _ (search : Search) (documents : List (List ℕ × Row)) (a : Agg) (placed : T (is_placed a true)) where
  -- the rows of the shard
  abbrev all : List PlacedRow
  all = shard_rows documents

  -- the matched roots rise
  matched-rise : Rising (matched search all)
  matched-rise = rising-filter (matches all search.query) (roots all) (roots-rise documents)

  -- and so do the roots that a global aggregation counts
  globals-rise : Rising (global_roots search all)
  globals-rise = elim (list_any (λ a. is_global (out-Agg a).kind) search.aggs) as (λ b. Rising (if b then roots all else [])) [ true ↦ roots-rise documents | false ↦ tt ]

  -- one more matched root
  pub matched-step : (n : ℕ) (root : PlacedRow) → slice_get (matched search all) n ≡ Some root → tree_after search all a (n + 1) ≡ with_matched all a root (tree_after search all a n)
  matched-step n root e =
      let few = slice_get_within (matched search all) n root e in
      let none_next : (n + 1) - length (matched search all) ≡ 0 = omega arith in
      let none : n - length (matched search all) ≡ 0 = omega arith in
      let next : take (n + 1) (matched search all) ≡ take n (matched search all) ++ root ∷ [] = ap (λ m. take m (matched search all)) (add-one n) ∙ take-next (matched search all) n root e in
      (λ i. collected_node false all (take (none_next i) (global_roots search all)) a (next i))
      ∙ elim (is_global (out-Agg a).kind) as (λ b. is_global (out-Agg a).kind ≡ b → collected_node false all [] a (take n (matched search all) ++ root ∷ [])
      ≡ (if b then collected_node false all [] a (take n (matched search all)) else gathered all a (root ∷ []) (collected_node false all [] a (take n (matched search all))))) [
        | true ↦ λ g. global-handed all [] a g _ _
        | false ↦ λ g. let split = rising-split (matched search all) n root matched-rise e in
            collected-gathers split.0 all (shard-cut documents split.0) a (local-placed a g placed) (take n (matched search all)) (root ∷ []) split.3 (own-document root split.0 split.1 split.2)
      ] refl
      ∙ (λ i. with_matched all a root (collected_node false all (take (sym none i) (global_roots search all)) a (take n (matched search all))))

  -- one more root behind the matched ones
  pub global-step : (n : ℕ) (root : PlacedRow) → slice_get (global_roots search all) n ≡ Some root
      → tree_after search all a (length (matched search all) + n + 1) ≡ with_root all a root (tree_after search all a (length (matched search all) + n))
  global-step n root e =
      let m = length (matched search all) in
      let left_next : (m + n + 1) - m ≡ suc n = omega arith in
      let left : (m + n) - m ≡ n = omega arith in
      let whole_next : take (m + n + 1) (matched search all) ≡ matched search all = take_all (m + n + 1) (matched search all) (omega arith) in
      let whole : take (m + n) (matched search all) ≡ matched search all = take_all (m + n) (matched search all) (omega arith) in
      let next = take-next (global_roots search all) n root e in
      (λ i. collected_node false all (take (left_next i) (global_roots search all)) a (whole_next i))
      ∙ (λ i. collected_node false all (next i) a (matched search all))
      ∙ elim (is_global (out-Agg a).kind) as (λ b. is_global (out-Agg a).kind ≡ b → collected_node false all (take n (global_roots search all) ++ root ∷ []) a (matched search all)
      ≡ (if b then counted all a (root ∷ []) (collected_node false all (take n (global_roots search all)) a (matched search all)) else collected_node false all (take n (global_roots search all)) a (matched search all))) [
        | true ↦ λ g. let split = rising-split (global_roots search all) n root globals-rise e in
            global-gathers split.0 all (shard-cut documents split.0) a g placed (take n (global_roots search all)) (root ∷ []) (matched search all) split.3 (own-document root split.0 split.1 split.2)
        | false ↦ λ g. collector-same false all _ _ a (local-placed a g placed) (matched search all)
      ] refl
      ∙ (λ i. with_root all a root (collected_node false all (take (sym left i) (global_roots search all)) a (sym whole i)))
