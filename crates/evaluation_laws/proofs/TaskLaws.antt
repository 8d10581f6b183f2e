-- What a task holds, and what its answer costs, is at most half its ceiling.
use Rattle.std.specs.Prelude.{◌≡◌, refl, ℕ, zero, suc, ◌+◌, ◌*◌, ◌-◌, ◌≤◌, ◌==◌, ℤ, pos, ◌+ℤ◌, ◌-ℤ◌, ◌*ℤ◌, ◌≤ℤ◌, Bool, true, false, cond, not, nat_lt, if◌then◌else◌, T, List, [], ◌∷◌, map, filter, take, sum, sum_by, length, Some, None}
use Rattle.std.specs.List.{list_all, list_any, range_with_len}
use Rattle.std.specs.Int.{int_max}
use Rattle.std.specs.Ordering.{int_eq}
use Rattle.std.proofs.Common.{sym, ◌∙◌, subst, arith}
use Rattle.std.proofs.lemmas.Int.{ints, clamps}
use Rattle.std.proofs.lemmas.List.Sums.{sum_by-cons}
use Rattle.agg_model.specs.declared.mapping.FieldKind.{FieldKind}
use Rattle.agg_model.specs.declared.aggregation.Agg.{Agg, Agg', out-Agg}
use Rattle.agg_model.specs.declared.aggregation.Kind.{Kind}
use Rattle.agg_model.specs.declared.aggregation.Search.{Search}
use Rattle.agg_evaluation.specs.Folds.{fold_aggs}
use Rattle.agg_evaluation.specs.Rows.{PlacedRow, roots}
use Rattle.agg_evaluation.specs.Matching.{matches, matched_roots}
use Rattle.agg_evaluation.specs.Groups.{under}
use Rattle.agg_evaluation.specs.Shard.{int_sum, node_of, collector_of, collected_node, shard_answer}
use Rattle.agg_evaluation.specs.Cost.{cost, node_cost}
use Rattle.agg_evaluation.specs.Trace.{is_global, matched, global_roots, built, built_costs, differences, task_overhead, trace, sum_before, greatest_from, peak}
use Rattle.agg_evaluation.specs.Placement.{is_placed, has_globals_at_top}
use Rattle.agg_evaluation.specs.Ceiling.{Reached, counted_from, node_bound, collected_roots, task_bound, has_wide_row, greatest_ceiling, ceiling_by, ceiling}
use Rattle.agg_evaluation.proofs.Computing.{computing}
use Rattle.list_laws.proofs.Booleans.{and_left, and_right, both}
use Rattle.list_laws.proofs.Lists.{sum_by-map}
use Rattle.list_laws.proofs.Sums.{sum_by-take}
use Rattle.evaluation_laws.proofs.KeyBounds.{Each, each-filter, each-take, each-map, each-all, Known, known-all}
use Rattle.evaluation_laws.proofs.CoverLaws.{Covers, over_paths, over_paths-counted}
use Rattle.evaluation_laws.proofs.BoundLaws.{collected-bounded, counted-bounded, each-bounded, global-under}
use Rattle.list_laws.proofs.Options.{none_some, some_same}
use Rattle.evaluation_laws.proofs.TraceLaws.{no_amount, sum-none}

kind_of : (name : List ℕ) (k : Kind) (n : _) (children : _) → (out-Agg (Agg' name k n children)).kind ≡ k
unfolding computing
kind_of name k n children = refl

module _ (kinds : List FieldKind) (all : List PlacedRow) where
  -- each row by one path
  abbrev once : List PlacedRow → List Reached
  once rows = map (λ row. (row, 1)) rows

  over_once : (f : PlacedRow → ℕ) (rows : List PlacedRow) → over_paths f (once rows) ≡ sum_by f rows
  over_once f rows = sum_by-map (λ (r : Reached). r.1 * f r.0) (λ row. (row, 1)) rows ∙ (λ i. sum_by (λ row. (let e : 1 * f row ≡ f row = omega arith in e) i) rows)

  local-bounded : (trims : Bool) (globals : List PlacedRow) (a : Agg) → T (is_placed a false) → (rows given : List PlacedRow) → ((f : PlacedRow → ℕ) → sum_by f rows ≤ sum_by f given) → Each (Known all) rows
      → node_cost (collected_node trims all globals a rows) ≤ node_bound kinds all a 1 (once given)
  local-bounded trims globals a placed rows given within known =
      let covers : Covers (rows ∷ []) (once given) = (λ f. let one = sum_by-cons (λ g. sum_by f g) rows [] in let here = within f in let there = over_once f given in omega arith) in
      let whole = collected-bounded kinds all trims globals a placed 1 (rows ∷ []) (once given) (let e : 1 ≤ 1 = omega arith in e) covers (known, tt) in
      let one = sum_by-cons (λ g. node_cost (collected_node trims all globals a g)) rows [] in
      omega arith

  global-bounded : (trims : Bool) (globals : List PlacedRow) (name : List ℕ) (k : Kind) (n : _) (children : _) → is_global k ≡ true → T (is_placed (Agg' name k n children) true) → (rows given : List PlacedRow)
      → ((f : PlacedRow → ℕ) → sum_by f globals ≤ sum_by f given) → Each (Known all) globals
      → node_cost (collected_node trims all globals (Agg' name k n children) rows) ≤ node_bound kinds all (Agg' name k n children) 1 (once given)
  global-bounded trims globals name k n children is placed rows given within known =
      let cs = fold_aggs (collector_of trims all globals) children in
      let covers : Covers (globals ∷ []) (counted_from kinds all k (once given)) = (λ f.
      let one = sum_by-cons (λ g. sum_by f g) globals [] in
      let here = within f in
      let paths = over_paths-counted all kinds k f (once given) in
      let steps : over_paths (λ r. sum_by f (under all (r ∷ []) k (r ∷ []))) (once given) ≡ over_paths (λ r. sum_by f (r ∷ [])) (once given) = (λ i. over_paths (λ r. sum_by f (global-under kinds all k is (r ∷ []) (r ∷ []) i)) (once given)) in
      let same : over_paths (λ r. sum_by f (r ∷ [])) (once given) ≡ over_paths f (once given) = (λ i. over_paths (λ r. (let e : sum_by f (r ∷ []) ≡ f r = omega arith in e) i) (once given)) in
      let there = over_once f given in
      omega arith) in
      let counted = counted-bounded kinds all trims globals cs _ (each-bounded kinds all trims globals children placed) k 1 (globals ∷ []) (counted_from kinds all k (once given)) (let e : 1 ≤ 1 = omega arith in e) covers (known, tt) in
      let one = sum_by-cons (λ g. node_cost (node_of trims all globals cs k g)) globals [] in
      subst (λ g. node_cost (node_of trims all globals cs k g) ≤ node_bound kinds all (Agg' name k n children) 1 (once given)) (sym (global-under kinds all k is globals rows)) (omega arith)

  top-bounded : (trims : Bool) (globals : List PlacedRow) (a : Agg) → T (is_placed a true) → (rows matched : List PlacedRow) → ((f : PlacedRow → ℕ) → sum_by f rows ≤ sum_by f matched) → Each (Known all) rows
      → ((f : PlacedRow → ℕ) → sum_by f globals ≤ sum_by f (roots all)) → Each (Known all) globals
      → node_cost (collected_node trims all globals a rows) ≤ node_bound kinds all a 1 (once (if is_global (out-Agg a).kind then roots all else matched))
  top-bounded trims globals (Agg' name k n children) placed rows matched within known within_roots known_globals =
      let a = Agg' name k n children in
      subst (λ k'. node_cost (collected_node trims all globals a rows) ≤ node_bound kinds all a 1 (once (if is_global k' then roots all else matched))) (sym (kind_of name k n children))
      (elim (is_global k) as (λ b. is_global k ≡ b → node_cost (collected_node trims all globals a rows) ≤ node_bound kinds all a 1 (once (if b then roots all else matched))) [
        | true ↦ λ e. global-bounded trims globals name k n children e placed rows (roots all) within_roots known_globals
        | false ↦ λ e. local-bounded trims globals a (both _ _ (subst (λ b. T (not b)) (sym e) tt) placed) rows matched within known
      ] refl)

module _ (kinds : List FieldKind) (search : Search) (all : List PlacedRow) (placed : T (has_globals_at_top search)) where
  -- the bytes of a tree, as the ceiling counts them
  abbrev pub tree_bound : ℕ
  tree_bound = sum (map (λ a. node_bound kinds all a 1 (collected_roots search all (out-Agg a).kind)) search.aggs)

  known-roots : Each (Known all) (roots all)
  known-roots = each-filter (Known all) (λ r. r.context == 0) all (known-all all)

  known-matched : Each (Known all) (matched_roots all search.query)
  known-matched = each-filter (Known all) (matches all search.query) (roots all) known-roots

  nodes-bounded : (trims : Bool) (globals rows : List PlacedRow) → ((f : PlacedRow → ℕ) → sum_by f rows ≤ sum_by f (matched_roots all search.query)) → Each (Known all) rows
      → ((f : PlacedRow → ℕ) → sum_by f globals ≤ sum_by f (roots all)) → Each (Known all) globals
      → sum_by node_cost (map (λ a. collected_node trims all globals a rows) search.aggs) ≤ tree_bound
  nodes-bounded trims globals rows within known within_roots known_globals = each search.aggs placed
    where
      each : (aggs : List Agg) → T (list_all (λ a. is_placed a true) aggs) → sum_by node_cost (map (λ a. collected_node trims all globals a rows) aggs)
          ≤ sum (map (λ a. node_bound kinds all a 1 (collected_roots search all (out-Agg a).kind)) aggs)
      each [] h = omega arith
      each (a ∷ aggs) h =
          let whole = sum_by-cons node_cost (collected_node trims all globals a rows) (map (λ a. collected_node trims all globals a rows) aggs) in
          let bound = sum_by-cons (λ n. n) (node_bound kinds all a 1 (collected_roots search all (out-Agg a).kind)) (map (λ a. node_bound kinds all a 1 (collected_roots search all (out-Agg a).kind)) aggs) in
          let first = top-bounded kinds all trims globals a (and_left _ _ h) rows (matched_roots all search.query) within known within_roots known_globals in
          let rest = each aggs (and_right _ _ h) in
          omega arith

  globals-within : (n : ℕ) (f : PlacedRow → ℕ) → sum_by f (take n (global_roots search all)) ≤ sum_by f (roots all)
  globals-within n f =
      elim (list_any (λ a. is_global (out-Agg a).kind) search.aggs) as (λ b. sum_by f (take n (if b then roots all else [])) ≤ sum_by f (roots all)) [
        | true ↦ sum_by-take f n (roots all)
        | false ↦ let cut = sum_by-take f n [] in omega arith
      ]

  known-globals : (n : ℕ) → Each (Known all) (take n (global_roots search all))
  known-globals n =
      elim (list_any (λ a. is_global (out-Agg a).kind) search.aggs) as (λ b. Each (Known all) (take n (if b then roots all else []))) [
        | true ↦ each-take (Known all) n (roots all) known-roots
        | false ↦ each-take (Known all) n [] tt
      ]

  pub built-bounded : (n : ℕ) → cost (built search all n) ≤ tree_bound
  built-bounded n = nodes-bounded false (take (n - length (matched search all)) (global_roots search all)) (take n (matched_roots all search.query))
      (λ f. sum_by-take f n (matched_roots all search.query)) (each-take (Known all) n (matched_roots all search.query) known-matched) (globals-within _) (known-globals _)

  pub answer-bounded : cost (shard_answer search all) ≤ tree_bound
  answer-bounded = nodes-bounded true (roots all) (matched_roots all search.query) (λ f. let e : sum_by f (matched_roots all search.query) ≤ sum_by f (matched_roots all search.query) = omega arith in e) known-matched
      (λ f. let e : sum_by f (roots all) ≤ sum_by f (roots all) = omega arith in e) known-roots

-- what is held after some amounts is at most the most that stands between
prefix-at_most : (most before : ℕ) (cs : List ℕ) (end n : ℕ) → before ≤ most → Each (λ c. c ≤ most) cs → end ≤ most
    → (pos before +ℤ int_sum (take n (filter (λ n. not (int_eq n (pos 0))) (differences before cs end)))) ≤ℤ pos most
prefix-at_most most before cs end zero h g k = omega (arith, ints)
prefix-at_most most before [] end (suc n) h g k =
    let d = pos end -ℤ pos before in
    elim (not (int_eq d (pos 0))) as (λ b. (pos before +ℤ int_sum (take (suc n) (cond b (d ∷ []) []))) ≤ℤ pos most) [
      | true ↦ let none = sum-none n in omega (arith, ints)
      | false ↦ omega (arith, ints)
    ]
prefix-at_most most before (c ∷ cs) end (suc n) h g k =
    let d = pos c -ℤ pos before in
    let rest = filter (λ n. not (int_eq n (pos 0))) (differences c cs end) in
    elim (not (int_eq d (pos 0))) as (λ b. not (int_eq d (pos 0)) ≡ b → (pos before +ℤ int_sum (take (suc n) (cond b (d ∷ rest) rest))) ≤ℤ pos most) [
      | true ↦ λ e. let later = prefix-at_most most c cs end n g.0 g.1 k in omega (arith, ints)
      | false ↦ λ e. let later = prefix-at_most most c cs end (suc n) g.0 g.1 k in let none = no_amount d e in omega (arith, ints)
    ] refl

greatest-at_most : (most n : ℤ) (ms : List ℤ) → n ≤ℤ most → Each (λ m. m ≤ℤ most) ms → greatest_from n ms ≤ℤ most
greatest-at_most most n [] h g = h
greatest-at_most most n (m ∷ ms) h g = greatest-at_most most (int_max n m) ms (let first = g.0 in omega (arith, ints, clamps)) g.1

module _ (kinds : List FieldKind) (search : Search) (all : List PlacedRow) (placed : T (has_globals_at_top search)) where
  pub peak-bounded : peak search all ≤ℤ pos (task_overhead + tree_bound kinds search all placed)
  peak-bounded =
      let most = task_overhead + tree_bound kinds search all placed in
      let each = each-map (λ c. c ≤ most) (λ c. task_overhead + c) (built_costs search all) (each-map (λ c. task_overhead + c ≤ most) (λ n. cost (built search all n)) (range_with_len 0 (length (matched search all) + length (global_roots search all) + 1))
      (each-all _ (λ n. let bound = built-bounded kinds search all placed n in omega arith) _)) in
      let end : cost (shard_answer search all) ≤ most = (let bound = answer-bounded kinds search all placed in omega arith) in
      greatest-at_most (pos most) (pos 0) (map (sum_before (trace search all)) (range_with_len 0 (length (trace search all) + 1))) (omega (arith, ints))
      (each-map (λ m. m ≤ℤ pos most) (sum_before (trace search all)) (range_with_len 0 (length (trace search all) + 1)) (each-all _ (λ n.
      let held = prefix-at_most most 0 (map (λ c. task_overhead + c) (built_costs search all)) (cost (shard_answer search all)) n (omega arith) each end in
      omega (arith, ints)) _))

-- a ceiling that is there is the bound of its task
pub ceiling-is : (kinds : List FieldKind) (search : Search) (all : List PlacedRow) (bound : ℕ) → ceiling kinds search all ≡ Some bound → task_bound kinds search all ≡ bound
ceiling-is kinds search all bound e =
    elim (has_wide_row search all) as (λ b. ceiling_by b kinds search all ≡ Some bound → task_bound kinds search all ≡ bound) [
      | true ↦ λ e. none_some bound e
      | false ↦ λ e. elim (nat_lt greatest_ceiling (task_bound kinds search all)) as (λ b. (if b then None else Some (task_bound kinds search all)) ≡ Some bound → task_bound kinds search all ≡ bound) [
        | true ↦ λ e. none_some bound e
        | false ↦ λ e. some_same (task_bound kinds search all) bound e
      ] e
    ] e

pub twice-peak : (kinds : List FieldKind) (search : Search) (all : List PlacedRow) (bound : ℕ) → T (has_globals_at_top search) → ceiling kinds search all ≡ Some bound → (pos 2 *ℤ peak search all) ≤ℤ pos bound
twice-peak kinds search all bound placed e =
    let is = ceiling-is kinds search all bound e in
    let held = peak-bounded kinds search all placed in
    omega (arith, ints)

pub twice-cost : (kinds : List FieldKind) (search : Search) (all : List PlacedRow) (bound : ℕ) → T (has_globals_at_top search) → ceiling kinds search all ≡ Some bound → 2 * cost (shard_answer search all) ≤ bound
twice-cost kinds search all bound placed e =
    let is = ceiling-is kinds search all bound e in
    let held = answer-bounded kinds search all placed in
    omega arith
