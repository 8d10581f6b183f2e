-- The whole of the answers of some shards of an index has numbers that fit.
use Rattle.std.specs.Prelude.{◌≡◌, refl, ℕ, zero, suc, ◌+◌, ◌*◌, ◌^◌, ◌<◌, ◌≤◌, Bool, true, T, List, [], ◌∷◌, map, filter_map, sum_by, slice_get, Some}
use Rattle.std.specs.List.{list_all, enumerate_from}
use Rattle.std.proofs.Common.{sym, ap, subst, arith}
use Rattle.std.proofs.lemmas.Bool.{and_parts, and_from}
use Rattle.std.proofs.lemmas.Bool.Decides.{nat_tests}
use Rattle.std.proofs.lemmas.List.Sums.{sum_by-cons}
use Rattle.agg_model.specs.Contexts.{parents_before}
use Rattle.agg_model.specs.declared.aggregation.Agg.{Agg}
use Rattle.agg_model.specs.declared.aggregation.Search.{Search}
use Rattle.agg_model.specs.declared.mapping.Mapping.{Mapping}
use Rattle.agg_model.specs.declared.partial.Node.{Node}
use Rattle.agg_model.specs.declared.partial.Partial.{Partial}
use Rattle.agg_model.specs.declared.row.Document.{Document}
use Rattle.agg_reading.specs.Store.{weight}
use Rattle.agg_evaluation.specs.Counted.{IsCounted}
use Rattle.agg_evaluation.specs.DocumentFits.{all_fit}
use Rattle.agg_evaluation.specs.Matching.{matches, matched_roots}
use Rattle.agg_evaluation.specs.QueryFits.{query_fits}
use Rattle.agg_evaluation.specs.Rows.{PlacedRow, roots, rows_of_documents}
use Rattle.agg_evaluation.specs.RowsWeight.{rows_weight}
use Rattle.agg_evaluation.specs.SearchFits.{agg_fits, search_fits}
use Rattle.agg_evaluation.specs.Shard.{shard_node, shard_answer}
use Rattle.agg_evaluation.specs.Trees.{is_tree_of, node_fits, numbers_fit, fits_u64}
use Rattle.agg_evaluation.specs.Whole.{whole_node, whole}
use Rattle.agg_evaluation.proofs.AloneLaws.{whole_node-is_tree}
use Rattle.agg_evaluation.proofs.TreeLaws.{collected-is_tree}
use Rattle.list_laws.proofs.Booleans.{both, true_is}
use Rattle.list_laws.proofs.Lists.{filter_map-there}
use Rattle.list_laws.proofs.Occurrences.{all-map}
use Rattle.list_laws.proofs.Options.{none_some, some_same}
use Rattle.fitting_laws.specs.Wholes.{answers_of, AreChosen}
use Rattle.fitting_laws.proofs.Aparts.{documents_apart}
use Rattle.fitting_laws.proofs.Counting.{filter_counted, roots_counted}
use Rattle.fitting_laws.proofs.Hits.{hits_fit}
use Rattle.fitting_laws.proofs.Measures.{counts_light, sums_light}
use Rattle.fitting_laws.proofs.NumbersFit.{counted, summed, tree_fits}
use Rattle.agg_evaluation.proofs.RowsFit.{rows_fit_placed}
use Rattle.fitting_laws.proofs.Reach.{reach}
use Rattle.fitting_laws.proofs.ReachShards.{collected_within}
use Rattle.fitting_laws.proofs.ReachUnions.{AddsUp, whole_adds}
use Rattle.fitting_laws.proofs.Sizes.{size_sum}
use Rattle.fitting_laws.proofs.Weights.{weights_agree}

counts_add : AddsUp counted
counts_add ms = omega arith

sums_add : AddsUp summed
sums_add ms = size_sum ms

-- at each place of a list
pub all_places : {A C : Type 0} (p : C → Bool) (f : ℕ × A → C) (k : ℕ) (xs : List A) → ((j : ℕ) (x : A) → slice_get xs j ≡ Some x → T (p (f (k + j, x)))) → T (list_all p (map f (enumerate_from k xs)))
all_places p f k [] h = tt
all_places p f k (x ∷ xs) h =
    both _ _ (subst (λ n. T (p (f (n, x)))) (let e : k + 0 ≡ k = omega arith in e) (h 0 x refl))
    (all_places p f (k + 1) xs (λ j y e. subst (λ n. T (p (f (n, y)))) (let e : k + suc j ≡ (k + 1) + j = omega arith in e) (h (suc j) y e)))

slice_get_mapped : {A C : Type 0} (f : A → C) (xs : List A) (j : ℕ) (x : A) → slice_get xs j ≡ Some x → slice_get (map f xs) j ≡ Some (f x)
slice_get_mapped f [] j x e = none_some x e
slice_get_mapped f (y ∷ xs) zero x e = ap (λ z. Some (f z)) (some_same y x e)
slice_get_mapped f (y ∷ xs) (suc j) x e = slice_get_mapped f xs j x e

pub all_at : {A : Type 0} (p : A → Bool) (xs : List A) (j : ℕ) (x : A) → list_all p xs ≡ true → slice_get xs j ≡ Some x → p x ≡ true
all_at p [] j x h e = none_some x e
all_at p (y ∷ xs) zero x h e = subst (λ z. p z ≡ true) (some_same y x e) (and_parts (p y) (list_all p xs) h).0
all_at p (y ∷ xs) (suc j) x h e = all_at p xs j x (and_parts (p y) (list_all p xs) h).1 e

module _ (search : Search) where
  -- the roots of a shard that the query matches
  pub matched : List Document → List PlacedRow
  matched ds = matched_roots (rows_of_documents ds) search.query

  pub matched_counted : (ds : List Document) → IsCounted (rows_of_documents ds) 0 (matched ds)
  unfolding matched
  matched_counted ds = let all = rows_of_documents ds in filter_counted all 0 (roots all) (matches all search.query) (roots_counted all)

  -- what the shards answer to one aggregation
  abbrev pub nodes_of : Agg → List (List Document) → List Node
  nodes_of a shards = map (λ (ds : List Document). shard_node (rows_of_documents ds) a (matched ds)) shards

  pub answers_at : (j : ℕ) (a : Agg) → slice_get search.aggs j ≡ Some a → (shards : List (List Document)) → filter_map (λ (p : Partial). slice_get p.nodes j) (answers_of search shards) ≡ nodes_of a shards
  unfolding matched
  answers_at j a at shards = filter_map-there (λ (p : Partial). slice_get p.nodes j) (λ (ds : List Document). shard_answer search (rows_of_documents ds)) (λ (ds : List Document). shard_node (rows_of_documents ds) a (matched ds))
      (λ ds. slice_get_mapped (λ (a : Agg). shard_node (rows_of_documents ds) a (matched ds)) search.aggs j a at) shards

  pub nodes_are_trees : (a : Agg) (shards : List (List Document)) → T (list_all (is_tree_of a) (nodes_of a shards))
  nodes_are_trees a shards = all-map (is_tree_of a) (λ (ds : List Document). shard_node (rows_of_documents ds) a (matched ds)) shards (λ ds. collected-is_tree true (rows_of_documents ds) (roots (rows_of_documents ds)) a (matched ds))

  module _ (m : Mapping) (paths : parents_before m ≡ true) where
    -- one shard
    counts_of : (a : Agg) → agg_fits m true 0 a ≡ true → (ds : List Document) → all_fit m ds ≡ true → reach counted a (shard_node (rows_of_documents ds) a (matched ds)) ≤ sum_by weight ds
    counts_of a h ds fit =
        let all = rows_of_documents ds in
        let low = collected_within counted (rows_weight all) all (omega arith) m (λ field missing e context rows c. counts_light all field missing context rows c) (documents_apart m ds paths fit) true 0 a h (matched ds) (matched_counted ds) in
        let same = weights_agree ds in
        omega (arith, low, same)

    sums_of : (a : Agg) → agg_fits m true 0 a ≡ true → (ds : List Document) → all_fit m ds ≡ true → reach summed a (shard_node (rows_of_documents ds) a (matched ds)) ≤ sum_by weight ds * 2 ^ 63
    sums_of a h ds fit =
        let all = rows_of_documents ds in
        let heavy : rows_weight all ≤ rows_weight all * 2 ^ 63 = omega arith in
        let low = collected_within summed (rows_weight all * 2 ^ 63) all heavy m (λ field missing e context rows c. sums_light all field missing m e (rows_fit_placed m ds fit) context rows c) (documents_apart m ds paths fit) true 0 a h (matched ds) (matched_counted ds) in
        let same = weights_agree ds in
        omega (arith, low, same)

    -- all of them
    pub counts_light_all : (a : Agg) → agg_fits m true 0 a ≡ true → (shards : List (List Document)) → list_all (all_fit m) shards ≡ true → sum_by (reach counted a) (nodes_of a shards) ≤ sum_by (sum_by weight) shards
    counts_light_all a h [] fit = omega arith
    counts_light_all a h (ds ∷ shards) fit =
        let parts = and_parts (all_fit m ds) (list_all (all_fit m) shards) fit in
        let one = counts_of a h ds parts.0 in
        let left = sum_by-cons (reach counted a) (shard_node (rows_of_documents ds) a (matched ds)) (nodes_of a shards) in
        let right = sum_by-cons (sum_by weight) ds shards in
        let rest = counts_light_all a h shards parts.1 in
        omega (arith, one, left, right, rest)

    sums_light_all : (a : Agg) → agg_fits m true 0 a ≡ true → (shards : List (List Document)) → list_all (all_fit m) shards ≡ true → sum_by (reach summed a) (nodes_of a shards) ≤ sum_by (sum_by weight) shards * 2 ^ 63
    sums_light_all a h [] fit = omega arith
    sums_light_all a h (ds ∷ shards) fit =
        let parts = and_parts (all_fit m ds) (list_all (all_fit m) shards) fit in
        let one = sums_of a h ds parts.0 in
        let left = sum_by-cons (reach summed a) (shard_node (rows_of_documents ds) a (matched ds)) (nodes_of a shards) in
        let right = sum_by-cons (sum_by weight) ds shards in
        let rest = sums_light_all a h shards parts.1 in
        omega (arith, one, left, right, rest)

    pub whole_counts : (a : Agg) → agg_fits m true 0 a ≡ true → (shards : List (List Document)) → AreChosen m shards → reach counted a (whole_node a (nodes_of a shards)) < 2 ^ 32
    whole_counts a h shards chosen =
        let adds = whole_adds counted counts_add a (nodes_of a shards) (nodes_are_trees a shards) in
        let light = counts_light_all a h shards chosen.fit in
        let low = chosen.light in
        omega (arith, adds, light, low)

    whole_sums : (a : Agg) → agg_fits m true 0 a ≡ true → (shards : List (List Document)) → AreChosen m shards → reach summed a (whole_node a (nodes_of a shards)) < 2 ^ 127
    whole_sums a h shards chosen =
        let adds = whole_adds summed sums_add a (nodes_of a shards) (nodes_are_trees a shards) in
        let light = sums_light_all a h shards chosen.fit in
        let low = chosen.light in
        omega (arith, adds, light, low)

    node_whole : (a : Agg) → agg_fits m true 0 a ≡ true → (shards : List (List Document)) → AreChosen m shards → T (node_fits (whole_node a (nodes_of a shards)))
    node_whole a h shards chosen = tree_fits a (whole_node a (nodes_of a shards)) (whole_node-is_tree a (nodes_of a shards)) (whole_counts a h shards chosen) (whole_sums a h shards chosen)

    pub wholes_fit : (shards : List (List Document)) → search_fits m search ≡ true → AreChosen m shards → numbers_fit (whole search (answers_of search shards)) ≡ true
    wholes_fit shards h chosen =
        let aggs = (and_parts (query_fits m 0 search.query) (list_all (agg_fits m true 0) search.aggs) h).1 in
        let hits = hits_fit m search shards chosen in
        let answers = answers_of search shards in
        and_from _ _ (let e : fits_u64 (whole search answers).hits ≡ true = grind (arith, nat_tests, hits) in e)
        (true_is _ (all_places node_fits (λ (a : ℕ × Agg). whole_node a.1 (filter_map (λ (t : Partial). slice_get t.nodes a.0) answers)) 0 search.aggs (λ j a at.
        subst (λ (n : ℕ). T (node_fits (whole_node a (filter_map (λ (t : Partial). slice_get t.nodes n) answers)))) (let e : j ≡ 0 + j = omega arith in e)
        (subst (λ (ns : List Node). T (node_fits (whole_node a ns))) (sym (answers_at j a at shards)) (node_whole a (all_at (agg_fits m true 0) search.aggs j a aggs at) shards chosen)))))
