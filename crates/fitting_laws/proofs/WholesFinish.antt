-- The whole of the answers of some shards of an index can be finished.
use Rattle.std.specs.Prelude.{◌≡◌, refl, ℕ, suc, ◌+◌, Bool, true, T, List, [], ◌∷◌, map, filter_map, slice_get, Some}
use Rattle.std.specs.List.{list_all, enumerate_from}
use Rattle.std.proofs.Common.{sym, subst, arith}
use Rattle.std.proofs.lemmas.Bool.{and_parts}
use Rattle.agg_model.specs.Contexts.{parents_before}
use Rattle.agg_model.specs.declared.aggregation.Agg.{Agg}
use Rattle.agg_model.specs.declared.aggregation.Search.{Search}
use Rattle.agg_model.specs.declared.mapping.Mapping.{Mapping}
use Rattle.agg_model.specs.declared.partial.Node.{Node}
use Rattle.agg_model.specs.declared.partial.Partial.{Partial}
use Rattle.agg_model.specs.declared.row.Document.{Document}
use Rattle.agg_evaluation.specs.DocumentFits.{all_fit}
use Rattle.agg_evaluation.specs.Finishable.{is_finishable, can_finish}
use Rattle.agg_evaluation.specs.QueryFits.{query_fits}
use Rattle.agg_evaluation.specs.Rows.{rows_of_documents}
use Rattle.agg_evaluation.specs.SearchFits.{agg_fits, search_fits}
use Rattle.agg_evaluation.specs.Shard.{shard_node}
use Rattle.agg_evaluation.specs.Trees.{pass_each}
use Rattle.agg_evaluation.specs.Whole.{whole_node, whole}
use Rattle.agg_evaluation.proofs.AloneLaws.{whole_node-is_tree}
use Rattle.list_laws.proofs.Booleans.{both, true_is}
use Rattle.fitting_laws.specs.Wholes.{answers_of, AreChosen}
use Rattle.fitting_laws.proofs.Aparts.{documents_apart}
use Rattle.fitting_laws.proofs.Finishes.{finishes}
use Rattle.fitting_laws.proofs.Owns.{owns, whole_keeps}
use Rattle.fitting_laws.proofs.OwnShards.{collected_owns}
use Rattle.agg_evaluation.proofs.RowsFit.{rows_fit_placed}
use Rattle.fitting_laws.proofs.Wholes.{all_at, matched, matched_counted, nodes_of, answers_at, nodes_are_trees, whole_counts}

-- each node passes the test of its own place
pass_places : {A : Type 0} (t : A → Node → Bool) (f : ℕ × A → Node) (k : ℕ) (xs : List A) → ((j : ℕ) (x : A) → slice_get xs j ≡ Some x → T (t x (f (k + j, x)))) → T (pass_each (map t xs) (map f (enumerate_from k xs)))
pass_places t f k [] h = tt
pass_places t f k (x ∷ xs) h =
    both _ _ (subst (λ n. T (t x (f (n, x)))) (let e : k + 0 ≡ k = omega arith in e) (h 0 x refl))
    (pass_places t f (k + 1) xs (λ j y e. subst (λ n. T (t y (f (n, y)))) (let e : k + suc j ≡ (k + 1) + j = omega arith in e) (h (suc j) y e)))

module _ (search : Search) (m : Mapping) (paths : parents_before m ≡ true) where
  nodes_own : (a : Agg) → agg_fits m true 0 a ≡ true → (shards : List (List Document)) → list_all (all_fit m) shards ≡ true → T (list_all (owns a) (nodes_of search a shards))
  nodes_own a h [] fit = tt
  nodes_own a h (ds ∷ shards) fit =
      let parts = and_parts (all_fit m ds) (list_all (all_fit m) shards) fit in
      let all = rows_of_documents ds in
      both (owns a (shard_node all a (matched search ds))) _
      (collected_owns all m (rows_fit_placed m ds parts.0) (documents_apart m ds paths parts.0) true 0 a h (matched search ds) (matched_counted search ds)) (nodes_own a h shards parts.1)

  node_finishes : (a : Agg) → agg_fits m true 0 a ≡ true → (shards : List (List Document)) → AreChosen m shards → T (is_finishable a (whole_node a (nodes_of search a shards)))
  node_finishes a h shards chosen =
      finishes a (whole_node a (nodes_of search a shards)) (whole_node-is_tree a (nodes_of search a shards))
      (whole_keeps a (nodes_of search a shards) (nodes_are_trees search a shards) (nodes_own a h shards chosen.fit)) (whole_counts search m paths a h shards chosen)

  pub wholes_finish : (shards : List (List Document)) → search_fits m search ≡ true → AreChosen m shards → can_finish search (whole search (answers_of search shards)) ≡ true
  wholes_finish shards h chosen =
      let aggs = (and_parts (query_fits m 0 search.query) (list_all (agg_fits m true 0) search.aggs) h).1 in
      let answers = answers_of search shards in
      true_is _ (pass_places is_finishable (λ (a : ℕ × Agg). whole_node a.1 (filter_map (λ (t : Partial). slice_get t.nodes a.0) answers)) 0 search.aggs (λ j a at.
      subst (λ (n : ℕ). T (is_finishable a (whole_node a (filter_map (λ (t : Partial). slice_get t.nodes n) answers)))) (let e : j ≡ 0 + j = omega arith in e)
      (subst (λ (ns : List Node). T (is_finishable a (whole_node a ns))) (sym (answers_at search j a at shards)) (node_finishes a (all_at (agg_fits m true 0) search.aggs j a aggs at) shards chosen))))
