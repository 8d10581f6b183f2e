-- The whole of a search's results: unions of unions, any order, none, one, and that each is a result.
use Rattle.std.specs.Prelude.{◌≡◌, refl, ℕ, suc, ◌+◌, T, List, [], ◌∷◌, ◌++◌, map, filter_map, sum_by, Some, slice_get, IsPermutation}
use Rattle.std.specs.List.{enumerate_from, cons_option}
use Rattle.std.proofs.Common.{sym, ◌∙◌, ap, subst, arith}
use Rattle.list_laws.proofs.Lists.{filter_map-there, joined, flat_map-map, filter_map-flat_map, filter_map-append, map-map, sum_by-map, sum_by-flat_map, enumerated, slice_get-enumerated}
use Rattle.agg_model.specs.declared.partial.Node.{Node}
use Rattle.agg_model.specs.declared.partial.Partial.{Partial}
use Rattle.agg_model.specs.declared.aggregation.Agg.{Agg}
use Rattle.agg_model.specs.declared.aggregation.Search.{Search}
use Rattle.agg_evaluation.specs.Trees.{pass_each, is_tree_of, is_result_of}
use Rattle.agg_evaluation.specs.Whole.{whole_node, whole, empty_node, empty_result}
use Rattle.list_laws.proofs.Booleans.{and_left, and_right, both}
use Rattle.list_laws.proofs.Permutations.{any_order}
use Rattle.agg_evaluation.proofs.UnionLaws.{whole_node-unites}
use Rattle.agg_evaluation.proofs.SwapLaws.{whole_node-swaps}
use Rattle.list_laws.proofs.Sums.{sum-swap}
use Rattle.agg_evaluation.proofs.AloneLaws.{whole_node-empty, whole_node-is_tree, whole_node-alone}

abbrev nodes_at : ℕ → List Partial → List Node
nodes_at n ps = filter_map (λ p. slice_get p.nodes n) ps

module _ (search : Search) where
  node-at : (j : ℕ) (a : Agg) → slice_get search.aggs j ≡ Some a → (ps : List Partial) → slice_get (whole search ps).nodes j ≡ Some (whole_node a (nodes_at j ps))
  node-at j a at ps = slice_get-enumerated 0 search.aggs (λ a. whole_node a.1 (nodes_at a.0 ps)) j a at
      ∙ ap (λ n. Some (whole_node a (nodes_at n ps))) (let e : 0 + j ≡ j = omega arith in e)

  node-unites : (j : ℕ) (a : Agg) → slice_get search.aggs j ≡ Some a → (pss : List (List Partial)) → whole_node a (nodes_at j (map (whole search) pss)) ≡ whole_node a (nodes_at j (joined pss))
  node-unites j a at pss =
      ap (whole_node a) (filter_map-there (λ p. slice_get p.nodes j) (whole search) (λ ps. whole_node a (nodes_at j ps)) (node-at j a at) pss ∙ sym (map-map (whole_node a) (nodes_at j) pss))
      ∙ whole_node-unites a (map (nodes_at j) pss)
      ∙ ap (whole_node a) (flat_map-map (nodes_at j) (λ ns. ns) pss ∙ sym (filter_map-flat_map (λ p. slice_get p.nodes j) (λ ps. ps) pss))

  pub whole-unites : (pss : List (List Partial)) → whole search (map (whole search) pss) ≡ whole search (joined pss)
  whole-unites pss =
      let hits = sum_by-map (λ (p : Partial). p.hits) (whole search) pss ∙ sym (sum_by-flat_map (λ p. p.hits) (λ ps. ps) pss) in
      let nodes = enumerated 0 search.aggs (λ a. whole_node a.1 (nodes_at a.0 (map (whole search) pss))) (λ a. whole_node a.1 (nodes_at a.0 (joined pss)))
      (λ j a at. subst (λ n. whole_node a (nodes_at n (map (whole search) pss)) ≡ whole_node a (nodes_at n (joined pss))) (let e : j ≡ 0 + j = omega arith in e) (node-unites j a at pss)) in
      λ i. (record { hits = hits i; nodes = nodes i })

  pub whole-swaps : (ps qs : List Partial) → whole search (ps ++ qs) ≡ whole search (qs ++ ps)
  whole-swaps ps qs =
      let hits = sum-swap (λ (p : Partial). p.hits) ps qs in
      let node = λ (j : ℕ) (a : Agg). ap (whole_node a) (filter_map-append (λ (p : Partial). slice_get p.nodes j) ps qs) ∙ whole_node-swaps a (nodes_at j ps) (nodes_at j qs)
      ∙ sym (ap (whole_node a) (filter_map-append (λ (p : Partial). slice_get p.nodes j) qs ps)) in
      λ i. (record { hits = hits i; nodes = map (λ a. node a.0 a.1 i) (enumerate_from 0 search.aggs) })

  pub whole-any_order : (ps qs : List Partial) → IsPermutation ps qs → whole search ps ≡ whole search qs
  whole-any_order = any_order (whole search) whole-unites whole-swaps

  pub whole-empty : whole search [] ≡ empty_result search
  whole-empty = λ i. (record { hits = 0; nodes = each 0 search.aggs i })
    where
      each : (m : ℕ) (aggs : List Agg) → map (λ a. whole_node a.1 (nodes_at a.0 [])) (enumerate_from m aggs) ≡ map empty_node aggs
      each m [] = refl
      each m (a ∷ aggs) = λ i. whole_node-empty a i ∷ each (m + 1) aggs i

  pub whole-is_result : (ps : List Partial) → T (is_result_of search (whole search ps))
  whole-is_result ps = each 0 search.aggs
    where
      each : (m : ℕ) (aggs : List Agg) → T (pass_each (map is_tree_of aggs) (map (λ a. whole_node a.1 (nodes_at a.0 ps)) (enumerate_from m aggs)))
      each m [] = tt
      each m (a ∷ aggs) = both _ _ (whole_node-is_tree a (nodes_at m ps)) (each (m + 1) aggs)

  pub whole-alone : (p : Partial) → T (is_result_of search p) → whole search (p ∷ []) ≡ p
  whole-alone p h =
      let hits : sum_by (λ p. p.hits) (p ∷ []) ≡ p.hits = omega arith in
      λ i. (record { hits = hits i; nodes = each 0 search.aggs p.nodes h (λ j. ap (slice_get p.nodes) (let e : 0 + j ≡ j = omega arith in e)) i })
    where
      each : (m : ℕ) (aggs : List Agg) (ns : List Node) → T (pass_each (map is_tree_of aggs) ns) → ((j : ℕ) → slice_get p.nodes (m + j) ≡ slice_get ns j) → map (λ a. whole_node a.1 (nodes_at a.0 (p ∷ []))) (enumerate_from m aggs) ≡ ns
      each m [] [] h at = refl
      each m [] (n ∷ ns) h at = absurd h
      each m (a ∷ aggs) [] h at = absurd h
      each m (a ∷ aggs) (n ∷ ns) h at =
          let here : slice_get p.nodes m ≡ Some n = ap (slice_get p.nodes) (let e : m ≡ m + 0 = omega arith in e) ∙ at 0 in
          let first = ap (λ o. whole_node a (cons_option o [])) here ∙ whole_node-alone a n (and_left _ _ h) in
          let rest = each (m + 1) aggs ns (and_right _ _ h) (λ j. ap (slice_get p.nodes) (let e : (m + 1) + j ≡ m + suc j = omega arith in e) ∙ at (suc j)) in
          λ i. first i ∷ rest i

-- a union of no tree and of one tree, joined
neutral : {A : Type 0} (w : List A → A) → ((xss : List (List A)) → w (map w xss) ≡ w (joined xss)) → (e x : A) → w [] ≡ e → w (x ∷ []) ≡ x → w (e ∷ x ∷ []) ≡ x
neutral w unites e x none one = (λ i. w (sym none i ∷ sym one i ∷ [])) ∙ unites ([] ∷ (x ∷ []) ∷ []) ∙ one

pub node-neutral : (a : Agg) (x : Node) → T (is_tree_of a x) → whole_node a (empty_node a ∷ x ∷ []) ≡ x
node-neutral a x h = neutral (whole_node a) (whole_node-unites a) (empty_node a) x (whole_node-empty a) (whole_node-alone a x h)

pub whole-neutral : (search : Search) (x : Partial) → T (is_result_of search x) → whole search (empty_result search ∷ x ∷ []) ≡ x
whole-neutral search x h = neutral (whole search) (whole-unites search) (empty_result search) x (whole-empty search) (whole-alone search x h)
