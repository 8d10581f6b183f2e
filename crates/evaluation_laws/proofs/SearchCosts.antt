-- The whole of a search's results costs at most what they cost together.
use Rattle.std.specs.Prelude.{◌≡◌, refl, ℕ, ◌+◌, ◌<◌, ◌≤◌, T, List, [], ◌∷◌, map, filter_map, sum_by, length, slice_get}
use Rattle.std.specs.List.{enumerate_from, list_all, cons_option}
use Rattle.std.proofs.Common.{ap, arith}
use Rattle.agg_model.specs.declared.key.Key.TheVariants as key
use Rattle.agg_model.specs.declared.partial.Bucket.{Bucket}
use Rattle.agg_model.specs.declared.partial.Partial.{Partial}
use Rattle.agg_model.specs.declared.aggregation.Agg.{Agg}
use Rattle.agg_model.specs.declared.aggregation.Search.{Search}
use Rattle.agg_evaluation.specs.Cost.{cost, node_cost}
use Rattle.agg_evaluation.specs.Trees.{pass_each, is_tree_of, is_result_of}
use Rattle.agg_evaluation.specs.Whole.{children_at, whole_node, whole}
use Rattle.list_laws.proofs.Booleans.{and_left, and_right, both}
use Rattle.list_laws.proofs.Lists.{sum_by-map}
use Rattle.evaluation_laws.proofs.CostLaws.{EachSaves, children-save, whole_node-saves}

-- a result's nodes as the children of a bucket
abbrev as_bucket : Partial → Bucket
as_bucket p = record { key = key.Null; count = 0; covered = 0; children = p.nodes }

each-agg : (aggs : List Agg) → EachSaves (map whole_node aggs) (map is_tree_of aggs)
each-agg [] = tt
each-agg (a ∷ aggs) = (whole_node-saves a, each-agg aggs)

nodes-as_buckets : (n : ℕ) (ps : List Partial) → filter_map (λ p. slice_get p.nodes n) ps ≡ children_at (map as_bucket ps) n
nodes-as_buckets n [] = refl
nodes-as_buckets n (p ∷ ps) = ap (cons_option (slice_get p.nodes n)) (nodes-as_buckets n ps)

wholes-as_buckets : (m : ℕ) (aggs : List Agg) (ps : List Partial) → map (λ a. whole_node a.1 (filter_map (λ p. slice_get p.nodes a.0) ps)) (enumerate_from m aggs)
    ≡ map (λ c. c.1 (children_at (map as_bucket ps) c.0)) (enumerate_from m (map whole_node aggs))
wholes-as_buckets m [] ps = refl
wholes-as_buckets m (a ∷ aggs) ps = λ i. whole_node a (nodes-as_buckets m ps i) ∷ wholes-as_buckets (m + 1) aggs ps i

all-as_buckets : (search : Search) (ps : List Partial) → T (list_all (is_result_of search) ps) → T (list_all (λ b. pass_each (map is_tree_of search.aggs) b.children) (map as_bucket ps))
all-as_buckets search [] h = tt
all-as_buckets search (p ∷ ps) h = both _ _ (and_left _ _ h) (all-as_buckets search ps (and_right _ _ h))

pub whole-saves : (search : Search) (p : Partial) (ps : List Partial) → T (list_all (is_result_of search) (p ∷ ps)) → cost (whole search (p ∷ ps)) ≤ sum_by cost (p ∷ ps)
whole-saves search p ps h =
    let bs = map as_bucket (p ∷ ps) in
    let some : 0 < length bs = omega arith in
    let saved = children-save 0 (map whole_node search.aggs) (map is_tree_of search.aggs) (each-agg search.aggs) bs some (all-as_buckets search (p ∷ ps) h) in
    let whole : cost (whole search (p ∷ ps)) ≡ sum_by node_cost (map (λ c. c.1 (children_at bs c.0)) (enumerate_from 0 (map whole_node search.aggs))) = ap (sum_by node_cost) (wholes-as_buckets 0 search.aggs (p ∷ ps)) in
    let given : sum_by (λ b. sum_by node_cost b.children) bs ≡ sum_by cost (p ∷ ps) = sum_by-map (λ (b : Bucket). sum_by node_cost b.children) as_bucket (p ∷ ps) in
    omega arith
