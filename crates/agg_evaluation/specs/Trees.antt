-- Which trees are answers to an aggregation, and whether a tree's numbers fit their types. All shards answer one search with
-- trees of one form, which the reduce phase adds up (Elasticsearch Reference 8, 'Aggregations').
use Rattle.std.specs.Prelude.{ℕ, ℤ, pos, negsuc, ◌^◌, ◌-◌, Bool, true, false, ◌&&◌, nat_lt, int_le, List, [], ◌∷◌, map}
use Rattle.std.specs.List.{list_all}
use Rattle.std.specs.Ordering.{is_lt, is_eq}
use Rattle.std.specs.Cmp.Lexicographic.{slice_cmp}
use Rattle.agg_model.specs.declared.key.Key.{Key}
use Rattle.agg_model.specs.declared.partial.Bucket.{Bucket}
use Rattle.agg_model.specs.declared.partial.Node.{Node, out-Node}
use Rattle.agg_model.specs.declared.partial.Node.TheOpen.{Node-F, Bucket-F}
use Rattle.agg_model.specs.declared.partial.Partial.{Partial}
use Rattle.agg_model.specs.declared.aggregation.Agg.{Agg}
use Rattle.agg_model.specs.declared.aggregation.Search.{Search}
use Rattle.agg_evaluation.specs.Folds.{fold_agg, fold_node}
use Rattle.agg_evaluation.specs.KeyOrder.{key_cmp}
use Rattle.agg_evaluation.specs.Orders.{bucket_key}
use Rattle.agg_evaluation.specs.Shard.{fixed_keys}
use Rattle.agg_evaluation.specs.Whole.{Shape, by_key, from_start, a_number, shape_of}

-- each key is less than the next, so that none stands twice
abbrev pub is_ascending : List Key → Bool
is_ascending [] = true
is_ascending (k ∷ ks) = list_all (λ later. is_lt (key_cmp k later)) ks && is_ascending ks

abbrev pub are_same_keys : List Key → List Key → Bool
are_same_keys js ks = is_eq (slice_cmp key_cmp js ks)

-- as many nodes as tests, and each passes its own
abbrev pub pass_each : List (Node → Bool) → List Node → Bool
pass_each [] [] = true
pass_each (test ∷ tests) (n ∷ ns) = test n && pass_each tests ns
pass_each _ _ = false

abbrev pub have_children : List (Node → Bool) → List Bucket → Bool
have_children tests buckets = list_all (λ b. pass_each tests b.children) buckets

-- the tests are those of the children, and the keys those that exist from the start
abbrev pub is_tree_at : List (Node → Bool) → List Key → Shape → Node-F Node Bucket → Bool
is_tree_at tests fixed by_key (Node-F.Keyed buckets error full cut) = is_ascending (map bucket_key buckets) && have_children tests buckets
is_tree_at tests fixed by_key (Node-F.Fixed buckets) = false
is_tree_at tests fixed by_key (Node-F.Number m) = false
is_tree_at tests fixed from_start (Node-F.Keyed buckets error full cut) = false
is_tree_at tests fixed from_start (Node-F.Fixed buckets) = are_same_keys (map bucket_key buckets) fixed && have_children tests buckets
is_tree_at tests fixed from_start (Node-F.Number m) = false
is_tree_at tests fixed a_number (Node-F.Keyed buckets error full cut) = false
is_tree_at tests fixed a_number (Node-F.Fixed buckets) = false
is_tree_at tests fixed a_number (Node-F.Number m) = true

-- Whether a node is a tree of the aggregation: its buckets stand ascending by key and each once, those that exist from the
-- start are all there, and each bucket has a tree of each child.
abbrev pub is_tree_of : Agg → Node → Bool
is_tree_of = fold_agg (λ a n. is_tree_at a.children (fixed_keys a.kind) (shape_of a.kind) (out-Node n))

-- whether a partial result has a tree of each aggregation of the search
abbrev pub is_result_of : Search → Partial → Bool
is_result_of search p = pass_each (map is_tree_of search.aggs) p.nodes

abbrev pub fits_u64 : ℕ → Bool
fits_u64 n = nat_lt n (2 ^ 64)

abbrev pub fits_i128 : ℤ → Bool
fits_i128 n = int_le (negsuc (2 ^ 127 - 1)) n && int_le n (pos (2 ^ 127 - 1))

abbrev pub bucket_fits : Bucket-F Bool Bool → Bool
bucket_fits b = fits_u64 b.count && fits_u64 b.covered && list_all (λ fits. fits) b.children

abbrev pub node_fits_at : Node-F Bool Bool → Bool
node_fits_at (Node-F.Keyed buckets error full cut) = fits_u64 error && nat_lt full (2 ^ 32) && fits_u64 cut && list_all (λ fits. fits) buckets
node_fits_at (Node-F.Fixed buckets) = list_all (λ fits. fits) buckets
node_fits_at (Node-F.Number m) = fits_u64 m.count && fits_i128 m.sum

-- whether each number of a tree is in the range of its type
abbrev pub node_fits : Node → Bool
node_fits = fold_node node_fits_at bucket_fits

-- whether each number of a partial result is in the range of its type
abbrev pub numbers_fit : Partial → Bool
numbers_fit p = fits_u64 p.hits && list_all node_fits p.nodes
