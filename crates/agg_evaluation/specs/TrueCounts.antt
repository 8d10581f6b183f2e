-- The true counts, which no shard cuts: against them the errors of a terms aggregation are read (Elasticsearch Reference 8,
-- 'Terms aggregation' on `doc_count_error_upper_bound` and `sum_other_doc_count`).
use Rattle.std.specs.Prelude.{ℕ, List, [], ◌∷◌, length, sum_by, slice_get}
use Rattle.std.specs.Option.{option_map_or}
use Rattle.agg_model.specs.declared.key.Key.{Key}
use Rattle.agg_model.specs.declared.aggregation.Agg.{Agg, Agg', Row_of-Agg, end_of-Agg, more_of-Agg}
use Rattle.agg_model.specs.declared.aggregation.Kind.{Kind}
use Rattle.agg_model.specs.declared.aggregation.Search.{Search}
use Rattle.agg_evaluation.specs.Rows.{PlacedRow, roots}
use Rattle.agg_evaluation.specs.Matching.{matched_roots}
use Rattle.agg_evaluation.specs.Groups.{under, group, total_key_count}

-- the way down to a bucket: at each level the place of an aggregation among its siblings, and a key
abbrev pub BucketPath : Type 0
BucketPath = List (ℕ × Key)

-- the rows that an aggregation counts in the answer to a search
abbrev pub counted_rows : List PlacedRow → Kind → List PlacedRow → List PlacedRow
counted_rows all kind rows = under all (roots all) kind rows

-- the items of a row of aggregations
abbrev pub listed : {n : _} → Row_of-Agg n → List Agg
listed end_of-Agg = []
listed (more_of-Agg a rest) = a ∷ listed rest

abbrev pub kind_of : Agg → Kind
kind_of (Agg' name kind n children) = kind

-- the aggregations directly below one
abbrev pub children_of : Agg → List Agg
children_of (Agg' name kind n children) = listed children

-- the whole group of a key, of the rows that an aggregation is handed
abbrev pub group_in : List PlacedRow → Agg → List PlacedRow → Key → List PlacedRow
group_in all a rows key = group all (kind_of a) (counted_rows all (kind_of a) rows) key

-- the rows at the end of the path, through whole groups
abbrev pub rows_at : List PlacedRow → List Agg → List PlacedRow → BucketPath → List PlacedRow
rows_at all aggs rows [] = rows
rows_at all aggs rows (step ∷ path) = option_map_or (λ a. rows_at all (children_of a) (group_in all a rows step.1) path) (slice_get aggs step.0) []

-- the aggregations below the end of the path
abbrev pub aggs_at : List Agg → BucketPath → List Agg
aggs_at aggs [] = aggs
aggs_at aggs (step ∷ path) = option_map_or (λ a. aggs_at (children_of a) path) (slice_get aggs step.0) []

-- the rows at the end of the path in one shard's answer to a search
abbrev pub answered_rows : Search → BucketPath → List PlacedRow → List PlacedRow
answered_rows search path all = rows_at all search.aggs (matched_roots all search.query) path

-- how many rows of all shards together a bucket has, for a path that ends at it
abbrev pub true_count : List (List PlacedRow) → Search → BucketPath → ℕ
true_count shards search path = sum_by (λ all. length (answered_rows search path all)) shards

-- how many keys the rows of all shards together have at an aggregation, given by its place below the end of a path
abbrev pub true_key_count : List (List PlacedRow) → Search → BucketPath → ℕ → ℕ
true_key_count shards search path place =
    option_map_or (λ a. sum_by (λ all. total_key_count all (kind_of a) (counted_rows all (kind_of a) (answered_rows search path all))) shards)
    (slice_get (aggs_at search.aggs path) place) 0
