-- The ceiling of a task as a sum over its nodes (Elasticsearch Reference 8, 'Circuit breaker settings').
use Rattle.std.specs.Prelude.{ℕ, ◌+◌, ◌*◌, Bool, true, false, List, [], ◌∷◌, ◌++◌, flat_map, sum_by, Option, None}
use Rattle.agg_model.specs.declared.costs.TheConstants.{BUCKET_BYTES, NODE_BYTES, TASK_BYTES}
use Rattle.agg_model.specs.declared.mapping.FieldKind.{FieldKind}
use Rattle.agg_model.specs.declared.aggregation.Agg.{Agg, Agg', Row_of-Agg, end_of-Agg, more_of-Agg, out-Agg}
use Rattle.agg_model.specs.declared.aggregation.Kind.{Kind}
use Rattle.agg_model.specs.declared.aggregation.Search.{Search}
use Rattle.agg_evaluation.specs.Ceiling.{Reached, path_count, handed_on, bucket_bound, key_bound, collected_roots, has_wide_row, within_greatest}
use Rattle.agg_evaluation.specs.Rows.{PlacedRow}
use Rattle.agg_evaluation.specs.Whole.{shape_of}

-- an aggregation: how many nodes it has at most, how many buckets all of them have, and the bytes of one key
pub record NodeBounds : Type 0 where
  pub instances : ℕ
  pub buckets : ℕ
  pub key_bytes : ℕ

abbrev pub bytes : NodeBounds → ℕ
bytes b = b.instances * NODE_BYTES + b.buckets * (BUCKET_BYTES + b.key_bytes)

-- `kinds` are the kinds of the mapping's fields, and `all` the rows of the shard
module _ (kinds : List FieldKind) (all : List PlacedRow) where
  abbrev pub bounds_of : Kind → ℕ → List Reached → NodeBounds
  bounds_of k instances handed = record {
    instances = instances;
    buckets = bucket_bound kinds all k (shape_of k) instances (path_count handed);
    key_bytes = key_bound kinds all k;
  }

  abbrev mutual
    -- the aggregation, and behind it all below it; a child has one instance for each bucket of its parent
    pub nodes : Agg → ℕ → List Reached → List NodeBounds
    nodes (Agg' name k n children) instances reached =
        let own = bounds_of k instances (handed_on kinds all k reached) in
        own ∷ nodes_below children own.buckets (handed_on kinds all k reached)

    pub nodes_below : {n : _} → Row_of-Agg n → ℕ → List Reached → List NodeBounds
    nodes_below end_of-Agg instances reached = []
    nodes_below (more_of-Agg a rest) instances reached = nodes a instances reached ++ nodes_below rest instances reached

-- the nodes of a search; one at the top has one instance
abbrev pub search_nodes : List FieldKind → Search → List PlacedRow → List NodeBounds
search_nodes kinds search all = flat_map (λ a. nodes kinds all a 1 (collected_roots search all (out-Agg a).kind)) search.aggs

-- twice what a task has at its beginning and its nodes
abbrev pub twice_bytes : List NodeBounds → ℕ
twice_bytes bounds = 2 * (TASK_BYTES + sum_by bytes bounds)

abbrev pub unless_wide : Bool → List NodeBounds → Option ℕ
unless_wide true bounds = None
unless_wide false bounds = within_greatest (twice_bytes bounds)

-- the ceiling of a search on a shard: none where it is too wide, by combinations or by bytes
abbrev pub ceiling_by_nodes : List FieldKind → Search → List PlacedRow → Option ℕ
ceiling_by_nodes kinds search all = unless_wide (has_wide_row search all) (search_nodes kinds search all)
