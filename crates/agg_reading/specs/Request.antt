-- Search bodies (Elasticsearch Reference 8, 'Search API', 'Aggregations').
use Rattle.std.specs.Prelude.{ℕ, zero, suc, ◌+◌, List, [], ◌∷◌, ◌++◌, length, map, Option, Some, None, Ok, Bool, true, false, ◌&&◌, not, nat_le, if◌then◌else◌, ⊤, codes, unwrap_or}
use Rattle.serde_json.specs.Data.{Data, Members, no_members, member}
use Rattle.serde_json.specs.Find.{get_member}
use Rattle.agg_model.specs.declared.limits.TheConstants.{MAX_AGGREGATIONS, MAX_AGGREGATION_LEVELS}
use Rattle.agg_model.specs.declared.body_refusal.TheConstants.{BODY_NOT_OBJECT, INVALID_NAME, LIMIT_EXCEEDED, MISPLACED_AGGREGATION, NOT_ONE_MEMBER, UNKNOWN_KIND, UNKNOWN_MEMBER, WRONG_TYPE}
use Rattle.agg_model.specs.declared.mapping.Mapping.{Mapping}
use Rattle.agg_model.specs.declared.query.Query.{Query, All}
use Rattle.agg_model.specs.declared.aggregation.Agg.{Agg, roll-Agg}
use Rattle.agg_model.specs.declared.aggregation.Search.{Search}
use Rattle.agg_model.specs.declared.pipeline.Pipe.{Pipe}
use Rattle.agg_reading.specs.declared.names.KindName.{KindName}
use Rattle.agg_reading.specs.declared.names.PipeName.{PipeName}
use Rattle.agg_reading.specs.declared.parts.Counts.{Counts}
use Rattle.agg_reading.specs.declared.parts.ReadKind.{ReadKind}
use Rattle.agg_reading.specs.declared.pipes.FoundPipe.{FoundPipe}
use Rattle.agg_reading.specs.declared.pipes.FoundPipe.TheVariants as walked
use Rattle.agg_reading.specs.declared.pipes.ReadItem.{ReadItem}
use Rattle.agg_reading.specs.declared.pipes.ReadItem.TheVariants as read_item
use Rattle.agg_reading.specs.declared.pipes.ReadPipeKind.{ReadPipeKind}
use Rattle.agg_reading.specs.declared.pipes.Siblings.{Siblings}
use Rattle.agg_reading.specs.Reading.{Reading, ◌>>=◌, ◌>>◌, refuse, or_refuse}
use Rattle.agg_reading.specs.Pointer.{member_step}
use Rattle.agg_reading.specs.Json.{json_at, object_at, known, optional}
use Rattle.agg_reading.specs.Numbers.{truth_at}
use Rattle.agg_reading.specs.Query.{top_query_at}
use Rattle.agg_reading.specs.Orders.{resolved, with_order}
use Rattle.agg_reading.specs.Aggregations.{kind_name, kind_at, kind_member, is_metric, is_top_kind, is_aggregation_name, has_both, children_name}
use Rattle.agg_reading.specs.Pipelines.{pipe_name, pipe_kind_at}
use Rattle.agg_reading.specs.PipePaths.{Around, around_of, fitted_pipes}

-- the members of an object of aggregations, and the counts after them
abbrev pub Aggregated : Type 0
Aggregated = Siblings × Counts

abbrev pub no_siblings : Siblings
no_siblings = record { aggs = []; pipes = [] }

-- a pipeline below the aggregation at this place, seen from the object in which the aggregation stands
abbrev pub pipe_below : ℕ → Pipe → FoundPipe
pipe_below i p = walked.Below (record p { at = i ∷ p.at })

-- one more member of an object of aggregations
abbrev pub with_item : ReadItem → Siblings → Siblings
with_item (read_item.Aggregation a pipes) s = record { aggs = s.aggs ++ a ∷ []; pipes = s.pipes ++ map (pipe_below (length s.aggs)) pipes }
with_item (read_item.Pipeline p) s = record { aggs = s.aggs; pipes = s.pipes ++ walked.Here p ∷ [] }

-- read : an aggregation or a pipeline by its context, its name, where it stands, the counts before it, and its value
module _ (read : ℕ → List ℕ → List ℕ → Counts → Data → Reading (ReadItem × Counts)) where
  unfoldable pub aggregations_from : ℕ → List ℕ → Siblings → Counts → Members → Reading Aggregated
  aggregations_from context at done counts no_members = Ok (done, counts)
  aggregations_from context at done counts (member k d ms) =
      if is_aggregation_name k then (do
        a ← read context k (at ++ member_step k) counts d
        aggregations_from context at (with_item a.0 done) a.1 ms)
      else refuse INVALID_NAME (at ++ member_step k)

  unfoldable pub aggregations_at : ℕ → List ℕ → Counts → Data → Reading Aggregated
  aggregations_at context at counts d = object_at WRONG_TYPE at d >>= aggregations_from context at no_siblings counts

  abbrev pub children_of : ℕ → List ℕ → Counts → Option Data → Reading Aggregated
  children_of context at counts None = Ok (no_siblings, counts)
  children_of context at counts (Some d) = aggregations_at context at counts d

  -- the member `aggs` or `aggregations`; none is as an empty object
  unfoldable pub children_in : ℕ → List ℕ → Counts → Members → Reading Aggregated
  children_in context at counts ms = children_of context (at ++ member_step (children_name ms)) counts (get_member (children_name ms) ms)

abbrev pub has_no_item : {A : Type 0} → List A → Bool
has_no_item [] = true
has_no_item (x ∷ xs) = false

abbrev pub is_childless : Siblings → Bool
is_childless s = has_no_item s.aggs && has_no_item s.pipes

-- Metrics have no children; `global` and `composite` stand only at the top.
unfoldable pub placed : Bool → KindName → List ℕ → Members → Siblings → Reading ⊤
placed top kind at ms children =
    if is_metric kind && not (is_childless children) then refuse MISPLACED_AGGREGATION (at ++ member_step (children_name ms))
    else (if is_top_kind kind && not top then refuse MISPLACED_AGGREGATION at else Ok tt)

-- an aggregation, after its kind and its children were read
unfoldable pub assembled : Bool → KindName → List ℕ → List ℕ → Members → ReadKind → Aggregated → Reading (ReadItem × Counts)
assembled top kind name at ms found children = do
  placed top kind at ms children.0
  order ← resolved children.0.aggs [] found.order
  pipes ← fitted_pipes (around_of kind) children.0.aggs children.0.pipes
  Ok (read_item.Aggregation (roll-Agg (record { name = name; kind = with_order order found.kind; children = children.0.aggs })) pipes, children.1)

-- a pipeline, after what it says and its children were read: it has none
unfoldable pub assembled_pipe : List ℕ → List ℕ → Members → ReadPipeKind → Aggregated → Reading (ReadItem × Counts)
assembled_pipe name at ms kind children =
    if is_childless children.0 then Ok (read_item.Pipeline (record { name = name; kind = kind; at = at }), children.1)
    else refuse MISPLACED_AGGREGATION (at ++ member_step (children_name ms))

abbrev pub counts_after : ReadKind → Counts → Counts
counts_after found counts = record { queries = found.queries; aggregations = counts.aggregations + 1 }

-- one more aggregation or pipeline
abbrev pub one_more : Counts → Counts
one_more counts = record { queries = counts.queries; aggregations = counts.aggregations + 1 }

-- read : the aggregations below
module _ (read : ℕ → List ℕ → List ℕ → Counts → Data → Reading (ReadItem × Counts)) where
  -- an aggregation whose kind has this name
  unfoldable pub kind_of : Mapping → Bool → ℕ → List ℕ → List ℕ → Counts → Members → List ℕ × Data → Reading (ReadItem × Counts)
  kind_of m top context name at counts ms said = do
    kind ← or_refuse UNKNOWN_KIND (at ++ member_step said.0) (kind_name said.0)
    found ← kind_at kind m context counts.queries (at ++ member_step said.0) said.1
    children ← children_in read found.within at (counts_after found counts) ms
    assembled top kind name at ms found children

  -- a pipeline of this name; what is below it is read over the rows of its context before it is refused
  unfoldable pub pipe_of : PipeName → ℕ → List ℕ → List ℕ → Counts → Members → List ℕ × Data → Reading (ReadItem × Counts)
  pipe_of pipe context name at counts ms said = do
    kind ← pipe_kind_at pipe (at ++ member_step said.0) said.1
    children ← children_in read context at (one_more counts) ms
    assembled_pipe name at ms kind children

  unfoldable pub item_of : Option PipeName → Mapping → Bool → ℕ → List ℕ → List ℕ → Counts → Members → List ℕ × Data → Reading (ReadItem × Counts)
  item_of (Some pipe) m top context name at counts ms said = pipe_of pipe context name at counts ms said
  item_of None m top context name at counts ms said = kind_of m top context name at counts ms said

  unfoldable pub aggregation_of : Mapping → Bool → ℕ → List ℕ → List ℕ → Counts → Data → Reading (ReadItem × Counts)
  aggregation_of m top context name at counts d = do
    ms ← object_at WRONG_TYPE at d
    said ← kind_member at ms
    item_of (pipe_name said.0) m top context name at counts ms said

-- left : how many levels may still nest; counts : what was begun before
unfoldable pub aggregation_at : ℕ → Mapping → Bool → ℕ → List ℕ → List ℕ → Counts → Data → Reading (ReadItem × Counts)
aggregation_at zero m top context name at counts d = refuse LIMIT_EXCEEDED at
aggregation_at (suc left) m top context name at counts d =
    if nat_le MAX_AGGREGATIONS counts.aggregations then refuse LIMIT_EXCEEDED at
    else aggregation_of (aggregation_at left m false) m top context name at counts d

-- the members of a body; those beside aggregations, query and `allow_partial_search_results` have no effect
abbrev pub body_members : List (List ℕ)
body_members =
    codes "_source" ∷ codes "aggregations" ∷ codes "aggs" ∷ codes "allow_partial_search_results" ∷ codes "docvalue_fields" ∷ codes "explain" ∷ codes "fields" ∷ codes "from" ∷ codes "query" ∷ codes "seq_no_primary_term"
    ∷ codes "size" ∷ codes "sort" ∷ codes "stored_fields" ∷ codes "timeout" ∷ codes "track_scores" ∷ codes "track_total_hits" ∷ codes "version" ∷ []

-- an absent query is match_all
abbrev pub query_or_all : Mapping → ℕ → Option Data → Reading Query
query_or_all m count None = Ok All
query_or_all m count (Some d) = top_query_at m 0 count (member_step (codes "query")) d >>= λ q. Ok q.0

abbrev pub no_counts : Counts
no_counts = record { queries = 0; aggregations = 0 }

-- aggregations nest at most MAX_AGGREGATION_LEVELS deep
unfoldable pub search_in : Mapping → ℕ → Members → Reading Search
search_in m bytes ms = do
  aggs ← children_in (aggregation_at MAX_AGGREGATION_LEVELS m true) 0 [] no_counts ms
  partial ← optional truth_at (codes "allow_partial_search_results") [] ms
  query ← query_or_all m aggs.1.queries (get_member (codes "query") ms)
  pipes ← fitted_pipes Around.other aggs.0.aggs aggs.0.pipes
  Ok (record { query = query; aggs = aggs.0.aggs; body_bytes = bytes; partial = unwrap_or partial false; pipes = pipes })

unfoldable pub search_value_at : Mapping → ℕ → Data → Reading Search
search_value_at m bytes d = do
  ms ← object_at BODY_NOT_OBJECT [] d
  if has_both ms then refuse NOT_ONE_MEMBER [] else (do
    known UNKNOWN_MEMBER body_members [] ms
    search_in m bytes ms)

-- a search in the bytes of a body, or NotJson, or the first refusal
unfoldable pub search_of : Mapping → List ℕ → Reading Search
search_of m body = json_at body >>= search_value_at m (length body)
