-- Queries (Elasticsearch Reference 8, 'Query DSL': compound and joining queries).
use Rattle.std.specs.Prelude.{ℕ, zero, suc, ◌+◌, List, [], ◌∷◌, ◌++◌, length, Option, Some, None, Ok, ◌==◌, if◌then◌else◌, nat_le, codes, unwrap_or}
use Rattle.std.specs.Str.{bytes_eq}
use Rattle.serde_json.specs.Data.{Data, array, Items, no_items, item, Members}
use Rattle.serde_json.specs.Find.{get_member}
use Rattle.agg_model.specs.declared.limits.TheConstants.{MAX_QUERIES, MAX_QUERY_LEVELS, MAX_SHOULD_MATCH}
use Rattle.agg_model.specs.declared.body_refusal.TheConstants.{LIMIT_EXCEEDED, NOT_ONE_MEMBER, NO_SUCH_PATH, UNKNOWN_MEMBER, UNKNOWN_QUERY, WRONG_TYPE}
use Rattle.agg_model.specs.declared.mapping.Mapping.{Mapping}
use Rattle.agg_model.specs.declared.mapping.NestedPath.{NestedPath}
use Rattle.agg_model.specs.declared.query.Query.{Query, Nested}
use Rattle.agg_model.specs.declared.query.Query.{Bool as BoolQuery}
use Rattle.agg_reading.specs.declared.names.QueryName.{QueryName}
use Rattle.agg_reading.specs.declared.names.QueryName.TheVariants as name
use Rattle.agg_reading.specs.Reading.{Reading, ◌>>=◌, ◌>>◌, refuse, or_refuse}
use Rattle.agg_reading.specs.Pointer.{member_step, item_step}
use Rattle.agg_reading.specs.Json.{object_at, text_at, required, optional, known, sole_at}
use Rattle.agg_reading.specs.Numbers.{whole_at}
use Rattle.agg_reading.specs.Fields.{nested_from}
use Rattle.agg_model.specs.Contexts.{is_in_context}
use Rattle.agg_reading.specs.Leaves.{match_all_at, term_at, terms_at, range_at, exists_at, ids_at}

unfoldable pub query_name : List ℕ → Option QueryName
query_name s =
    if bytes_eq s (codes "match_all") then Some name.MatchAll else (
    if bytes_eq s (codes "term") then Some name.Term else (
    if bytes_eq s (codes "terms") then Some name.Terms else (
    if bytes_eq s (codes "range") then Some name.Range else (
    if bytes_eq s (codes "exists") then Some name.Exists else (
    if bytes_eq s (codes "ids") then Some name.Ids else (
    if bytes_eq s (codes "bool") then Some name.Bool else (
    if bytes_eq s (codes "nested") then Some name.Nested else None)))))))

-- a query, and how many of the search were begun up to its end
abbrev pub Counted : Type 0
Counted = Query × ℕ

abbrev pub counted : ℕ → Query → Reading Counted
counted count q = Ok (q, count)

abbrev pub default_minimum : List Query → ℕ
default_minimum must = if length must == 0 then 1 else 0

-- how many of `should` have to match
abbrev pub minimum : List Query → List Query → Option ℕ → ℕ
minimum must should said = if length should == 0 then 0 else unwrap_or said (default_minimum must)

-- read : a query within, by the count of queries before it, where it stands, and its value
module _ (read : ℕ → List ℕ → Data → Reading Counted) where
  -- the queries of a list from this place on, after those before
  unfoldable pub queries_from : List ℕ → ℕ → List Query → ℕ → Items → Reading (List Query × ℕ)
  queries_from at n done count no_items = Ok (done, count)
  queries_from at n done count (item d ds) = do
    q ← read count (at ++ item_step n) d
    queries_from at (n + 1) (done ++ q.0 ∷ []) q.1 ds

  -- a query, a list of them, or none
  abbrev pub clause_of : List ℕ → List Query → ℕ → Option Data → Reading (List Query × ℕ)
  clause_of at done count None = Ok (done, count)
  clause_of at done count (Some (array ds)) = queries_from at 0 done count ds
  clause_of at done count (Some d) = read count at d >>= λ q. Ok (done ++ q.0 ∷ [], q.1)

  unfoldable pub clause_at : List ℕ → List ℕ → List Query → ℕ → Members → Reading (List Query × ℕ)
  clause_at name at done count ms = clause_of (at ++ member_step name) done count (get_member name ms)

  -- the queries that all have to match, and what is said of `should`
  unfoldable pub all_at : List ℕ → ℕ → Members → Reading (List Query × Option ℕ × ℕ)
  all_at at count ms = do
    filter ← clause_at (codes "filter") at [] count ms
    least ← optional (whole_at 0 MAX_SHOULD_MATCH) (codes "minimum_should_match") at ms
    must ← clause_at (codes "must") at filter.0 filter.1 ms
    Ok (must.0, least, must.1)

  unfoldable pub clauses_at : List ℕ → ℕ → Members → Reading Counted
  clauses_at at count ms = do
    must ← all_at at count ms
    must_not ← clause_at (codes "must_not") at [] must.2 ms
    should ← clause_at (codes "should") at [] must_not.1 ms
    Ok (BoolQuery must.0 must_not.0 should.0 (minimum must.0 should.0 must.1), should.1)

  unfoldable pub bool_at : List ℕ → ℕ → Data → Reading Counted
  bool_at at count d = do
    ms ← object_at WRONG_TYPE at d
    known UNKNOWN_MEMBER (codes "boost" ∷ codes "filter" ∷ codes "minimum_should_match" ∷ codes "must" ∷ codes "must_not" ∷ codes "should" ∷ []) at ms
    clauses_at at count ms

-- a nested path strictly beneath the context, with its place
unfoldable pub nested_at : Mapping → ℕ → List ℕ → List ℕ → Reading (ℕ × NestedPath)
nested_at m context at path =
    if is_in_context m.nested context path then or_refuse NO_SUCH_PATH at (nested_from 0 m.nested path) else refuse NO_SUCH_PATH at

-- the member `path`, which names such a path
unfoldable pub path_in : Mapping → ℕ → List ℕ → Members → Reading (ℕ × NestedPath)
path_in m context at ms = do
  d ← required (codes "path") at ms
  path ← text_at WRONG_TYPE (at ++ member_step (codes "path")) d
  nested_at m context (at ++ member_step (codes "path")) path

-- read : as above, after the context of the query within
module _ (read : ℕ → ℕ → List ℕ → Data → Reading Counted) where
  unfoldable pub within_at : Mapping → ℕ → List ℕ → ℕ → Data → Reading Counted
  within_at m context at count d = do
    ms ← object_at WRONG_TYPE at d
    known UNKNOWN_MEMBER (codes "boost" ∷ codes "ignore_unmapped" ∷ codes "path" ∷ codes "query" ∷ codes "score_mode" ∷ []) at ms
    path ← path_in m context at ms
    query ← required (codes "query") at ms
    q ← read (path.0 + 1) count (at ++ member_step (codes "query")) query
    Ok (Nested path.0 q.0, q.1)

  abbrev pub named : Mapping → ℕ → List ℕ → ℕ → Option QueryName → Data → Reading Counted
  named m context at count None d = refuse UNKNOWN_QUERY at
  named m context at count (Some name.MatchAll) d = match_all_at at d >>= counted count
  named m context at count (Some name.Term) d = term_at m at d >>= counted count
  named m context at count (Some name.Terms) d = terms_at m at d >>= counted count
  named m context at count (Some name.Range) d = range_at m at d >>= counted count
  named m context at count (Some name.Exists) d = exists_at m at d >>= counted count
  named m context at count (Some name.Ids) d = ids_at at d >>= counted count
  named m context at count (Some name.Bool) d = bool_at (read context) at count d
  named m context at count (Some name.Nested) d = within_at m context at count d

  unfoldable pub named_at : Mapping → ℕ → List ℕ → ℕ → List ℕ → Data → Reading Counted
  named_at m context at count s d = named m context (at ++ member_step s) count (query_name s) d

-- left : how many levels may still nest; before : how many queries of the search were begun before
unfoldable pub query_at : ℕ → Mapping → ℕ → ℕ → List ℕ → Data → Reading Counted
query_at zero m context before at d = refuse LIMIT_EXCEEDED at
query_at (suc left) m context before at d =
    if nat_le MAX_QUERIES before then refuse LIMIT_EXCEEDED at else (do
      ms ← object_at WRONG_TYPE at d
      said ← sole_at NOT_ONE_MEMBER at ms
      named_at (query_at left m) m context at (before + 1) said.0 said.1)

-- a query at its top: at most MAX_QUERY_LEVELS
unfoldable pub top_query_at : Mapping → ℕ → ℕ → List ℕ → Data → Reading Counted
top_query_at m context before at d = query_at MAX_QUERY_LEVELS m context before at d

-- the query alone
unfoldable pub query_from : Mapping → ℕ → ℕ → List ℕ → Data → Reading Query
query_from m context before at d = top_query_at m context before at d >>= λ q. Ok q.0
