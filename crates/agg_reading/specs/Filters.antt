-- Filters (Elasticsearch Reference 8, 'Filters aggregation').
use Rattle.std.specs.Prelude.{ℕ, ◌+◌, List, [], ◌∷◌, ◌++◌, length, Option, Some, None, Ok, Bool, false, ◌&&◌, ◌||◌, nat_lt, nat_le, if◌then◌else◌, is_some, ⊤, codes, unwrap_or}
use Rattle.serde_json.specs.Data.{Data, array, object, Items, no_items, item, Members, no_members, member}
use Rattle.agg_model.specs.declared.limits.TheConstants.{MAX_FILTERS, MAX_NAME}
use Rattle.agg_model.specs.declared.body_refusal.TheConstants.{INVALID_NAME, LIMIT_EXCEEDED, MISSING_MEMBER, OUT_OF_RANGE, UNKNOWN_MEMBER, WRONG_TYPE}
use Rattle.agg_model.specs.declared.mapping.Mapping.{Mapping}
use Rattle.agg_model.specs.declared.query.Query.{Query}
use Rattle.agg_model.specs.declared.aggregation.Kind.{Kind}
use Rattle.agg_model.specs.declared.aggregation.Kind.TheVariants as kind
use Rattle.agg_reading.specs.Reading.{Reading, ◌>>=◌, ◌>>◌, refuse, or_refuse}
use Rattle.agg_reading.specs.Pointer.{member_step, item_step}
use Rattle.agg_reading.specs.Json.{object_at, text_at, known, optional, is_among}
use Rattle.agg_reading.specs.Numbers.{truth_at}
use Rattle.agg_reading.specs.Query.{top_query_at}

-- 1 to MAX_NAME bytes
abbrev pub is_name : List ℕ → Bool
is_name name = nat_lt 0 (length name) && nat_le (length name) MAX_NAME

unfoldable pub name_at : List ℕ → List ℕ → Reading ⊤
name_at at name = if is_name name then Ok tt else refuse INVALID_NAME at

-- The filters of a list from this place on, after those before, with the count of queries. At most MAX_FILTERS.
unfoldable pub listed_from : Mapping → ℕ → List ℕ → ℕ → List Query → ℕ → Items → Reading (List Query × ℕ)
listed_from m context at n done count no_items = Ok (done, count)
listed_from m context at n done count (item d ds) =
    if nat_le MAX_FILTERS n then refuse LIMIT_EXCEEDED (at ++ item_step n) else (do
      q ← top_query_at m context count (at ++ item_step n) d
      listed_from m context at (n + 1) (done ++ q.0 ∷ []) q.1 ds)

-- the names and filters of an object, likewise
unfoldable pub named_from : Mapping → ℕ → List ℕ → List (List ℕ) → List Query → ℕ → Members → Reading (List (List ℕ) × List Query × ℕ)
named_from m context at names done count no_members = Ok (names, done, count)
named_from m context at names done count (member k d ms) = do
  name_at (at ++ member_step k) k
  if nat_le MAX_FILTERS (length names) then refuse LIMIT_EXCEEDED (at ++ member_step k) else (do
    q ← top_query_at m context count (at ++ member_step k) d
    named_from m context at (names ++ k ∷ []) (done ++ q.0 ∷ []) q.1 ms)

-- names, where there are, filters, and the count of queries
abbrev pub FilterList : Type 0
FilterList = Option (List (List ℕ)) × List Query × ℕ

-- an object or list of filters that is not empty
unfoldable pub filter_list_at : Mapping → ℕ → ℕ → List ℕ → Data → Reading FilterList
filter_list_at m context count at (array no_items) = refuse OUT_OF_RANGE at
filter_list_at m context count at (array ds) = listed_from m context at 0 [] count ds >>= λ r. Ok (None, r.0, r.1)
filter_list_at m context count at (object no_members) = refuse OUT_OF_RANGE at
filter_list_at m context count at (object ms) = named_from m context at [] [] count ms >>= λ r. Ok (Some r.0, r.1, r.2)
filter_list_at m context count at _ = refuse WRONG_TYPE at

abbrev pub is_taken : Option (List (List ℕ)) → List ℕ → Bool
is_taken None key = false
is_taken (Some names) key = is_among names key

-- the key of the other bucket, which no filter has
abbrev pub free_key : List ℕ → Option (List (List ℕ)) → List ℕ → Reading (Option (List ℕ))
free_key at names key = if is_taken names key then refuse OUT_OF_RANGE (at ++ member_step (codes "other_bucket_key")) else Ok (Some key)

-- the key of the other bucket where it is on: a key switches it on
unfoldable pub other_of : List ℕ → Option (List (List ℕ)) → Option Bool → Option (List ℕ) → Reading (Option (List ℕ))
other_of at names on key = if unwrap_or on false || is_some key then free_key at names (unwrap_or key (codes "_other_")) else Ok None

unfoldable pub filters_in : Mapping → ℕ → ℕ → List ℕ → Members → Reading (Kind × ℕ)
filters_in m context count at ms = do
  said ← optional (filter_list_at m context count) (codes "filters") at ms
  on ← optional truth_at (codes "other_bucket") at ms
  key ← optional (text_at WRONG_TYPE) (codes "other_bucket_key") at ms
  list ← or_refuse MISSING_MEMBER at said
  other ← other_of at list.0 on key
  Ok (kind.Filters list.0 list.1 other, list.2)

unfoldable pub filters_at : Mapping → ℕ → ℕ → List ℕ → Data → Reading (Kind × ℕ)
filters_at m context count at d = do
  ms ← object_at WRONG_TYPE at d
  known UNKNOWN_MEMBER (codes "filters" ∷ codes "other_bucket" ∷ codes "other_bucket_key" ∷ []) at ms
  filters_in m context count at ms
