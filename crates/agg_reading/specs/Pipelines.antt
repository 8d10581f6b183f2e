-- Pipelines as they are written (Elasticsearch Reference 8, 'Pipeline aggregations', 'Cumulative sum aggregation', 'Derivative
-- aggregation', 'Sum bucket aggregation', 'Min bucket aggregation', 'Max bucket aggregation', 'Bucket sort aggregation').
use Rattle.std.specs.Prelude.{ℕ, ◌+◌, List, [], ◌∷◌, ◌++◌, Option, Some, None, Ok, if◌then◌else◌, nat_le, codes, unwrap_or}
use Rattle.std.specs.Str.{bytes_eq}
use Rattle.serde_json.specs.Data.{Data, Items, no_items, item, Members}
use Rattle.agg_model.specs.declared.limits.TheConstants.{MAX_ORDERS, MAX_SIZE}
use Rattle.agg_model.specs.declared.body_refusal.TheConstants.{NOT_ONE_MEMBER, OUT_OF_RANGE, UNKNOWN_MEMBER, WRONG_TYPE}
use Rattle.agg_reading.specs.declared.names.PipeName.{PipeName}
use Rattle.agg_reading.specs.declared.names.PipeName.TheVariants as name
use Rattle.agg_reading.specs.declared.parts.NamedOrder.{NamedOrder}
use Rattle.agg_reading.specs.declared.pipes.NamedPath.{NamedPath}
use Rattle.agg_reading.specs.declared.pipes.ReadPipeKind.{ReadPipeKind}
use Rattle.agg_reading.specs.declared.pipes.ReadPipeKind.TheVariants as written
use Rattle.agg_reading.specs.Reading.{Reading, ◌>>=◌, ◌>>◌, refuse}
use Rattle.agg_reading.specs.Pointer.{member_step, item_step}
use Rattle.agg_reading.specs.Json.{object_at, list_at, text_at, required, known, optional, sole_at}
use Rattle.agg_reading.specs.Numbers.{whole_at}
use Rattle.agg_reading.specs.Orders.{direction_at, item_count}

unfoldable pub pipe_name : List ℕ → Option PipeName
pipe_name s =
    if bytes_eq s (codes "bucket_sort") then Some name.BucketSort else (
    if bytes_eq s (codes "cumulative_sum") then Some name.CumulativeSum else (
    if bytes_eq s (codes "derivative") then Some name.Derivative else (
    if bytes_eq s (codes "max_bucket") then Some name.MaxBucket else (
    if bytes_eq s (codes "min_bucket") then Some name.MinBucket else (
    if bytes_eq s (codes "sum_bucket") then Some name.SumBucket else None)))))

-- an object whose one member is `buckets_path`
unfoldable pub path_at : List ℕ → Data → Reading NamedPath
path_at at d = do
  ms ← object_at WRONG_TYPE at d
  known UNKNOWN_MEMBER (codes "buckets_path" ∷ []) at ms
  said ← required (codes "buckets_path") at ms
  text ← text_at WRONG_TYPE (at ++ member_step (codes "buckets_path")) said
  Ok (record { path = text; at = at ++ member_step (codes "buckets_path") })

-- an order of `sort`: an object of one member, from a path to an object whose one member is the direction
unfoldable pub sort_order_at : List ℕ → Members → Reading NamedOrder
sort_order_at at ms = do
  said ← sole_at NOT_ONE_MEMBER at ms
  inner ← object_at WRONG_TYPE (at ++ member_step said.0) said.1
  known UNKNOWN_MEMBER (codes "order" ∷ []) (at ++ member_step said.0) inner
  direction ← required (codes "order") (at ++ member_step said.0) inner
  descending ← direction_at ((at ++ member_step said.0) ++ member_step (codes "order")) direction
  Ok (record { name = said.0; descending = descending; at = at ++ member_step said.0 })

unfoldable pub sort_orders_from : List ℕ → ℕ → List NamedOrder → Items → Reading (List NamedOrder)
sort_orders_from at n done no_items = Ok done
sort_orders_from at n done (item d ds) = do
  ms ← object_at WRONG_TYPE (at ++ item_step n) d
  o ← sort_order_at (at ++ item_step n) ms
  sort_orders_from at (n + 1) (done ++ o ∷ []) ds

-- a list of at most MAX_ORDERS orders
unfoldable pub sort_orders_at : List ℕ → Data → Reading (List NamedOrder)
sort_orders_at at d = do
  ds ← list_at WRONG_TYPE at d
  if nat_le (item_count ds) MAX_ORDERS then sort_orders_from at 0 [] ds else refuse OUT_OF_RANGE at

-- `from`, `size` and `sort`, each of them optional
unfoldable pub bucket_sort_at : List ℕ → Data → Reading ReadPipeKind
bucket_sort_at at d = do
  ms ← object_at WRONG_TYPE at d
  known UNKNOWN_MEMBER (codes "from" ∷ codes "size" ∷ codes "sort" ∷ []) at ms
  start ← optional (whole_at 0 MAX_SIZE) (codes "from") at ms
  size ← optional (whole_at 0 MAX_SIZE) (codes "size") at ms
  sort ← optional sort_orders_at (codes "sort") at ms
  Ok (written.BucketSort (unwrap_or sort []) (unwrap_or start 0) size)

-- what stands under the name of a pipeline
unfoldable pub pipe_kind_at : PipeName → List ℕ → Data → Reading ReadPipeKind
pipe_kind_at name.BucketSort at d = bucket_sort_at at d
pipe_kind_at name.CumulativeSum at d = path_at at d >>= λ p. Ok (written.CumulativeSum p)
pipe_kind_at name.Derivative at d = path_at at d >>= λ p. Ok (written.Derivative p)
pipe_kind_at name.MaxBucket at d = path_at at d >>= λ p. Ok (written.MaxBucket p)
pipe_kind_at name.MinBucket at d = path_at at d >>= λ p. Ok (written.MinBucket p)
pipe_kind_at name.SumBucket at d = path_at at d >>= λ p. Ok (written.SumBucket p)
