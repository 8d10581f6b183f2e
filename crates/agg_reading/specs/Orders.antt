-- Orders of buckets (Elasticsearch Reference 8, 'Terms aggregation': order).
use Rattle.std.specs.Prelude.{ℕ, ◌+◌, List, [], ◌∷◌, ◌++◌, Option, Some, None, Ok, Bool, ◌&&◌, if◌then◌else◌, nat_le, codes}
use Rattle.std.specs.Str.{bytes_eq}
use Rattle.serde_json.specs.Data.{Data, array, object, Items, no_items, item, Members}
use Rattle.agg_model.specs.declared.limits.TheConstants.{MAX_ORDERS}
use Rattle.agg_model.specs.declared.body_refusal.TheConstants.{NOT_ONE_MEMBER, NO_SUCH_CHILD, OUT_OF_RANGE, WRONG_TYPE}
use Rattle.agg_model.specs.declared.aggregation.Agg.{Agg, out-Agg}
use Rattle.agg_model.specs.declared.aggregation.Kind.{Kind}
use Rattle.agg_model.specs.Options.{Options, options_of, terms_kind, histogram_kind, is_sortable}
use Rattle.agg_model.specs.declared.aggregation.Order.{Order}
use Rattle.agg_model.specs.declared.aggregation.OrderBy.{OrderBy}
use Rattle.agg_model.specs.declared.aggregation.OrderBy.TheVariants as by
use Rattle.agg_reading.specs.declared.parts.NamedOrder.{NamedOrder}
use Rattle.agg_reading.specs.Reading.{Reading, ◌>>=◌, refuse, or_refuse}
use Rattle.agg_reading.specs.Pointer.{member_step, item_step}
use Rattle.agg_reading.specs.Json.{object_at, sole_at}
use Rattle.agg_reading.specs.Numbers.{choice_at}

-- whether the direction is descending
unfoldable pub direction_at : List ℕ → Data → Reading Bool
direction_at at d = choice_at (codes "asc" ∷ codes "desc" ∷ []) at d >>= λ s. Ok (bytes_eq s (codes "desc"))

-- an object of one member, from a name to a direction
unfoldable pub order_at : List ℕ → Members → Reading NamedOrder
order_at at ms = do
  said ← sole_at NOT_ONE_MEMBER at ms
  descending ← direction_at (at ++ member_step said.0) said.1
  Ok (record { name = said.0; descending = descending; at = at ++ member_step said.0 })

unfoldable pub orders_from : List ℕ → ℕ → List NamedOrder → Items → Reading (List NamedOrder)
orders_from at n done no_items = Ok done
orders_from at n done (item d ds) = do
  ms ← object_at WRONG_TYPE (at ++ item_step n) d
  o ← order_at (at ++ item_step n) ms
  orders_from at (n + 1) (done ++ o ∷ []) ds

unfoldable pub item_count : Items → ℕ
item_count no_items = 0
item_count (item d ds) = 1 + item_count ds

-- an order, or a list of 1 to MAX_ORDERS
unfoldable pub orders_at : List ℕ → Data → Reading (List NamedOrder)
orders_at at (object ms) = order_at at ms >>= λ o. Ok (o ∷ [])
orders_at at (array ds) = if nat_le 1 (item_count ds) && nat_le (item_count ds) MAX_ORDERS then orders_from at 0 [] ds else refuse OUT_OF_RANGE at
orders_at at _ = refuse WRONG_TYPE at

-- the order where none is given
abbrev pub by_default : List ℕ → Bool → NamedOrder
by_default name descending = record { name = name; descending = descending; at = [] }

-- the first such child with this name and an ending, counted from n
unfoldable pub child_from : List ℕ → ℕ → List ℕ → List Agg → Option ℕ
child_from ending n name [] = None
child_from ending n name (a ∷ rest) =
    if bytes_eq name ((out-Agg a).name ++ ending) && is_sortable (out-Agg a).kind then Some n else child_from ending (n + 1) name rest

abbrev pub or_else : Option ℕ → Option ℕ → Option ℕ
or_else (Some n) other = Some n
or_else None other = other

-- a child by its exact name, else by its name and `.value`
unfoldable pub child_named : List ℕ → List Agg → Option ℕ
child_named name children = or_else (child_from [] 0 name children) (child_from (codes ".value") 0 name children)

-- what an order compares, which is a child that is there
unfoldable pub compared_by : List Agg → NamedOrder → Reading OrderBy
compared_by children o =
    if bytes_eq o.name (codes "_count") then Ok by.Count else (
    if bytes_eq o.name (codes "_key") then Ok by.Key else (
    or_refuse NO_SUCH_CHILD o.at (child_named o.name children) >>= λ n. Ok (by.Child n)))

unfoldable pub resolved : List Agg → List Order → List NamedOrder → Reading (List Order)
resolved children done [] = Ok done
resolved children done (o ∷ os) = do
  what ← compared_by children o
  resolved children (done ++ record { by = what; descending = o.descending } ∷ []) os

unfoldable pub with_order : List Order → Kind → Kind
with_order order k = elim (options_of k) [
  | Options.Terms t ↦ terms_kind (record t { order = order })
  | Options.Histogram h ↦ histogram_kind (record h { order = order })
  | Options.Filters names filters other ↦ k
  | Options.Filter query ↦ k
  | Options.Missing field ↦ k
  | Options.Global ↦ k
  | Options.Nested context ↦ k
  | Options.ReverseNested context ↦ k
  | Options.Composite sources size after ↦ k
  | Options.Metric m ↦ k
]
