-- What the examples are made of: documents, searches and trees, written short.
use Rattle.std.specs.Prelude.{ℕ, ℤ, Bool, true, false, List, [], ◌∷◌, map, Option, None}
use Rattle.agg_model.specs.declared.key.Key.{Key}
use Rattle.agg_model.specs.declared.row.Scalar.TheVariants as scalar
use Rattle.agg_model.specs.declared.row.FieldValues.{FieldValues}
use Rattle.agg_model.specs.declared.row.Row.{Row, roll-Row}
use Rattle.agg_model.specs.declared.row.Children.{Children, roll-Children}
use Rattle.agg_model.specs.declared.query.Query.{Query}
use Rattle.agg_model.specs.declared.query.Probe.{Probe}
use Rattle.agg_model.specs.declared.query.RangeOp.{RangeOp}
use Rattle.agg_model.specs.declared.query.RangeTest.{RangeTest}
use Rattle.agg_model.specs.declared.aggregation.Agg.{Agg, roll-Agg}
use Rattle.agg_model.specs.declared.aggregation.Bounds.{Bounds}
use Rattle.agg_model.specs.declared.aggregation.CompositeSource.{CompositeSource}
use Rattle.agg_model.specs.declared.aggregation.Kind.{Kind}
use Rattle.agg_model.specs.declared.aggregation.Kind.TheVariants as kind
use Rattle.agg_model.specs.declared.aggregation.Order.{Order}
use Rattle.agg_model.specs.declared.aggregation.OrderBy.{OrderBy}
use Rattle.agg_model.specs.declared.aggregation.OrderBy.TheVariants as by
use Rattle.agg_model.specs.declared.aggregation.Search.{Search}
use Rattle.agg_model.specs.declared.partial.Bucket.{Bucket}
use Rattle.agg_model.specs.declared.partial.Node.{Node}
use Rattle.agg_model.specs.declared.partial.Node.TheVariants.{Keyed, Number}
use Rattle.agg_model.specs.declared.partial.Partial.{Partial}

-- a document's id and root row
abbrev pub Document : Type 0
Document = List ℕ × Row

abbrev pub numbers : ℕ → List ℤ → FieldValues
numbers field ns = record { field = field; values = map scalar.Whole ns }

abbrev pub words : ℕ → List (List ℕ) → FieldValues
words field ws = record { field = field; values = map scalar.Word ws }

abbrev pub flags : ℕ → List Bool → FieldValues
flags field bs = record { field = field; values = map scalar.Flag bs }

abbrev pub row : List FieldValues → List Children → Row
row values children = roll-Row (record { values = values; children = children })

-- a row with no nested documents
abbrev pub flat : List FieldValues → Row
flat values = row values []

abbrev pub nested : ℕ → List Row → Children
nested path rows = roll-Children (record { path = path; rows = rows })

abbrev pub document : List ℕ → Row → Document
document id root = (id, root)

abbrev pub bound : RangeOp → Probe → RangeTest
bound op value = record { op = op; value = value }

abbrev pub order : OrderBy → Bool → Order
order by descending = record { by = by; descending = descending }

abbrev pub by_count : List Order
by_count = order by.Count true ∷ []

abbrev pub by_key : List Order
by_key = order by.Key false ∷ []

abbrev pub bounds : Option ℤ → Option ℤ → Bounds
bounds least greatest = record { min = least; max = greatest }

abbrev pub source : List ℕ → ℕ → Option ℕ → Bool → Bool → CompositeSource
source name field interval descending missing_bucket =
    record { name = name; field = field; interval = interval; descending = descending; missing_bucket = missing_bucket }

-- terms with no member but the field
abbrev pub terms : ℕ → Kind
terms field = kind.Terms field 10 25 1 by_count None [] None false

abbrev pub agg : List ℕ → Kind → List Agg → Agg
agg name k children = roll-Agg (record { name = name; kind = k; children = children })

abbrev pub search_of : Query → List Agg → Search
search_of query aggs = record { query = query; aggs = aggs; body_bytes = 0; partial = false; pipes = [] }

abbrev pub bucket : Key → ℕ → List Node → Bucket
bucket key count children = record { key = key; count = count; covered = 0; children = children }

abbrev pub covered_bucket : Key → ℕ → ℕ → List Node → Bucket
covered_bucket key count covered children = record { key = key; count = count; covered = covered; children = children }

-- a node of which nothing was cut
abbrev pub keyed : List Bucket → Node
keyed buckets = Keyed buckets 0 0 0

abbrev pub metric : ℕ → ℤ → Option ℤ → Option ℤ → Node
metric count sum least greatest = Number (record { count = count; sum = sum; least = least; greatest = greatest })

abbrev pub result : ℕ → List Node → Partial
result hits nodes = record { hits = hits; nodes = nodes }
