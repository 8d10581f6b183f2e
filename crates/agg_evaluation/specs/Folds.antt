-- A value of a recursive type, level by level: a step takes one level, with the results for its children in their places.
-- Queries and aggregations nest ('Query DSL', 'Aggregations' of Elasticsearch Reference 8), and so do rows, keys and trees.
use Rattle.std.specs.Prelude.{List, [], ◌∷◌}
use Rattle.agg_model.specs.declared.key.Key.{Key, Row_of-Key, end_of-Key, more_of-Key}
use Rattle.agg_model.specs.declared.key.Key.TheOpen.{Key-F}
use Rattle.agg_model.specs.declared.aggregation.Agg.{Agg, Agg', Row_of-Agg, end_of-Agg, more_of-Agg}
use Rattle.agg_model.specs.declared.aggregation.Agg.TheOpen.{Agg-F}
use Rattle.agg_model.specs.declared.query.Query.{Query, Row_of-Query, end_of-Query, more_of-Query}
use Rattle.agg_model.specs.declared.query.Query.TheOpen.{Query-F}
use Rattle.agg_model.specs.declared.row.Row.{Row, Row', Row_of-Children, end_of-Children, more_of-Children}
use Rattle.agg_model.specs.declared.row.Children.{Children, Children', Row_of-Row, end_of-Row, more_of-Row}
use Rattle.agg_model.specs.declared.row.Children.TheOpen.{Row-F, Children-F}
use Rattle.agg_model.specs.declared.partial.Node.{Node, Row_of-Bucket, end_of-Bucket, more_of-Bucket}
use Rattle.agg_model.specs.declared.partial.Node.TheOpen.{Node-F, Bucket-F}
use Rattle.agg_model.specs.declared.partial.Bucket.{Row_of-Node, end_of-Node, more_of-Node}
use Rattle.agg_model.specs.declared.key.Key.TheVariants as key
use Rattle.agg_model.specs.declared.query.Query.TheVariants as query
use Rattle.agg_model.specs.declared.partial.Node.TheVariants as node

module _ {A : Type 0} (step : Key-F A → A) where
  abbrev mutual
    pub fold_key : Key → A
    fold_key (key.Whole n) = step (Key-F.Whole n)
    fold_key (key.Flag b) = step (Key-F.Flag b)
    fold_key (key.Word w) = step (Key-F.Word w)
    fold_key key.Null = step Key-F.Null
    fold_key (key.Fixed n) = step (Key-F.Fixed n)
    fold_key (key.Many' n ks) = step (Key-F.Many (fold_keys ks))

    pub fold_keys : {n : _} → Row_of-Key n → List A
    fold_keys end_of-Key = []
    fold_keys (more_of-Key k ks) = fold_key k ∷ fold_keys ks

module _ {A : Type 0} (step : Agg-F A → A) where
  abbrev mutual
    pub fold_agg : Agg → A
    fold_agg (Agg' name kind n children) = step (record { name = name; kind = kind; children = fold_aggs children })

    pub fold_aggs : {n : _} → Row_of-Agg n → List A
    fold_aggs end_of-Agg = []
    fold_aggs (more_of-Agg a rest) = fold_agg a ∷ fold_aggs rest

module _ {A : Type 0} (step : Query-F A → A) where
  abbrev mutual
    pub fold_query : Query → A
    fold_query query.All = step Query-F.All
    fold_query (query.Term field value) = step (Query-F.Term field value)
    fold_query (query.Terms field values) = step (Query-F.Terms field values)
    fold_query (query.Range field tests) = step (Query-F.Range field tests)
    fold_query (query.Exists field) = step (Query-F.Exists field)
    fold_query (query.Ids values) = step (Query-F.Ids values)
    fold_query (query.Bool' l must m must_not n should minimum) = step (Query-F.Bool (fold_queries must) (fold_queries must_not) (fold_queries should) minimum)
    fold_query (query.Nested' path one query) = step (Query-F.Nested path (fold_only query))

    pub fold_queries : {n : _} → Row_of-Query n → List A
    fold_queries end_of-Query = []
    fold_queries (more_of-Query q rest) = fold_query q ∷ fold_queries rest

    pub fold_only : Row_of-Query 1 → A
    fold_only (more_of-Query q rest) = fold_query q

module _ {A B : Type 0} (step : Children-F A B → A) (row_step : Row-F A B → B) where
  abbrev mutual
    pub fold_row : Row → B
    fold_row (Row' values n children) = row_step (record { values = values; children = fold_all_children children })

    pub fold_rows : {n : _} → Row_of-Row n → List B
    fold_rows end_of-Row = []
    fold_rows (more_of-Row r rest) = fold_row r ∷ fold_rows rest

    pub fold_children : Children → A
    fold_children (Children' path n rows) = step (record { path = path; rows = fold_rows rows })

    pub fold_all_children : {n : _} → Row_of-Children n → List A
    fold_all_children end_of-Children = []
    fold_all_children (more_of-Children c rest) = fold_children c ∷ fold_all_children rest

module _ {A B : Type 0} (step : Node-F A B → A) (bucket_step : Bucket-F A B → B) where
  abbrev mutual
    pub fold_node : Node → A
    fold_node (node.Keyed' n buckets error full cut) = step (Node-F.Keyed (fold_buckets buckets) error full cut)
    fold_node (node.Fixed' n buckets) = step (Node-F.Fixed (fold_buckets buckets))
    fold_node (node.Number m) = step (Node-F.Number m)

    pub fold_nodes : {n : _} → Row_of-Node n → List A
    fold_nodes end_of-Node = []
    fold_nodes (more_of-Node m rest) = fold_node m ∷ fold_nodes rest

    pub fold_buckets : {n : _} → Row_of-Bucket n → List B
    fold_buckets end_of-Bucket = []
    fold_buckets (more_of-Bucket key count covered n children rest) =
        bucket_step (record { key = key; count = count; covered = covered; children = fold_nodes children }) ∷ fold_buckets rest
