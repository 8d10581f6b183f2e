-- Which rows a query matches (Elasticsearch Reference 8, 'Query DSL': match all, 'Term', 'Terms', 'Range', 'Exists', 'IDs',
-- 'Boolean' and 'Nested' queries).
use Rattle.std.specs.Prelude.{◌+◌, not, ◌&&◌, Bool, true, List, length, nat_le, filter, map}
use Rattle.std.specs.List.{list_any, list_all}
use Rattle.std.specs.declared.cmp.Ordering.{Ordering}
use Rattle.std.specs.Ordering.{is_gt, is_ge, is_lt, is_le}
use Rattle.std.specs.Str.{bytes_eq}
use Rattle.agg_model.specs.declared.query.Query.{Query}
use Rattle.agg_model.specs.declared.query.Query.TheOpen.{Query-F}
use Rattle.agg_model.specs.declared.query.RangeOp.{RangeOp}
use Rattle.agg_model.specs.declared.query.RangeOp.TheVariants.{Gt, Gte, Lt, Lte}
use Rattle.agg_model.specs.declared.query.RangeTest.{RangeTest}
use Rattle.agg_model.specs.declared.row.Scalar.{Scalar}
use Rattle.agg_evaluation.specs.Folds.{fold_query}
use Rattle.agg_evaluation.specs.Rows.{PlacedRow, values_of, beneath, has_value, roots}
use Rattle.agg_evaluation.specs.KeyOrder.{key_cmp, key_eq, has_key}
use Rattle.agg_model.specs.ValueKeys.{scalar_key, probe_key}

-- whether a bound allows a value that compares with it in this way
abbrev pub allows : RangeOp → Ordering → Bool
allows Gt o = is_gt o
allows Gte o = is_ge o
allows Lt o = is_lt o
allows Lte o = is_le o

abbrev pub passes : RangeTest → Scalar → Bool
passes test value = allows test.op (key_cmp (scalar_key value) (probe_key test.value))

-- a query over its clauses, each given as the rows that it matches; `all` are the rows of the shard
abbrev pub matches_at : List PlacedRow → Query-F (PlacedRow → Bool) → PlacedRow → Bool
matches_at all Query-F.All row = true
matches_at all (Query-F.Term field value) row = list_any (λ v. key_eq (scalar_key v) (probe_key value)) (values_of field row)
matches_at all (Query-F.Terms field values) row = list_any (λ v. has_key (scalar_key v) (map probe_key values)) (values_of field row)
matches_at all (Query-F.Range field tests) row = list_any (λ v. list_all (λ test. passes test v) tests) (values_of field row)
matches_at all (Query-F.Exists field) row = has_value field row
matches_at all (Query-F.Ids values) row = list_any (bytes_eq row.id) values
matches_at all (Query-F.Bool must must_not should minimum) row =
    list_all (λ q. q row) must && not (list_any (λ q. q row) must_not) && nat_le minimum (length (filter (λ q. q row) should))
matches_at all (Query-F.Nested path query) row = list_any query (beneath all (path + 1) row)

abbrev pub matches : List PlacedRow → Query → PlacedRow → Bool
matches all = fold_query (matches_at all)

-- the roots that the query matches
abbrev pub matched_roots : List PlacedRow → Query → List PlacedRow
matched_roots all query = filter (matches all query) (roots all)
