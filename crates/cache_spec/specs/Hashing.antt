-- What a hasher is fed of a search on a shard: the number of the shard, the names of the aggregations at the top, and what the query
-- asks for, down to the clauses of a `bool`. Searches that differ further below are told apart by the test alone.
use Rattle.std.specs.Prelude.{◌++◌, [], flat_map}
use Rattle.std.specs.Hash as fed
use Rattle.agg_model.specs.declared.aggregation.Agg.{Agg, out-Agg}
use Rattle.agg_model.specs.declared.aggregation.Search.{Search}
use Rattle.agg_model.specs.declared.query.Probe.{Probe}
use Rattle.agg_model.specs.declared.query.Probe.TheVariants as probe
use Rattle.agg_model.specs.declared.query.Query.{Query, out-Query}
use Rattle.agg_model.specs.declared.query.Query.TheOpen.{Query-F}
use Rattle.agg_model.specs.declared.query.RangeTest.{RangeTest}
use Rattle.cache_spec.specs.declared.shard_search.ShardSearch.{ShardSearch}

abbrev pub name_input : Agg → fed.HashWrites
name_input a = fed.str (out-Agg a).name

abbrev pub probe_input : Probe → fed.HashWrites
probe_input (probe.Whole n) = fed.i128 n
probe_input (probe.Word w) = fed.str w
probe_input (probe.Flag b) = fed.bool b

abbrev pub test_input : RangeTest → fed.HashWrites
test_input t = probe_input t.value

-- a query without those below it
abbrev pub top_input : Query-F Query → fed.HashWrites
top_input Query-F.All = fed.u8 0
top_input (Query-F.Term field value) = fed.u32 field ++ probe_input value
top_input (Query-F.Terms field values) = fed.u32 field ++ flat_map probe_input values
top_input (Query-F.Range field tests) = fed.u32 field ++ flat_map test_input tests
top_input (Query-F.Exists field) = fed.u32 field
top_input (Query-F.Ids values) = flat_map fed.str values
top_input (Query-F.Bool must must_not should minimum) = fed.u32 minimum
top_input (Query-F.Nested path query) = fed.u32 path

abbrev pub clause_input : Query → fed.HashWrites
clause_input q = top_input (out-Query q)

abbrev pub below_input : Query-F Query → fed.HashWrites
below_input (Query-F.Bool must must_not should minimum) = flat_map clause_input must ++ flat_map clause_input must_not ++ flat_map clause_input should
below_input _ = []

abbrev pub query_input : Query → fed.HashWrites
query_input q = clause_input q ++ below_input (out-Query q)

abbrev pub search_input : Search → fed.HashWrites
search_input search = flat_map name_input search.aggs ++ query_input search.query

abbrev pub entry_input : ShardSearch → fed.HashWrites
entry_input e = fed.u32 e.shard ++ search_input e.search
