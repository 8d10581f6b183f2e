use Rattle.std.proofs.Common.{◌≡◌, List, ◌∙◌, subst, Some}
use Rattle.std.specs.Prelude.{slice_get}
use Rattle.agg_model.specs.declared.aggregation.Search.{Search}
use Rattle.agg_evaluation.specs.SearchFits.{search_fits}
use Rattle.agg_cost.specs.Searches.{kinds_of}
use Rattle.agg_cost.proofs.EachTask.{all-at, next-search}
use Rattle.agg_cost.proofs.Summing.{here}
use Rattle.shard_columns.specs.Index.{rows_by_shard}
use Rattle.agg_cost.proofs.searches.ceilings.Goals as goal

pub ceilings_by_shard-requires-clause-made : goal.ceilings_by_shard-requires-clause-made
ceilings_by_shard-requires-clause-made g c κs within =
    let items = c.as_slice-search-items.result.now in
    let at = here items c.loop-search.search-index c.search-item.result c.loop-search-test.true c.search-item.is in
    all-at (search_fits c.args.index.now.mapping) c.args.searches.now c.loop-search.search-index c.search-item.result c.requires.made
    (subst (λ (xs : List Search). slice_get xs c.loop-search.search-index ≡ Some c.search-item.result) c.as_slice-search-items.ensures at)

pub loop-search-preserved : goal.loop-search-preserved
loop-search-preserved g c =
    let index = c.args.index.now in
    let items = c.as_slice-search-items.result.now in
    let at = here items c.loop-search.search-index c.search-item.result c.loop-search-test.true c.search-item.is in
    c.in_ok-append.ensures.items
    ∙ next-search (kinds_of index.mapping) items (rows_by_shard index.shards) c.loop-search.search-index c.search-item.result c.loop-search.all.items c.in_ok-found.found.items at
    c.loop-search.invariant c.in_ok-found.ensures
