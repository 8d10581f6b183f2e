-- Where aggregations may stand: a global aggregation at the top alone (Elasticsearch Reference 8, 'Global aggregation').
use Rattle.std.specs.Prelude.{Bool, true, false, not, ◌&&◌, ◌||◌}
use Rattle.std.specs.List.{list_all}
use Rattle.agg_model.specs.declared.aggregation.Agg.{Agg}
use Rattle.agg_model.specs.declared.aggregation.Agg.TheOpen.{Agg-F}
use Rattle.agg_model.specs.declared.aggregation.Search.{Search}
use Rattle.agg_evaluation.specs.Folds.{fold_agg}
use Rattle.agg_evaluation.specs.Trace.{is_global}

-- whether an aggregation, which stands at the top or not, is no global one below the top, nor has one below it
abbrev pub is_placed_at : Agg-F (Bool → Bool) → Bool → Bool
is_placed_at a at_top = (at_top || not (is_global a.kind)) && list_all (λ child. child false) a.children

abbrev pub is_placed : Agg → Bool → Bool
is_placed = fold_agg is_placed_at

-- whether a search has global aggregations at the top alone
abbrev pub has_globals_at_top : Search → Bool
has_globals_at_top search = list_all (λ a. is_placed a true) search.aggs
