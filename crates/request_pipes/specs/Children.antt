-- How many aggregations stand directly below one, which a path to a child says by a number of 32 bits.
use Rattle.std.specs.Prelude.{List, length, ◌≤◌}
use Rattle.std.specs.List.{All}
use Rattle.agg_model.specs.declared.limits.TheConstants.{MAX_AGGREGATIONS}
use Rattle.agg_model.specs.declared.aggregation.Agg.{Agg, out-Agg}

abbrev pub HasFewChildren : Agg → Type 0
HasFewChildren a = length (out-Agg a).children ≤ MAX_AGGREGATIONS

abbrev pub HaveFewChildren : List Agg → Type 0
HaveFewChildren aggs = All HasFewChildren aggs
