-- The children of an aggregation are smaller than the aggregation.
use Rattle.std.proofs.Common.{◌<◌, arith}
use denote.Param.Weighed.{most}
use Rattle.agg_model.specs.declared.aggregation.Agg.{Agg, out-Agg, size-Agg}
use Rattle.agg_model.specs.declared.aggregation.Agg.TheViews.{size_is-Agg}

pub children_less : (a : Agg) → most size-Agg (out-Agg a).children < size-Agg a
children_less a = omega (arith, size_is-Agg a)
