-- The kinds of aggregations, by which an order by a child takes its values ('Terms aggregation' on order).
use Rattle.std.specs.Prelude.{List, map}
use Rattle.agg_model.specs.declared.aggregation.Kind.{Kind}
use Rattle.agg_model.specs.declared.aggregation.Agg.{Agg, out-Agg}

abbrev pub kind_of : Agg → Kind
kind_of a = (out-Agg a).kind

abbrev pub child_kinds : List Agg → List Kind
child_kinds aggs = map kind_of aggs
