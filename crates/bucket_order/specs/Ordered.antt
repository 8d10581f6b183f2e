-- Buckets that stand in an order ('Terms aggregation' on order).
use Rattle.std.specs.Prelude.{List}
use Rattle.std.specs.Ordering.{is_lt}
use Rattle.agg_model.specs.declared.aggregation.Agg.{Agg}
use Rattle.agg_model.specs.declared.aggregation.Order.{Order}
use Rattle.agg_model.specs.declared.partial.Bucket.{Bucket}
use Rattle.agg_evaluation.specs.Orders.{bucket_cmp}
use Rattle.bucket_order.specs.Kinds.{child_kinds}
use Rattle.list_laws.proofs.StableSort.{Ascends}

-- none is below one before it
abbrev pub AreOrdered : List Agg → List Order → List Bucket → Type 0
AreOrdered children orders = Ascends (λ a b. is_lt (bucket_cmp (child_kinds children) orders a b))
