use Rattle.std.proofs.Common.{rules}
use Rattle.std.proofs.lemmas.Result.{on_ok_weaker}
use Rattle.std.proofs.lemmas.Cmp.{on_total}
use Rattle.agg_evaluation.specs.KeyOrder.{key_cmp}
use Rattle.agg_evaluation.specs.Orders.{bucket_key}
use Rattle.agg_evaluation.proofs.KeyCompare.{key_cmp_total}
use Rattle.list_laws.proofs.StableSort.{sorted_from_sort_by}
use Rattle.bucket_order.proofs.sort.sort_by_key.Goals as goal

pub returns-clause-sorted : goal.returns-clause-sorted
returns-clause-sorted c = on_ok_weaker c.sort_by.result (λ up. sorted_from_sort_by (λ a b. key_cmp (bucket_key a) (bucket_key b)) (on_total bucket_key key_cmp_total) _ _ up c.sort_by.ensures.stable (λ a r f k. search rules)) c.sort_by.ensures.sorted
