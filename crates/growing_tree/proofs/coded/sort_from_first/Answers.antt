use Rattle.std.proofs.Common.{rules}
use Rattle.std.proofs.lemmas.Result.{on_ok_weaker}
use Rattle.std.proofs.lemmas.Cmp.{int_cmp_total, on_total}
use Rattle.list_laws.proofs.StableSort.{sorted_from_sort_by}
use Rattle.growing_tree.specs.CodedBuckets.{by_code}
use Rattle.growing_tree.specs.declared.coded.Coded.{Coded}
use Rattle.growing_tree.proofs.coded.sort_from_first.Goals as goal

pub returns : goal.returns
returns c = on_ok_weaker c.sort_by.result (λ up. sorted_from_sort_by by_code (on_total (λ (c : Coded). c.code) int_cmp_total) _ _ up c.sort_by.ensures.stable (λ a r f k. search rules)) c.sort_by.ensures.sorted
