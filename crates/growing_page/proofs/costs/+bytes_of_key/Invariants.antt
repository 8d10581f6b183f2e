use Rattle.std.proofs.Common.{◌≡◌, sum_by, take}
use Rattle.agg_evaluation.specs.Cost.{key_bytes}
use Rattle.growing_page.proofs.costs.+bytes_of_key.Given as goal

abbrev pub invariant-loop-part : goal.invariant-loop-part
invariant-loop-part l = record {
  is : l.total ≡ sum_by key_bytes (take l.part-index l.part-items);
  all : key_bytes l.key ≡ sum_by key_bytes l.part-items;
}
