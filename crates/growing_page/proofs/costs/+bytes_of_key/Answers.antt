use Rattle.std.proofs.Common.{refl, ◌∙◌, ap, sym, sum_by}
use Rattle.agg_evaluation.specs.Cost.{key_bytes}
use Rattle.growing_page.proofs.KeyCosts.{key_bytes-Many}
use Rattle.growing_page.proofs.costs.+bytes_of_key.Goals as goal

pub loop-part-init : goal.loop-part-init
loop-part-init t c = record {
  is = refl;
  all = ap key_bytes c.in-Many.is ∙ key_bytes-Many c.in-Many.parts ∙ ap (sum_by key_bytes) (sym c.as_slice-part-items.ensures);
}
