use Rattle.std.proofs.Common.{◌∙◌, sym, ap}
use Rattle.agg_evaluation.proofs.FoldLaws.{fold_key-Many}
use Rattle.agg_spec.specs.RangeCheck.{key_in_range, part_in_range}
use Rattle.final_reduce.proofs.SelectLaws.{list_all-map}
use Rattle.final_reduce.proofs.range.+parts.Goals as goal

pub key_in_range-returns-in-Many : goal.key_in_range-returns-in-Many
key_in_range-returns-in-Many t c = c.parts_in_range.ensures ∙ sym (list_all-map (λ b. b) key_in_range c.in-Many.parts) ∙ sym (fold_key-Many part_in_range c.in-Many.parts) ∙ ap key_in_range (sym c.in-Many.is)
