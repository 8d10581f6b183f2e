use Rattle.std.proofs.Common.{◌+◌, ◌-◌, ◌^◌, ℕ, List, min, sym, ◌∙◌, ap}
use Rattle.std.specs.List.{sum_by}
use Rattle.std.proofs.lemmas.List.{take_all}
use Rattle.agg_model.specs.declared.row.Row.{Row, out-Row}
use Rattle.agg_model.specs.declared.row.Children.{Children}
use Rattle.agg_reading.specs.Store.{row_weight, children_weight}
use Rattle.agg_model.specs.Weight.{field_weight}
use Rattle.agg_documents.proofs.Weighing.{row_weight-out, children_weight-out}
use Rattle.agg_documents.proofs.weight.+weight.Goals as goal

pub children_weight-returns : goal.children_weight-returns
children_weight-returns t c =
    c.loop-row.invariant
    ∙ (ap (λ (rs : List Row). min (sum_by row_weight rs) (2 ^ 64 - 1)) (take_all c.loop-row.row-index _ c.loop-row-test.false ∙ c.as_slice-row-items.ensures)
    ∙ ap (λ (n : ℕ). min n (2 ^ 64 - 1)) (sym (children_weight-out c.args.children.now)))

pub row_weight-returns : goal.row_weight-returns
row_weight-returns t c =
    c.loop-children.invariant
    ∙ (ap (λ (cs : List Children). min (1 + sum_by field_weight (out-Row c.args.row.now).values + sum_by children_weight cs) (2 ^ 64 - 1)) (take_all c.loop-children.children-index _ c.loop-children-test.false ∙ c.as_slice-children-items.ensures)
    ∙ ap (λ (n : ℕ). min n (2 ^ 64 - 1)) (sym (row_weight-out c.args.row.now)))
