-- The weight of a row on one level, as code reads it.
use Rattle.std.proofs.Common.{◌≡◌, refl, ℕ, ◌+◌, ◌≤◌, List, [], ◌∷◌, sym, ◌∙◌, ap, arith}
use Rattle.std.specs.List.{sum_by}
use Rattle.std.proofs.lemmas.List.Sums.{sum_by-cons}
use Rattle.agg_model.specs.declared.row.FieldValues.{FieldValues}
use Rattle.agg_model.specs.declared.row.Row.{Row, Row', roll-Row, out-Row, roll-out-Row}
use Rattle.agg_model.specs.declared.row.Children.{Children, roll-Children, out-Children, roll-out-Children}
use Rattle.agg_reading.specs.Store.{row_weight, children_weight, all_children_weight}
use Rattle.agg_model.specs.Weight.{field_weight}

-- what a row weighs without its own place and values
abbrev below : Row → ℕ
below (Row' values n cs) = all_children_weight cs

below-roll : (values : List FieldValues) (cs : List Children) → below (roll-Row (record { values = values; children = cs })) ≡ sum_by children_weight cs
unfolding Rattle.agg_model.specs.declared.row.Children.TheViews.roll-Row Rattle.agg_model.specs.declared.row.Children.TheBlock.hidden-the_row-Children-1 denote.Hole.Carrier.roll denote.Hole.Carrier.hidden
below-roll values [] = refl
below-roll values (c ∷ cs) = ap (λ (n : ℕ). children_weight c + n) (below-roll values cs) ∙ sym (sum_by-cons children_weight c cs)

row-roll : (values : List FieldValues) (cs : List Children) → row_weight (roll-Row (record { values = values; children = cs })) ≡ 1 + sum_by field_weight values + sum_by children_weight cs
unfolding Rattle.agg_model.specs.declared.row.Children.TheViews.roll-Row Rattle.agg_model.specs.declared.row.Children.TheBlock.hidden-the_row-Children-1 denote.Hole.Carrier.roll denote.Hole.Carrier.hidden
row-roll values cs = ap (λ (n : ℕ). 1 + sum_by field_weight values + n) (below-roll values cs)

children-roll : (path : ℕ) (rs : List Row) → children_weight (roll-Children (record { path = path; rows = rs })) ≡ sum_by row_weight rs
unfolding Rattle.agg_model.specs.declared.row.Children.TheViews.roll-Children Rattle.agg_model.specs.declared.row.Children.TheBlock.hidden-the_row-Row-0 denote.Hole.Carrier.roll denote.Hole.Carrier.hidden
children-roll path [] = refl
children-roll path (r ∷ rs) = ap (λ (n : ℕ). row_weight r + n) (children-roll path rs) ∙ sym (sum_by-cons row_weight r rs)

pub row_weight-out : (r : Row) → row_weight r ≡ 1 + sum_by field_weight (out-Row r).values + sum_by children_weight (out-Row r).children
row_weight-out r = ap row_weight (sym (roll-out-Row r)) ∙ row-roll (out-Row r).values (out-Row r).children

pub children_weight-out : (c : Children) → children_weight c ≡ sum_by row_weight (out-Children c).rows
children_weight-out c = ap children_weight (sym (roll-out-Children c)) ∙ children-roll (out-Children c).path (out-Children c).rows

pub row_weighs : (r : Row) → 1 ≤ row_weight r
row_weighs r = omega (arith, row_weight-out r)
