-- A fold of a row on one level, as code reads it.
use Rattle.std.specs.Prelude.{◌≡◌, refl, ℕ, List, [], ◌∷◌, map}
use Rattle.std.proofs.Common.{sym, ◌∙◌, ap}
use Rattle.agg_model.specs.declared.row.FieldValues.{FieldValues}
use Rattle.agg_model.specs.declared.row.Row.{Row, Row', roll-Row, out-Row, roll-out-Row}
use Rattle.agg_model.specs.declared.row.Children.{Children, Children', roll-Children, out-Children, roll-out-Children}
use Rattle.agg_model.specs.declared.row.Children.TheOpen.{Row-F, Children-F}
use Rattle.agg_evaluation.specs.Folds.{fold_row, fold_rows, fold_children, fold_all_children}
use Rattle.agg_evaluation.proofs.Computing.{computing}

module _ {A B : Type 0} (step : Children-F A B → A) (row_step : Row-F A B → B) where
  abbrev parts : Row → List A
  parts (Row' values n cs) = fold_all_children step row_step cs

  abbrev row_parts : Children → List B
  row_parts (Children' path n rs) = fold_rows step row_step rs

  parts-roll : (values : List FieldValues) (cs : List Children) → parts (roll-Row (record { values = values; children = cs })) ≡ map (fold_children step row_step) cs
  unfolding computing
  parts-roll values [] = refl
  parts-roll values (c ∷ cs) = ap (λ (xs : List A). fold_children step row_step c ∷ xs) (parts-roll values cs)

  row_parts-roll : (path : ℕ) (rs : List Row) → row_parts (roll-Children (record { path = path; rows = rs })) ≡ map (fold_row step row_step) rs
  unfolding computing
  row_parts-roll path [] = refl
  row_parts-roll path (r ∷ rs) = ap (λ (xs : List B). fold_row step row_step r ∷ xs) (row_parts-roll path rs)

  row-roll : (values : List FieldValues) (cs : List Children) → fold_row step row_step (roll-Row (record { values = values; children = cs })) ≡ row_step (record { values = values; children = map (fold_children step row_step) cs })
  unfolding computing
  row-roll values cs = ap (λ (xs : List A). row_step (record { values = values; children = xs })) (parts-roll values cs)

  children-roll : (path : ℕ) (rs : List Row) → fold_children step row_step (roll-Children (record { path = path; rows = rs })) ≡ step (record { path = path; rows = map (fold_row step row_step) rs })
  unfolding computing
  children-roll path rs = ap (λ (xs : List B). step (record { path = path; rows = xs })) (row_parts-roll path rs)

  pub fold_row-out : (r : Row) → fold_row step row_step r ≡ row_step (record { values = (out-Row r).values; children = map (fold_children step row_step) (out-Row r).children })
  fold_row-out r = ap (fold_row step row_step) (sym (roll-out-Row r)) ∙ row-roll (out-Row r).values (out-Row r).children

  pub fold_children-out : (c : Children) → fold_children step row_step c ≡ step (record { path = (out-Children c).path; rows = map (fold_row step row_step) (out-Children c).rows })
  fold_children-out c = ap (fold_children step row_step) (sym (roll-out-Children c)) ∙ children-roll (out-Children c).path (out-Children c).rows
