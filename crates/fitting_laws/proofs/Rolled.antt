-- Whether a row fits, on one level.
use Rattle.std.specs.Prelude.{◌≡◌, refl, ℕ, ◌+◌, List, [], ◌∷◌, Bool, true, ◌&&◌, nat_le}
use Rattle.std.specs.List.{list_all}
use Rattle.std.proofs.Common.{sym, ◌∙◌, ap}
use Rattle.agg_model.specs.declared.mapping.Mapping.{Mapping}
use Rattle.agg_model.specs.declared.row.FieldValues.{FieldValues}
use Rattle.agg_model.specs.declared.row.Row.{Row, Row', roll-Row}
use Rattle.agg_model.specs.declared.row.Children.{Children, Children', roll-Children, out-Children, roll-out-Children}
use Rattle.agg_evaluation.specs.DocumentFits.{path_of, fields_fit, row_fits, children_fit, child_fits, rows_fit, is_path_of}

-- the children of a list, as a row has them
abbrev pub listed_fit : Mapping → ℕ → ℕ → List Children → Bool
listed_fit m context least [] = true
listed_fit m context least (c ∷ cs) = nat_le least (path_of c) && (child_fits m context c && listed_fit m context (path_of c + 1) cs)

abbrev below : Mapping → ℕ → ℕ → Row → Bool
below m context least (Row' values n cs) = children_fit m context least cs

below-roll : (m : Mapping) (context least : ℕ) (values : List FieldValues) (cs : List Children) → below m context least (roll-Row (record { values = values; children = cs })) ≡ listed_fit m context least cs
unfolding Rattle.agg_model.specs.declared.row.Children.TheViews.roll-Row Rattle.agg_model.specs.declared.row.Children.TheBlock.hidden-the_row-Children-1 denote.Hole.Carrier.roll denote.Hole.Carrier.hidden
below-roll m context least values [] = refl
below-roll m context least values (c ∷ cs) = ap (λ (b : Bool). nat_le least (path_of c) && (child_fits m context c && b)) (below-roll m context (path_of c + 1) values cs)

pub row-roll : (m : Mapping) (context : ℕ) (values : List FieldValues) (cs : List Children) → row_fits m context (roll-Row (record { values = values; children = cs })) ≡ (fields_fit m context 0 values && listed_fit m context 0 cs)
unfolding Rattle.agg_model.specs.declared.row.Children.TheViews.roll-Row Rattle.agg_model.specs.declared.row.Children.TheBlock.hidden-the_row-Children-1 denote.Hole.Carrier.roll denote.Hole.Carrier.hidden
row-roll m context values cs = ap (λ (b : Bool). fields_fit m context 0 values && b) (below-roll m context 0 values cs)

pub path-roll : (path : ℕ) (rs : List Row) → path_of (roll-Children (record { path = path; rows = rs })) ≡ path
unfolding Rattle.agg_model.specs.declared.row.Children.TheViews.roll-Children Rattle.agg_model.specs.declared.row.Children.TheBlock.hidden-the_row-Row-0 denote.Hole.Carrier.roll denote.Hole.Carrier.hidden
path-roll path rs = refl

abbrev beneath : Mapping → ℕ → Children → Bool
beneath m context (Children' path n rs) = rows_fit m context rs

beneath-roll : (m : Mapping) (context path : ℕ) (rs : List Row) → beneath m context (roll-Children (record { path = path; rows = rs })) ≡ list_all (row_fits m context) rs
unfolding Rattle.agg_model.specs.declared.row.Children.TheViews.roll-Children Rattle.agg_model.specs.declared.row.Children.TheBlock.hidden-the_row-Row-0 denote.Hole.Carrier.roll denote.Hole.Carrier.hidden
beneath-roll m context path [] = refl
beneath-roll m context path (r ∷ rs) = ap (λ (b : Bool). row_fits m context r && b) (beneath-roll m context path rs)

pub child-roll : (m : Mapping) (context path : ℕ) (rs : List Row) → child_fits m context (roll-Children (record { path = path; rows = rs })) ≡ (is_path_of m context path && list_all (row_fits m (path + 1)) rs)
unfolding Rattle.agg_model.specs.declared.row.Children.TheViews.roll-Children Rattle.agg_model.specs.declared.row.Children.TheBlock.hidden-the_row-Row-0 denote.Hole.Carrier.roll denote.Hole.Carrier.hidden
child-roll m context path rs = ap (λ (b : Bool). is_path_of m context path && b) (beneath-roll m (path + 1) path rs)

pub path-out : (c : Children) → path_of c ≡ (out-Children c).path
path-out c = ap path_of (sym (roll-out-Children c)) ∙ path-roll (out-Children c).path (out-Children c).rows

pub child-out : (m : Mapping) (context : ℕ) (c : Children) → child_fits m context c ≡ (is_path_of m context (out-Children c).path && list_all (row_fits m ((out-Children c).path + 1)) (out-Children c).rows)
child-out m context c = ap (child_fits m context) (sym (roll-out-Children c)) ∙ child-roll m context (out-Children c).path (out-Children c).rows
