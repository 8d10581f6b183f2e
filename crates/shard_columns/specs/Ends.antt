-- Where the rows end that a row encloses: rows stand in document order, each before those that it encloses.
use Rattle.std.specs.Prelude.{ℕ, ◌+◌, List, [], ◌∷◌, ◌++◌, length}
use Rattle.agg_model.specs.declared.row.Row.{Row}
use Rattle.agg_model.specs.declared.row.Children.{Children}
use Rattle.agg_model.specs.declared.row.Document.{Document}
use Rattle.agg_model.specs.declared.row.Children.TheOpen.{Row-F, Children-F}
use Rattle.agg_evaluation.specs.Folds.{fold_row, fold_children}

-- the number behind the last row of each row of a block, where the block begins at this number
abbrev pub Ends : Type 0
Ends = ℕ → List ℕ

-- blocks one after another
unfoldable pub each : List Ends → Ends
each [] first = []
each (f ∷ fs) first = f first ++ each fs (first + length (f first))

abbrev pub over : ℕ → List ℕ → List ℕ
over first below = (first + 1 + length below) ∷ below

abbrev pub ends_children : Children-F Ends Ends → Ends
ends_children c = each c.rows

abbrev pub ends_row : Row-F Ends Ends → Ends
ends_row r first = over first (each r.children (first + 1))

abbrev pub row_ends : Row → Ends
row_ends = fold_row ends_children ends_row

abbrev pub children_ends : Children → Ends
children_ends = fold_children ends_children ends_row

abbrev pub root_ends : Document → Ends
root_ends d = row_ends d.root
