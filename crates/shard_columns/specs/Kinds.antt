-- Values of the kind of their field.
use Rattle.std.specs.Prelude.{ℕ, List, IsTrue}
use Rattle.std.specs.List.{list_all}
use Rattle.agg_model.specs.declared.mapping.FieldKind.{FieldKind}
use Rattle.agg_evaluation.specs.Rows.{PlacedRow, values_of, row_of}
use Rattle.agg_model.specs.FieldKinds.{is_of_kind}

-- each value that a row has of the field is of this kind
abbrev pub AreOfKind : FieldKind → ℕ → List PlacedRow → Type 0
AreOfKind kind field rows = (n : ℕ) → IsTrue (list_all (is_of_kind kind) (values_of field (row_of rows n)))
