-- A placed row such as a fitting document has it.
use Rattle.std.specs.Prelude.{List, length, Bool, ◌&&◌, nat_le}
use Rattle.std.specs.List.{list_all}
use Rattle.agg_model.specs.declared.mapping.Mapping.{Mapping}
use Rattle.agg_evaluation.specs.Rows.{PlacedRow}
use Rattle.agg_evaluation.specs.DocumentFits.{fields_fit}

-- its context is one of the mapping's, and it has values of fields of that context alone
abbrev pub placed_fits : Mapping → PlacedRow → Bool
placed_fits m row = nat_le row.context (length m.nested) && fields_fit m row.context 0 row.values

abbrev pub rows_placed : Mapping → List PlacedRow → Bool
rows_placed m rows = list_all (placed_fits m) rows
