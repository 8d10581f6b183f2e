use Rattle.std.proofs.Common.{◌≡◌, ◌++◌, List, true, map}
use Rattle.agg_model.specs.declared.mapping.Field.{Field}
use Rattle.agg_reading.specs.Rows.{finished_field}
use Rattle.document_rows.specs.Drafts.{field_values, is_typed}
use Rattle.document_rows.proofs.draft.finished_fields.Given as goal

abbrev pub invariant-loop-field : goal.invariant-loop-field
invariant-loop-field l = record {
  typed : (all : List Field) × (is_typed all (map field_values l.field-iterator.rest.items) ≡ true);
  done : l.finished ++ map finished_field (map field_values l.field-iterator.rest.items) ≡ map finished_field (map field_values l.fn.fields.items);
}
