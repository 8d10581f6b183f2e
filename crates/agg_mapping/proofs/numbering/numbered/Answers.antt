use Rattle.std.proofs.Common.{◌≡◌, length, ap, ◌∙◌, refl, arith}
use Rattle.std.proofs.lemmas.List.{length-map}
use Rattle.agg_model.specs.declared.mapping.Field.{Field}
use Rattle.agg_model.specs.declared.mapping.NestedPath.{NestedPath}
use Rattle.agg_reading.specs.declared.parts.FoundField.{FoundField}
use Rattle.agg_reading.specs.declared.parts.FoundPath.{FoundPath}
use Rattle.agg_reading.specs.Mapping.{numbered_field, numbered_path}
use Rattle.agg_reading.proofs.PathOrder.{ascend_mapped}
use Rattle.agg_mapping.proofs.numbering.numbered.Goals as goal

pub returns-clause-ordered : goal.returns-clause-ordered
unfolding numbered_field numbered_path
returns-clause-ordered c =
    let found = c.in_ok-fields.field-0 in
    let order = c.in_ok-fields.ensures.ordered in
    let fields = rw c.as_slice.ensures at c.in_ok-fields-2.ensures in
    let nested = rw c.as_slice-2.ensures at c.in_ok-numbered_paths.ensures in
    let few : length c.in_ok-fields-2.fields ≡ length found.fields = ap length fields ∙ length-map found.fields (numbered_field found.nested) in
    let few_nested : length c.in_ok-numbered_paths.field-0 ≡ length found.nested = ap length nested ∙ length-map found.nested (numbered_path found.nested) in
    record {
      fields = rw fields (ascend_mapped (numbered_field found.nested) (λ (f : FoundField). f.path) (λ (f : Field). f.path) (λ x. refl) found.fields order.fields);
      nested = rw nested (ascend_mapped (numbered_path found.nested) (λ (p : FoundPath). p.path) (λ (p : NestedPath). p.path) (λ x. refl) found.nested order.nested);
      objects = order.objects;
      few = omega (arith, few, few_nested, order.few);
    }
