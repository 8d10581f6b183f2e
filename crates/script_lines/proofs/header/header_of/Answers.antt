use Rattle.std.proofs.Common.{◌∙◌, Some, None, Ok, sym, ap}
use Rattle.std.specs.Prelude.{option_map, if◌then◌else◌}
use Rattle.serde_json.specs.View.{view}
use Rattle.script_lines.proofs.HeaderLemmas.{no_value, no_object, is_header}
use Rattle.script_lines.proofs.header.header_of.Goals as goal

pub returns-in_default-clause-header : goal.returns-in_default-clause-header
returns-in_default-clause-header c =
    rw (c.refused.ensures) (no_value c.args.number c.args.line.now (sym c.in_ok-value.ensures ∙ ap (option_map view) c.in_default.is))

pub returns-then-is_none-clause-header : goal.returns-then-is_none-clause-header
returns-then-is_none-clause-header c =
    rw (c.refused-then-is_none.ensures)
    (no_object c.args.number c.args.line.now (view c.in-Some.value) c.as_object.result _ (ap (option_map view) (sym c.in-Some.is) ∙ c.in_ok-value.ensures) c.as_object.ensures c.if-is_none.ensures)

pub returns-then-is_settings_line-clause-header : goal.returns-then-is_settings_line-clause-header
returns-then-is_settings_line-clause-header c =
    is_header c.args.number c.args.line.now (view c.in-Some.value) c.as_object.result _ (ap (option_map view) (sym c.in-Some.is) ∙ c.in_ok-value.ensures) c.as_object.ensures c.if-is_none.ensures
    ∙ ap (λ b. Ok (if b then Some (view c.in-Some.value) else None)) (sym c.if-is_settings_line.ensures)

pub returns-else-is_settings_line-clause-header : goal.returns-else-is_settings_line-clause-header
returns-else-is_settings_line-clause-header c =
    is_header c.args.number c.args.line.now (view c.in-Some.value) c.as_object.result _ (ap (option_map view) (sym c.in-Some.is) ∙ c.in_ok-value.ensures) c.as_object.ensures c.if-is_none.ensures
    ∙ ap (λ b. Ok (if b then Some (view c.in-Some.value) else None)) (sym c.if-is_settings_line.ensures)
