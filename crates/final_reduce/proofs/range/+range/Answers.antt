use Rattle.std.proofs.Common.{◌∙◌, sym, ap, map, Some}
use Rattle.std.specs.Prelude.{string_bytes, option_map}
use Rattle.agg_model.specs.declared.aggregation.Agg.{out-Agg}
use Rattle.agg_spec.specs.RangeCheck.{checker, first_path}
use Rattle.final_reduce.specs.Paths.{path_bytes, checked_inside}
use Rattle.final_reduce.proofs.RangeLaws.{first_path-map, checker-level}
use Rattle.final_reduce.proofs.range.+range.Goals as goal

pub check_node-returns-in-None : goal.check_node-returns-in-None
check_node-returns-in-None t c =
    let a = out-Agg c.args.agg.now in
    let inside = checked_inside (map checker a.children) a.kind c.args.node.now in
    ap (option_map (path_bytes a.name)) (ap (option_map string_bytes) (sym c.in-None.is) ∙ c.in_ok-below.ensures)
    ∙ sym (first_path-map (path_bytes a.name) inside) ∙ ap first_path (sym (checker-level c.args.agg.now c.args.node.now))

pub check_node-returns-in_ok-path_below-in-Some : goal.check_node-returns-in_ok-path_below-in-Some
check_node-returns-in_ok-path_below-in-Some t c =
    let a = out-Agg c.args.agg.now in
    let inside = checked_inside (map checker a.children) a.kind c.args.node.now in
    ap Some (c.in_ok-path_below-in-Some.ensures ∙ (λ i. path_bytes (c.as_str.ensures i) (c.as_str-in-Some.ensures.value i)))
    ∙ ap (option_map (path_bytes a.name)) (ap (option_map string_bytes) (sym c.in-Some.is) ∙ c.in_ok-below.ensures)
    ∙ sym (first_path-map (path_bytes a.name) inside) ∙ ap first_path (sym (checker-level c.args.agg.now c.args.node.now))
