use Rattle.std.proofs.Common.{◌++◌, ◌-◌, string_bytes}
use Rattle.std.specs.List.{join_with_byte}
use Rattle.agg_spec.specs.Generator.{items_from}
use Rattle.agg_generate.proofs.Items.{Going}
use Rattle.agg_generate.proofs.script.append_items.Given as goal

abbrev pub invariant-loop-place : goal.invariant-loop-place
invariant-loop-place l =
    let drawn = items_from l.count l.fn.draws.state in
    Going (l.count - l._place) (string_bytes l.script) l.draws.state (string_bytes l.fn.script ++ join_with_byte 44 drawn.0) drawn.1
