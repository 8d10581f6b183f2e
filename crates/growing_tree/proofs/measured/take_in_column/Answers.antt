use Rattle.std.proofs.Common.{◌∙◌, ap, arith, ◌<◌, length}
use Rattle.std.proofs.lemmas.List.{get_or-set_other, get_or-set_same, get_or_read}
use Rattle.agg_evaluation.specs.Rows.{row_of}
use Rattle.growth_laws.specs.Growth.{metric_with}
use Rattle.growing_tree.specs.Measures.{no_values}
use Rattle.growing_tree.proofs.measured.take_in_column.Goals as goal

pub returns-clause-here : goal.returns-clause-here
returns-clause-here c =
    let column = c.args.column.now.items in
    let place = c.args.place in
    let within : place < length column = omega (arith, c.if-place-len.false, c.len.ensures, c.args.column.now.ok) in
    get_or-set_same column place c.take_row.new.taken no_values within ∙ c.in_ok-take_row.ensures
    ∙ ap (metric_with c.args.kind.now (row_of c.args.shard.now.rows c.args.row)) (get_or_read column place c.index_mut.result.now within c.index_mut.ensures.value no_values)

pub returns-clause-others : goal.returns-clause-others
returns-clause-others c n other = get_or-set_other c.args.column.now.items c.args.place n c.take_row.new.taken no_values other
