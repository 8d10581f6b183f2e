use Rattle.std.proofs.Common.{take}
use Rattle.agg_model.specs.declared.row.Children.{out-Children, size-Children}
use Rattle.agg_model.specs.declared.row.Row.{size-Row}
use Rattle.shard_columns.proofs.Laying.{RowsBehind, ChildrenBehind}
use Rattle.shard_columns.proofs.layout.+lay.Given as goal

abbrev pub decreases-lay_children : goal.decreases-lay_children
decreases-lay_children l = size-Children l.children.now

abbrev pub decreases-lay_row : goal.decreases-lay_row
decreases-lay_row l = size-Row l.row.now

abbrev pub invariant-lay_children-loop-number : goal.invariant-lay_children-loop-number
invariant-lay_children-loop-number l = RowsBehind l.initial.rows.items l.rows.items l.initial.ends.items l.ends.items l.document l.parent (out-Children l.children).path (take l.number l.row-items)

abbrev pub invariant-lay_row-loop-children : goal.invariant-lay_row-loop-children
invariant-lay_row-loop-children l = ChildrenBehind l.fn.rows.items l.rows.items l.fn.ends.items l.ends.items l.row l.entry (take l.children-index l.children-items)
