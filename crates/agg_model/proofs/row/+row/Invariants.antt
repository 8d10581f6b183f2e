use Rattle.std.proofs.Common.{◌≡◌, take}
use Rattle.agg_model.proofs.row.+row.Given as goal

-- what was copied is the front of the list
abbrev pub invariant-copy_rows-loop-row : goal.invariant-copy_rows-loop-row
invariant-copy_rows-loop-row l = l.copied ≡ take l.row-index l.row-items

-- what was copied is the front of the list
abbrev pub invariant-copy_children-loop-child : goal.invariant-copy_children-loop-child
invariant-copy_children-loop-child l = l.copied ≡ take l.child-index l.child-items
