use Rattle.std.proofs.Common.{◌≡◌, ◌++◌, length}
use Rattle.document_rows.proofs.lists.map_of.Given as goal

abbrev pub invariant-loop-place : goal.invariant-loop-place
invariant-loop-place g l = l.left.items ++ l.lists.entries ≡ l.fn.ascending.items

abbrev pub decreases-loop-place : goal.decreases-loop-place
decreases-loop-place g l = length l.left.items
