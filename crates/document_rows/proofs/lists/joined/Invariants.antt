use Rattle.std.proofs.Common.{◌≡◌, ◌++◌}
use Rattle.document_rows.proofs.lists.joined.Given as goal

abbrev pub invariant-loop-entry : goal.invariant-loop-entry
invariant-loop-entry g l = l.lists.items ++ l.entry-iterator ≡ l.fn.others.entries
