use Rattle.std.proofs.Common.{◌≡◌, ◌++◌, map}
use Rattle.document_rows.specs.Drafts.{child_rows}
use Rattle.document_rows.proofs.draft.all_children.Given as goal

abbrev pub invariant-loop-path : goal.invariant-loop-path
invariant-loop-path l = l.all ++ map child_rows l.path-iterator.rest.items ≡ map child_rows l.fn.children.items
