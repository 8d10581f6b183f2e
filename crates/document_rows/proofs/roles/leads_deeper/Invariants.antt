use Rattle.std.proofs.Common.{◌≡◌, ◌++◌, take, drop}
use Rattle.document_rows.specs.Roles.{is_deeper}
use Rattle.document_rows.proofs.Fronts.{any_front}
use Rattle.document_rows.proofs.roles.leads_deeper.Given as goal

abbrev pub invariant-loop-end : goal.invariant-loop-end
invariant-loop-end l = any_front (λ q. is_deeper l.mapping l.context (take l.end l.path ++ q)) (drop l.end l.path) ≡ any_front (is_deeper l.mapping l.context) l.path
