use Rattle.std.proofs.Common.{take}
use Rattle.column_query.specs.Prepared.{HasIds}
use Rattle.column_query.proofs.preparing.ids_of.Given as goal

abbrev pub invariant-loop-value : goal.invariant-loop-value
invariant-loop-value l = HasIds (take l.value-index l.values) l.ids.keys
