use Rattle.std.specs.Prelude.{◌≤◌}
use Rattle.std.proofs.Common.{subst}
use Rattle.std.specs.Prelude.{IfOk}
use Rattle.agg_reading.specs.declared.parts.IndexLine.{IndexLine}
use Rattle.agg_reading.specs.Reading.{Reading}
use Rattle.agg_reading.proofs.IndexLineLaws.{index_line_at-shards}
use Rattle.agg_mapping.proofs.Steps.{refuses}
use Rattle.agg_mapping.proofs.index_line.index_line_of.Goals as goal

pub returns-in-Ok-clause-shards : goal.returns-in-Ok-clause-shards
returns-in-Ok-clause-shards c =
    subst (λ (r : Reading IndexLine). IfOk r (λ (l : IndexLine). (1 ≤ l.shards) × (l.shards ≤ 1024))) c.in-Ok.ensures.value (index_line_at-shards c.args.line.now)

pub returns-in-Err-clause-refused : goal.returns-in-Err-clause-refused
returns-in-Err-clause-refused c = refuses _ _ _ c.in-Err.ensures.value c.map_fault.ensures
