use Rattle.std.proofs.Common.{refl}
use Rattle.script_run.proofs.Unloaded.{refused-ends, heavy-ends, wanting-ends}
use Rattle.script_run.proofs.loading.end_loading.Goals as goal

pub returns-in-Script-clause-output : goal.returns-in-Script-clause-output
returns-in-Script-clause-output g c = λ words bytes read ends.
    let refused = rw c.in-Script.is at ends in
    rw c.ended.ensures (refused-ends words bytes read _ _ _ c.write_refusal.result refused c.write_refusal.ensures.puts)

pub returns-in-Columns-clause-output : goal.returns-in-Columns-clause-output
returns-in-Columns-clause-output g c = λ words bytes read ends.
    let heavy = rw c.in-Columns.is at ends in
    rw c.ended-in-Columns.ensures (heavy-ends words bytes read _ _ _ heavy.0 c.write_heavy.result heavy.1 heavy.2 c.write_heavy.ensures.puts)

pub returns-in-Memory-clause-output : goal.returns-in-Memory-clause-output
returns-in-Memory-clause-output g c = λ words bytes read ends. wanting-ends words bytes read _ _ refl
