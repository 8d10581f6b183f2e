-- The status of a run by how it ended.
use Rattle.std.specs.Prelude.{⊤, Result, Ok, Err}
use Rattle.script_answers.specs.declared.end.ScriptEnd.{ScriptEnd}
use Rattle.script_answers.specs.declared.end.ScriptEnd.TheVariants as script
use Rattle.script_answers.specs.declared.stop.Stop.{Stop}
use Rattle.script_answers.specs.declared.stop.Stop.TheVariants as stop
use Rattle.script_run.specs.declared.status.Status.{Status}
use Rattle.script_run.specs.declared.status.Status.TheVariants.{Finished, ReadFault, WriteFault, Refused, Memory}

-- where the last line was to be written, by what became of it
abbrev pub ended_by : Result ⊤ Stop → Status → Status
ended_by (Ok done) status = status
ended_by (Err stop.Write) status = WriteFault
ended_by (Err stop.Memory) status = Memory

-- where the third section was answered
abbrev pub status_of : ScriptEnd → Status
status_of script.Finished = Finished
status_of script.Refused = Refused
status_of script.Read = ReadFault
status_of script.Write = WriteFault
status_of script.Memory = Memory
