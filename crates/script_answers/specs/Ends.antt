-- How a script ends where there is no further entry.
use Rattle.std.specs.Prelude.{◌≡◌, [], ◌∷◌}
use Rattle.agg_spec.specs.Written.{Line}
use Rattle.agg_spec.specs.Output.{refusal_line}
use Rattle.script_lines.specs.Faults.{refusal_of}
use Rattle.script_lines.specs.declared.fault.ScriptFault.{ScriptFault}
use Rattle.script_lines.specs.declared.fault.ScriptFault.TheVariants as fault
use Rattle.script_answers.specs.Outputs.{Output}
use Rattle.script_answers.specs.Puts.{Breaks, Wants}
use Rattle.script_answers.specs.Steps.{WroteLines}
use Rattle.script_answers.specs.declared.end.ScriptEnd.{ScriptEnd}
use Rattle.script_answers.specs.declared.end.ScriptEnd.TheVariants.{Refused, Read, Write, Memory}
use Rattle.script_answers.specs.declared.stop.Stop.{Stop}
use Rattle.script_answers.specs.declared.stop.Stop.TheVariants as stop

abbrev pub end_of : Stop → ScriptEnd
end_of stop.Write = Write
end_of stop.Memory = Memory

-- the last line was written, or why it was not
abbrev pub PutsLast : Line → Output → Output → ScriptEnd → Type 0
PutsLast last before after Refused = WroteLines before after (last ∷ [])
PutsLast last before after Write = Breaks before after (last ∷ [])
PutsLast last before after Memory = Wants before after (last ∷ [])
PutsLast last before after _ = ⊥

-- a refusal is the last line, and else nothing more is written
abbrev pub EndsAt : ScriptFault → Output → Output → ScriptEnd → Type 0
EndsAt (fault.Refused r) before after end = PutsLast (refusal_line (refusal_of r)) before after end
EndsAt fault.Read before after end = (end ≡ Read) × (after ≡ before)
EndsAt fault.Memory before after end = (end ≡ Memory) × (after ≡ before)
