-- Refusals of scripts as a reader answers them (Elasticsearch Reference 8, 'API conventions': errors).
use Rattle.std.specs.Prelude.{◌≡◌, Result, Ok, Err, ⊤}
use Rattle.agg_reading.specs.Lines.{Script, ScriptRefusal as Defined}
use Rattle.script_lines.specs.declared.fault.ScriptRefusal.{ScriptRefusal}
use Rattle.script_lines.specs.declared.fault.ScriptFault.{ScriptFault}
use Rattle.script_lines.specs.declared.fault.ScriptFault.TheVariants.{Refused, Read, Memory}

-- the refusal that the definitions speak of
abbrev pub refusal_of : ScriptRefusal → Defined
refusal_of r = record { number = r.number; line = r.line; path = r.path }

-- what a fault says of the definition; a failed read and want of memory say nothing
abbrev pub Fails : {Y : Type 0} → ScriptFault → Script Y → Type 0
Fails (Refused r) script = script ≡ Err (refusal_of r)
Fails Read script = ⊤
Fails Memory script = ⊤

-- What a function answered, seen by view, is what the definition gives, unless a read failed or memory ran out.
abbrev pub Gives : {X Y : Type 0} → (X → Y) → Result X ScriptFault → Script Y → Type 0
Gives view (Ok x) script = script ≡ Ok (view x)
Gives view (Err fault) script = Fails fault script
