-- What reading one line answers of the rest of a script.
use Rattle.std.specs.Prelude.{◌≡◌, ◌⊎◌, ℕ, List, [], ◌∷◌, ◌++◌, take, Option, Some, None, Result, Ok, Err, Bool, option_map, ⊤}
use Rattle.agg_model.specs.declared.script_refusal.TheConstants.{INPUT_TOO_LONG, LINE_TOO_LONG}
use Rattle.agg_model.specs.Lines.{Line, lines}
use Rattle.agg_reading.specs.Lines.{Place, past, checked}
use Rattle.agg_base.specs.Lines.{unread, position, handed}
use Rattle.agg_base.specs.declared.lines.LineFault.{LineFault}
use Rattle.agg_base.specs.declared.lines.LineFault.TheVariants as fault
use Rattle.agg_base.specs.declared.lines.Lines.{Lines}
use Rattle.agg_base.specs.declared.source.Source.{Ghosts}
use Rattle.agg_spec.specs.Output.{whole_lines}
use Rattle.script_lines.specs.Faults.{refusal_of}
use Rattle.script_lines.specs.Handed.{IsHanded}
use Rattle.script_lines.specs.declared.fault.ScriptFault.{ScriptFault}
use Rattle.script_lines.specs.declared.fault.ScriptFault.TheVariants.{Refused, Read, Memory}

-- how many lines and bytes were handed out
abbrev pub place_of : {S : Type 0} {g : Ghosts S} → Lines S g → Place
place_of ls = record { number = handed ls; read = position ls }

-- the lines that are left, where the source tells
abbrev pub rest_of : {S : Type 0} {g : Ghosts S} → Lines S g → Option (List Line)
rest_of ls = option_map lines (unread ls)

-- why a script ends at a line that can't be read
abbrev pub fault_of : LineFault → ℕ → ScriptFault
fault_of fault.Read line = Read
fault_of fault.LineTooLong line = Refused (record { number = LINE_TOO_LONG; line = line; path = [] })
fault_of fault.InputTooLong line = Refused (record { number = INPUT_TOO_LONG; line = line; path = [] })
fault_of fault.Memory line = Memory

-- the first of the lines that are left was handed out
abbrev pub IsNext : Place → List Line → List ℕ → Place → Option (List Line) → Type 0
IsNext place rest text after left =
    (l : Line) × (ls : List Line) × (rest ≡ l ∷ ls) × (l.text ≡ text) × (checked place l ≡ Ok tt) × (after ≡ past l place) × (left ≡ Some ls)

-- the next line, none at the end, or why it is refused
abbrev pub Reads : Place → List Line → Result (Option (List ℕ)) ScriptFault → Place → Option (List Line) → Type 0
Reads place rest (Ok None) after left = (rest ≡ []) × (left ≡ Some []) × (after ≡ place)
Reads place rest (Ok (Some text)) after left = IsNext place rest text after left
Reads place rest (Err (Refused r)) after left = (l : Line) × (ls : List Line) × (rest ≡ l ∷ ls) × (checked place l ≡ Err (refusal_of r))
Reads place rest (Err _) after left = ⊤

-- The next line, where there has to be one: else the end is refused at its last line.
abbrev pub Takes : ℕ → Place → List Line → Result (List ℕ) ScriptFault → Place → Option (List Line) → Type 0
Takes missing place rest (Ok text) after left = IsNext place rest text after left
Takes missing place rest (Err (Refused r)) after left =
    ((rest ≡ []) × (r ≡ record { number = missing; line = place.number; path = [] }))
    ⊎ ((l : Line) × (ls : List Line) × (rest ≡ l ∷ ls) × (checked place l ≡ Err (refusal_of r)))
Takes missing place rest (Err _) after left = ⊤

-- where the source failed, the lines before are the whole lines of what was read
abbrev pub FailsBehind : List ℕ → List Line → ScriptFault → ℕ → Type 0
FailsBehind bytes front Read read = whole_lines (take read bytes) ≡ front
FailsBehind bytes front _ read = ⊤

-- a line of this text was handed out behind those before
abbrev pub IsBehind : List ℕ → List Line → List ℕ → Option (List ℕ) → ℕ → Bool → Type 0
IsBehind bytes front text left count ended = (l : Line) × (l.text ≡ text) × IsHanded bytes (front ++ l ∷ []) left count ended

-- which lines of an input were handed out after the next one
abbrev pub Hands : List ℕ → List Line → Result (Option (List ℕ)) ScriptFault → Option (List ℕ) → ℕ → Bool → ℕ → Type 0
Hands bytes front (Ok None) left count ended read = IsHanded bytes front left count ended × (lines bytes ≡ front)
Hands bytes front (Ok (Some text)) left count ended read = IsBehind bytes front text left count ended
Hands bytes front (Err fault) left count ended read = FailsBehind bytes front fault read

abbrev pub TakesFront : List ℕ → List Line → Result (List ℕ) ScriptFault → Option (List ℕ) → ℕ → Bool → ℕ → Type 0
TakesFront bytes front (Ok text) left count ended read = IsBehind bytes front text left count ended
TakesFront bytes front (Err fault) left count ended read = FailsBehind bytes front fault read
