-- Loading as it goes on line by line, behind the lines of a script that were read (Elasticsearch Reference 8, 'Bulk API').
use Rattle.std.specs.Prelude.{◌≡◌, ℕ, List, [], ◌++◌, take, length, Option, Some, None, Result, Ok, Err, Bool, true, if◌then◌else◌, option_map, ⊤}
use Rattle.agg_model.specs.Lines.{Line, lines}
use Rattle.agg_model.specs.declared.bulk.Action.{Action}
use Rattle.agg_model.specs.declared.bulk.Item.{Item}
use Rattle.agg_base.specs.Lines.{unread, position, has_ended, bytes_read}
use Rattle.agg_base.specs.declared.lines.Lines.{Lines}
use Rattle.agg_base.specs.declared.source.Source.{Ghosts}
use Rattle.agg_reading.specs.declared.fault.RequestFault.{RequestFault}
use Rattle.agg_reading.specs.declared.fault.RequestFault.TheVariants as reading
use Rattle.agg_reading.specs.declared.parts.Heading.{Heading}
use Rattle.agg_reading.specs.declared.parts.IndexLine.{IndexLine}
use Rattle.agg_reading.specs.Lines.{Place, Script, start}
use Rattle.agg_reading.specs.Refusals.{is_refusal, action_refusals}
use Rattle.agg_reading.specs.Script.{Loading, Loaded, loaded, actions, source_of, with_action, after, done_at, is_delete}
use Rattle.agg_reading.specs.Store.{Store, applied}
use Rattle.agg_spec.specs.Output.{whole_lines}
use Rattle.script_lines.specs.Faults.{refusal_of}
use Rattle.script_lines.specs.Handed.{IsHanded}
use Rattle.script_lines.specs.Steps.{place_of}
use Rattle.script_lines.specs.declared.fault.ScriptFault.{ScriptFault}
use Rattle.script_lines.specs.declared.fault.ScriptFault.TheVariants.{Refused, Read, Memory}
use Rattle.column_loading.specs.Loadings.{store_of}
use Rattle.agg_bulk.specs.declared.sections.Sections.{Sections}

-- Behind the lines that were handed out of an input, its loading is `after` what follows them, whatever that is.
pub record GoesOnAt (bytes : List ℕ) (after : List Line → Script Loaded) (left : Option (List ℕ)) (count : ℕ) (ended : Bool) : Type 0 where
  pub front : List Line
  pub handed : IsHanded bytes front left count ended
  pub same : (more : List Line) → loaded (front ++ more) ≡ after more

abbrev pub GoesOn : {S : Type 0} {g : Ghosts S} → List ℕ → (List Line → Script Loaded) → Lines S g → Type 0
GoesOn bytes after reader = GoesOnAt bytes after (unread reader) (position reader) (has_ended reader)

abbrev pub IsRefused : Script Loaded → Type 0
IsRefused (Ok l) = ⊥
IsRefused (Err r) = ⊤

-- Why loading ends early: exactly the refusal of the script; and where the source failed, the whole lines of what was read
-- do not load.
abbrev pub Ends : List ℕ → ScriptFault → ℕ → Type 0
Ends bytes (Refused r) read = loaded (lines bytes) ≡ Err (refusal_of r)
Ends bytes Read read = IsRefused (loaded (whole_lines (take read bytes)))
Ends bytes Memory read = ⊤

-- what a step of loading answers
abbrev pub StepsAt : {X : Type 0} → List ℕ → Result X ScriptFault → (X → List Line → Script Loaded) → Option (List ℕ) → ℕ → Bool → ℕ
    → Type 0
StepsAt bytes (Ok x) after left count ended read = GoesOnAt bytes (after x) left count ended
StepsAt bytes (Err fault) after left count ended read = Ends bytes fault read

abbrev pub Steps : {S X : Type 0} {g : Ghosts S} → List ℕ → Result X ScriptFault → (X → List Line → Script Loaded) → Lines S g → Type 0
Steps bytes result after reader = StepsAt bytes result after (unread reader) (position reader) (has_ended reader) (bytes_read reader)

-- what was loaded up to some line, with an item for each action
abbrev pub loading_of : IndexLine → Store → List Item → Loading
loading_of index store items = record { index = index; store = store; items = items; actions = length items }

-- behind the line of an action, whose source line is next unless it is a delete
abbrev pub after_line : Heading → Loading → Place → List Line → Script Loaded
after_line heading now place more = if is_delete heading.kind then actions (with_action heading [] now) place more else source_of heading now place more

-- behind the line of one more action, or the empty line that ends them
abbrev pub after_heading : Loading → Place → Option Heading → List Line → Script Loaded
after_heading now place None = λ more. Ok (done_at now place more)
after_heading now place (Some heading) = after_line heading now place

-- behind one more action with its source, or the empty line that ends them
abbrev pub after_action : Loading → Place → Option Action → List Line → Script Loaded
after_action now place None = λ more. Ok (done_at now place more)
after_action now place (Some action) = actions (after action (applied now.index.mapping action now.store) now) place

-- what an action line is refused with, or want of memory
abbrev pub is_action_fault : RequestFault → Bool
is_action_fault reading.Memory = true
is_action_fault fault = is_refusal action_refusals fault

-- the end of a script at this line
abbrev pub fault_at : ℕ → RequestFault → ScriptFault
fault_at line (reading.Bad code path) = Refused (record { number = code; line = line; path = path })
fault_at line _ = Memory

-- the documents that the sections leave, as a store has them
abbrev pub store_in : Sections → Store
store_in s = store_of s.index.mapping s.loading

-- the sections that were loaded, in front of what is left
abbrev pub before_rest : Sections → Place → List Line → Loaded
before_rest s place rest = record { index = s.index; store = store_in s; items = s.items; place = place; rest = rest }

-- What loading answers of an input. What was loaded of it is loaded in front of whatever follows, too.
abbrev pub LoadsAt : List ℕ → Result Sections ScriptFault → Place → Option (List ℕ) → ℕ → Bool → ℕ → Type 0
LoadsAt bytes (Ok s) place left count ended read =
    (rest : List Line) × (option_map lines left ≡ Some rest) × (loaded (lines bytes) ≡ Ok (before_rest s place rest))
    × GoesOnAt bytes (λ more. Ok (before_rest s place more)) left count ended
LoadsAt bytes (Err fault) place left count ended read = Ends bytes fault read

abbrev pub Loads : {S : Type 0} {g : Ghosts S} → List ℕ → Result Sections ScriptFault → Lines S g → Type 0
Loads bytes result reader = LoadsAt bytes result (place_of reader) (unread reader) (position reader) (has_ended reader) (bytes_read reader)

-- what was loaded, without what follows it
abbrev pub loaded_of : IndexLine → Store → Loaded
loaded_of index store = record { index = index; store = store; items = []; place = start; rest = [] }
