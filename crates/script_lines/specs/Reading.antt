-- The third section of a script as it is read, entry by entry (Elasticsearch Reference 8, 'Multi search API', 'Cluster update
-- settings API').
use Rattle.std.specs.Prelude.{◌≡◌, ◌≤◌, ℕ, List, [], ◌∷◌, ◌++◌, length, take, Option, Some, None, Result, Ok, Err, Bool, true, ⊤}
use Rattle.serde_json.specs.Data.{Data}
use Rattle.serde_json.specs.View.{view}
use Rattle.agg_model.specs.declared.limits.TheConstants.{MAX_LINE}
use Rattle.agg_model.specs.Lines.{Line, lines}
use Rattle.agg_base.specs.Lines.{unread, position, has_ended, bytes_read}
use Rattle.agg_base.specs.declared.lines.Lines.{Lines}
use Rattle.agg_base.specs.declared.source.Source.{Ghosts}
use Rattle.agg_reading.specs.Entries.{Entries, entries, body_of, more, no_more, refused_with}
use Rattle.agg_reading.specs.Entries.{Entry as Defined, body, change}
use Rattle.agg_reading.specs.Lines.{Place}
use Rattle.agg_reading.specs.SettingsLines.{is_settings_line}
use Rattle.agg_spec.specs.Output.{whole_lines}
use Rattle.script_lines.specs.Faults.{refusal_of}
use Rattle.script_lines.specs.Handed.{IsHanded}
use Rattle.script_lines.specs.Headers.{change_in}
use Rattle.script_lines.specs.Steps.{place_of}
use Rattle.script_lines.specs.declared.fault.ScriptFault.{ScriptFault}
use Rattle.script_lines.specs.declared.fault.ScriptFault.TheVariants.{Refused, Read, Memory}
use Rattle.script_lines.specs.declared.header.Header.{Header}
use Rattle.script_lines.specs.declared.header.Header.TheVariants as header
use Rattle.script_lines.specs.declared.reader.Entry.{Entry}
use Rattle.script_lines.specs.declared.reader.Entry.TheVariants.{Body, Settings}

-- the entry that the definitions speak of
abbrev pub entry_of : Entry → Defined
entry_of (Body bytes) = body bytes
entry_of (Settings value) = change (view value)

-- these entries stand before others
abbrev pub behind : List Defined → Entries → Entries
behind before later = record later { entries = before ++ later.entries }

-- Behind the lines of an input that were handed out, the entries of the whole (as `whole` gives them of its lines) are `after`
-- of what follows, whatever that is.
pub record GoesOnAt (whole : List Line → Entries) (bytes : List ℕ) (after : List Line → Entries) (left : Option (List ℕ)) (count : ℕ) (ended : Bool)
    : Type 0 where
  pub front : List Line
  pub handed : IsHanded bytes front left count ended
  pub same : (later : List Line) → whole (front ++ later) ≡ after later

abbrev pub GoesOn : {S : Type 0} {g : Ghosts S} → (List Line → Entries) → List ℕ → (List Line → Entries) → Lines S g → Type 0
GoesOn whole bytes after reader = GoesOnAt whole bytes after (unread reader) (position reader) (has_ended reader)

-- behind these entries, where the next header is due
abbrev pub then_entries : List Defined → Place → List Line → Entries
then_entries before place later = behind before (entries place later)

-- These entries of an input were read, and the others follow.
abbrev pub HasRead : {S : Type 0} {g : Ghosts S} → (List Line → Entries) → List ℕ → List Defined → Lines S g → Type 0
HasRead whole bytes before reader = GoesOn whole bytes (then_entries before (place_of reader)) reader

-- Why there are no more entries: exactly the refusal of the script; and where the source failed, the whole lines of what was read
-- have no more of them.
abbrev pub Ends : (List Line → Entries) → List ℕ → List Defined → ScriptFault → ℕ → Type 0
Ends whole bytes before (Refused r) read = whole (lines bytes) ≡ behind before (refused_with (refusal_of r))
Ends whole bytes before Read read = (whole (whole_lines (take read bytes))).entries ≡ before
Ends whole bytes before Memory read = ⊤

-- behind a header: its body is due, or a settings line was read
abbrev pub after_header : List Defined → Place → Option Data → List Line → Entries
after_header before place None later = behind before (body_of place later)
after_header before place (Some line) later = then_entries (before ++ change line ∷ []) place later

abbrev pub HeadsAt : (List Line → Entries) → List ℕ → List Defined → Result (Option Header) ScriptFault → Place → Option (List ℕ) → ℕ
    → Bool → ℕ → Type 0
HeadsAt whole bytes before (Ok (Some h)) place left count ended read =
    GoesOnAt whole bytes (after_header before place (change_in h)) left count ended
HeadsAt whole bytes before (Ok None) place left count ended read = whole (lines bytes) ≡ behind before no_more
HeadsAt whole bytes before (Err fault) place left count ended read = Ends whole bytes before fault read

-- what is answered where a header is due: the next header, none at the end, or why there is none
abbrev pub Heads : {S : Type 0} {g : Ghosts S} → (List Line → Entries) → List ℕ → List Defined → Result (Option Header) ScriptFault
    → Lines S g → Type 0
Heads whole bytes before result reader =
    HeadsAt whole bytes before result (place_of reader) (unread reader) (position reader) (has_ended reader) (bytes_read reader)

abbrev pub BodiesAt : (List Line → Entries) → List ℕ → List Defined → Result (List ℕ) ScriptFault → Place → Option (List ℕ) → ℕ → Bool → ℕ
    → Type 0
BodiesAt whole bytes before (Ok text) place left count ended read =
    GoesOnAt whole bytes (then_entries (before ++ body text ∷ []) place) left count ended
BodiesAt whole bytes before (Err fault) place left count ended read = Ends whole bytes before fault read

-- what is answered where a body is due
abbrev pub Bodies : {S : Type 0} {g : Ghosts S} → (List Line → Entries) → List ℕ → List Defined → Result (List ℕ) ScriptFault → Lines S g
    → Type 0
Bodies whole bytes before result reader =
    BodiesAt whole bytes before result (place_of reader) (unread reader) (position reader) (has_ended reader) (bytes_read reader)

abbrev pub ReadsAt : (List Line → Entries) → List ℕ → List Defined → Result (Option Entry) ScriptFault → Place → Option (List ℕ) → ℕ → Bool
    → ℕ → Type 0
ReadsAt whole bytes before (Ok (Some e)) place left count ended read =
    GoesOnAt whole bytes (then_entries (before ++ entry_of e ∷ []) place) left count ended
ReadsAt whole bytes before (Ok None) place left count ended read = whole (lines bytes) ≡ behind before no_more
ReadsAt whole bytes before (Err fault) place left count ended read = Ends whole bytes before fault read

-- what is answered behind these entries: the next entry, none at the end, or why there is none
abbrev pub Reads : {S : Type 0} {g : Ghosts S} → (List Line → Entries) → List ℕ → List Defined → Result (Option Entry) ScriptFault
    → Lines S g → Type 0
Reads whole bytes before result reader =
    ReadsAt whole bytes before result (place_of reader) (unread reader) (position reader) (has_ended reader) (bytes_read reader)

-- an entry that is a settings line has the form of one, and a body is no longer than a line
abbrev pub IsFormed : Option Entry → Type 0
IsFormed None = ⊤
IsFormed (Some (Body text)) = length text ≤ MAX_LINE
IsFormed (Some (Settings value)) = is_settings_line (view value) ≡ true

abbrev pub IsFormedHeader : Option Header → Type 0
IsFormedHeader None = ⊤
IsFormedHeader (Some header.Search) = ⊤
IsFormedHeader (Some (header.Settings value)) = is_settings_line (view value) ≡ true
