-- What a clause sees of a reader of lines.
use Rattle.std.specs.Prelude.{◌≡◌, ◌<◌, ℕ, ◌+◌, ◌-◌, List, [], ◌∷◌, ◌++◌, length, Bool, true, Option, Some, None, slice_range, vec_len}
use Rattle.std.specs.Borrow.{GName}
use Rattle.std.specs.Io.KnownBytes.{prepend_known, IsAtEnd}
use Rattle.agg_model.specs.Lines.{newline}
use Rattle.agg_base.specs.Cut.{IsPlain, fault_of}
use Rattle.agg_base.specs.declared.lines.LineEnd.{LineEnd}
use Rattle.agg_base.specs.declared.lines.LineEnd.TheVariants.{Newline, Input}
use Rattle.agg_base.specs.declared.lines.LineFault.{LineFault}
use Rattle.agg_base.specs.declared.lines.Lines.{Lines}
use Rattle.agg_base.specs.declared.source.Source.{Ghosts}

-- the source behind it, as it is now
abbrev pub source_of : {S : Type 0} {g : Ghosts S} → Lines S g → S
source_of lines = lines.source.now

-- the name of the loan of the source
abbrev pub source_name : {S : Type 0} {g : Ghosts S} → Lines S g → GName
source_name lines = lines.source.ghost_name

-- what was read ahead, and what the source has left
abbrev pub to_come : {S : Type 0} {g : Ghosts S} → Lines S g → Option (List ℕ)
to_come {g = g} lines = prepend_known (slice_range lines.buffer.items lines.start lines.end) (g.left lines.source.now)

-- the bytes that are not yet handed out, where the source tells them
abbrev pub unread : {S : Type 0} {g : Ghosts S} → Lines S g → Option (List ℕ)
unread lines = prepend_known lines.line.items (to_come lines)

-- how many bytes of the input were handed out, with their newlines: they stand before the next line
abbrev pub position : {S : Type 0} {g : Ghosts S} → Lines S g → ℕ
position lines = lines.position

-- how many bytes were read of the source
abbrev pub bytes_read : {S : Type 0} {g : Ghosts S} → Lines S g → ℕ
bytes_read lines = lines.position + vec_len lines.line + (lines.end - lines.start)

-- how many lines were handed out
abbrev pub handed : {S : Type 0} {g : Ghosts S} → Lines S g → ℕ
handed lines = lines.handed

-- the fault that it keeps and answers from now on
abbrev pub kept : {S : Type 0} {g : Ghosts S} → Lines S g → Option LineFault
kept lines = lines.kept

-- the source said that nothing more comes
abbrev pub has_ended : {S : Type 0} {g : Ghosts S} → Lines S g → Bool
has_ended lines = lines.is_ended

-- From one state on to the other the source gave these bytes, and as many more count as read. `old` and `new` are what it had left.
pub record GaveAt (old : Option (List ℕ)) (before : ℕ) (new : Option (List ℕ)) (after : ℕ) : Type 0 where
  pub given : List ℕ
  pub left : old ≡ prepend_known given new
  pub counted : after ≡ before + length given

-- the same of two states of a reader, whatever it answered on the way
abbrev pub Gave : {S : Type 0} {g : Ghosts S} → Lines S g → Lines S g → Type 0
Gave {g = g} old new = GaveAt (g.left (source_of old)) (bytes_read old) (g.left (source_of new)) (bytes_read new)

-- What was read and is not handed out is the front of a line, without its newline: `bytes_read` bytes of the input hold no
-- further whole line.
abbrev pub IsFrontOfLine : {S : Type 0} {g : Ghosts S} → Lines S g → Type 0
IsFrontOfLine {g = g} lines =
    (front : List ℕ) × IsPlain front × (unread lines ≡ prepend_known front (g.left (source_of lines))) × (bytes_read lines ≡ position lines + length front)

-- no line was handed out
abbrev pub Stays : {S : Type 0} {g : Ghosts S} → Lines S g → Lines S g → Type 0
Stays old new = (unread new ≡ unread old) × (position new ≡ position old) × (handed new ≡ handed old)

-- what a piece of a line leaves: a longer front of the line, the whole line before its newline, or all that was left
abbrev pub Took : {S : Type 0} {g : Ghosts S} → Lines S g → Lines S g → Option LineEnd → Type 0
Took old new None = (unread new ≡ unread old) × (vec_len old.line < vec_len new.line) × (has_ended new ≡ has_ended old) × Gave old new
Took {g = g} old new (Some Newline) =
    (unread old ≡ prepend_known (new.line.items ++ newline ∷ []) (to_come new))
    × (fault_of (position old) (vec_len new.line) (vec_len new.line + 1) ≡ None)
    × GaveAt (g.left (source_of old)) (bytes_read old) (g.left (source_of new)) (bytes_read new + 1)
Took {g = g} old new (Some Input) =
    (unread new ≡ unread old) × IsAtEnd (to_come new) × IsAtEnd (g.left (source_of new)) × (has_ended new ≡ true) × Gave old new

-- what only the handing out of a line changes; a newline that was gone over is not yet counted
abbrev pub KeepsCounts : {S : Type 0} {g : Ghosts S} → Lines S g → Lines S g → Type 0
KeepsCounts old new =
    (position new ≡ position old) × (handed new ≡ handed old) × (kept new ≡ kept old) × (source_name new ≡ source_name old)
