-- Lines of a script, with their limits (newline-delimited JSON; Elasticsearch Reference 8, 'Bulk API').
use Rattle.std.specs.Prelude.{ℕ, ◌+◌, List, [], ◌∷◌, length, Option, Some, None, Result, Ok, Err, Bool, ◌||◌, if◌then◌else◌}
use Rattle.std.specs.Str.{bytes_eq}
use Rattle.agg_model.specs.Lines.{Line, is_beyond_input, is_too_long}
use Rattle.agg_model.specs.declared.script_refusal.TheConstants.{INPUT_TOO_LONG, LINE_TOO_LONG}

-- no byte, or only `\r`
unfoldable pub is_empty_line : List ℕ → Bool
is_empty_line text = bytes_eq text [] || bytes_eq text (13 ∷ [])

-- how many lines and bytes were read
pub record Place : Type 0 where
  pub number : ℕ
  pub read : ℕ

abbrev pub start : Place
start = record { number = 0; read = 0 }

abbrev pub past : Line → Place → Place
past l place = record { number = place.number + 1; read = place.read + l.size }

-- why a line is refused; the whole input comes first
unfoldable pub line_fault : Place → Line → Option ℕ
line_fault place l =
    if is_beyond_input place.read l.size then Some INPUT_TOO_LONG else (if is_too_long (length l.text) then Some LINE_TOO_LONG else None)

-- why a script is refused: the number, the line counted from 1, and for BAD_INDEX_LINE the pointer
pub record ScriptRefusal : Type 0 where
  pub number : ℕ
  pub line : ℕ
  pub path : List ℕ

abbrev pub Script : Type 0 → Type 0
Script A = Result A ScriptRefusal

abbrev pub refuse_script : {A : Type 0} → ℕ → ℕ → Script A
refuse_script number line = Err (record { number = number; line = line; path = [] })

abbrev pub or_fault : ℕ → Option ℕ → Script (Unit {0})
or_fault line None = Ok tt
or_fault line (Some number) = refuse_script number line

-- a line within the limits
unfoldable pub checked : Place → Line → Script (Unit {0})
checked place l = or_fault (place.number + 1) (line_fault place l)
