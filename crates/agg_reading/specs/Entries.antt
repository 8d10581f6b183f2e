-- The third section of a script: searches, each a header and a body, and settings lines between them (Elasticsearch
-- Reference 8, 'Multi search API', 'Cluster update settings API').
use Rattle.std.specs.Prelude.{ℕ, ◌+◌, List, [], ◌∷◌, Option, Some, None, if◌then◌else◌, Ok, Err}
use Rattle.serde_json.specs.Data.{Data, object, Members}
use Rattle.agg_model.specs.declared.script_refusal.TheConstants.{BAD_HEADER, MISSING_BODY}
use Rattle.agg_model.specs.Lines.{Line}
use Rattle.agg_reading.specs.Reading.{◌>>=◌, or_refuse}
use Rattle.agg_reading.specs.Json.{reading, object_at}
use Rattle.agg_reading.specs.Lines.{Place, past, is_empty_line, ScriptRefusal, Script, checked}
use Rattle.agg_reading.specs.Script.{at_line}
use Rattle.agg_reading.specs.SettingsLines.{is_settings_line}

-- the body of a search, or the value of a settings line
pub data Entry : Type 0 where
  body : List ℕ → Entry
  change : Data → Entry

-- the entries, and the refusal that ends them
pub record Entries : Type 0 where
  pub entries : List Entry
  pub refused : Option ScriptRefusal

abbrev pub no_more : Entries
no_more = record { entries = []; refused = None }

abbrev pub more : Entry → Entries → Entries
more entry later = record later { entries = entry ∷ later.entries }

abbrev pub refused_with : ScriptRefusal → Entries
refused_with r = record { entries = []; refused = Some r }

-- where a line is refused the entries end
abbrev pub unless_refused : {A : Type 0} → Script A → (A → Entries) → Entries
unless_refused (Ok x) next = next x
unless_refused (Err r) next = refused_with r

-- a header is a JSON object
unfoldable pub header_members : ℕ → List ℕ → Script Members
header_members line text = at_line line (or_refuse BAD_HEADER [] (reading text) >>= object_at BAD_HEADER [])

-- An empty line where a header is due is passed over. A settings line stands alone, and each other header has its body line.
unfoldable mutual
  pub entries : Place → List Line → Entries
  entries place [] = no_more
  entries place (h ∷ ls) =
      unless_refused (checked place h) (λ _. if is_empty_line h.text then entries (past h place) ls else
      unless_refused (header_members (place.number + 1) h.text) (λ ms.
      if is_settings_line (object ms) then more (change (object ms)) (entries (past h place) ls) else body_of (past h place) ls))

  -- the body line of the header above it, whose line is refused where this one is not there
  pub body_of : Place → List Line → Entries
  body_of place [] = refused_with (record { number = MISSING_BODY; line = place.number; path = [] })
  body_of place (b ∷ ls) = unless_refused (checked place b) (λ _. more (body b.text) (entries (past b place) ls))
