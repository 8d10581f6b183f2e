-- One more line of the third section of a script, and what it is to the entries.
use Rattle.std.proofs.Common.{◌≡◌, ◌≢◌, ◌∙◌, ℕ, Bool, true, false, List, [], ◌∷◌, ◌++◌, Option, Some, None, Result, Ok, Err, ◌+◌, refl, sym, ap, subst, append_assoc, append-nil, ⊎_elim}
use Rattle.std.specs.Prelude.{IfSome, option_map, ⊤, if◌then◌else◌}
use Rattle.std.proofs.lemmas.Bool.{cond-true, cond-false}
use Rattle.std.proofs.lemmas.List.{append_cancel_left}
use Rattle.serde_json.specs.Data.{Data, object, Members}
use Rattle.agg_model.specs.Lines.{Line, lines}
use Rattle.agg_model.specs.declared.script_refusal.TheConstants.{MISSING_BODY}
use Rattle.agg_reading.specs.Entries.{Entries, entries, body_of, more, no_more, refused_with, unless_refused, header_members}
use Rattle.agg_reading.specs.Entries.{Entry as Defined, body, change}
use Rattle.agg_reading.specs.Lines.{Place, Script, ScriptRefusal, past, checked, is_empty_line}
use Rattle.agg_reading.specs.Reading.{◌>>=◌}
use Rattle.agg_reading.specs.SettingsLines.{is_settings_line}
use Rattle.script_lines.specs.Faults.{refusal_of, Fails}
use Rattle.script_lines.specs.Handed.{IsHanded}
use Rattle.script_lines.specs.Headers.{header_at, change_at, change_in}
use Rattle.script_lines.specs.declared.header.Header.{Header}
use Rattle.script_lines.specs.declared.header.Header.TheVariants as header
use Rattle.serde_json.specs.View.{view}
use Rattle.script_lines.specs.Steps.{IsNext, IsBehind, Reads, Takes, TakesFront, FailsBehind}
use Rattle.script_lines.specs.declared.fault.ScriptFault.{ScriptFault}
use Rattle.script_lines.specs.declared.fault.ScriptFault.TheVariants as stop
use Rattle.script_lines.specs.Reading.{GoesOnAt, behind, then_entries, after_header, Ends, BodiesAt, IsFormedHeader}

-- a line that was handed out, and how the entries go on behind it
pub record Taken (whole : List Line → Entries) (bytes text : List ℕ) (place after : Place) (next : List Line → Entries) (left : Option (List ℕ)) (count : ℕ) (ended : Bool) : Type 0 where
  pub l : Line
  pub text_is : l.text ≡ text
  pub fits : checked place l ≡ Ok tt
  pub place_is : after ≡ past l place
  pub goes_on : GoesOnAt whole bytes (λ later. next (l ∷ later)) left count ended

abbrev head_or : Line → List Line → Line
head_or d [] = d
head_or d (l ∷ ls) = l

module _ (whole : List Line → Entries) (bytes : List ℕ) (next : List Line → Entries) (left : Option (List ℕ)) (count : ℕ) (ended : Bool)
    (goes_on : GoesOnAt whole bytes next left count ended) where
  -- the entries of the whole input
  pub all : whole (lines bytes) ≡ next (lines goes_on.handed.rest)
  all = ap whole goes_on.handed.lines ∙ goes_on.same (lines goes_on.handed.rest)

  pub goes_on_as : (other : List Line → Entries) → ((later : List Line) → next later ≡ other later) → GoesOnAt whole bytes other left count ended
  goes_on_as other same = record { front = goes_on.front; handed = goes_on.handed; same = λ later. goes_on.same later ∙ same later }

  pub left_lines : option_map lines left ≡ Some (lines goes_on.handed.rest)
  left_lines = ap (option_map lines) goes_on.handed.to_come

  -- a line was handed out
  pub took : (place now : Place) (text : List ℕ) (new : Option (List Line)) (new_left : Option (List ℕ)) (now_count : ℕ) (now_ended : Bool) →
      IsNext place (lines goes_on.handed.rest) text now new → IsBehind bytes goes_on.front text new_left now_count now_ended →
      Taken whole bytes text place now next new_left now_count now_ended
  took place now text new new_left now_count now_ended taken behind =
      let l = behind.0 in
      let handed = behind.2 in
      let tail : taken.0 ∷ taken.1 ≡ l ∷ lines handed.rest =
      append_cancel_left goes_on.front _ _ (ap (λ (ls : List Line). goes_on.front ++ ls) (sym taken.2) ∙ sym goes_on.handed.lines ∙ handed.lines ∙ append_assoc goes_on.front (l ∷ []) (lines handed.rest)) in
      let same : taken.0 ≡ l = ap (head_or l) tail in
      record {
        l = l;
        text_is = behind.1;
        fits = ap (checked place) (sym same) ∙ taken.4;
        place_is = taken.5 ∙ ap (λ (k : Line). past k place) same;
        goes_on = record {
          front = goes_on.front ++ l ∷ [];
          handed = handed;
          same = λ later. ap whole (append_assoc goes_on.front (l ∷ []) later) ∙ goes_on.same (l ∷ later);
        };
      }

  -- nothing more was read of the source
  pub failed : (before : List Defined) (read : ℕ) → (next []).entries ≡ before → FailsBehind bytes goes_on.front stop.Read read → Ends whole bytes before stop.Read read
  failed before read nothing is = ap (λ (ls : List Line). (whole ls).entries) (is ∙ sym (append-nil goes_on.front)) ∙ ap (λ (e : Entries). e.entries) (goes_on.same []) ∙ nothing

-- ---- where a header is due

abbrev okay : Option Data → Script (Option Data)
okay a = Ok a

abbrev refusing : ScriptRefusal → Script (Option Data)
refusing r = Err r

ok_is : (a b : Option Data) → okay a ≡ okay b → a ≡ b
ok_is a b e = cc

err_is : (a b : ScriptRefusal) → refusing a ≡ refusing b → a ≡ b
err_is a b e = cc

some_is : (a b : Data) → Some a ≡ Some b → a ≡ b
some_is a b e = cc

entries-behind : (before : List Defined) (e : Defined) (later : Entries) → behind before (more e later) ≡ behind (before ++ e ∷ []) later
entries-behind before e later = ap (λ (es : List Defined). record { entries = es; refused = later.refused }) (sym (append_assoc before (e ∷ []) later.entries))

by_change : (before : List Defined) (place : Place) (later : List Line) (ms : Members) (b : Bool) →
    behind before (if b then more (change (object ms)) (entries place later) else body_of place later) ≡ after_header before place (if b then Some (object ms) else None) later
by_change before place later ms true = entries-behind before (change (object ms)) (entries place later)
by_change before place later ms false = refl

-- what follows a header line, by what it is
abbrev header_then : Place → List Line → Members → Entries
header_then place later ms = if is_settings_line (object ms) then more (change (object ms)) (entries place later) else body_of place later

headed : (before : List Defined) (place : Place) (later : List Line) (r : Script Members) (o : Option Data) → (r >>= λ ms. Ok (change_at ms)) ≡ Ok o →
    behind before (unless_refused r (header_then place later)) ≡ after_header before place o later
headed before place later (Err e) o is = absurd (let no : ⊥ = cc in no)
headed before place later (Ok ms) o is =
    by_change before place later ms (is_settings_line (object ms)) ∙ ap (λ (c : Option Data). after_header before place c later) (ok_is (change_at ms) o is)

unheaded : (before : List Defined) (place : Place) (later : List Line) (r : Script Members) (e : ScriptRefusal) → (r >>= λ ms. Ok (change_at ms)) ≡ Err e →
    behind before (unless_refused r (header_then place later)) ≡ behind before (refused_with e)
unheaded before place later (Err f) e is = ap (λ (x : ScriptRefusal). behind before (refused_with x)) (err_is f e is)
unheaded before place later (Ok ms) e is = absurd (let no : ⊥ = cc in no)

-- the entries from a line on where a header is due
at_header : (place : Place) (l : Line) (later : List Line) → entries place (l ∷ later)
    ≡ unless_refused (checked place l) (λ _. if is_empty_line l.text then entries (past l place) later
    else unless_refused (header_members (place.number + 1) l.text) (header_then (past l place) later))
unfolding entries
at_header place l later = refl

-- a line that fits is what its text is
fitting : (place : Place) (l : Line) (later : List Line) → checked place l ≡ Ok tt → entries place (l ∷ later)
    ≡ (if is_empty_line l.text then entries (past l place) later else unless_refused (header_members (place.number + 1) l.text) (header_then (past l place) later))
fitting place l later fits = at_header place l later ∙ ap (λ (c : Script ⊤). unless_refused c (λ _. if is_empty_line l.text then entries (past l place) later
    else unless_refused (header_members (place.number + 1) l.text) (header_then (past l place) later))) fits

no-entries : (place : Place) → entries place [] ≡ no_more
unfolding entries
no-entries place = refl

by-header : (place : Place) (l : Line) (later : List Line) → checked place l ≡ Ok tt → is_empty_line l.text ≡ false
    → entries place (l ∷ later) ≡ unless_refused (header_members (place.number + 1) l.text) (header_then (past l place) later)
by-header place l later fits some = fitting place l later fits ∙ cond-false (is_empty_line l.text) _ _ some

module _ (whole : List Line → Entries) (bytes : List ℕ) (before : List Defined) (text : List ℕ) (place now : Place) (left : Option (List ℕ)) (count : ℕ) (ended : Bool)
    (taken : Taken whole bytes text place now (then_entries before place) left count ended) where
  -- an empty line is passed over
  pub empty_read : is_empty_line text ≡ true → GoesOnAt whole bytes (then_entries before now) left count ended
  empty_read is =
      goes_on_as _ _ _ _ _ _ taken.goes_on (then_entries before now)
      (λ later. ap (behind before) (fitting place taken.l later taken.fits ∙ cond-true (is_empty_line taken.l.text) _ _ (ap is_empty_line taken.text_is ∙ is)
      ∙ ap (λ (p : Place). entries p later) (sym taken.place_is)))

  -- a header, or a settings line
  pub header_read : is_empty_line text ≡ false → (o : Option Data) → header_at now.number text ≡ Ok o → GoesOnAt whole bytes (after_header before now o) left count ended
  unfolding header_at
  header_read some o is =
      goes_on_as _ _ _ _ _ _ taken.goes_on (after_header before now o)
      (λ later. ap (behind before) (by-header place taken.l later taken.fits (ap is_empty_line taken.text_is ∙ some))
      ∙ headed before (past taken.l place) later (header_members (place.number + 1) taken.l.text) o
      (ap (λ (t : List ℕ). header_members (place.number + 1) t >>= λ ms. Ok (change_at ms)) taken.text_is
      ∙ ap (λ (p : Place). header_members p.number text >>= λ ms. Ok (change_at ms)) (sym taken.place_is) ∙ is)
      ∙ ap (λ (p : Place). after_header before p o later) (sym taken.place_is))

  -- a line that is no header
  pub header_refused : is_empty_line text ≡ false → (r : ScriptRefusal) → header_at now.number text ≡ Err r → whole (lines bytes) ≡ behind before (refused_with r)
  unfolding header_at
  header_refused some r is =
      all _ _ _ _ _ _ taken.goes_on
      ∙ (let later = lines taken.goes_on.handed.rest in
      ap (behind before) (by-header place taken.l later taken.fits (ap is_empty_line taken.text_is ∙ some))
      ∙ unheaded before (past taken.l place) later (header_members (place.number + 1) taken.l.text) r
      (ap (λ (t : List ℕ). header_members (place.number + 1) t >>= λ ms. Ok (change_at ms)) taken.text_is
      ∙ ap (λ (p : Place). header_members p.number text >>= λ ms. Ok (change_at ms)) (sym taken.place_is) ∙ is))

-- ---- where a body is due

at_body : (place : Place) (l : Line) (later : List Line) → body_of place (l ∷ later) ≡ unless_refused (checked place l) (λ _. more (body l.text) (entries (past l place) later))
unfolding body_of
at_body place l later = refl

no-body : (place : Place) → body_of place [] ≡ refused_with (record { number = MISSING_BODY; line = place.number; path = [] })
unfolding body_of
no-body place = refl

-- a body was read
pub body_read : (whole : List Line → Entries) (bytes : List ℕ) (before : List Defined) (text : List ℕ) (place now : Place) (left : Option (List ℕ)) (count : ℕ) (ended : Bool)
    → Taken whole bytes text place now (λ later. behind before (body_of place later)) left count ended → GoesOnAt whole bytes (then_entries (before ++ body text ∷ []) now) left count ended
body_read whole bytes before text place now left count ended taken =
    goes_on_as _ _ _ _ _ _ taken.goes_on (then_entries (before ++ body text ∷ []) now)
    (λ later. ap (behind before) (at_body place taken.l later ∙ ap (λ (c : Script ⊤). unless_refused c (λ _. more (body taken.l.text) (entries (past taken.l place) later))) taken.fits)
    ∙ entries-behind before (body taken.l.text) (entries (past taken.l place) later)
    ∙ ap (λ (t : List ℕ). then_entries (before ++ body t ∷ []) (past taken.l place) later) taken.text_is
    ∙ ap (λ (p : Place). then_entries (before ++ body text ∷ []) p later) (sym taken.place_is))

-- ---- where no line was read

refused-line : (place : Place) (l : Line) (later : List Line) (r : ScriptRefusal) → checked place l ≡ Err r → entries place (l ∷ later) ≡ refused_with r
refused-line place l later r is = at_header place l later ∙ ap (λ (c : Script ⊤). unless_refused c (λ _. if is_empty_line l.text then entries (past l place) later
    else unless_refused (header_members (place.number + 1) l.text) (header_then (past l place) later))) is

refused-body : (place : Place) (l : Line) (later : List Line) (r : ScriptRefusal) → checked place l ≡ Err r → body_of place (l ∷ later) ≡ refused_with r
refused-body place l later r is = at_body place l later ∙ ap (λ (c : Script ⊤). unless_refused c (λ _. more (body l.text) (entries (past l place) later))) is

module _ (whole : List Line → Entries) (bytes : List ℕ) (before : List Defined) (place : Place) (left : Option (List ℕ)) (count : ℕ) (ended : Bool)
    (goes_on : GoesOnAt whole bytes (then_entries before place) left count ended) where
  pub header_ends : (fault : ScriptFault) (now : Place) (new : Option (List Line)) (read : ℕ) → IfSome (option_map lines left) (λ ls. Reads place ls (Err fault) now new)
      → ((front : List Line) → IsHanded bytes front left count ended → FailsBehind bytes front fault read) → Ends whole bytes before fault read
  header_ends (stop.Refused r) now new read reads fails =
      let refused = subst (λ (o : Option (List Line)). IfSome o (λ ls. Reads place ls (Err (stop.Refused r)) now new)) (left_lines _ _ _ _ _ _ goes_on) reads in
      all _ _ _ _ _ _ goes_on ∙ ap (then_entries before place) refused.2 ∙ ap (behind before) (refused-line place refused.0 refused.1 (refusal_of r) refused.3)
  header_ends stop.Read now new read reads fails =
      failed _ _ _ _ _ _ goes_on before read (ap (λ (e : Entries). before ++ e.entries) (no-entries place) ∙ append-nil before) (fails goes_on.front goes_on.handed)
  header_ends stop.Memory now new read reads fails = tt

  -- the end of the script
  pub no_header : (now : Place) (new : Option (List Line)) → IfSome (option_map lines left) (λ ls. Reads place ls (Ok None) now new) → whole (lines bytes) ≡ behind before no_more
  no_header now new reads =
      let done = subst (λ (o : Option (List Line)). IfSome o (λ ls. Reads place ls (Ok None) now new)) (left_lines _ _ _ _ _ _ goes_on) reads in
      all _ _ _ _ _ _ goes_on ∙ ap (then_entries before place) done.0 ∙ ap (behind before) (no-entries place)

  pub header_taken : (text : List ℕ) (now : Place) (new : Option (List Line)) (new_left : Option (List ℕ)) (now_count : ℕ) (now_ended : Bool)
      → IfSome (option_map lines left) (λ ls. Reads place ls (Ok (Some text)) now new) → IsBehind bytes goes_on.front text new_left now_count now_ended
      → Taken whole bytes text place now (then_entries before place) new_left now_count now_ended
  header_taken text now new new_left now_count now_ended reads behind =
      took _ _ _ _ _ _ goes_on place now text new new_left now_count now_ended
      (subst (λ (o : Option (List Line)). IfSome o (λ ls. Reads place ls (Ok (Some text)) now new)) (left_lines _ _ _ _ _ _ goes_on) reads) behind

module _ (whole : List Line → Entries) (bytes : List ℕ) (before : List Defined) (place : Place) (left : Option (List ℕ)) (count : ℕ) (ended : Bool)
    (goes_on : GoesOnAt whole bytes (λ later. behind before (body_of place later)) left count ended) where
  pub body_ends : (fault : ScriptFault) (now : Place) (new : Option (List Line)) (read : ℕ) → IfSome (option_map lines left) (λ ls. Takes MISSING_BODY place ls (Err fault) now new)
      → ((front : List Line) → IsHanded bytes front left count ended → FailsBehind bytes front fault read) → Ends whole bytes before fault read
  body_ends (stop.Refused r) now new read takes fails =
      let refused = subst (λ (o : Option (List Line)). IfSome o (λ ls. Takes MISSING_BODY place ls (Err (stop.Refused r)) now new)) (left_lines _ _ _ _ _ _ goes_on) takes in
      all _ _ _ _ _ _ goes_on
      ∙ ⊎_elim
      (λ h. ap (λ (ls : List Line). behind before (body_of place ls)) h.0 ∙ ap (behind before) (no-body place) ∙ ap (λ q. behind before (refused_with (refusal_of q))) (sym h.1))
      (λ h. ap (λ (ls : List Line). behind before (body_of place ls)) h.2 ∙ ap (behind before) (refused-body place h.0 h.1 (refusal_of r) h.3))
      refused
  body_ends stop.Read now new read takes fails =
      failed _ _ _ _ _ _ goes_on before read (ap (λ (e : Entries). before ++ e.entries) (no-body place) ∙ append-nil before) (fails goes_on.front goes_on.handed)
  body_ends stop.Memory now new read takes fails = tt

  pub body_taken : (text : List ℕ) (now : Place) (new : Option (List Line)) (new_left : Option (List ℕ)) (now_count : ℕ) (now_ended : Bool)
      → IfSome (option_map lines left) (λ ls. Takes MISSING_BODY place ls (Ok text) now new) → IsBehind bytes goes_on.front text new_left now_count now_ended
      → GoesOnAt whole bytes (then_entries (before ++ body text ∷ []) now) new_left now_count now_ended
  body_taken text now new new_left now_count now_ended takes behind =
      body_read whole bytes before text place now new_left now_count now_ended
      (took _ _ _ _ _ _ goes_on place now text new new_left now_count now_ended
      (subst (λ (o : Option (List Line)). IfSome o (λ ls. Takes MISSING_BODY place ls (Ok text) now new)) (left_lines _ _ _ _ _ _ goes_on) takes) behind)

  -- what is answered where a body is due
  pub bodies : (result : Result (List ℕ) ScriptFault) (now : Place) (new : Option (List Line)) (new_left : Option (List ℕ)) (now_count : ℕ) (now_ended : Bool) (read : ℕ)
      → IfSome (option_map lines left) (λ ls. Takes MISSING_BODY place ls result now new)
      → ((front : List Line) → IsHanded bytes front left count ended → TakesFront bytes front result new_left now_count now_ended read)
      → BodiesAt whole bytes before result now new_left now_count now_ended read
  bodies (Ok text) now new new_left now_count now_ended read takes fronts = body_taken text now new new_left now_count now_ended takes (fronts goes_on.front goes_on.handed)
  bodies (Err fault) now new new_left now_count now_ended read takes fronts = body_ends fault now new read takes fronts

-- a settings line has the form of one
if-formed : (ms : Members) (d : Data) (b : Bool) → is_settings_line (object ms) ≡ b → (if b then Some (object ms) else None) ≡ Some d → is_settings_line d ≡ true
if-formed ms d true form is = ap is_settings_line (some_is d (object ms) (sym is)) ∙ form
if-formed ms d false form is = absurd (let no : ⊥ = cc in no)

formed-in : (r : Script Members) (d : Data) → (r >>= λ ms. Ok (change_at ms)) ≡ Ok (Some d) → is_settings_line d ≡ true
formed-in (Err e) d is = absurd (let no : ⊥ = cc in no)
formed-in (Ok ms) d is = if-formed ms d (is_settings_line (object ms)) refl (ok_is (change_at ms) (Some d) is)

pub header-formed : (number : ℕ) (text : List ℕ) (d : Data) → header_at number text ≡ Ok (Some d) → is_settings_line d ≡ true
unfolding header_at
header-formed number text d is = formed-in (header_members number text) d is

pub formed_header : (number : ℕ) (text : List ℕ) (h : Header) → header_at number text ≡ Ok (change_in h) → IsFormedHeader (Some h)
formed_header number text header.Search is = tt
formed_header number text (header.Settings value) is = header-formed number text (view value) is

-- a line that is no header, or want of memory
pub header_fails : (whole : List Line → Entries) (bytes : List ℕ) (before : List Defined) (text : List ℕ) (place now : Place) (left : Option (List ℕ)) (count : ℕ) (ended : Bool)
    → Taken whole bytes text place now (then_entries before place) left count ended → is_empty_line text ≡ false → (fault : ScriptFault) (read : ℕ)
    → Fails fault (header_at now.number text) → fault ≢ stop.Read → Ends whole bytes before fault read
header_fails whole bytes before text place now left count ended taken some (stop.Refused r) read fails other = header_refused whole bytes before text place now left count ended taken some (refusal_of r) fails
header_fails whole bytes before text place now left count ended taken some stop.Read read fails other = absurd (other refl)
header_fails whole bytes before text place now left count ended taken some stop.Memory read fails other = tt
