-- One more line of a script, and what it is to loading.
use Rattle.std.proofs.Common.{◌≡◌, ◌∙◌, ℕ, Bool, List, [], ◌∷◌, ◌++◌, Option, Some, Ok, Err, refl, sym, ap, subst, append_assoc, append-nil, ⊎_elim}
use Rattle.std.specs.Prelude.{IfSome, option_map, ⊤}
use Rattle.std.proofs.lemmas.List.{append_cancel_left}
use Rattle.agg_model.specs.Lines.{Line, lines}
use Rattle.agg_reading.specs.Lines.{Place, Script, ScriptRefusal, start, past, checked, refuse_script}
use Rattle.agg_reading.specs.Reading.{◌>>◌}
use Rattle.agg_reading.specs.Script.{Loaded, loaded}
use Rattle.script_lines.specs.Faults.{refusal_of}
use Rattle.script_lines.specs.Handed.{IsHanded}
use Rattle.script_lines.specs.Steps.{IsNext, IsBehind, Takes, FailsBehind}
use Rattle.script_lines.specs.declared.fault.ScriptFault.{ScriptFault}
use Rattle.script_lines.specs.declared.fault.ScriptFault.TheVariants as stop
use Rattle.script_lines.proofs.HandedLemmas.{nothing_handed}
use Rattle.agg_bulk.specs.Loading.{GoesOnAt, Ends, IsRefused}

-- what is loaded from here on: nothing without a line, and else by a line within the limits
pub record Section (missing : ℕ) (place : Place) (after : List Line → Script Loaded) (next : Line → List Line → Script Loaded) : Type 0 where
  pub end : after [] ≡ refuse_script missing place.number
  pub line : (l : Line) (more : List Line) → after (l ∷ more) ≡ (checked place l >> next l more)

-- a line that was handed out, and how loading goes on behind it
pub record Taken (bytes text : List ℕ) (place after : Place) (next : Line → List Line → Script Loaded) (left : Option (List ℕ)) (count : ℕ) (ended : Bool) : Type 0 where
  pub l : Line
  pub text_is : l.text ≡ text
  pub place_is : after ≡ past l place
  pub goes_on : GoesOnAt bytes (next l) left count ended

abbrev head_or : Line → List Line → Line
head_or d [] = d
head_or d (l ∷ ls) = l

module _ (bytes : List ℕ) (after : List Line → Script Loaded) (left : Option (List ℕ)) (count : ℕ) (ended : Bool) (goes_on : GoesOnAt bytes after left count ended) where
  -- what is loaded of the whole input
  pub whole : loaded (lines bytes) ≡ after (lines goes_on.handed.rest)
  whole = ap loaded goes_on.handed.lines ∙ goes_on.same (lines goes_on.handed.rest)

  -- a refusal whatever follows
  pub stops : (r : ScriptRefusal) → ((more : List Line) → after more ≡ Err r) → loaded (lines bytes) ≡ Err r
  stops r refused = whole ∙ refused (lines goes_on.handed.rest)

  pub goes_on_as : (other : List Line → Script Loaded) → ((more : List Line) → after more ≡ other more) → GoesOnAt bytes other left count ended
  goes_on_as other same = record { front = goes_on.front; handed = goes_on.handed; same = λ more. goes_on.same more ∙ same more }

  pub left_lines : option_map lines left ≡ Some (lines goes_on.handed.rest)
  left_lines = ap (option_map lines) goes_on.handed.to_come

  module _ (missing : ℕ) (place : Place) (next : Line → List Line → Script Loaded) (section : Section missing place after next) where
    -- a line was handed out
    pub took : (text : List ℕ) (now : Place) (new : Option (List Line)) (new_left : Option (List ℕ)) (now_count : ℕ) (now_ended : Bool) →
        IfSome (option_map lines left) (λ ls. Takes missing place ls (Ok text) now new) → IsBehind bytes goes_on.front text new_left now_count now_ended → Taken bytes text place now next new_left now_count now_ended
    took text now new new_left now_count now_ended takes behind =
        let taken : IsNext place (lines goes_on.handed.rest) text now new = subst (λ (o : Option (List Line)). IfSome o (λ ls. Takes missing place ls (Ok text) now new)) left_lines takes in
        let l = behind.0 in
        let handed = behind.2 in
        let tail : taken.0 ∷ taken.1 ≡ l ∷ lines handed.rest =
        append_cancel_left goes_on.front _ _ (ap (λ (ls : List Line). goes_on.front ++ ls) (sym taken.2) ∙ sym goes_on.handed.lines ∙ handed.lines ∙ append_assoc goes_on.front (l ∷ []) (lines handed.rest)) in
        let same : taken.0 ≡ l = ap (head_or l) tail in
        record {
          l = l;
          text_is = behind.1;
          place_is = taken.5 ∙ ap (λ (k : Line). past k place) same;
          goes_on = record {
            front = goes_on.front ++ l ∷ [];
            handed = handed;
            same = λ more.
                ap loaded (append_assoc goes_on.front (l ∷ []) more)
                ∙ goes_on.same (l ∷ more)
                ∙ section.line l more
                ∙ ap (λ (c : Script ⊤). c >> next l more) (ap (checked place) (sym same) ∙ taken.4);
          };
        }

    -- no line was handed out
    pub ends : (fault : ScriptFault) (now : Place) (new : Option (List Line)) (read : ℕ) → IfSome (option_map lines left) (λ ls. Takes missing place ls (Err fault) now new) →
        ((front : List Line) → IsHanded bytes front left count ended → FailsBehind bytes front fault read) → Ends bytes fault read
    ends (stop.Refused r) now new read takes behind =
        let taken = subst (λ (o : Option (List Line)). IfSome o (λ ls. Takes missing place ls (Err (stop.Refused r)) now new)) left_lines takes in
        whole ∙ ⊎_elim
        (λ h. ap after h.0 ∙ section.end ∙ ap (λ q. Err (refusal_of q)) (sym h.1))
        (λ h. ap after h.2 ∙ section.line h.0 h.1 ∙ ap (λ (c : Script ⊤). c >> next h.0 h.1) h.3)
        taken
    ends stop.Read now new read takes behind =
        subst IsRefused (sym (ap loaded (behind goes_on.front goes_on.handed ∙ sym (append-nil goes_on.front)) ∙ goes_on.same [] ∙ section.end)) tt
    ends stop.Memory now new read takes behind = tt

-- nothing was handed out
pub begins : (bytes : List ℕ) (left : Option (List ℕ)) (place : Place) (ended : Bool) → left ≡ Some bytes → place ≡ start → GoesOnAt bytes loaded left place.read ended
begins bytes left place ended is first = record { front = []; handed = nothing_handed bytes left place.read ended is (ap (λ (p : Place). p.read) first); same = λ more. refl }
