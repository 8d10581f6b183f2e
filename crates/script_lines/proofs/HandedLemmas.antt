-- Which lines of an input were handed out, after one more line and where a read failed.
use Rattle.std.proofs.Common.{◌≡◌, ◌≢◌, ◌+◌, ℕ, Bool, true, false, List, [], ◌∷◌, ◌++◌, Option, Some, None, Ok, refl, sym, ap, ◌∙◌, append_assoc, append-nil, length, take, ⊎_elim, arith}
use Rattle.std.specs.Prelude.{IfSome, IfNone, filter}
use Rattle.std.specs.Io.KnownBytes.{prepend_known}
use Rattle.std.proofs.Math.Seq.{take-append_seam}
use Rattle.std.proofs.lemmas.Bool.{cond-true, cond-false, lt-ltb, le-ltb}
use Rattle.std.proofs.lemmas.List.{length-append}
use Rattle.std.proofs.lemmas.List.Elements.{filter-append}
use Rattle.agg_model.specs.Lines.{newline, Line, lines}
use Rattle.agg_base.specs.Cut.{IsPlain, IsLine, next_of}
use Rattle.agg_base.specs.declared.lines.LineFault.{LineFault}
use Rattle.agg_base.specs.declared.lines.LineFault.TheVariants.{Read}
use Rattle.agg_base.proofs.CutLemmas.{line_of, lines-line, lines-last}
use Rattle.agg_spec.specs.Output.{whole_lines}
use Rattle.script_lines.specs.Handed.{IsHanded, AreWhole, is_whole}
use Rattle.script_lines.specs.Steps.{IsBehind, Hands, FailsBehind}
use Rattle.script_lines.specs.Steps.{fault_of as script_fault}
use Rattle.script_lines.specs.declared.fault.ScriptFault.{ScriptFault}
use Rattle.script_lines.specs.declared.fault.ScriptFault.TheVariants as stop
use Rattle.script_lines.proofs.LineLemmas.{lines-nil, some_is, nothing_left, read_from_stop}

-- nothing was handed out
pub nothing_handed : (bytes : List ℕ) (left : Option (List ℕ)) (read : ℕ) (ended : Bool) → left ≡ Some bytes → read ≡ 0 → IsHanded bytes [] left read ended
nothing_handed bytes left read ended is none = record {
  text = [];
  rest = bytes;
  to_come = is;
  input = refl;
  count = none;
  lines = refl;
  newlines = λ _. record { behind = λ more. refl; whole = refl };
}

-- a whole line behind whole lines
more_whole : (text : List ℕ) (front : List Line) (line : List ℕ) → IsPlain line → AreWhole text front → AreWhole (text ++ (line ++ newline ∷ [])) (front ++ line_of line (length line + 1) ∷ [])
more_whole text front line plain whole = record {
  behind = λ more.
      ap lines (append_assoc text (line ++ newline ∷ []) more)
      ∙ whole.behind ((line ++ newline ∷ []) ++ more)
      ∙ ap (λ (bytes : List ℕ). front ++ lines bytes) (append_assoc line (newline ∷ []) more)
      ∙ ap (λ (ls : List Line). front ++ ls) (lines-line line more plain)
      ∙ sym (append_assoc front (line_of line (length line + 1) ∷ []) (lines more));
  whole =
      filter-append is_whole front (line_of line (length line + 1) ∷ [])
      ∙ ap (λ (ls : List Line). ls ++ filter is_whole (line_of line (length line + 1) ∷ [])) whole.whole
      ∙ ap (λ (ls : List Line). front ++ ls) (cond-true _ _ _ (lt-ltb (length line) (length line + 1) (omega arith)));
}

still_open : (ended now : Bool) → (ended ≡ true → now ≡ true) → now ≡ false → ended ≡ false
still_open true now stays e = let never = sym (stays refl) ∙ e in absurd cc
still_open false now stays e = refl

longer : (text line : List ℕ) (read : ℕ) → read ≡ length text → read + length line + 1 ≡ length (text ++ (line ++ newline ∷ []))
longer text line read is = omega (arith, is, length-append text (line ++ newline ∷ []), length-append line (newline ∷ []))

module _ (bytes : List ℕ) (front : List Line) (read after : ℕ) (ended now : Bool) (line : List ℕ) (stays : ended ≡ true → now ≡ true) (plain : IsPlain line) where
  -- one more line with its newline
  behind_whole : (left : Option (List ℕ)) (rest : List ℕ) → IsHanded bytes front left read ended → left ≡ prepend_known (line ++ newline ∷ []) (Some rest) → after ≡ read + length line + 1 →
      IsBehind bytes front line (Some rest) after now
  behind_whole left rest h is next =
      let l = line_of line (length line + 1) in
      let same : h.rest ≡ (line ++ newline ∷ []) ++ rest = some_is _ _ (sym h.to_come ∙ is) in (
        l,
        refl,
        record {
          text = h.text ++ (line ++ newline ∷ []);
          rest = rest;
          to_come = refl;
          input = h.input ∙ ap (λ (t : List ℕ). h.text ++ t) same ∙ sym (append_assoc h.text (line ++ newline ∷ []) rest);
          count = next ∙ longer h.text line read h.count;
          lines =
              h.lines
              ∙ ap (λ (t : List ℕ). front ++ lines t) (same ∙ append_assoc line (newline ∷ []) rest)
              ∙ ap (λ (ls : List Line). front ++ ls) (lines-line line rest plain)
              ∙ sym (append_assoc front (l ∷ []) (lines rest));
          newlines = λ more_comes. more_whole h.text front line plain (h.newlines (still_open ended now stays more_comes));
        },
      )

  -- the last line, without one
  behind_last : (left : Option (List ℕ)) (rest : List ℕ) → IsHanded bytes front left read ended → line ≢ [] → left ≡ prepend_known line (Some rest) → rest ≡ [] → after ≡ read + length line → now ≡ true →
      IsBehind bytes front line (Some rest) after now
  behind_last left rest h some is empty next last =
      let l = line_of line (length line) in
      let same : h.rest ≡ line ++ rest = some_is _ _ (sym h.to_come ∙ is) in
      let none : lines rest ≡ [] = ap lines empty ∙ lines-nil in (
        l,
        refl,
        record {
          text = h.text ++ line;
          rest = rest;
          to_come = refl;
          input = h.input ∙ ap (λ (t : List ℕ). h.text ++ t) same ∙ sym (append_assoc h.text line rest);
          count = next ∙ ap (λ (n : ℕ). n + length line) h.count ∙ sym (length-append h.text line);
          lines =
              h.lines
              ∙ ap (λ (t : List ℕ). front ++ lines t) (same ∙ ap (λ (t : List ℕ). line ++ t) empty ∙ append-nil line)
              ∙ ap (λ (ls : List Line). front ++ ls) (lines-last line plain some)
              ∙ sym (append-nil (front ++ l ∷ []))
              ∙ ap (λ (ls : List Line). (front ++ l ∷ []) ++ ls) (sym none);
          newlines = λ more_comes. let e = sym last ∙ more_comes in absurd cc;
        },
      )

-- one more line of the reader
pub behind : (bytes : List ℕ) (front : List Line) (read after : ℕ) (ended now : Bool) (line : List ℕ) (left new : Option (List ℕ)) → (ended ≡ true → now ≡ true) →
    (after ≡ read + length line → now ≡ true) → IsLine line left read new after → IsHanded bytes front left read ended → IsBehind bytes front line new after now
behind bytes front read after ended now line left None stays last is h =
    ⊎_elim (λ w. let e = sym h.to_come ∙ w.0 in absurd cc) (λ w. let e = sym h.to_come ∙ w.1 in absurd cc) is.1
behind bytes front read after ended now line left (Some rest) stays last is h =
    ⊎_elim
    (λ w. behind_whole bytes front read after ended now line stays is.0 left rest h w.0 w.1)
    (λ w. behind_last bytes front read after ended now line stays is.0 left rest h w.0 w.1 w.2 w.3 (last w.3))
    is.1

-- nothing more is handed out at the end
pub at_the_end : (bytes : List ℕ) (front : List Line) (read after : ℕ) (ended now : Bool) (left new : Option (List ℕ)) → now ≡ true → new ≡ left → after ≡ read → IfSome left (λ rest. lines rest ≡ []) →
    IsHanded bytes front left read ended → IsHanded bytes front new after now × (lines bytes ≡ front)
at_the_end bytes front read after ended now None new last same count none h = absurd (let e = h.to_come in cc)
at_the_end bytes front read after ended now (Some rest) new last same count none h =
    let is : rest ≡ h.rest = some_is _ _ h.to_come in (
      record {
        text = h.text;
        rest = h.rest;
        to_come = same ∙ h.to_come;
        input = h.input;
        count = count ∙ h.count;
        lines = h.lines;
        newlines = λ more_comes. let e = sym last ∙ more_comes in absurd cc;
      },
      h.lines ∙ ap (λ (ls : List Line). front ++ ls) (ap lines (sym is) ∙ none) ∙ append-nil front,
    )

-- the front of a line has no whole line
none_whole : (seen : List ℕ) → IsPlain seen → whole_lines seen ≡ []
none_whole [] plain = ap (filter is_whole) lines-nil
none_whole (s ∷ ss) plain =
    ap (filter is_whole) (lines-last (s ∷ ss) plain (λ e. absurd cc)) ∙ cond-false _ _ _ (le-ltb (length (s ∷ ss)) (length (s ∷ ss)) (omega arith))

-- where a read failed, the whole lines of what was read are those that were handed out
pub failed_behind : (bytes : List ℕ) (front : List Line) (count read : ℕ) (ended : Bool) (left rest : Option (List ℕ)) (seen : List ℕ) →
    ended ≡ false → IsPlain seen → left ≡ prepend_known seen rest → read ≡ count + length seen → IsHanded bytes front left count ended → whole_lines (take read bytes) ≡ front
failed_behind bytes front count read ended left None seen more_comes plain is all h = absurd (let e = sym h.to_come ∙ is in cc)
failed_behind bytes front count read ended left (Some rest) seen more_comes plain is all h =
    let whole = h.newlines more_comes in
    let same : h.rest ≡ seen ++ rest = some_is _ _ (sym h.to_come ∙ is) in
    let text : bytes ≡ (h.text ++ seen) ++ rest = h.input ∙ ap (λ (t : List ℕ). h.text ++ t) same ∙ sym (append_assoc h.text seen rest) in
    let size : read ≡ length (h.text ++ seen) = all ∙ ap (λ (n : ℕ). n + length seen) h.count ∙ sym (length-append h.text seen) in
    ap (λ (t : List ℕ). whole_lines (take read t)) text
    ∙ ap (λ (n : ℕ). whole_lines (take n ((h.text ++ seen) ++ rest))) size
    ∙ ap whole_lines (take-append_seam (h.text ++ seen) rest)
    ∙ ap (filter is_whole) (whole.behind seen)
    ∙ filter-append is_whole front (lines seen)
    ∙ ap (λ (ls : List Line). ls ++ whole_lines seen) whole.whole
    ∙ ap (λ (ls : List Line). front ++ ls) (none_whole seen plain)
    ∙ append-nil front

-- an answer that the reader of lines gives
pub hands_ok : (Z : Type 0) (bytes : List ℕ) (front : List Line) (read after : ℕ) (ended now : Bool) (next left new : Option (List ℕ)) (seen : ℕ) → (ended ≡ true → now ≡ true) →
    IfSome next (λ line. after ≡ read + length line → now ≡ true) → IfSome next (λ line. IsLine line left read new after) → IfNone next (now ≡ true) → IfNone next ((new ≡ left) × (after ≡ read) × Z) →
    IfSome left (λ rest. next_of read rest ≡ Ok next) → IsHanded bytes front left read ended → Hands bytes front (Ok next) new after now seen
hands_ok Z bytes front read after ended now None left new seen stays last is end same answer h = at_the_end bytes front read after ended now left new end same.0 same.1 (nothing_left read left answer) h
hands_ok Z bytes front read after ended now (Some line) left new seen stays last is end same answer h = behind bytes front read after ended now line left new stays last is h

-- a fault of the reader of lines
pub hands_err : (bytes : List ℕ) (front : List Line) (count read : ℕ) (ended : Bool) (left rest : Option (List ℕ)) (fault : LineFault) (line : ℕ) (answer : ScriptFault) → answer ≡ script_fault fault line →
    (fault ≡ Read → (seen : List ℕ) × IsPlain seen × (left ≡ prepend_known seen rest) × (read ≡ count + length seen)) → (fault ≡ Read → ended ≡ false) →
    IsHanded bytes front left count ended → FailsBehind bytes front answer read
hands_err bytes front count read ended left rest fault line (stop.Refused r) same seen none h = tt
hands_err bytes front count read ended left rest fault line stop.Memory same seen none h = tt
hands_err bytes front count read ended left rest fault line stop.Read same seen none h =
    let is = read_from_stop fault line (sym same) in
    let found = seen is in
    failed_behind bytes front count read ended left rest found.0 (none is) found.1 found.2 found.3 h
