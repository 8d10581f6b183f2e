-- A line that a reader hands out is the next line of the script, and is refused alike.
use Rattle.std.proofs.Common.{◌≡◌, ◌≢◌, ◌<◌, ◌≤◌, ◌==◌, ◌+◌, ◌||◌, min, ℕ, Bool, true, false, List, [], ◌∷◌, ◌++◌, Option, Some, None, Ok, Err, refl, sym, ap, subst, ◌∙◌, append_assoc, append-nil, length, ⊎_elim, arith}
use Rattle.std.specs.Prelude.{IfSome, IfNone, option_map}
use Rattle.std.proofs.lemmas.Bool.{cond-true, cond-false, cond_both, lt-ltb, le-ltb, cases_lt, ne_eqb}
use Rattle.std.specs.Str.{bytes_eq}
use Rattle.agg_base.specs.Cut.{IsPlain, Answers, IsLine, first_line, whole_line, next_of, fault_of, or_fault}
use Rattle.agg_base.specs.declared.lines.LineFault.{LineFault}
use Rattle.agg_base.specs.declared.lines.LineFault.TheVariants.{Read, LineTooLong, InputTooLong, Memory}
use Rattle.agg_model.specs.declared.limits.TheConstants.{MAX_LINE, MAX_INPUT}
use Rattle.agg_model.specs.Lines.{newline, Line, lines, with_byte}
use Rattle.agg_model.specs.declared.script_refusal.TheConstants.{INPUT_TOO_LONG, LINE_TOO_LONG}
use Rattle.agg_base.proofs.CutLemmas.{line_of, lines-line, lines-last}
use Rattle.agg_reading.specs.Lines.{Place, line_fault, checked}
use Rattle.agg_reading.specs.Lines.{or_fault as unless_fault}
use Rattle.script_lines.specs.Steps.{Reads}
use Rattle.script_lines.specs.Steps.{fault_of as script_fault}
use Rattle.script_lines.specs.declared.fault.ScriptFault.{ScriptFault}
use Rattle.script_lines.specs.declared.fault.ScriptFault.TheVariants as stop

abbrev place_at : ℕ → ℕ → Place
place_at number read = record { number = number; read = read }

-- the first line of what has a byte
pub lines-first : (b : ℕ) (bs : List ℕ) → (ls : List Line) × (lines (b ∷ bs) ≡ line_of (first_line (b ∷ bs)) (length (whole_line (b ∷ bs))) ∷ ls)
unfolding lines
lines-first b [] =
    cond_both (b == newline) (line_of [] 1 ∷ []) (with_byte b []) (λ v. (ls : List Line) × (v ≡ line_of (first_line (b ∷ [])) (length (whole_line (b ∷ []))) ∷ ls))
    (λ yes. (
      [],
      ap (λ l. l ∷ []) (sym (
          ap (λ t. line_of t (length (whole_line (b ∷ [])))) (cond-true (b == newline) [] (b ∷ []) yes)
          ∙ ap (λ (t : List ℕ). line_of [] (length t)) (cond-true (b == newline) (b ∷ []) (b ∷ []) yes))),
    ))
    (λ no. (
      [],
      ap (λ l. l ∷ []) (sym (
          ap (λ t. line_of t (length (whole_line (b ∷ [])))) (cond-false (b == newline) [] (b ∷ []) no)
          ∙ ap (λ (t : List ℕ). line_of (b ∷ []) (length t)) (cond-false (b == newline) (b ∷ []) (b ∷ []) no))),
    ))
lines-first b (c ∷ cs) =
    let more = lines-first c cs in
    cond_both (b == newline) (line_of [] 1 ∷ lines (c ∷ cs)) (with_byte b (lines (c ∷ cs))) (λ v. (ls : List Line) × (v ≡ line_of (first_line (b ∷ c ∷ cs)) (length (whole_line (b ∷ c ∷ cs))) ∷ ls))
    (λ yes. (
      lines (c ∷ cs),
      ap (λ l. l ∷ lines (c ∷ cs)) (sym (
          ap (λ t. line_of t (length (whole_line (b ∷ c ∷ cs)))) (cond-true (b == newline) [] (b ∷ first_line (c ∷ cs)) yes)
          ∙ ap (λ (t : List ℕ). line_of [] (length t)) (cond-true (b == newline) (b ∷ []) (b ∷ whole_line (c ∷ cs)) yes))),
    ))
    (λ no. (
      more.0,
      ap (with_byte b) more.1 ∙ ap (λ l. l ∷ more.0) (
          ap (λ (n : ℕ). line_of (b ∷ first_line (c ∷ cs)) n) (omega arith)
          ∙ sym (ap (λ t. line_of t (length (whole_line (b ∷ c ∷ cs)))) (cond-false (b == newline) [] (b ∷ first_line (c ∷ cs)) no)
          ∙ ap (λ (t : List ℕ). line_of (b ∷ first_line (c ∷ cs)) (length t)) (cond-false (b == newline) (b ∷ []) (b ∷ whole_line (c ∷ cs)) no))),
    ))

-- the number of a line's refusal
abbrev number_of : LineFault → ℕ
number_of InputTooLong = INPUT_TOO_LONG
number_of _ = LINE_TOO_LONG

abbrev number_in : Option LineFault → Option ℕ
number_in None = None
number_in (Some fault) = Some (number_of fault)

-- a line is refused by the script exactly where its reader refuses it
module _ (number before : ℕ) (text : List ℕ) (size : ℕ) where
  pub fits : fault_of before (length text) size ≡ None → line_fault (place_at number before) (line_of text size) ≡ None
  unfolding line_fault
  fits none =
      ⊎_elim
      (λ lt. let e = sym (cond-true _ (Some InputTooLong) _ (lt-ltb _ _ lt)) ∙ none in absurd cc)
      (λ le. ⊎_elim
      (λ long. let e = sym (cond-false _ (Some InputTooLong) _ (le-ltb _ _ le) ∙ cond-true _ (Some LineTooLong) None (lt-ltb _ _ long)) ∙ none in absurd cc)
      (λ short. cond-false _ (Some INPUT_TOO_LONG) _ (le-ltb _ _ le) ∙ cond-false _ (Some LINE_TOO_LONG) None (le-ltb _ _ short))
      (cases_lt MAX_LINE (length text)))
      (cases_lt MAX_INPUT (before + min size (MAX_LINE + 1)))

  pub faulty : (fault : LineFault) → fault_of before (length text) size ≡ Some fault → line_fault (place_at number before) (line_of text size) ≡ Some (number_of fault)
  unfolding line_fault
  faulty fault is =
      ⊎_elim
      (λ lt. cond-true _ (Some INPUT_TOO_LONG) _ (lt-ltb _ _ lt) ∙ ap number_in (sym (cond-true _ (Some InputTooLong) _ (lt-ltb _ _ lt)) ∙ is))
      (λ le. ⊎_elim
      (λ long. cond-false _ (Some INPUT_TOO_LONG) _ (le-ltb _ _ le) ∙ cond-true _ (Some LINE_TOO_LONG) None (lt-ltb _ _ long)
      ∙ ap number_in (sym (cond-false _ (Some InputTooLong) _ (le-ltb _ _ le) ∙ cond-true _ (Some LineTooLong) None (lt-ltb _ _ long)) ∙ is))
      (λ short. let e = sym (cond-false _ (Some InputTooLong) _ (le-ltb _ _ le) ∙ cond-false _ (Some LineTooLong) None (le-ltb _ _ short)) ∙ is in absurd cc)
      (cases_lt MAX_LINE (length text)))
      (cases_lt MAX_INPUT (before + min size (MAX_LINE + 1)))

or_fault-some : (o : Option LineFault) (line text : List ℕ) → or_fault o line ≡ Ok (Some text) → o ≡ None
or_fault-some None line text e = refl
or_fault-some (Some f) line text e = absurd cc

or_fault-err : (o : Option LineFault) (line : List ℕ) (fault : LineFault) → or_fault o line ≡ Err fault → o ≡ Some fault
or_fault-err None line fault e = absurd cc
or_fault-err (Some f) line fault e = cc

nonempty : (text : List ℕ) → text ≢ [] → 0 < length text
nonempty [] some = absurd (some refl)
nonempty (t ∷ ts) some = omega arith

abbrev head_text : List Line → List ℕ
head_text [] = []
head_text (l ∷ ls) = l.text

abbrev head_size : List Line → ℕ
head_size [] = 0
head_size (l ∷ ls) = l.size

-- a line that was handed out is within the limits
fault_none : (before : ℕ) (rest text other : List ℕ) (size : ℕ) (ls : List Line) → lines rest ≡ line_of text size ∷ ls → next_of before rest ≡ Ok (Some other) → fault_of before (length text) size ≡ None
fault_none before [] text other size ls e is = absurd cc
fault_none before (b ∷ bs) text other size ls e is =
    let first = lines-first b bs in
    let same : line_of (first_line (b ∷ bs)) (length (whole_line (b ∷ bs))) ∷ first.0 ≡ line_of text size ∷ ls = sym first.1 ∙ e in
    let text_same : first_line (b ∷ bs) ≡ text = ap head_text same in
    let size_same : length (whole_line (b ∷ bs)) ≡ size = ap head_size same in
    ap (λ (t : List ℕ). fault_of before (length t) size) (sym text_same)
    ∙ ap (λ (n : ℕ). fault_of before (length (first_line (b ∷ bs))) n) (sym size_same)
    ∙ or_fault-some _ _ _ is

pub some_is : (x y : List ℕ) → Some x ≡ Some y → x ≡ y
some_is x y e = cc

within_limits : (number before : ℕ) (text : List ℕ) (size : ℕ) → before ≤ MAX_INPUT → fault_of before (length text) size ≡ None → checked (place_at number before) (line_of text size) ≡ Ok tt
unfolding checked
within_limits number before text size inside none = ap (unless_fault (number + 1)) (fits number before text size none)

module _ (number before : ℕ) (text : List ℕ) (inside : before ≤ MAX_INPUT) (plain : IsPlain text) where
  -- a line that a newline ends
  whole_reads : (rest r : List ℕ) (n after : ℕ) → rest ≡ (text ++ newline ∷ []) ++ r → next_of before rest ≡ Ok (Some text) → n ≡ number + 1 → after ≡ before + length text + 1 →
      Reads (place_at number before) (lines rest) (Ok (Some text)) (place_at n after) (Some (lines r))
  whole_reads rest r n after e is next_number next_place =
      let same : lines rest ≡ line_of text (length text + 1) ∷ lines r = ap lines (e ∙ append_assoc text (newline ∷ []) r) ∙ lines-line text r plain in
      let read : after ≡ before + (length text + 1) = omega arith in (
        line_of text (length text + 1),
        lines r,
        same,
        refl,
        within_limits number before text (length text + 1) inside (fault_none before rest text text _ _ same is),
        ap (λ (k : ℕ). place_at k after) next_number ∙ ap (place_at (number + 1)) read,
        refl,
      )

  -- a last line without one
  last_reads : (rest : List ℕ) (n after : ℕ) → rest ≡ text → text ≢ [] → next_of before rest ≡ Ok (Some text) → n ≡ number + 1 → after ≡ before + length text →
      Reads (place_at number before) (lines rest) (Ok (Some text)) (place_at n after) (Some [])
  last_reads rest n after e some is next_number next_place =
      let same : lines rest ≡ line_of text (length text) ∷ [] = ap lines e ∙ lines-last text plain some in (
        line_of text (length text),
        [],
        same,
        refl,
        within_limits number before text (length text) inside (fault_none before rest text text _ _ same is),
        ap (λ (k : ℕ). place_at k after) next_number ∙ ap (place_at (number + 1)) next_place,
        refl,
      )

pub lines-nil : lines [] ≡ []
unfolding lines
lines-nil = refl

-- a line that was handed out is the next line of the script
pub reads_some : (number before n after : ℕ) (old new : Option (List ℕ)) (text : List ℕ) → before ≤ MAX_INPUT → IfSome old (λ rest. next_of before rest ≡ Ok (Some text)) →
    IsLine text old before new after → n ≡ number + 1 → IfSome (option_map lines old) (λ rest. Reads (place_at number before) rest (Ok (Some text)) (place_at n after) (option_map lines new))
reads_some number before n after None new text inside is line next_number = tt
reads_some number before n after (Some rest) None text inside is line next_number =
    ⊎_elim (λ h. let e = h.0 in absurd cc) (λ h. let e = h.1 in absurd cc) line.1
reads_some number before n after (Some rest) (Some r) text inside is line next_number =
    ⊎_elim
    (λ h. whole_reads number before text inside line.0 rest r n after (some_is _ _ h.0) is next_number h.1)
    (λ h.
    let empty : r ≡ [] = h.2 in
    let e : rest ≡ text = some_is _ _ h.1 ∙ ap (λ (t : List ℕ). text ++ t) empty ∙ append-nil text in
    subst (λ (ls : List Line). Reads (place_at number before) (lines rest) (Ok (Some text)) (place_at n after) (Some ls)) (sym (ap lines empty ∙ lines-nil))
    (last_reads number before text inside line.0 rest n after e h.0 is next_number h.3))
    line.1

no_end_at : (o : Option LineFault) (line : List ℕ) → or_fault o line ≡ Ok None → ⊥
no_end_at None line e = absurd cc
no_end_at (Some f) line e = absurd cc

no_end : (before b : ℕ) (bs : List ℕ) → next_of before (b ∷ bs) ≡ Ok None → ⊥
no_end before b bs e = no_end_at _ _ e

pub nothing_left : (before : ℕ) (left : Option (List ℕ)) → IfSome left (λ rest. next_of before rest ≡ Ok None) → IfSome left (λ rest. lines rest ≡ [])
nothing_left before None is = tt
nothing_left before (Some []) is = lines-nil
nothing_left before (Some (b ∷ bs)) is = absurd (no_end before b bs is)

-- the end of the input is the end of the script
pub reads_none : (number before n after : ℕ) (old new : Option (List ℕ)) → IfSome old (λ rest. next_of before rest ≡ Ok None) → new ≡ old → n ≡ number → after ≡ before →
    IfSome (option_map lines old) (λ rest. Reads (place_at number before) rest (Ok None) (place_at n after) (option_map lines new))
reads_none number before n after None new is same_rest same_number same_place = tt
reads_none number before n after (Some []) new is same_rest same_number same_place =
    (lines-nil, ap (option_map lines) same_rest ∙ ap Some lines-nil, ap (λ (k : ℕ). place_at k after) same_number ∙ ap (place_at number) same_place)
reads_none number before n after (Some (b ∷ bs)) new is same_rest same_number same_place = absurd (no_end before b bs is)

-- a line beyond the limits is refused where it stands
reads_too_long : (number before : ℕ) (rest : List ℕ) (fault : LineFault) (line : ℕ) (after : Place) (left : Option (List Line)) → line ≡ number + 1 → next_of before rest ≡ Err fault →
    Reads (place_at number before) (lines rest) (Err (stop.Refused (record { number = number_of fault; line = line; path = [] }))) after left
unfolding checked
reads_too_long number before [] fault line after left here is = absurd cc
reads_too_long number before (b ∷ bs) fault line after left here is =
    let first = lines-first b bs in
    let found = faulty number before (first_line (b ∷ bs)) (length (whole_line (b ∷ bs))) fault (or_fault-err _ _ fault is) in (
      line_of (first_line (b ∷ bs)) (length (whole_line (b ∷ bs))),
      first.0,
      first.1,
      ap (unless_fault (number + 1)) found ∙ ap (λ (n : ℕ). Err (record { number = number_of fault; line = n; path = [] })) (sym here),
    )

-- a fault of the reader of lines
reads_fault : (number before : ℕ) (rest : List ℕ) (fault : LineFault) (line : ℕ) (after : Place) (left : Option (List Line)) → line ≡ number + 1 → Answers (next_of before rest) (Err fault) →
    Reads (place_at number before) (lines rest) (Err (script_fault fault line)) after left
reads_fault number before rest Read line after left here is = tt
reads_fault number before rest LineTooLong line after left here is = reads_too_long number before rest LineTooLong line after left here is
reads_fault number before rest InputTooLong line after left here is = reads_too_long number before rest InputTooLong line after left here is
reads_fault number before rest Memory line after left here is = tt

reads_stop_known : (number before : ℕ) (old : Option (List ℕ)) (fault : LineFault) (line : ℕ) (after : Place) (left : Option (List Line)) → line ≡ number + 1 →
    IfSome old (λ rest. Answers (next_of before rest) (Err fault)) → IfSome (option_map lines old) (λ rest. Reads (place_at number before) rest (Err (script_fault fault line)) after left)
reads_stop_known number before None fault line after left here is = tt
reads_stop_known number before (Some rest) fault line after left here is = reads_fault number before rest fault line after left here is

pub reads_stop : (number before : ℕ) (old : Option (List ℕ)) (fault : LineFault) (line : ℕ) (answer : ScriptFault) (after : Place) (left : Option (List Line)) → line ≡ number + 1 → answer ≡ script_fault fault line →
    IfSome old (λ rest. Answers (next_of before rest) (Err fault)) → IfSome (option_map lines old) (λ rest. Reads (place_at number before) rest (Err answer) after left)
reads_stop number before old fault line answer after left here same is =
    subst (λ (s : ScriptFault). IfSome (option_map lines old) (λ rest. Reads (place_at number before) rest (Err s) after left)) (sym same) (reads_stop_known number before old fault line after left here is)

pub read_from_stop : (fault : LineFault) (line : ℕ) → script_fault fault line ≡ stop.Read → fault ≡ Read
read_from_stop Read line e = refl
read_from_stop LineTooLong line e = absurd cc
read_from_stop InputTooLong line e = absurd cc
read_from_stop Memory line e = absurd cc

pub no_bytes : (bytes : List ℕ) → (length bytes == 0) ≡ bytes_eq bytes []
no_bytes [] = refl
no_bytes (b ∷ bs) = ne_eqb _ _ (λ e. omega arith)

pub or-false : (a b : Bool) → a ≡ false → (a || b) ≡ b
or-false true b e = absurd cc
or-false false b e = refl

-- an answer that the reader of lines gives
pub reads_ok : (number before n after : ℕ) (old new : Option (List ℕ)) (next : Option (List ℕ)) → before ≤ MAX_INPUT → IfSome old (λ rest. next_of before rest ≡ Ok next) →
    IfSome next (λ text. IsLine text old before new after) → IfSome next (λ text. n ≡ number + 1) → IfNone next ((new ≡ old) × (after ≡ before) × (n ≡ number)) →
    IfSome (option_map lines old) (λ rest. Reads (place_at number before) rest (Ok next) (place_at n after) (option_map lines new))
reads_ok number before n after old new None inside is line more stays = reads_none number before n after old new is stays.0 stays.2 stays.1
reads_ok number before n after old new (Some text) inside is line more stays = reads_some number before n after old new text inside is line more

-- a line takes at least one byte
pub line_moves : (text : List ℕ) (old : Option (List ℕ)) (before : ℕ) (new : Option (List ℕ)) (after : ℕ) → IsLine text old before new after → before < after
line_moves text old before new after line =
    ⊎_elim (λ h. let e = h.1 in omega arith) (λ h. let e = h.3 in let some = nonempty text h.0 in omega arith) line.1
