-- Lines that are written behind others.
use Rattle.std.specs.Prelude.{◌≡◌, ◌≢◌, ◌<◌, ◌+◌, ℕ, suc, length, map, take, drop, codes, Bool, true, false, IsTrue, ◌&&◌, List, [], ◌∷◌, ◌++◌, Option, Some, None}
use Rattle.std.specs.List.{list_all}
use Rattle.std.specs.Io.KnownBytes.{append_known}
use Rattle.std.proofs.Common.{◌∙◌, refl, sym, ap, subst, append_assoc, append-nil, get_or, arith}
use Rattle.std.proofs.Math.Seq.{take-append-add, take-suc, drop-cons}
use Rattle.std.proofs.lemmas.List.{length-append, length-drop, take-append-drop}
use Rattle.list_laws.proofs.Lists.{flat_map-append, map-append}
use Rattle.agg_listen.specs.Hearing.{Hearing, next_line}
use Rattle.agg_listen.specs.Standing.{Standing, all_having_heard}
use Rattle.agg_model.specs.declared.outcome.Answered.{Answered}
use Rattle.agg_spec.specs.Written.{Line, bulk, answer, settings, error, statistics, answer_text, status_of, line_text, ended_line, is_printed, all_printed, text_of}
use Rattle.script_answers.specs.Outputs.{Output, so_far, after_all, after_hearing, is_answer}
use Rattle.script_answers.specs.Puts.{Breaks, Wants, Stops}
use Rattle.script_answers.specs.Steps.{WroteLines, WroteFront}
use Rattle.script_answers.specs.declared.stop.Stop.{Stop}
use Rattle.script_answers.specs.declared.stop.Stop.TheVariants.{Write, Memory}

pub append_known-append : (known : Option (List ℕ)) (xs ys : List ℕ) → append_known (append_known known xs) ys ≡ append_known known (xs ++ ys)
append_known-append None xs ys = refl
append_known-append (Some bytes) xs ys = ap Some (append_assoc bytes xs ys)

pub append_known-nil : (known : Option (List ℕ)) → append_known known [] ≡ known
append_known-nil None = refl
append_known-nil (Some bytes) = ap Some (append-nil bytes)

printed-step : (p : Line → Bool) (b : Bool) (xs ys : List Line) → IsTrue (b && list_all p xs) → (IsTrue (list_all p xs) → IsTrue (list_all p (xs ++ ys))) → IsTrue (b && list_all p (xs ++ ys))
printed-step p true xs ys first more = more first
printed-step p false xs ys first more = absurd (let no : ⊥ = cc in no)

pub printed-append : (xs ys : List Line) → IsTrue (all_printed xs) → IsTrue (all_printed ys) → IsTrue (all_printed (xs ++ ys))
printed-append [] ys first later = later
printed-append (x ∷ xs) ys first later = printed-step is_printed (is_printed x) xs ys first (λ rest. printed-append xs ys rest later)

printed-one : (b : Bool) → IsTrue b → IsTrue (b && true)
printed-one true printed = refl
printed-one false printed = printed

text-append : (xs ys : List Line) → text_of (xs ++ ys) ≡ text_of xs ++ text_of ys
text-append xs ys = flat_map-append (λ (l : Line). ended_line (line_text l)) xs ys

hearing-append : (xs ys : List Line) (h : Hearing) → after_all (xs ++ ys) h ≡ after_all ys (after_all xs h)
hearing-append [] ys h = refl
hearing-append (x ∷ xs) ys h = hearing-append xs ys (after_hearing x h)

-- nothing was written
pub wrote-nothing : (before : Output) → WroteLines before before []
wrote-nothing before = record { printed = refl; text = sym (append_known-nil before.bytes); heard = refl }

module _ (before mid after : Output) (lines more : List Line) (wrote : WroteLines before mid lines) where
  behind-text : (t : List ℕ) → after.bytes ≡ append_known mid.bytes (text_of more ++ t) → after.bytes ≡ append_known before.bytes (text_of (lines ++ more) ++ t)
  behind-text t is =
      is ∙ ap (λ (o : Option (List ℕ)). append_known o (text_of more ++ t)) wrote.text
      ∙ append_known-append before.bytes (text_of lines) (text_of more ++ t)
      ∙ ap (append_known before.bytes) (sym (append_assoc (text_of lines) (text_of more) t) ∙ ap (λ (u : List ℕ). u ++ t) (sym (text-append lines more)))

  behind-heard : after.hearing ≡ after_all more mid.hearing → after.hearing ≡ after_all (lines ++ more) before.hearing
  behind-heard is = is ∙ ap (after_all more) wrote.heard ∙ sym (hearing-append lines more before.hearing)

  pub wrote-append : WroteLines mid after more → WroteLines before after (lines ++ more)
  wrote-append next = record {
    printed = printed-append lines more wrote.printed next.printed;
    text = next.text ∙ ap (λ (o : Option (List ℕ)). append_known o (text_of more)) wrote.text
        ∙ append_known-append before.bytes (text_of lines) (text_of more) ∙ ap (append_known before.bytes) (sym (text-append lines more));
    heard = behind-heard next.heard;
  }

  pub front-append : (next : Line) → WroteFront mid after more next → WroteFront before after (lines ++ more) next
  front-append next front = record {
    printed = printed-append lines more wrote.printed front.printed;
    next_printed = front.next_printed;
    piece = front.piece;
    left = front.left;
    some_left = front.some_left;
    front = front.front;
    text = behind-text front.piece front.text;
    heard = behind-heard front.heard;
  }

module _ (before mid after : Output) where
  pub stops-behind : (lines more : List Line) (stop : Stop) → WroteLines before mid lines → Stops mid after more stop → Stops before after (lines ++ more) stop
  stops-behind lines more Write wrote stops = record {
    done = lines ++ stops.done;
    next = stops.next;
    others = stops.others;
    are = ap (λ ls. lines ++ ls) stops.are ∙ sym (append_assoc lines stops.done (stops.next ∷ stops.others));
    wrote = front-append before mid after lines stops.done wrote stops.next stops.wrote;
  }
  stops-behind lines more Memory wrote stops = record {
    done = lines ++ stops.done;
    next = stops.next;
    others = stops.others;
    are = ap (λ ls. lines ++ ls) stops.are ∙ sym (append_assoc lines stops.done (stops.next ∷ stops.others));
    wrote = wrote-append before mid after lines stops.done wrote stops.wrote;
  }

pub stops-before : (before after : Output) (lines more : List Line) (stop : Stop) → Stops before after lines stop → Stops before after (lines ++ more) stop
stops-before before after lines more Write stops = record {
  done = stops.done;
  next = stops.next;
  others = stops.others ++ more;
  are = ap (λ ls. ls ++ more) stops.are ∙ append_assoc stops.done (stops.next ∷ stops.others) more;
  wrote = stops.wrote;
}
stops-before before after lines more Memory stops = record {
  done = stops.done;
  next = stops.next;
  others = stops.others ++ more;
  are = ap (λ ls. ls ++ more) stops.are ∙ append_assoc stops.done (stops.next ∷ stops.others) more;
  wrote = stops.wrote;
}

-- a front of the second piece is a front of both
pub front_of_both : (old mid new : Option (List ℕ)) (line end : List ℕ) → mid ≡ append_known old line →
    (n : ℕ) × (n < length end) × (new ≡ append_known mid (take n end)) → (n : ℕ) × (n < length line + length end) × (new ≡ append_known old (take n (line ++ end)))
front_of_both old mid new line end is front =
    let n = front.0 in
    let lt = front.1 in (
      length line + n,
      omega arith,
      front.2 ∙ ap (λ (o : Option (List ℕ)). append_known o (take n end)) is ∙ append_known-append old line (take n end)
          ∙ ap (append_known old) (sym (take-append-add line end n)),
    )

-- there is something behind a front that is not all
some-behind : (n : ℕ) (xs : List ℕ) → n < length xs → drop n xs ≢ []
some-behind n xs lt none = let l = sym (length-drop n xs) ∙ ap length none in let no : ⊥ = omega (arith, lt, l) in no

-- a line of which a front was written, and that nobody heard of
pub line_breaks : (before after : Output) (line : Line) (text : List ℕ) → IsTrue (is_printed line) → line_text line ≡ text → after.hearing ≡ before.hearing →
    (n : ℕ) × (n < length text + 1) × (after.bytes ≡ append_known before.bytes (take n (ended_line text))) → Breaks before after (line ∷ [])
line_breaks before after line text printed is unheard front = record {
  done = [];
  next = line;
  others = [];
  are = refl;
  wrote = record {
    printed = refl;
    next_printed = printed;
    piece = take front.0 (ended_line text);
    left = drop front.0 (ended_line text);
    some_left = some-behind front.0 (ended_line text) (subst (λ k. front.0 < k) (sym (length-append text (codes "\n"))) front.1);
    front = ap ended_line is ∙ sym (take-append-drop front.0 (ended_line text));
    text = front.2;
    heard = unheard;
  };
}

pub same-bytes : (b c : Option (List ℕ)) (h : Hearing) → b ≡ c → so_far b h ≡ so_far c h
same-bytes b c h is = ap (λ (o : Option (List ℕ)). so_far o h) is

-- nobody hears of a line that is no answer
pub hears-nothing : (line : Line) (h : Hearing) → is_answer line ≡ false → after_hearing line h ≡ record { line = next_line h.line; listeners = h.listeners }
hears-nothing (bulk text) h not = refl
hears-nothing (answer a) h not = absurd (let no : ⊥ = cc in no)
hears-nothing (settings c) h not = refl
hears-nothing (error text) h not = refl
hears-nothing (statistics t) h not = refl

pub heard-nothing : (h now : Hearing) (line : Line) → is_answer line ≡ false → now.line ≡ next_line h.line → now.listeners ≡ h.listeners → now ≡ after_hearing line h
heard-nothing h now line not next same =
    ap (λ (n : ℕ). record { line = n; listeners = now.listeners }) next ∙ ap (λ (ls : List Standing). record { line = next_line h.line; listeners = ls }) same ∙ sym (hears-nothing line h not)

-- all who stay have heard of an answer
pub heard-answer : (h now : Hearing) (a : Answered) (status bytes : ℕ) (text : List ℕ) → answer_text a.outcome a.failures ≡ text → status_of a.outcome ≡ status → bytes ≡ length text
    → now.line ≡ next_line h.line → now.listeners ≡ all_having_heard (record { line = h.line; status = status; bytes = bytes }) h.listeners → now ≡ after_hearing (answer a) h
heard-answer h now a status bytes text is status_is long next told =
    ap (λ (n : ℕ). record { line = n; listeners = now.listeners }) next ∙ ap (λ (ls : List Standing). record { line = next_line h.line; listeners = ls })
    (told ∙ ap (λ (n : ℕ). all_having_heard (record { line = h.line; status = n; bytes = bytes }) h.listeners) (sym status_is)
    ∙ ap (λ (n : ℕ). all_having_heard (record { line = h.line; status = status_of a.outcome; bytes = n }) h.listeners) (long ∙ ap length (sym is)))

-- a line that was written whole, and was heard of where it is an answer
pub line_wrote : (before after : Output) (line : Line) (text : List ℕ) → IsTrue (is_printed line) → line_text line ≡ text → after.hearing ≡ after_hearing line before.hearing
    → after.bytes ≡ append_known before.bytes (ended_line text) → WroteLines before after (line ∷ [])
line_wrote before after line text printed is heard wrote = record {
  printed = printed-one (is_printed line) printed;
  text = wrote ∙ ap (λ (t : List ℕ). append_known before.bytes (ended_line t)) (sym is) ∙ ap (append_known before.bytes) (sym (append-nil (ended_line (line_text line))));
  heard = heard;
}

-- a line for which there was no memory
pub line_wants : (before : Output) (line : Line) → Wants before before (line ∷ [])
line_wants before line = record { done = []; next = line; others = []; are = refl; wrote = wrote-nothing before }

-- of the answers the first ones were written, and not the next one
pub answers-stop : (before mid after : Output) (answers items : List Answered) (n : ℕ) (next : Answered) (stop : Stop) → items ≡ answers → n < length items
    → next ≡ get_or items n next → WroteLines before mid (map answer (take n items)) → Stops mid after (answer next ∷ []) stop → Stops before after (map answer answers) stop
answers-stop before mid after answers items n next stop are lt is wrote stops =
    let rest = map answer (drop (suc n) items) in
    let parts : items ≡ take n items ++ next ∷ drop (suc n) items = sym (take-append-drop n items) ∙ ap (λ xs. take n items ++ xs) (drop-cons items n next lt ∙ ap (λ x. x ∷ drop (suc n) items) (sym is)) in
    let lines : map answer (take n items) ++ (answer next ∷ rest) ≡ map answer answers = sym (map-append answer (take n items) (next ∷ drop (suc n) items)) ∙ ap (map answer) (sym parts ∙ are) in
    subst (λ ls. Stops before after ls stop) lines
    (stops-behind before mid after (map answer (take n items)) (answer next ∷ rest) stop wrote (stops-before mid after (answer next ∷ []) rest stop stops))

-- of the answers one more was written
pub answers-more : (before mid after : Output) (items : List Answered) (n : ℕ) (next : Answered) → n < length items → next ≡ get_or items n next
    → WroteLines before mid (map answer (take n items)) → WroteLines mid after (answer next ∷ []) → WroteLines before after (map answer (take (n + 1) items))
answers-more before mid after items n next lt is wrote one =
    let more : n + 1 ≡ suc n = omega arith in
    let parts : take (n + 1) items ≡ take n items ++ next ∷ [] =
    ap (λ (k : ℕ). take k items) more ∙ take-suc items n next lt ∙ ap (λ (x : Answered). take n items ++ x ∷ []) (sym is) in
    let lines : map answer (take n items) ++ answer next ∷ [] ≡ map answer (take (n + 1) items) = sym (map-append answer (take n items) (next ∷ [])) ∙ ap (map answer) (sym parts) in
    subst (WroteLines before after) lines (wrote-append before mid after (map answer (take n items)) (answer next ∷ []) wrote one)
