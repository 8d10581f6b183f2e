-- The first line of a list, and the lines of one that begins with bytes that are no newline.
use Rattle.std.proofs.Common.{◌≡◌, ◌≢◌, ◌<◌, ◌≤◌, ◌==◌, ℕ, zero, suc, true, false, List, [], ◌∷◌, ◌++◌, Option, Some, None, refl, sym, ap, ◌∙◌, length, take, drop, slice_index, arith}
use Rattle.std.specs.Prelude.{◌+◌, map, unwrap_or}
use Rattle.std.proofs.lemmas.Bool.{eqb-true, cond_both, cond-false, false≢true, and_parts, and_from, not-true, not_from_false}
use Rattle.memchr.specs.Find.{IsFirstByte, is_byte}
use Rattle.agg_model.specs.Lines.{newline, Line, with_byte, lines}
use Rattle.agg_base.specs.Cut.{IsPlain, lines_of, first_line, whole_line}

-- a line of this text and size
abbrev pub line_of : List ℕ → ℕ → Line
line_of text size = record { text = text; size = size }

none_len : (hay : List ℕ) → ((k : ℕ) → k < length hay → slice_index hay k == newline ≡ true → ⊥) → length (first_line hay) ≡ length hay
none_len [] h = refl
none_len (b ∷ bs) h =
    cond_both (b == newline) [] (b ∷ first_line bs) (λ v. length v ≡ length (b ∷ bs))
    (λ yes. absurd (h 0 (omega arith) yes))
    (λ no. ap suc (none_len bs (λ k lt. h (suc k) (omega arith))))

found_len : (hay : List ℕ) (k : ℕ) → k < length hay → ((j : ℕ) → j < k → slice_index hay j == newline ≡ true → ⊥) → slice_index hay k == newline ≡ true → length (first_line hay) ≡ k
found_len [] k lt h p = absurd (omega arith)
found_len (b ∷ bs) zero lt h p =
    cond_both (b == newline) [] (b ∷ first_line bs) (λ v. length v ≡ 0) (λ yes. refl) (λ no. absurd (false≢true (sym no ∙ p)))
found_len (b ∷ bs) (suc k) lt h p =
    cond_both (b == newline) [] (b ∷ first_line bs) (λ v. length v ≡ suc k)
    (λ yes. absurd (h 0 (omega arith) yes))
    (λ no. ap suc (found_len bs k (omega arith) (λ j below. h (suc j) (omega arith)) p))

-- the place of the first newline is the length of the first line
pub length-first_line : (hay : List ℕ) (place : Option ℕ) → IsFirstByte (is_byte newline) hay place → unwrap_or place (length hay) ≡ length (first_line hay)
length-first_line hay None h = sym (none_len hay (λ k lt yes. h k (omega arith) lt yes))
length-first_line hay (Some k) h = sym (found_len hay k h.0.high (λ j below yes. h.0.before j (omega arith) below yes) h.1)

pub length-first_line-le : (xs : List ℕ) → length (first_line xs) ≤ length xs
length-first_line-le [] = omega arith
length-first_line-le (b ∷ bs) =
    cond_both (b == newline) [] (b ∷ first_line bs) (λ v. length v ≤ length (b ∷ bs)) (λ yes. omega arith) (λ no. omega (arith, length-first_line-le bs))

-- the first line is the front up to that place, and has no newline
pub take-first_line : (xs : List ℕ) → take (length (first_line xs)) xs ≡ first_line xs
take-first_line [] = refl
take-first_line (b ∷ bs) =
    cond_both (b == newline) [] (b ∷ first_line bs) (λ v. take (length v) (b ∷ bs) ≡ v) (λ yes. refl) (λ no. ap (λ (t : List ℕ). b ∷ t) (take-first_line bs))

pub plain_first_line : (xs : List ℕ) → IsPlain (first_line xs)
plain_first_line [] = refl
plain_first_line (b ∷ bs) =
    cond_both (b == newline) [] (b ∷ first_line bs) IsPlain (λ yes. refl) (λ no. and_from _ _ (not_from_false _ no) (plain_first_line bs))

-- behind it stands a newline, if anything does
pub drop-first_line : (xs : List ℕ) → length (first_line xs) < length xs → drop (length (first_line xs)) xs ≡ newline ∷ drop (suc (length (first_line xs))) xs
drop-first_line [] lt = absurd (omega arith)
drop-first_line (b ∷ bs) lt =
    let holds =
    cond_both (b == newline) [] (b ∷ first_line bs) (λ v. length v < length (b ∷ bs) → drop (length v) (b ∷ bs) ≡ newline ∷ drop (suc (length v)) (b ∷ bs))
    (λ yes _. ap (λ (n : ℕ). n ∷ bs) (eqb-true b newline yes))
    (λ no below. drop-first_line bs (omega arith)) in
    holds lt

first_byte : (s : ℕ) (ss : List ℕ) → IsPlain (s ∷ ss) → s == newline ≡ false
first_byte s ss plain = not-true _ (and_parts _ _ plain).0

other_bytes : (s : ℕ) (ss : List ℕ) → IsPlain (s ∷ ss) → IsPlain ss
other_bytes s ss plain = (and_parts _ _ plain).1

-- bytes that are no newline stand in front of the first line
pub first_line-append : (seen rest : List ℕ) → IsPlain seen → first_line (seen ++ rest) ≡ seen ++ first_line rest
first_line-append [] rest plain = refl
first_line-append (s ∷ ss) rest plain =
    cond-false (s == newline) _ _ (first_byte s ss plain) ∙ ap (λ (t : List ℕ). s ∷ t) (first_line-append ss rest (other_bytes s ss plain))

pub whole_line-append : (seen rest : List ℕ) → IsPlain seen → whole_line (seen ++ rest) ≡ seen ++ whole_line rest
whole_line-append [] rest plain = refl
whole_line-append (s ∷ ss) rest plain =
    cond-false (s == newline) _ _ (first_byte s ss plain) ∙ ap (λ (t : List ℕ). s ∷ t) (whole_line-append ss rest (other_bytes s ss plain))

pub plain-append : (xs ys : List ℕ) → IsPlain xs → IsPlain ys → IsPlain (xs ++ ys)
plain-append [] ys px py = py
plain-append (x ∷ xs) ys px py = and_from _ _ (and_parts _ _ px).0 (plain-append xs ys (other_bytes x xs px) py)

-- the lines of what begins with a whole line
pub lines-line : (line rest : List ℕ) → IsPlain line → lines (line ++ newline ∷ rest) ≡ line_of line (length line + 1) ∷ lines rest
unfolding lines
lines-line [] rest plain = refl
lines-line (s ∷ ss) rest plain =
    cond-false (s == newline) _ _ (first_byte s ss plain)
    ∙ ap (with_byte s) (lines-line ss rest (other_bytes s ss plain))
    ∙ ap (λ (n : ℕ). line_of (s ∷ ss) n ∷ lines rest) (omega arith)

-- the one line of what has no newline
pub lines-last : (line : List ℕ) → IsPlain line → line ≢ [] → lines line ≡ line_of line (length line) ∷ []
unfolding lines
lines-last [] plain some = absurd (some refl)
lines-last (s ∷ []) plain some = cond-false (s == newline) _ _ (first_byte s [] plain)
lines-last (s ∷ t ∷ ss) plain some =
    cond-false (s == newline) _ _ (first_byte s (t ∷ ss) plain)
    ∙ ap (with_byte s) (lines-last (t ∷ ss) (other_bytes s (t ∷ ss) plain) (λ e. absurd cc))
    ∙ ap (λ (n : ℕ). line_of (s ∷ t ∷ ss) n ∷ []) (omega arith)

-- nothing has no line
pub lines_of-nil : lines_of [] ≡ []
unfolding lines
lines_of-nil = refl

-- their texts alone
pub lines_of-line : (line rest : List ℕ) → IsPlain line → lines_of (line ++ newline ∷ rest) ≡ line ∷ lines_of rest
lines_of-line line rest plain = ap (map (λ (l : Line). l.text)) (lines-line line rest plain)

pub lines_of-last : (line : List ℕ) → IsPlain line → line ≢ [] → lines_of line ≡ line ∷ []
lines_of-last line plain some = ap (map (λ (l : Line). l.text)) (lines-last line plain some)
