-- Numbers that the format pads with zeros.
use Rattle.std.specs.Prelude.{◌≡◌, ℕ, ◌-◌, ◌^◌, List, [], ◌++◌, length, replicate, decimal, codes}
use Rattle.std.proofs.Common.{◌∙◌, ap, append-nil, arith, refl}
use Rattle.std.proofs.lemmas.List.{append_assoc}
use Rattle.std.specs.Fmt.{padded_integral, char_count, styled_decimal, format_spec}
use Rattle.date_spec.specs.Calendar.{Date}
use Rattle.date_spec.specs.DateTexts.{clock_text}
use Rattle.date_spec.specs.Instants.{Time}
use Rattle.date_spec.specs.Shapes.{padded}
use Rattle.date_text.specs.ClockText.{date_text, time_text}

pub padded-two : (n : ℕ) → styled_decimal (format_spec 32 0 4 2 (2 ^ 64 - 1)) n ≡ padded 2 n
unfolding padded_integral char_count
padded-two n =
    let missing : 2 - length (decimal n) - 0 - 0 ≡ 2 - length (decimal n) = omega arith in
    ap (λ k. replicate k 48 ++ (decimal n ++ [])) missing ∙ ap (λ xs. replicate (2 - length (decimal n)) 48 ++ xs) (append-nil (decimal n))

pub padded-three : (n : ℕ) → styled_decimal (format_spec 32 0 4 3 (2 ^ 64 - 1)) n ≡ padded 3 n
unfolding padded_integral char_count
padded-three n =
    let missing : 3 - length (decimal n) - 0 - 0 ≡ 3 - length (decimal n) = omega arith in
    ap (λ k. replicate k 48 ++ (decimal n ++ [])) missing ∙ ap (λ xs. replicate (3 - length (decimal n)) 48 ++ xs) (append-nil (decimal n))

pub padded-four : (n : ℕ) → styled_decimal (format_spec 32 0 4 4 (2 ^ 64 - 1)) n ≡ padded 4 n
unfolding padded_integral char_count
padded-four n =
    let missing : 4 - length (decimal n) - 0 - 0 ≡ 4 - length (decimal n) = omega arith in
    ap (λ k. replicate k 48 ++ (decimal n ++ [])) missing ∙ ap (λ xs. replicate (4 - length (decimal n)) 48 ++ xs) (append-nil (decimal n))

-- the parts of a date and of a time, each for an equal one
pub date_written : (y m d : List ℕ) (date : Date) → y ≡ padded 4 date.year → m ≡ padded 2 date.month → d ≡ padded 2 date.day → y ++ (codes "-" ++ (m ++ (codes "-" ++ d))) ≡ date_text date
date_written y m d date year month day = rw (year, month, day) refl

pub time_written : (h i s l : List ℕ) (time : Time) → h ≡ padded 2 time.hour → i ≡ padded 2 time.minute → s ≡ padded 2 time.second → l ≡ padded 3 time.milli → h ++ (codes ":" ++ (i ++ (codes ":" ++ (s ++ (codes "." ++ l))))) ≡ time_text time
time_written h i s l time hour minute second milli = rw (hour, minute, second, milli) refl

clock_joined : (d : Date) (t : Time) → (date_text d ++ codes "T") ++ time_text t ≡ clock_text d t
unfolding clock_text
clock_joined d t = simp append_assoc

-- what is written, in the order in which it is appended
pub clock_appended : (d : Date) (t : Time) (offset none date mark time all : List ℕ) → none ≡ [] → date ≡ none ++ date_text d → mark ≡ date ++ codes "T" → time ≡ mark ++ time_text t → all ≡ time ++ offset → all ≡ clock_text d t ++ offset
clock_appended d t offset none date mark time all is_none is_date is_mark is_time is_all =
    is_all
    ∙ ap (λ xs. xs ++ offset)
    (is_time
    ∙ ap (λ xs. xs ++ time_text t) (is_mark ∙ ap (λ xs. xs ++ codes "T") (is_date ∙ ap (λ xs. xs ++ date_text d) is_none))
    ∙ clock_joined d t)
