-- The numbers of the rows that pass a test, ascending.
use Rattle.std.proofs.Common.{◌≡◌, refl, ℕ, ◌+◌, ◌<◌, zero, suc, Bool, true, false, List, [], ◌∷◌, ◌++◌, length, get_or, map, filter, cond, sym, ◌∙◌, ap, arith, length-append, append_assoc}
use Rattle.std.specs.Prelude.{◌||◌, ◌==◌, nat_eq}
use Rattle.std.proofs.lemmas.Bool.Decides.{nat_tests}
use Rattle.std.proofs.Math.Seq.{get_or-append_seam}
use Rattle.agg_evaluation.specs.Rows.{PlacedRow, no_row, row_of}

-- of rows that are numbered from n
abbrev pub chosen : (PlacedRow → Bool) → ℕ → List PlacedRow → List ℕ
chosen p n [] = []
chosen p n (r ∷ rs) = cond (p r) (n ∷ chosen p (n + 1) rs) (chosen p (n + 1) rs)

choose : (all : List PlacedRow) (b : Bool) (n : ℕ) (ns : List ℕ) → map (row_of all) (cond b (n ∷ ns) ns) ≡ cond b (row_of all n ∷ map (row_of all) ns) (map (row_of all) ns)
choose all true n ns = refl
choose all false n ns = refl

here : (all front rs : List PlacedRow) (r : PlacedRow) (n : ℕ) → all ≡ front ++ r ∷ rs → length front ≡ n → row_of all n ≡ r
here all front rs r n is at = ap (λ (xs : List PlacedRow). get_or xs n no_row) is ∙ (ap (λ (k : ℕ). get_or (front ++ r ∷ rs) k no_row) (sym at) ∙ get_or-append_seam front r rs no_row)

rows_from : (all : List PlacedRow) (p : PlacedRow → Bool) (n : ℕ) (front rows : List PlacedRow) → all ≡ front ++ rows → length front ≡ n → map (row_of all) (chosen p n rows) ≡ filter p rows
rows_from all p n front [] is at = refl
rows_from all p n front (r ∷ rs) is at =
    let after : length (front ++ r ∷ []) ≡ n + 1 = omega (arith, length-append front (r ∷ []), at) in
    let rest = rows_from all p (n + 1) (front ++ r ∷ []) rs (is ∙ sym (append_assoc front (r ∷ []) rs)) after in
    choose all (p r) n (chosen p (n + 1) rs) ∙ (λ i. cond (p r) (here all front rs r n is at i ∷ rest i) (rest i))

-- they are the rows that pass
pub rows_chosen : (all : List PlacedRow) (p : PlacedRow → Bool) → map (row_of all) (chosen p 0 all) ≡ filter p all
rows_chosen all p = rows_from all p 0 [] all refl refl

pub chosen_none : (p : PlacedRow → Bool) (n : ℕ) (rs : List PlacedRow) → ((k : ℕ) → k < length rs → p (row_of rs k) ≡ false) → chosen p n rs ≡ []
chosen_none p n [] fail = refl
chosen_none p n (r ∷ rs) fail = ap (λ (b : Bool). cond b (n ∷ chosen p (n + 1) rs) (chosen p (n + 1) rs)) (fail 0 (omega arith)) ∙ chosen_none p (n + 1) rs (λ k below. fail (suc k) (omega arith))

pub chosen_same : (p q : PlacedRow → Bool) (n : ℕ) (rs : List PlacedRow) → ((k : ℕ) → k < length rs → p (row_of rs k) ≡ q (row_of rs k)) → chosen p n rs ≡ chosen q n rs
chosen_same p q n [] same = refl
chosen_same p q n (r ∷ rs) same =
    let rest = chosen_same p q (n + 1) rs (λ k below. same (suc k) (omega arith)) in
    λ i. cond (same 0 (omega arith) i) (n ∷ rest i) (rest i)

not_below_zero : (b : Bool) (k : ℕ) → (b ≡ true → k < 0) → b ≡ false
not_below_zero true k below = absurd (omega (arith, below refl))
not_below_zero false k below = refl

or_false : (b c : Bool) → c ≡ false → (b || c) ≡ b
or_false true c e = refl
or_false false c e = e

later-other : (k : ℕ) → nat_eq (suc k) 0 ≡ false
later-other k = grind (arith, nat_tests)

first-other : (a : ℕ) → nat_eq 0 (suc a) ≡ false
first-other a = grind (arith, nat_tests)

next-same : (k a : ℕ) → nat_eq (suc k) (suc a) ≡ nat_eq k a
next-same k a = grind (arith, nat_tests)

-- one row more behind all that pass
pub chosen_more : (p q : PlacedRow → Bool) (n : ℕ) (rs : List PlacedRow) (a : ℕ) → a < length rs → ((k : ℕ) → k < length rs → q (row_of rs k) ≡ (p (row_of rs k) || (k == a))) →
    ((k : ℕ) → k < length rs → p (row_of rs k) ≡ true → k < a) → chosen q n rs ≡ chosen p n rs ++ (n + a) ∷ []
chosen_more p q n [] a below more before = absurd (omega arith)
chosen_more p q n (r ∷ rs) zero below more before =
    let none : (k : ℕ) → k < length (r ∷ rs) → p (row_of (r ∷ rs) k) ≡ false = λ k k_below. not_below_zero (p (row_of (r ∷ rs) k)) k (before k k_below) in
    let q_here : q r ≡ true = more 0 (omega arith) ∙ ap (λ (b : Bool). b || (0 == 0)) (none 0 (omega arith)) in
    let q_rest = chosen_none q (n + 1) rs (λ k k_below. more (suc k) (omega arith) ∙ (or_false (p (row_of rs k)) (suc k == 0) (later-other k) ∙ none (suc k) (omega arith))) in
    let number : n ≡ n + 0 = omega arith in
    (λ i. cond (q_here i) (n ∷ q_rest i) (q_rest i)) ∙ (ap (λ (m : ℕ). m ∷ []) number ∙ sym (ap (λ (ns : List ℕ). ns ++ (n + 0) ∷ []) (chosen_none p n (r ∷ rs) none)))
chosen_more p q n (r ∷ rs) (suc a) below more before =
    let rest = chosen_more p q (n + 1) rs a (omega arith)
    (λ k k_below. more (suc k) (omega arith) ∙ ap (λ (b : Bool). p (row_of rs k) || b) (next-same k a))
    (λ k k_below h. let e = before (suc k) (omega arith) h in omega (arith, e)) in
    let q_here : q r ≡ p r = more 0 (omega arith) ∙ or_false (p r) (0 == suc a) (first-other a) in
    let number : n + 1 + a ≡ n + suc a = omega arith in
    let tail = rest ∙ ap (λ (m : ℕ). chosen p (n + 1) rs ++ m ∷ []) number in
    (λ i. cond (q_here i) (n ∷ tail i) (tail i)) ∙ push (p r) n (chosen p (n + 1) rs) (n + suc a)
  where
    push : (b : Bool) (n : ℕ) (ns : List ℕ) (m : ℕ) → cond b (n ∷ (ns ++ m ∷ [])) (ns ++ m ∷ []) ≡ cond b (n ∷ ns) ns ++ m ∷ []
    push true n ns m = refl
    push false n ns m = refl
