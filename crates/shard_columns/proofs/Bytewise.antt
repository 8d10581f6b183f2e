-- The order of the bytes of two words: no word that begins with a greater number is less.
use Rattle.std.proofs.Common.{false, ◌≡◌, refl, ℕ, ◌+◌, ◌*◌, ◌<◌, ◌≤◌, zero, suc, List, [], ◌∷◌, ◌++◌, take, replicate, get_or, sym, ◌∙◌, subst, arith, inl, inr}
use Rattle.std.specs.Prelude.{◌⊎◌}
use Rattle.std.specs.declared.cmp.Ordering.{Ordering}
use Rattle.std.specs.declared.cmp.Ordering.TheVariants.{Less, Equal, Greater}
use Rattle.std.specs.Ordering.{nat_cmp, is_lt, ordering_then}
use Rattle.std.specs.Cmp.Lexicographic.{slice_cmp}
use Rattle.std.specs.Int.{w128, from_be_bytes}
use Rattle.std.proofs.lemmas.Cmp.{ranked}
use Rattle.std.proofs.lemmas.Bool.{cases_lt}
use Rattle.std.proofs.lemmas.List.{get_or-take}
use Rattle.shard_columns.specs.Numbered.{beginning_of}
use Rattle.shard_columns.proofs.Telling.{AreBytes, horner, from-digits, bytes-padded, bytes-zeros}

up-step : (h k x y : ℕ) → h ≤ k → x ≤ y → h * 256 + x ≤ k * 256 + y
up-step h k x y le less = omega (arith, le, less)

front-step : (h k x y : ℕ) → h < k → x < 256 → h * 256 + x < k * 256 + y
front-step h k x y less low = omega (arith, less, low)

last-step : (h k x y : ℕ) → h ≡ k → x < y → h * 256 + x < k * 256 + y
last-step h k x y same less = omega (arith, same, less)

-- digits that are no greater
no-greater : (f g : ℕ → ℕ) (n : ℕ) → ((i : ℕ) → i ≤ n → f i ≤ g i) → horner f n ≤ horner g n
no-greater f g zero all = all 0 (omega arith)
no-greater f g (suc n) all =
    up-step (horner f n) (horner g n) (f (suc n)) (g (suc n)) (no-greater f g n (λ i within. all i (omega (arith, within)))) (all (suc n) (omega arith))

same-front : (f g : ℕ → ℕ) (n : ℕ) → ((i : ℕ) → i ≤ n → f i ≡ g i) → horner f n ≡ horner g n
same-front f g zero all = all 0 (omega arith)
same-front f g (suc n) all = (λ i. same-front f g n (λ j within. all j (omega (arith, within))) i * 256 + all (suc n) (omega arith) i)

-- the first digit that differs decides
first-differs : (f g : ℕ → ℕ) (n k : ℕ) → ((i : ℕ) → f i < 256) → k ≤ n → ((i : ℕ) → i < k → f i ≡ g i) → f k < g k → horner f n < horner g n
first-differs f g zero k few within same less = let at : k ≡ 0 = omega (arith, within) in subst (λ (j : ℕ). f j < g j) at less
first-differs f g (suc n) k few within same less = elim (cases_lt k (suc n)) [
  | inl before ↦ front-step (horner f n) (horner g n) (f (suc n)) (g (suc n)) (first-differs f g n k few (omega (arith, before)) same less) (few (suc n))
  | inr from ↦ (let at : k ≡ suc n = omega (arith, from, within) in
      last-step (horner f n) (horner g n) (f (suc n)) (g (suc n)) (same-front f g n (λ i inside. same i (omega (arith, inside, at)))) (subst (λ (j : ℕ). f j < g j) at less))
]

abbrev digit : List ℕ → ℕ → ℕ
digit word i = get_or word i 0

-- no digit is greater, or the first that differs is less
abbrev Cases : List ℕ → List ℕ → Type 0
Cases v w = ((i : ℕ) → digit v i ≤ digit w i) ⊎ ((k : ℕ) × (((i : ℕ) → i < k → digit v i ≡ digit w i) × (digit v k < digit w k)))

no-digit : (w : List ℕ) (i : ℕ) → digit [] i ≤ digit w i
no-digit w zero = omega arith
no-digit w (suc i) = omega arith

cases : (v w : List ℕ) → slice_cmp nat_cmp v w ≡ Less → Cases v w
cases [] w is = inl (no-digit w)
cases (x ∷ xs) [] is = absurd (cc is)
cases (x ∷ xs) (y ∷ ys) is = pick (nat_cmp x y) refl is (λ less. cases xs ys less)
  where
    upto : x ≡ y → ((i : ℕ) → digit xs i ≤ digit ys i) → (i : ℕ) → digit (x ∷ xs) i ≤ digit (y ∷ ys) i
    upto same all zero = omega (arith, same)
    upto same all (suc i) = all i

    before : (k : ℕ) → x ≡ y → ((i : ℕ) → i < k → digit xs i ≡ digit ys i) → (i : ℕ) → i < suc k → digit (x ∷ xs) i ≡ digit (y ∷ ys) i
    before k same all zero low = same
    before k same all (suc i) low = all i (omega (arith, low))

    pick : (o : Ordering) → nat_cmp x y ≡ o → ordering_then o (slice_cmp nat_cmp xs ys) ≡ Less → (slice_cmp nat_cmp xs ys ≡ Less → Cases xs ys) → Cases (x ∷ xs) (y ∷ ys)
    pick Less e is rest = inr (0, (λ i low. absurd (omega (arith, low)), ranked x y Less (sym e)))
    pick Equal e is rest = let same : x ≡ y = ranked x y Equal (sym e) in elim (rest is) [
      | inl all ↦ inl (upto same all)
      | inr d ↦ inr (suc d.0, (before d.0 same d.1.0, d.1.1))
    ]
    pick Greater e is rest = absurd (cc is)

zeros-behind : (word : List ℕ) (n i : ℕ) → get_or (word ++ replicate n 0) i 0 ≡ get_or word i 0
zeros-behind [] zero i = refl
zeros-behind [] (suc n) zero = refl
zeros-behind [] (suc n) (suc i) = zeros-behind [] n i
zeros-behind (x ∷ xs) n zero = refl
zeros-behind (x ∷ xs) n (suc i) = zeros-behind xs n i

abbrev padded : List ℕ → ℕ → ℕ
padded word i = get_or (take 16 (word ++ replicate 16 0)) i 0

digit-of : (word : List ℕ) (i : ℕ) → i ≤ 15 → padded word i ≡ digit word i
digit-of word i low = get_or-take 16 (word ++ replicate 16 0) i 0 (omega (arith, low)) ∙ zeros-behind word 16 i

numbers-rise : (v w : List ℕ) → AreBytes v → Cases v w → horner (padded v) 15 ≤ horner (padded w) 15
numbers-rise v w bytes (inl all) = no-greater (padded v) (padded w) 15 (λ i within. (let here = all i in omega (arith, digit-of v i within, digit-of w i within, here)))
numbers-rise v w bytes (inr d) = elim (cases_lt d.0 16) [
  | inl inside ↦ (let low : d.0 ≤ 15 = omega (arith, inside) in
      let less : padded v d.0 < padded w d.0 = (let here = d.1.1 in omega (arith, digit-of v d.0 low, digit-of w d.0 low, here)) in
      let all = first-differs (padded v) (padded w) 15 d.0 (bytes-padded 16 v (replicate 16 0) bytes (bytes-zeros 16)) low
      (λ i before. digit-of v i (omega (arith, before, low)) ∙ (d.1.0 i before ∙ sym (digit-of w i (omega (arith, before, low))))) less in
      omega (arith, all))
  | inr past ↦ no-greater (padded v) (padded w) 15 (λ i within. (let here = d.1.0 i (omega (arith, within, past)) in omega (arith, digit-of v i within, digit-of w i within, here)))
]

-- a word that is less begins with no greater number
pub begins-no-later : (v w : List ℕ) → AreBytes v → slice_cmp nat_cmp v w ≡ Less → beginning_of v ≤ beginning_of w
unfolding beginning_of
begins-no-later v w bytes is =
    let up = numbers-rise v w bytes (cases v w is) in
    let first : from_be_bytes w128 (take 16 (v ++ replicate 16 0)) ≡ horner (padded v) 15 = from-digits (take 16 (v ++ replicate 16 0)) in
    let second : from_be_bytes w128 (take 16 (w ++ replicate 16 0)) ≡ horner (padded w) 15 = from-digits (take 16 (w ++ replicate 16 0)) in
    subst (λ (n : ℕ). n ≤ from_be_bytes w128 (take 16 (w ++ replicate 16 0))) (sym first) (subst (λ (n : ℕ). horner (padded v) 15 ≤ n) (sym second) up)

-- the order of beginnings and words is that of the words
pub by-words : (v w : List ℕ) → AreBytes v → is_lt (ordering_then (nat_cmp (beginning_of v) (beginning_of w)) (slice_cmp nat_cmp v w)) ≡ false → is_lt (slice_cmp nat_cmp v w) ≡ false
by-words v w bytes not = pick (slice_cmp nat_cmp v w) (nat_cmp (beginning_of v) (beginning_of w)) refl refl not
  where
    less : (b : Ordering) → slice_cmp nat_cmp v w ≡ Less → nat_cmp (beginning_of v) (beginning_of w) ≡ b → is_lt (ordering_then b Less) ≡ false → is_lt Less ≡ false
    less Less e k up = absurd (cc up)
    less Equal e k up = absurd (cc up)
    less Greater e k up = let above = ranked (beginning_of v) (beginning_of w) Greater (sym k) in let low = begins-no-later v w bytes e in absurd (omega (arith, above, low))

    pick : (o b : Ordering) → slice_cmp nat_cmp v w ≡ o → nat_cmp (beginning_of v) (beginning_of w) ≡ b → is_lt (ordering_then b o) ≡ false → is_lt o ≡ false
    pick Equal b e k up = refl
    pick Greater b e k up = refl
    pick Less b e k up = less b e k up
