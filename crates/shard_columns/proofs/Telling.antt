-- A word that is no longer than its beginning is told by that and its length.
use Rattle.std.proofs.Common.{◌≡◌, ℕ, ◌+◌, ◌*◌, ◌<◌, ◌≤◌, zero, suc, List, [], ◌∷◌, ◌++◌, length, take, replicate, get_or, sym, ◌∙◌, ap, arith, inl, inr}
use Rattle.std.specs.Int.{w128, from_be_bytes}
use Rattle.std.proofs.lemmas.Bool.{cases_lt}
use Rattle.std.proofs.lemmas.List.{get_or-take, get_or_append_left, ext_get_or}
use Rattle.shard_columns.specs.Numbered.{beginning_of}

-- a number from its digits, the first of which weighs most
abbrev pub horner : (ℕ → ℕ) → ℕ → ℕ
horner f zero = f 0
horner f (suc n) = horner f n * 256 + f (suc n)

pub from-digits : (bytes : List ℕ) → from_be_bytes w128 bytes ≡ horner (λ i. get_or bytes i 0) 15
from-digits bytes = omega arith

peel : (h k x y : ℕ) → x < 256 → y < 256 → h * 256 + x ≡ k * 256 + y → (h ≡ k) × (x ≡ y)
peel h k x y low less same = (omega (arith, low, less, same), omega (arith, low, less, same))

same-digits : (f g : ℕ → ℕ) (n : ℕ) → ((i : ℕ) → f i < 256) → ((i : ℕ) → g i < 256) → horner f n ≡ horner g n → (i : ℕ) → i ≤ n → f i ≡ g i
same-digits f g zero few less same i within = ap f (none i within) ∙ (same ∙ ap g (sym (none i within)))
  where
    none : (i : ℕ) → i ≤ 0 → i ≡ 0
    none i within = omega (arith, within)
same-digits f g (suc n) few less same i within =
    let parts = peel (horner f n) (horner g n) (f (suc n)) (g (suc n)) (few (suc n)) (less (suc n)) same in
    elim (cases_lt i (suc n)) [
      | inl before ↦ same-digits f g n few less parts.0 i (omega (arith, before))
      | inr from ↦ (let last : i ≡ suc n = omega (arith, from, within) in ap f last ∙ (parts.1 ∙ ap g (sym last)))
    ]

-- a number below 256 stands everywhere
abbrev pub AreBytes : List ℕ → Type 0
AreBytes bytes = (i : ℕ) → get_or bytes i 0 < 256

bytes-tail : (x : ℕ) (xs : List ℕ) → AreBytes (x ∷ xs) → AreBytes xs
bytes-tail x xs all = λ i. all (suc i)

pub bytes-zeros : (n : ℕ) → AreBytes (replicate n 0)
bytes-zeros zero = λ i. omega arith
bytes-zeros (suc n) = zero-first (replicate n 0) (bytes-zeros n)
  where
    zero-first : (xs : List ℕ) → AreBytes xs → AreBytes (0 ∷ xs)
    zero-first xs all zero = omega arith
    zero-first xs all (suc i) = all i

pub bytes-padded : (n : ℕ) (xs ys : List ℕ) → AreBytes xs → AreBytes ys → AreBytes (take n (xs ++ ys))
bytes-padded zero xs ys all more i = omega arith
bytes-padded (suc n) [] [] all more i = omega arith
bytes-padded (suc n) [] (y ∷ ys) all more zero = more 0
bytes-padded (suc n) [] (y ∷ ys) all more (suc i) = bytes-padded n [] ys all (bytes-tail y ys more) i
bytes-padded (suc n) (x ∷ xs) ys all more zero = all 0
bytes-padded (suc n) (x ∷ xs) ys all more (suc i) = bytes-padded n xs ys (bytes-tail x xs all) more i

padded-at : (word : List ℕ) (i : ℕ) → i < length word → length word ≤ 16 → get_or (take 16 (word ++ replicate 16 0)) i 0 ≡ get_or word i 0
padded-at word i low short = get_or-take 16 (word ++ replicate 16 0) i 0 (omega (arith, low, short)) ∙ get_or_append_left word (replicate 16 0) 0 i low

pub told : (v w : List ℕ) → AreBytes v → AreBytes w → length v ≡ length w → length w ≤ 16 → beginning_of v ≡ beginning_of w → v ≡ w
unfolding beginning_of
told v w bytes more size short same =
    let f : ℕ → ℕ = λ i. get_or (take 16 (v ++ replicate 16 0)) i 0 in
    let g : ℕ → ℕ = λ i. get_or (take 16 (w ++ replicate 16 0)) i 0 in
    let digits : horner f 15 ≡ horner g 15 = sym (from-digits (take 16 (v ++ replicate 16 0))) ∙ (same ∙ from-digits (take 16 (w ++ replicate 16 0))) in
    ext_get_or 0 v w size (λ i low.
    sym (padded-at v i low (omega (arith, size, short)))
    ∙ (same-digits f g 15 (bytes-padded 16 v (replicate 16 0) bytes (bytes-zeros 16)) (bytes-padded 16 w (replicate 16 0) more (bytes-zeros 16)) digits i (omega (arith, low, size, short))
    ∙ padded-at w i (omega (arith, low, size)) short))
