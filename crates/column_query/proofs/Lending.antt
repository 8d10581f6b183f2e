-- The numbers of values that a shard lends.
use Rattle.std.proofs.Common.{◌≡◌, refl, ℕ, ◌<◌, suc, true, List, [], ◌∷◌, length, get_or, map, Contains, sym, ap, arith, ℤ, pos}
use Rattle.std.proofs.lemmas.Option.{slice_get-get_or}
use Rattle.agg_model.specs.declared.row.Scalar.{Scalar}
use Rattle.agg_model.specs.declared.row.Scalar.TheVariants as scalar
use Rattle.shard_columns.specs.Lent.{wholes_in, flags_in, word_at}
use Rattle.shard_columns.specs.Values.{Words, words_in}
use Rattle.column_query.specs.declared.content.Content.{Content}
use Rattle.column_query.specs.declared.content.Content.TheVariants as content
use Rattle.column_query.specs.Numbers.{is_content, place_among, number_of, flag_number}
use Rattle.column_query.proofs.Places.{Strict, place-at}

abbrev pub AreAll : Content → List Scalar → Type 0
AreAll c vs = (v : Scalar) → Contains vs v → is_content c v ≡ true

rest : (c : Content) (x : Scalar) (vs : List Scalar) → AreAll c (x ∷ vs) → AreAll c vs
rest c x vs all v there = all v (suc there.0, omega (arith, there.1), there.2)

pub whole-numbers : (words : Words) (vs : List Scalar) → AreAll content.Wholes vs → wholes_in vs ≡ map (number_of words) vs
whole-numbers words [] all = refl
whole-numbers words (scalar.Whole n ∷ vs) all = ap (λ (ns : List ℤ). n ∷ ns) (whole-numbers words vs (rest content.Wholes (scalar.Whole n) vs all))
whole-numbers words (scalar.Word w ∷ vs) all = absurd (cc (all (scalar.Word w) (0, omega arith, refl)))
whole-numbers words (scalar.Flag b ∷ vs) all = absurd (cc (all (scalar.Flag b) (0, omega arith, refl)))

pub flag-numbers : (words : Words) (vs : List Scalar) → AreAll content.Flags vs → map flag_number (flags_in vs) ≡ map (number_of words) vs
flag-numbers words [] all = refl
flag-numbers words (scalar.Flag b ∷ vs) all = ap (λ (ns : List ℤ). flag_number b ∷ ns) (flag-numbers words vs (rest content.Flags (scalar.Flag b) vs all))
flag-numbers words (scalar.Word w ∷ vs) all = absurd (cc (all (scalar.Word w) (0, omega arith, refl)))
flag-numbers words (scalar.Whole n ∷ vs) all = absurd (cc (all (scalar.Whole n) (0, omega arith, refl)))

-- the number of a word is its place
abbrev pub place_number : Words → List ℕ → ℤ
place_number words w = pos (place_among words w)

pub word-numbers : (words : Words) (vs : List Scalar) → AreAll content.Words vs → map (place_number words) (words_in vs) ≡ map (number_of words) vs
word-numbers words [] all = refl
word-numbers words (scalar.Word w ∷ vs) all = ap (λ (ns : List ℤ). place_number words w ∷ ns) (word-numbers words vs (rest content.Words (scalar.Word w) vs all))
word-numbers words (scalar.Flag b ∷ vs) all = absurd (cc (all (scalar.Flag b) (0, omega arith, refl)))
word-numbers words (scalar.Whole n ∷ vs) all = absurd (cc (all (scalar.Whole n) (0, omega arith, refl)))

pub ordinal-numbers : (words : Words) → Strict words → (os : List ℕ) → ((k : ℕ) → k < length os → get_or os k 0 < length words) → map pos os ≡ map (place_number words) (map (word_at words) os)
ordinal-numbers words strict [] known = refl
ordinal-numbers words strict (o ∷ os) known =
    let at : o ≡ place_among words (word_at words o) = sym (place-at words strict o (word_at words o) (slice_get-get_or words o [] (known 0 (omega arith)))) in
    let more = ordinal-numbers words strict os (λ k low. known (suc k) (omega (arith, low))) in
    λ i. pos (at i) ∷ more i
