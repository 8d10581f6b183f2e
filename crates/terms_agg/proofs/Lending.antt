-- The codes of values that a shard lends.
use Rattle.std.proofs.Common.{◌≡◌, refl, ℕ, ◌<◌, zero, suc, Bool, true, false, List, [], ◌∷◌, length, get_or, map, Some, sym, ◌∙◌, ap, arith, ℤ, pos}
use Rattle.std.specs.Prelude.{option_map}
use Rattle.std.specs.List.{slice_get, list_all}
use Rattle.std.proofs.lemmas.Bool.{and_parts, and_from, lt-ltb}
use Rattle.std.proofs.lemmas.Option.{slice_get-map}
use Rattle.agg_model.specs.declared.key.Key.{Key}
use Rattle.agg_model.specs.declared.key.Key.TheVariants as key
use Rattle.agg_model.specs.declared.row.Scalar.{Scalar}
use Rattle.agg_model.specs.declared.row.Scalar.TheVariants as scalar
use Rattle.agg_model.specs.ValueKeys.{scalar_key}
use Rattle.agg_evaluation.specs.Rows.{row_of, values_of}
use Rattle.shard_columns.specs.Columns.{Columns}
use Rattle.shard_columns.specs.Dictionary.{words_of}
use Rattle.shard_columns.specs.Lent.{wholes_in, flags_in}
use Rattle.shard_columns.specs.Values.{Words}
use Rattle.terms_agg.specs.declared.content.Content.TheVariants.{Wholes, Flags}
use Rattle.terms_agg.specs.declared.content.Content.TheVariants as hold
use Rattle.terms_agg.specs.declared.row_values.RowValues.{RowValues}
use Rattle.terms_agg.specs.Codes.{word_at, key_at, content_in, is_content, is_place, is_code_at}
use Rattle.terms_agg.specs.Lent.{flag_number, codes_in, AreLent}
use Rattle.terms_agg.proofs.Standing.{flag-back}

rest : {A : Type 0} (p : A → Bool) (x : A) (xs : List A) → list_all p (x ∷ xs) ≡ true → list_all p xs ≡ true
rest p x xs all = (and_parts (p x) (list_all p xs) all).1

first : {A : Type 0} (p : A → Bool) (x : A) (xs : List A) → list_all p (x ∷ xs) ≡ true → p x ≡ true
first p x xs all = (and_parts (p x) (list_all p xs) all).0

-- ---- whole numbers
pub whole-keys : (words : Words) (vs : List Scalar) → list_all (is_content Wholes) vs ≡ true → map (key_at Wholes words) (wholes_in vs) ≡ map scalar_key vs
whole-keys words [] all = refl
whole-keys words (scalar.Whole n ∷ vs) all = ap (λ (ks : List Key). key.Whole n ∷ ks) (whole-keys words vs (rest (is_content Wholes) (scalar.Whole n) vs all))
whole-keys words (scalar.Word w ∷ vs) all = absurd (cc (first (is_content Wholes) (scalar.Word w) vs all))
whole-keys words (scalar.Flag b ∷ vs) all = absurd (cc (first (is_content Wholes) (scalar.Flag b) vs all))

pub whole-codes : (count : ℕ) (ns : List ℤ) → list_all (is_code_at Wholes count) ns ≡ true
whole-codes count [] = refl
whole-codes count (n ∷ ns) = and_from true (list_all (is_code_at Wholes count) ns) refl (whole-codes count ns)

-- ---- flags
pub flag-keys : (words : Words) (vs : List Scalar) → list_all (is_content Flags) vs ≡ true → map (key_at Flags words) (map flag_number (flags_in vs)) ≡ map scalar_key vs
flag-keys words [] all = refl
flag-keys words (scalar.Flag b ∷ vs) all = λ i. key.Flag (flag-back b i) ∷ flag-keys words vs (rest (is_content Flags) (scalar.Flag b) vs all) i
flag-keys words (scalar.Word w ∷ vs) all = absurd (cc (first (is_content Flags) (scalar.Word w) vs all))
flag-keys words (scalar.Whole n ∷ vs) all = absurd (cc (first (is_content Flags) (scalar.Whole n) vs all))

flag_place : (b : Bool) → is_place 2 (flag_number b) ≡ true
flag_place true = refl
flag_place false = refl

pub flag-codes : (count : ℕ) (bs : List Bool) → list_all (is_code_at Flags count) (map flag_number bs) ≡ true
flag-codes count [] = refl
flag-codes count (b ∷ bs) = and_from (is_place 2 (flag_number b)) (list_all (is_code_at Flags count) (map flag_number bs)) (flag_place b) (flag-codes count bs)

-- ---- words
pub word-keys : (words : Words) (os : List ℕ) → map (key_at hold.Words words) (map pos os) ≡ map scalar_key (map (λ o. scalar.Word (word_at words (pos o))) os)
word-keys words [] = refl
word-keys words (o ∷ os) = ap (λ (ks : List Key). key.Word (word_at words (pos o)) ∷ ks) (word-keys words os)

pub word-codes : (count : ℕ) (os : List ℕ) → ((k : ℕ) → k < length os → get_or os k 0 < count) → list_all (is_code_at hold.Words count) (map pos os) ≡ true
word-codes count [] known = refl
word-codes count (o ∷ os) known =
    and_from (is_place count (pos o)) (list_all (is_code_at hold.Words count) (map pos os)) (lt-ltb o count (known 0 (omega arith))) (word-codes count os (λ k low. known (suc k) (omega (arith, low))))

-- ---- the code at a place
all-at : {A : Type 0} (p : A → Bool) (xs : List A) (k : ℕ) (x : A) → list_all p xs ≡ true → slice_get xs k ≡ Some x → p x ≡ true
all-at p [] k x all is = absurd (cc is)
all-at p (y ∷ ys) zero x all is = let same : y ≡ x = cc is in ap p (sym same) ∙ first p y ys all
all-at p (y ∷ ys) (suc k) x all is = all-at p ys k x (rest p y ys all) is

module _ (shard : Columns) (field row : ℕ) (values : RowValues) (lent : AreLent shard field row values) where
  -- is a code of the field
  pub lent-code : (place : ℕ) (c : ℤ) → slice_get (codes_in values) place ≡ Some c → is_code_at (content_in shard field) (length (words_of field shard.rows)) c ≡ true
  lent-code place c is = all-at (is_code_at (content_in shard field) (length (words_of field shard.rows))) (codes_in values) place c lent.codes is

  -- and stands for the key of the value there
  pub lent-key : (place : ℕ) (c : ℤ) → slice_get (codes_in values) place ≡ Some c
      → option_map scalar_key (slice_get (values_of field (row_of shard.rows row)) place) ≡ Some (key_at (content_in shard field) (words_of field shard.rows) c)
  lent-key place c is =
      sym (slice_get-map scalar_key (values_of field (row_of shard.rows row)) place)
      ∙ (ap (λ (ks : List Key). slice_get ks place) (sym lent.keys)
      ∙ (slice_get-map (key_at (content_in shard field) (words_of field shard.rows)) (codes_in values) place
      ∙ ap (option_map (key_at (content_in shard field) (words_of field shard.rows))) is))
