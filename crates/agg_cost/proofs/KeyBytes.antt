-- The longest key of a field: of words the longest word, and 8 bytes of all else.
use Rattle.std.proofs.Common.{◌≡◌, refl, ℕ, suc, ◌≤◌, Bool, true, false, List, [], ◌∷◌, ◌++◌, length, map, sym, ◌∙◌, ap, arith, Option, Some}
use Rattle.std.specs.Prelude.{flat_map, option_to_list, max, nat_lt, cond}
use Rattle.std.specs.List.{list_all}
use Rattle.std.proofs.lemmas.Bool.{and_parts, and_from, false≢true}
use Rattle.std.proofs.lemmas.Bool.Decides.{nat_tests}
use Rattle.std.proofs.lemmas.List.Folds.{list_all-append}
use Rattle.list_laws.proofs.Lists.{map-append, flat_map-append}
use Rattle.agg_model.specs.declared.mapping.FieldKind.{FieldKind}
use Rattle.agg_model.specs.declared.mapping.FieldKind.TheVariants as kinds
use Rattle.agg_model.specs.declared.row.Scalar.{Scalar}
use Rattle.agg_model.specs.declared.row.Scalar.TheVariants.{Whole, Word, Flag}
use Rattle.agg_model.specs.FieldKinds.{is_of_kind}
use Rattle.agg_model.specs.ValueKeys.{scalar_key}
use Rattle.agg_evaluation.specs.Cost.{key_bytes}
use Rattle.agg_evaluation.specs.Rows.{PlacedRow, values_of}
use Rattle.agg_evaluation.specs.Ceiling.{greatest_of, least_bytes, value_bytes}
use Rattle.shard_columns.specs.Values.{Words, words_in}
use Rattle.shard_columns.specs.Dictionary.{all_words, longest_word}
use Rattle.shard_columns.specs.Kinds.{AreOfKind}

abbrev bytes : Scalar → ℕ
bytes v = key_bytes (scalar_key v)

greater : (n m : ℕ) → (cond (nat_lt n m) m n) ≡ max n m
greater n m = elim (nat_lt n m) as (λ t. nat_lt n m ≡ t → cond t m n ≡ max n m) [
  | true ↦ λ t. grind (arith, nat_tests)
  | false ↦ λ t. grind (arith, nat_tests)
] refl

pub greatest-cons : (n : ℕ) (ns : List ℕ) → greatest_of (n ∷ ns) ≡ max n (greatest_of ns)
greatest-cons n ns = greater n (greatest_of ns)

pub greatest-append : (ms ns : List ℕ) → greatest_of (ms ++ ns) ≡ max (greatest_of ms) (greatest_of ns)
greatest-append [] ns = let none : max 0 (greatest_of ns) ≡ greatest_of ns = omega arith in sym none
greatest-append (m ∷ ms) ns =
    let whole = greatest-cons m (ms ++ ns) in
    let part = greatest-cons m ms in
    let rest = greatest-append ms ns in
    omega arith

-- the values of a field, row by row, are of its kind
all_of_kind : (k : FieldKind) (field : ℕ) (rows : List PlacedRow) → AreOfKind k field rows → list_all (is_of_kind k) (flat_map (values_of field) rows) ≡ true
all_of_kind k field [] are = refl
all_of_kind k field (r ∷ rs) are =
    list_all-append (is_of_kind k) (values_of field r) (flat_map (values_of field) rs)
    ∙ and_from _ _ (are 0) (all_of_kind k field rs (λ n. are (suc n)))

words_bytes : (vs : List Scalar) → list_all (is_of_kind kinds.Keyword) vs ≡ true → greatest_of (0 ∷ map bytes vs) ≡ greatest_of (map length (words_in vs))
words_bytes vs are = greatest-cons 0 (map bytes vs) ∙ (plain (greatest_of (map bytes vs)) ∙ ap greatest_of (same vs are))
  where
    plain : (n : ℕ) → max 0 n ≡ n
    plain n = omega arith

    same : (vs : List Scalar) → list_all (is_of_kind kinds.Keyword) vs ≡ true → map bytes vs ≡ map length (words_in vs)
    same [] are = refl
    same (Word w ∷ vs) are = ap (λ (ns : List ℕ). length w ∷ ns) (same vs are)
    same (Whole n ∷ vs) are = absurd (false≢true are)
    same (Flag b ∷ vs) are = absurd (false≢true are)

abbrev is_number : Scalar → Bool
is_number (Word w) = false
is_number _ = true

numbers_bytes : (vs : List Scalar) → list_all is_number vs ≡ true → greatest_of (8 ∷ map bytes vs) ≡ 8
numbers_bytes vs are = let most = below vs are in greatest-cons 8 (map bytes vs) ∙ omega arith
  where
    below : (vs : List Scalar) → list_all is_number vs ≡ true → greatest_of (map bytes vs) ≤ 8
    below [] are = omega arith
    below (Word w ∷ vs) are = absurd (false≢true are)
    below (Whole n ∷ vs) are = let first = greatest-cons 8 (map bytes vs) in let rest = below vs are in omega arith
    below (Flag b ∷ vs) are = let first = greatest-cons 8 (map bytes vs) in let rest = below vs are in omega arith

module _ (field : ℕ) (missing : Option Scalar) (rows : List PlacedRow) where
  abbrev values : List Scalar
  values = option_to_list missing ++ flat_map (values_of field) rows

  all_fit : (k : FieldKind) → list_all (is_of_kind k) (option_to_list missing) ≡ true → AreOfKind k field rows → list_all (is_of_kind k) values ≡ true
  all_fit k fits are = list_all-append (is_of_kind k) (option_to_list missing) (flat_map (values_of field) rows) ∙ and_from _ _ fits (all_of_kind k field rows are)

  -- a field of words
  pub of_words : list_all (is_of_kind kinds.Keyword) (option_to_list missing) ≡ true → AreOfKind kinds.Keyword field rows →
      value_bytes (Some kinds.Keyword) values ≡ max (longest_word field rows) (greatest_of (map length (words_in (option_to_list missing))))
  of_words fits are =
      let words = words_bytes values (all_fit kinds.Keyword fits are) ∙ ap (λ (ws : Words). greatest_of (map length ws)) (flat_map-append _ (option_to_list missing) (flat_map (values_of field) rows)) in
      let apart = ap greatest_of (map-append length (words_in (option_to_list missing)) (all_words field rows)) ∙ greatest-append (map length (words_in (option_to_list missing))) (map length (all_words field rows)) in
      words ∙ (apart ∙ omega arith)

  -- a field of numbers, dates or flags
  pub of_numbers : (k : FieldKind) → least_bytes (Some k) ≡ 8 → list_all (is_of_kind k) (option_to_list missing) ≡ true → AreOfKind k field rows → value_bytes (Some k) values ≡ 8
  of_numbers k least fits are =
      ap (λ (n : ℕ). greatest_of (n ∷ map bytes values)) least ∙ numbers_bytes values (all_numbers values k least (all_fit k fits are))
    where
      one_number : (v : Scalar) (k : FieldKind) → least_bytes (Some k) ≡ 8 → is_of_kind k v ≡ true → is_number v ≡ true
      one_number (Whole n) k least is = refl
      one_number (Flag b) k least is = refl
      one_number (Word w) kinds.Keyword least is = absurd (omega arith)
      one_number (Word w) kinds.Boolean least is = absurd (false≢true is)
      one_number (Word w) kinds.Long least is = absurd (false≢true is)
      one_number (Word w) kinds.Integer least is = absurd (false≢true is)
      one_number (Word w) kinds.Short least is = absurd (false≢true is)
      one_number (Word w) kinds.Byte least is = absurd (false≢true is)
      one_number (Word w) kinds.Date least is = absurd (false≢true is)

      all_numbers : (vs : List Scalar) (k : FieldKind) → least_bytes (Some k) ≡ 8 → list_all (is_of_kind k) vs ≡ true → list_all is_number vs ≡ true
      all_numbers [] k least are = refl
      all_numbers (v ∷ vs) k least are = let parts = and_parts (is_of_kind k v) (list_all (is_of_kind k) vs) are in and_from _ _ (one_number v k least parts.0) (all_numbers vs k least parts.1)
