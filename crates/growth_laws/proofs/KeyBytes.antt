-- The bytes of a field's keys: those of its longest word, or 8.
use Rattle.std.specs.Prelude.{◌≡◌, refl, ℕ, ◌≤◌, max, true, false, nat_lt, if◌then◌else◌, ◌++◌, T, List, [], ◌∷◌, flat_map, length, map, Option, Some, option_to_list, slice_get}
use Rattle.std.specs.List.{list_all}
use Rattle.std.proofs.Common.{◌∙◌, ap, arith}
use Rattle.agg_model.specs.declared.mapping.FieldKind.{FieldKind}
use Rattle.agg_model.specs.declared.mapping.FieldKind.TheVariants.{Keyword}
use Rattle.agg_model.specs.declared.row.Scalar.{Scalar}
use Rattle.agg_model.specs.declared.row.Scalar.TheVariants.{Whole, Word, Flag}
use Rattle.agg_evaluation.specs.Ceiling.{field_bytes, greatest_of, least_bytes}
use Rattle.agg_evaluation.specs.Cost.{key_bytes}
use Rattle.agg_model.specs.ValueKeys.{scalar_key}
use Rattle.agg_evaluation.specs.Rows.{PlacedRow, values_of}
use Rattle.list_laws.proofs.Lists.{map-append, map-map}
use Rattle.growth_laws.specs.FieldBytes.{is_number_or_flag}

-- the greatest is the greater of the first and the rest
greatest-cons : (n : ℕ) (ns : List ℕ) → greatest_of (n ∷ ns) ≡ max n (greatest_of ns)
greatest-cons n ns =
    elim (nat_lt n (greatest_of ns)) as (λ b. nat_lt n (greatest_of ns) ≡ b → (if b then greatest_of ns else n) ≡ max n (greatest_of ns)) [
      | true ↦ λ e. grind arith
      | false ↦ λ e. grind arith
    ] refl

-- the greatest of two lists is the greater of theirs
greatest-append : (ms ns : List ℕ) → greatest_of (ms ++ ns) ≡ max (greatest_of ms) (greatest_of ns)
greatest-append [] ns = omega arith
greatest-append (m ∷ ms) ns =
    let whole = greatest-cons m (ms ++ ns) in
    let first = greatest-cons m ms in
    let rest = greatest-append ms ns in
    omega arith

-- the bytes of words are their lengths
word-bytes : (ws : List (List ℕ)) → map (λ v. key_bytes (scalar_key v)) (map Word ws) ≡ map length ws
word-bytes ws = map-map (λ v. key_bytes (scalar_key v)) Word ws

-- the bytes of a keyword field are those of its longest word
pub longest-word : (kinds : List FieldKind) (all : List PlacedRow) (f : ℕ) (missing : Option Scalar) (named words : List (List ℕ)) → slice_get kinds f ≡ Some Keyword → option_to_list missing ≡ map Word named
    → flat_map (values_of f) all ≡ map Word words → field_bytes kinds all f missing ≡ max (greatest_of (map length named)) (greatest_of (map length words))
longest-word kinds all f missing named words keyword is_named are_words =
    let lengths : map (λ v. key_bytes (scalar_key v)) (option_to_list missing ++ flat_map (values_of f) all) ≡ map length named ++ map length words
    = map-append (λ v. key_bytes (scalar_key v)) (option_to_list missing) (flat_map (values_of f) all)
    ∙ (λ i. (ap (map (λ v. key_bytes (scalar_key v))) is_named ∙ word-bytes named) i ++ (ap (map (λ v. key_bytes (scalar_key v))) are_words ∙ word-bytes words) i) in
    (λ i. greatest_of (least_bytes (keyword i) ∷ lengths i)) ∙ none_less (map length named ++ map length words) ∙ greatest-append (map length named) (map length words)
  where
    none_less : (ns : List ℕ) → greatest_of (0 ∷ ns) ≡ greatest_of ns
    none_less ns = let e = greatest-cons 0 ns in omega arith

-- numbers and flags have 8 bytes each
eight-each : (vs : List Scalar) → T (list_all is_number_or_flag vs) → greatest_of (map (λ v. key_bytes (scalar_key v)) vs) ≤ 8
eight-each [] h = omega arith
eight-each (Whole n ∷ vs) h = let e = greatest-cons 8 (map (λ v. key_bytes (scalar_key v)) vs) in let rest = eight-each vs h in omega arith
eight-each (Flag b ∷ vs) h = let e = greatest-cons 8 (map (λ v. key_bytes (scalar_key v)) vs) in let rest = eight-each vs h in omega arith
eight-each (Word w ∷ vs) h = absurd h

-- the bytes of other fields are 8
pub eight-bytes : (kinds : List FieldKind) (all : List PlacedRow) (f : ℕ) (missing : Option Scalar) → least_bytes (slice_get kinds f) ≡ 8 → T (list_all is_number_or_flag (option_to_list missing ++ flat_map (values_of f) all))
    → field_bytes kinds all f missing ≡ 8
eight-bytes kinds all f missing least others =
    let ns = map (λ v. key_bytes (scalar_key v)) (option_to_list missing ++ flat_map (values_of f) all) in
    ap (λ n. greatest_of (n ∷ ns)) least ∙ (let e = greatest-cons 8 ns in let few = eight-each (option_to_list missing ++ flat_map (values_of f) all) others in omega arith)
