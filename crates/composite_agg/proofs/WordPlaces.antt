-- A row whose one value is a word, told by the word's place in the dictionary of the field.
use Rattle.std.proofs.Common.{◌≡◌, refl, ℕ, ◌<◌, zero, suc, true, List, [], ◌∷◌, ◌++◌, length, get_or, map, Option, Some, None, sym, ◌∙◌, ap, arith, inl, inr}
use Rattle.std.specs.Prelude.{flat_map}
use Rattle.std.specs.List.{slice_get}
use Rattle.std.specs.Option.{option_map_or}
use Rattle.std.specs.Cmp.{nat_cmp_is}
use Rattle.std.specs.Cmp.Lexicographic.{slice_cmp}
use Rattle.std.specs.List.Sorted.{IsStrictlySortedBy}
use Rattle.std.specs.Ordering.{nat_cmp, ordering_reverse}
use Rattle.std.specs.declared.cmp.Ordering.TheVariants.{Less, Equal, Greater}
use Rattle.std.proofs.lemmas.Bool.{cases_order, false≢true, and_parts}
use Rattle.std.proofs.lemmas.Cmp.{nat_list_cmp_total, tied_itself}
use Rattle.std.proofs.lemmas.Map.Keys.{Less-from_sorted}
use Rattle.agg_model.specs.declared.aggregation.Spacing.TheVariants.{Numbers}
use Rattle.agg_model.specs.declared.aggregation.CompositeSource.{CompositeSource}
use Rattle.agg_model.specs.declared.key.Key.TheVariants as key
use Rattle.agg_model.specs.declared.row.Scalar.{Scalar}
use Rattle.agg_model.specs.declared.row.Scalar.TheVariants.{Whole, Word, Flag}
use Rattle.agg_model.specs.ValueKeys.{scalar_key}
use Rattle.agg_evaluation.specs.DocumentFits.{follows, ascend, ascend_from}
use Rattle.agg_evaluation.specs.KeyOrder.{directed}
use Rattle.agg_evaluation.specs.Keys.{distinct_keys, interval_key, or_null, source_keys}
use Rattle.agg_evaluation.specs.Rows.{PlacedRow, row_of, values_of}
use Rattle.shard_columns.specs.Built.{IsShard}
use Rattle.shard_columns.specs.Columns.{Columns}
use Rattle.shard_columns.specs.Dictionary.{words_of}
use Rattle.shard_columns.specs.Lent.{word_at}
use Rattle.shard_columns.specs.Values.{Words, words_in}
use Rattle.shard_columns.proofs.Dictionaries.{words_of-strict}
use Rattle.composite_agg.specs.OnlyParts.{IsOnlyPart, IsOnlyWord}
use Rattle.composite_agg.proofs.LaterKeys.{word-word}
use Rattle.histogram_agg.proofs.Rows.{values_ascend}
use Rattle.composite_agg.proofs.ValueParts.{source-is}

-- what stands at a place
get-is : {A : Type 0} (xs : List A) (k : ℕ) (x d : A) → slice_get xs k ≡ Some x → (k < length xs) × (get_or xs k d ≡ x)
get-is [] k x d is = absurd (cc is)
get-is (y ∷ ys) zero x d is = (omega arith, (let same : y ≡ x = cc is in same))
get-is (y ∷ ys) (suc k) x d is = let more = get-is ys k x d is in (omega (arith, more.0), more.1)

-- a list of one
pub one-item : (os : List ℕ) → length os ≡ 1 → os ≡ get_or os 0 0 ∷ []
one-item [] e = absurd (omega (arith, e))
one-item (o ∷ []) e = refl
one-item (o ∷ p ∷ os) e = absurd (omega (arith, e))

-- a word at an earlier place is less
earlier : (ws : Words) → IsStrictlySortedBy (slice_cmp nat_cmp) ws → (k o : ℕ) (v w : List ℕ) → slice_get ws k ≡ Some v → slice_get ws o ≡ Some w → k < o → slice_cmp nat_cmp v w ≡ Less
earlier ws strict k o v w v_at w_at before =
    let first = get-is ws k v [] v_at in
    let second = get-is ws o w [] w_at in
    (λ i. slice_cmp nat_cmp (sym first.1 i) (sym second.1 i)) ∙ Less-from_sorted (slice_cmp nat_cmp) ws k o [] strict before second.0

-- places compare as their words do
pub places-order : (field : ℕ) (rows : List PlacedRow) (k o : ℕ) (v w : List ℕ) → slice_get (words_of field rows) k ≡ Some v → slice_get (words_of field rows) o ≡ Some w → nat_cmp k o ≡ slice_cmp nat_cmp v w
places-order field rows k o v w v_at w_at =
    let ws = words_of field rows in
    let strict = words_of-strict field rows in
    elim (cases_order k o) [
      | inl same ↦ (let alike : Some v ≡ Some w = sym v_at ∙ (ap (slice_get ws) same ∙ w_at) in
          let equal : v ≡ w = cc alike in
          sym (nat_cmp_is k o Equal same) ∙ (sym (tied_itself nat_list_cmp_total v) ∙ ap (slice_cmp nat_cmp v) equal))
      | inr differ ↦ elim differ [
        | inl below ↦ sym (nat_cmp_is k o Less below) ∙ sym (earlier ws strict k o v w v_at w_at below)
        | inr above ↦ sym (nat_cmp_is k o Greater above) ∙ sym (nat_list_cmp_total.antisymm v w ∙ ap ordering_reverse (earlier ws strict o k w v w_at v_at above))
      ]
    ]

-- no words behind a value that is none
behind-whole : (n : _) (vs : List Scalar) → ascend_from (Whole n) vs ≡ true → words_in vs ≡ []
behind-whole n [] up = refl
behind-whole n (Whole m ∷ vs) up = behind-whole m vs (and_parts (follows (Whole n) (Whole m)) (ascend_from (Whole m) vs) up).1
behind-whole n (Word w ∷ vs) up = absurd (false≢true up)
behind-whole n (Flag b ∷ vs) up = absurd (false≢true up)

behind-flag : (b : _) (vs : List Scalar) → ascend_from (Flag b) vs ≡ true → words_in vs ≡ []
behind-flag b [] up = refl
behind-flag b (Whole m ∷ vs) up = absurd (false≢true up)
behind-flag b (Word w ∷ vs) up = absurd (false≢true up)
behind-flag b (Flag c ∷ vs) up = behind-flag c vs (and_parts (follows (Flag b) (Flag c)) (ascend_from (Flag c) vs) up).1

behind-word : (v : List ℕ) (vs : List Scalar) → ascend_from (Word v) vs ≡ true → words_in vs ≡ [] → vs ≡ []
behind-word v [] up none = refl
behind-word v (Whole m ∷ vs) up none = absurd (false≢true up)
behind-word v (Word w ∷ vs) up none = absurd (cc none)
behind-word v (Flag b ∷ vs) up none = absurd (false≢true up)

-- values among which one is a word are that word
one-word : (vs : List Scalar) → ascend vs ≡ true → (w : List ℕ) → words_in vs ≡ w ∷ [] → vs ≡ Word w ∷ []
one-word [] up w is = absurd (cc is)
one-word (Whole n ∷ vs) up w is = absurd (let none : w ∷ [] ≡ [] = sym is ∙ behind-whole n vs up in cc none)
one-word (Flag b ∷ vs) up w is = absurd (let none : w ∷ [] ≡ [] = sym is ∙ behind-flag b vs up in cc none)
one-word (Word v ∷ vs) up w is =
    let same : v ≡ w = cc is in
    let none : words_in vs ≡ [] = cc is in
    (λ i. Word (same i) ∷ behind-word v vs up none i)

-- the one word of a row is its one part
only-part : (row : PlacedRow) (s : CompositeSource) (w : List ℕ) → s.interval ≡ None → values_of s.field row ≡ Word w ∷ [] → source_keys row s ≡ key.Word w ∷ []
only-part row s w none is =
    source-is row s
    ∙ ap (λ (vs : List Scalar). or_null s.missing_bucket (distinct_keys (flat_map (λ v. option_map_or (λ interval. interval_key (Numbers interval 0) v) s.interval (scalar_key v ∷ [])) vs))) is
    ∙ ap (λ (o : Option ℕ). or_null s.missing_bucket (distinct_keys (option_map_or (λ interval. interval_key (Numbers interval 0) (Word w)) o (scalar_key (Word w) ∷ []) ++ []))) none

-- a row that has one place in the dictionary
pub only-word : (shard : Columns) → IsShard shard → (n : ℕ) (s : CompositeSource) (o : ℕ) (os : List ℕ) → s.interval ≡ None → os ≡ o ∷ []
    → map (word_at (words_of s.field shard.rows)) os ≡ words_in (values_of s.field (row_of shard.rows n))
    → o < length (words_of s.field shard.rows)
    → IsOnlyWord (words_of s.field shard.rows) o (source_keys (row_of shard.rows n) s)
only-word shard built n s o os none only exact known =
    let ws = words_of s.field shard.rows in
    let words = sym exact ∙ ap (map (word_at ws)) only in
    let values = one-word (values_of s.field (row_of shard.rows n)) (values_ascend shard built s.field n) (word_at ws o) words in
    record { word = word_at ws o; only = only-part (row_of shard.rows n) s (word_at ws o) none values; there = at ws o known }
  where
    at : (ws : Words) (k : ℕ) → k < length ws → slice_get ws k ≡ Some (word_at ws k)
    at [] k below = absurd (omega (arith, below))
    at (v ∷ vs) zero below = refl
    at (v ∷ vs) (suc k) below = at vs k (omega (arith, below))

-- a word stands to the one word of a row as their places do
pub part-by-place : (field : ℕ) (rows : List PlacedRow) (s : CompositeSource) (w : List ℕ) (k o : ℕ) (parts : List _) → slice_get (words_of field rows) k ≡ Some w
    → IsOnlyWord (words_of field rows) o parts → IsOnlyPart s (key.Word w) parts (directed s.descending (nat_cmp k o))
part-by-place field rows s w k o parts at only =
    record { part = key.Word only.word; only = only.only; order = ap (directed s.descending) (places-order field rows k o w only.word at only.there ∙ sym (word-word w only.word)) }
