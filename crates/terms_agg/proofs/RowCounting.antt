-- The words of a row, as they are counted one after another: a row has each once, ascending.
use Rattle.std.proofs.Common.{◌≡◌, refl, ℕ, ◌+◌, ◌<◌, ◌≤◌, zero, suc, true, false, T, List, [], ◌∷◌, ◌++◌, length, map, take, get_or, sym, ◌∙◌, ap, subst, arith}
use Rattle.std.specs.Prelude.{◌||◌}
use Rattle.std.specs.Cmp.Lexicographic.{slice_cmp}
use Rattle.std.specs.declared.cmp.Ordering.{Ordering}
use Rattle.std.specs.declared.cmp.Ordering.TheVariants.{Less}
use Rattle.std.specs.Ordering.{nat_cmp, is_eq, is_lt, ordering_reverse}
use Rattle.std.proofs.lemmas.Bool.{and_parts}
use Rattle.agg_model.specs.declared.key.Key.{Key}
use Rattle.agg_model.specs.declared.key.Key.TheVariants.{Word}
use Rattle.agg_model.specs.declared.row.Scalar.TheVariants as scalar
use Rattle.agg_model.specs.ValueKeys.{scalar_key}
use Rattle.agg_evaluation.specs.DocumentFits.{ascend, ascend_from}
use Rattle.agg_evaluation.specs.KeyOrder.{key_cmp, has_key}
use Rattle.agg_evaluation.specs.Keys.{distinct_keys}
use Rattle.agg_evaluation.specs.Rows.{row_of, values_of}
use Rattle.agg_evaluation.specs.Trees.{is_ascending}
use Rattle.agg_evaluation.proofs.KeyCompare.{key_cmp_total}
use Rattle.agg_evaluation.proofs.KeyLists.{is_below, below-trans, distinct_keys-ascending}
use Rattle.list_laws.proofs.Booleans.{and_left, and_right, both}
use Rattle.list_laws.proofs.Lists.{map-map}
use Rattle.list_laws.proofs.Orders.{less_is, less_of}
use Rattle.shard_columns.specs.Built.{IsShard}
use Rattle.shard_columns.specs.Columns.{Columns}
use Rattle.shard_columns.specs.Dictionary.{words_of}
use Rattle.shard_columns.specs.Values.{Words}
use Rattle.terms_agg.specs.Counts.{word_key, keys_in_row}
use Rattle.terms_agg.proofs.Ascending.{values_ascend}
use Rattle.terms_agg.proofs.Counting.{word_cmp}

take-next : {A : Type 0} (f : ℕ → A) (os : List ℕ) (n : ℕ) → n < length os → take (suc n) (map f os) ≡ take n (map f os) ++ f (get_or os n 0) ∷ []
take-next f [] n below = absurd (omega (arith, below))
take-next f (o ∷ os) zero below = refl
take-next {A} f (o ∷ os) (suc n) below = ap (λ (xs : List A). f o ∷ xs) (take-next f os n (omega (arith, below)))

-- the first numbers and one more
pub take-more : {A : Type 0} (f : ℕ → A) (os : List ℕ) (n : ℕ) → n < length os → take (n + 1) (map f os) ≡ take n (map f os) ++ f (get_or os n 0) ∷ []
take-more f os n below =
    let next : n + 1 ≡ suc n = omega arith in
    ap (λ (m : ℕ). take m (map f os)) next ∙ take-next f os n below

-- all numbers
pub take-whole : {A : Type 0} (f : ℕ → A) (os : List ℕ) (n : ℕ) → length os ≤ n → take n (map f os) ≡ map f os
take-whole f [] zero above = refl
take-whole f [] (suc n) above = refl
take-whole f (o ∷ os) zero above = absurd (omega (arith, above))
take-whole {A} f (o ∷ os) (suc n) above = ap (λ (xs : List A). f o ∷ xs) (take-whole f os n (omega (arith, above)))

below-at : (k : Key) (f : ℕ → Key) (os : List ℕ) (n : ℕ) → T (is_below k (map f os)) → n < length os → key_cmp k (f (get_or os n 0)) ≡ Less
below-at k f [] n h below = absurd (omega (arith, below))
below-at k f (o ∷ os) zero h below = less_is _ (and_left _ _ h)
below-at k f (o ∷ os) (suc n) h below = below-at k f os n (and_right _ _ h) (omega (arith, below))

-- an ascending key is none of those before it
pub absent-before : (f : ℕ → Key) (os : List ℕ) (n : ℕ) → T (is_ascending (map f os)) → n < length os → has_key (f (get_or os n 0)) (take n (map f os)) ≡ false
absent-before f [] n h below = absurd (omega (arith, below))
absent-before f (o ∷ os) zero h below = refl
absent-before f (o ∷ os) (suc n) h below =
    let k = f (get_or os n 0) in
    ap (λ (r : Ordering). is_eq r || has_key k (take n (map f os)))
    (key_cmp_total.antisymm k (f o) ∙ ap ordering_reverse (below-at (f o) f os n (and_left _ _ h) (omega (arith, below))))
    ∙ absent-before f os n (and_right _ _ h) (omega (arith, below))

words-ascend : (w : List ℕ) (ws : Words) → ascend_from (scalar.Word w) (map scalar.Word ws) ≡ true → T (is_ascending (map Word (w ∷ ws)))
words-ascend w [] h = tt
words-ascend w (v ∷ vs) h =
    let parts = and_parts (is_lt (slice_cmp nat_cmp w v)) (ascend_from (scalar.Word v) (map scalar.Word vs)) h in
    let rest = words-ascend v vs parts.1 in
    let less : key_cmp (Word w) (Word v) ≡ Less = word_cmp w v ∙ less_of (slice_cmp nat_cmp w v) parts.0 in
    both _ _ (both _ _ (subst (λ (r : Ordering). T (is_lt r)) (sym less) tt) (below-trans (Word w) (Word v) (map Word vs) less (and_left _ _ rest))) rest

all-ascend : (ws : Words) → ascend (map scalar.Word ws) ≡ true → T (is_ascending (map Word ws))
all-ascend [] h = tt
all-ascend (w ∷ ws) h = words-ascend w ws h

-- the numbers of a row's words
module _ (shard : Columns) (built : IsShard shard) (field row : ℕ) (os : List ℕ)
    (same : map (λ o. scalar.Word (get_or (words_of field shard.rows) o [])) os ≡ values_of field (row_of shard.rows row)) where
  abbrev words : Words
  words = map (λ o. get_or (words_of field shard.rows) o []) os

  as-keys : map Word words ≡ map (word_key (words_of field shard.rows)) os
  as-keys = map-map Word (λ o. get_or (words_of field shard.rows) o []) os

  pub row-ascends : T (is_ascending (map (word_key (words_of field shard.rows)) os))
  row-ascends =
      let values : map scalar.Word words ≡ values_of field (row_of shard.rows row) = map-map scalar.Word (λ o. get_or (words_of field shard.rows) o []) os ∙ same in
      subst (λ (ks : List Key). T (is_ascending ks)) as-keys (all-ascend words (ap ascend values ∙ values_ascend shard built field row))

  -- stand for its keys
  pub row-keys : map (word_key (words_of field shard.rows)) os ≡ keys_in_row field (row_of shard.rows row)
  row-keys =
      let ks = map (word_key (words_of field shard.rows)) os in
      sym (distinct_keys-ascending ks row-ascends) ∙ ap distinct_keys (sym (map-map scalar_key (λ o. scalar.Word (get_or (words_of field shard.rows) o [])) os) ∙ ap (map scalar_key) same)
