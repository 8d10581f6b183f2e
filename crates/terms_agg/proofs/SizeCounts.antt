-- Counters that are the numbers of the rows with each word come to the node of these rows.
use Rattle.std.proofs.Common.{◌≡◌, refl, ℕ, ◌<◌, zero, suc, Bool, true, false, T, cond, List, [], ◌∷◌, length, map, filter, flat_map, get_or, Some, slice_get, inl, inr, sym, ◌∙◌, ap, subst, arith}
use Rattle.std.specs.Prelude.{◌&&◌, ◌||◌}
use Rattle.std.specs.List.{list_all}
use Rattle.std.specs.List.Sorted.{IsStrictlySortedBy}
use Rattle.std.specs.declared.cmp.Ordering.{Ordering}
use Rattle.std.specs.Ordering.{is_lt}
use Rattle.std.proofs.Math.Bool.{Bool-set}
use Rattle.std.proofs.Math.Logic.{∥∥₁_elim}
use Rattle.std.proofs.lemmas.Bool.{and_parts}
use Rattle.agg_model.specs.FieldKinds.{is_of_kind}
use Rattle.agg_model.specs.Options.{terms_kind}
use Rattle.agg_model.specs.ValueKeys.{scalar_key}
use Rattle.agg_model.specs.declared.aggregation.Agg.{Agg}
use Rattle.agg_model.specs.declared.key.Key.{Key}
use Rattle.agg_model.specs.declared.key.Key.TheVariants.{Word}
use Rattle.agg_model.specs.declared.mapping.FieldKind.TheVariants.{Keyword}
use Rattle.agg_model.specs.declared.row.Scalar.{Scalar}
use Rattle.agg_model.specs.declared.row.Scalar.TheVariants as scalar
use Rattle.agg_evaluation.specs.KeyOrder.{key_eq, has_key}
use Rattle.agg_evaluation.specs.Keys.{distinct_keys}
use Rattle.agg_evaluation.specs.Rows.{PlacedRow, row_of, values_of}
use Rattle.agg_evaluation.specs.Shard.{collected_node}
use Rattle.agg_evaluation.specs.Trees.{is_ascending}
use Rattle.agg_evaluation.proofs.KeyLists.{is_below, key_eq-self, key_eq-exact, same_keys, ascending-distinct_keys, ascending-filter, has_key-distinct_keys}
use Rattle.agg_evaluation.proofs.UnionLaws.{has_key-append}
use Rattle.list_laws.proofs.Booleans.{both, holds}
use Rattle.shard_columns.specs.Built.{IsShard}
use Rattle.shard_columns.specs.Columns.{Columns}
use Rattle.shard_columns.specs.Dictionary.{words_of}
use Rattle.shard_columns.specs.Kinds.{AreOfKind}
use Rattle.shard_columns.specs.Values.{Words}
use Rattle.shard_columns.proofs.Dictionaries.{words_of-has, words_of-strict}
use Rattle.shard_columns.proofs.Givens.{documents_given}
use Rattle.terms_agg.specs.Counts.{AreSizes, IsPlainTerms, counted, counted_node, keys_in_row, rows_with, word_key}
use Rattle.terms_agg.proofs.Counting.{Strict, IsBefore, is_above_zero, word_cmp}
use Rattle.terms_agg.proofs.WholeCounts.{node-is, one-keys}
use Rattle.terms_agg.proofs.Words.{In, contains-in}

-- ---- the words of a dictionary as keys ascend
before-below : (w : List ℕ) (ws : Words) → IsBefore w ws → T (is_below (Word w) (map Word ws))
before-below w [] h = tt
before-below w (v ∷ vs) h = both _ _ (subst (λ (r : Ordering). T (is_lt r)) (sym (word_cmp w v ∙ h.0)) tt) (before-below w vs h.1)

words-ascend : (ws : Words) → Strict ws → T (is_ascending (map Word ws))
unfolding IsStrictlySortedBy
words-ascend [] h = tt
words-ascend (w ∷ ws) h = both _ _ (before-below w ws h.0) (words-ascend ws h.1)

-- ---- counters that are given by their words
counted-given : (g : Key → ℕ) (ws : Words) (cs : List ℕ) → length cs ≡ length ws → ((n : ℕ) → n < length ws → get_or cs n 0 ≡ g (word_key ws n))
    → counted ws cs ≡ map (λ k. (k, g k)) (filter (λ k. is_above_zero (g k)) (map Word ws))
counted-given g [] cs long given = refl
counted-given g (w ∷ ws) [] long given = absurd (omega (arith, long))
counted-given g (w ∷ ws) (zero ∷ cs) long given =
    let none : zero ≡ g (Word w) = given 0 (omega arith) in
    counted-given g ws cs (omega (arith, long)) (λ n below. given (suc n) (omega (arith, below)))
    ∙ ap (λ (m : ℕ). map (λ k. (k, g k)) (cond (is_above_zero m) (Word w ∷ filter (λ k. is_above_zero (g k)) (map Word ws)) (filter (λ k. is_above_zero (g k)) (map Word ws)))) none
counted-given g (w ∷ ws) (suc c ∷ cs) long given =
    let here : suc c ≡ g (Word w) = given 0 (omega arith) in
    let rest = counted-given g ws cs (omega (arith, long)) (λ n below. given (suc n) (omega (arith, below))) in
    (λ i. (Word w, here i) ∷ rest i)
    ∙ ap (λ (m : ℕ). map (λ k. (k, g k)) (cond (is_above_zero m) (Word w ∷ filter (λ k. is_above_zero (g k)) (map Word ws)) (filter (λ k. is_above_zero (g k)) (map Word ws)))) here

and_false : (b : Bool) → (b && false) ≡ false
and_false true = refl
and_false false = refl

or_true : (b : Bool) → (b || true) ≡ true
or_true true = refl
or_true false = refl

-- ---- a key of a filtered list
has-filter : (q : Key) (p : Key → Bool) (ks : List Key) → has_key q (filter p ks) ≡ (has_key q ks && p q)
has-filter q p [] = refl
has-filter q p (k ∷ ks) = by (has-filter q p ks) (key_eq q k) refl (p k) refl
  where
    by : has_key q (filter p ks) ≡ (has_key q ks && p q) → (b : Bool) → key_eq q k ≡ b → (c : Bool) → p k ≡ c
        → has_key q (cond (p k) (k ∷ filter p ks) (filter p ks)) ≡ ((key_eq q k || has_key q ks) && p q)
    by rest true same true pass =
        let there : p q ≡ true = ap p (key_eq-exact q k (holds _ same)) ∙ pass in
        (λ i. has_key q (cond (pass i) (k ∷ filter p ks) (filter p ks))) ∙ ((λ i. same i || has_key q (filter p ks)) ∙ sym (λ i. (same i || has_key q ks) && there i))
    by rest true same false pass =
        let there : p q ≡ false = ap p (key_eq-exact q k (holds _ same)) ∙ pass in
        (λ i. has_key q (cond (pass i) (k ∷ filter p ks) (filter p ks))) ∙ (rest ∙ ((λ i. has_key q ks && there i) ∙ (and_false (has_key q ks) ∙ sym (λ i. (same i || has_key q ks) && there i))))
    by rest false other true pass =
        (λ i. has_key q (cond (pass i) (k ∷ filter p ks) (filter p ks))) ∙ ((λ i. other i || has_key q (filter p ks)) ∙ (rest ∙ sym (λ i. (other i || has_key q ks) && p q)))
    by rest false other false pass =
        (λ i. has_key q (cond (pass i) (k ∷ filter p ks) (filter p ks))) ∙ (rest ∙ sym (λ i. (other i || has_key q ks) && p q))

-- ---- a key of some row
in-rows : (q : Key) (field : ℕ) (rows : List PlacedRow) → has_key q (flat_map (keys_in_row field) rows) ≡ is_above_zero (rows_with field rows q)
in-rows q field [] = refl
in-rows q field (row ∷ rows) = has_key-append q (keys_in_row field row) (flat_map (keys_in_row field) rows) ∙ by (in-rows q field rows) (has_key q (keys_in_row field row))
  where
    by : has_key q (flat_map (keys_in_row field) rows) ≡ is_above_zero (rows_with field rows q) → (b : Bool) → (b || has_key q (flat_map (keys_in_row field) rows)) ≡ is_above_zero (length (cond b (row ∷ filter (λ r. has_key q (keys_in_row field r)) rows) (filter (λ r. has_key q (keys_in_row field r)) rows)))
    by rest true = refl
    by rest false = rest

-- ---- the words of a row are in the dictionary
find-word : (q : Key) (vs : List Scalar) → list_all (is_of_kind Keyword) vs ≡ true → has_key q (map scalar_key vs) ≡ true → (w : List ℕ) × ((q ≡ Word w) × In (scalar.Word w) vs)
find-word q [] all has = absurd (cc has)
find-word q (scalar.Whole n ∷ vs) all has = absurd (cc (and_parts false (list_all (is_of_kind Keyword) vs) all).0)
find-word q (scalar.Flag b ∷ vs) all has = absurd (cc (and_parts false (list_all (is_of_kind Keyword) vs) all).0)
find-word q (scalar.Word w ∷ vs) all has = by (find-word q vs (and_parts true (list_all (is_of_kind Keyword) vs) all).1) (key_eq q (Word w)) refl
  where
    by : (has_key q (map scalar_key vs) ≡ true → (v : List ℕ) × ((q ≡ Word v) × In (scalar.Word v) vs)) → (b : Bool) → key_eq q (Word w) ≡ b
        → (v : List ℕ) × ((q ≡ Word v) × In (scalar.Word v) (scalar.Word w ∷ vs))
    by rest true same = (w, (key_eq-exact q (Word w) (holds _ same), inl refl))
    by rest false other =
        let later = rest ((λ i. sym other i || has_key q (map scalar_key vs)) ∙ has) in
        (later.0, (later.1.0, inr later.1.1))

has-at : (w : List ℕ) (ws : Words) (n : ℕ) → n < length ws → get_or ws n w ≡ w → has_key (Word w) (map Word ws) ≡ true
has-at w [] n below is = absurd (omega (arith, below))
has-at w (v ∷ vs) zero below is = (λ i. key_eq (Word w) (Word (is i)) || has_key (Word w) (map Word vs)) ∙ ap (λ (b : Bool). b || has_key (Word w) (map Word vs)) (key_eq-self (Word w))
has-at w (v ∷ vs) (suc n) below is = ap (λ (b : Bool). key_eq (Word w) (Word v) || b) (has-at w vs n (omega (arith, below)) is) ∙ or_true (key_eq (Word w) (Word v))

of-keyword : (shard : Columns) → IsShard shard → (field : ℕ) → slice_get shard.kinds field ≡ Some Keyword → AreOfKind Keyword field shard.rows
of-keyword shard built field keyword n =
    ∥∥₁_elim built (Bool-set _ _) (λ m. ∥∥₁_elim m.1 (Bool-set _ _) (λ of.
    let b = of.1 in
    let given = documents_given m.0 of.0 b.few b.light b.fit in
    subst (λ (s : Columns). list_all (is_of_kind Keyword) (values_of field (row_of s.rows n)) ≡ true) (sym b.columns_are)
    (given.kinds field Keyword (subst (λ (s : Columns). slice_get s.kinds field ≡ Some Keyword) b.columns_are keyword) n)))

module _ (shard : Columns) (built : IsShard shard) (field : ℕ) (keyword : slice_get shard.kinds field ≡ Some Keyword) where
  abbrev words : Words
  words = words_of field shard.rows

  row-among : (q : Key) (n : ℕ) → has_key q (keys_in_row field (row_of shard.rows n)) ≡ true → has_key q (map Word words) ≡ true
  row-among q n has =
      let vs = values_of field (row_of shard.rows n) in
      let found = find-word q vs (of-keyword shard built field keyword n) (sym (has_key-distinct_keys q (map scalar_key vs)) ∙ has) in
      let place = words_of-has field shard.rows n found.0 (contains-in vs (scalar.Word found.0) found.1.1) in
      ap (λ (k : Key). has_key k (map Word words)) found.1.0 ∙ has-at found.0 words place.0 place.1 place.2

  -- the rows of these numbers that have the key
  abbrev having : Key → List ℕ → List PlacedRow
  having q ns = filter (λ row. has_key q (keys_in_row field row)) (map (row_of shard.rows) ns)

  among : (q : Key) (ns : List ℕ) → is_above_zero (length (having q ns)) ≡ true → has_key q (map Word words) ≡ true
  among q [] above = absurd (cc above)
  among q (n ∷ ns) above = by (among q ns) (has_key q (keys_in_row field (row_of shard.rows n))) refl
    where
      by : (is_above_zero (length (having q ns)) ≡ true → has_key q (map Word words) ≡ true) → (b : Bool) → has_key q (keys_in_row field (row_of shard.rows n)) ≡ b → has_key q (map Word words) ≡ true
      by rest true has = row-among q n has
      by rest false not = rest ((λ i. is_above_zero (length (cond (sym not i) (row_of shard.rows n ∷ having q ns) (having q ns)))) ∙ above)

  module _ (roots : List PlacedRow) (a : Agg) (plain : IsPlainTerms field a) (ns : List ℕ) where
    abbrev rows : List PlacedRow
    rows = map (row_of shard.rows) ns

    abbrev size : Key → ℕ
    size = rows_with field rows

    abbrev counted_keys : List Key
    counted_keys = filter (λ k. is_above_zero (size k)) (map Word words)

    same : (q : Key) → has_key q counted_keys ≡ has_key q (distinct_keys (flat_map (keys_in_row field) rows))
    same q = has-filter q (λ k. is_above_zero (size k)) (map Word words) ∙ by (is_above_zero (size q)) refl ∙ sym (has_key-distinct_keys q (flat_map (keys_in_row field) rows) ∙ in-rows q field rows)
      where
        by : (b : Bool) → is_above_zero (size q) ≡ b → (has_key q (map Word words) && is_above_zero (size q)) ≡ is_above_zero (size q)
        by true above = ap (λ (b : Bool). b && is_above_zero (size q)) (among q ns above)
        by false none = (λ i. has_key q (map Word words) && none i) ∙ (and_false (has_key q (map Word words)) ∙ sym none)

    keys-are : counted_keys ≡ distinct_keys (flat_map (keys_in_row field) rows)
    keys-are = same_keys counted_keys (distinct_keys (flat_map (keys_in_row field) rows))
        (ascending-filter (λ k. is_above_zero (size k)) (map Word words) (words-ascend words (words_of-strict field shard.rows)))
        (ascending-distinct_keys (flat_map (keys_in_row field) rows)) same

    -- counters of so many rows each give the node of the rows
    pub of-sizes : (counters : List ℕ) → length counters ≡ length words → AreSizes field words rows counters → counted_node (counted words counters) ≡ collected_node false shard.rows roots a rows
    of-sizes counters long sizes =
        let kind = terms_kind plain.options in
        ap counted_node (counted-given size words counters long sizes
        ∙ (ap (map (λ k. (k, size k))) keys-are
        ∙ sym (λ i. map (λ k. (k, length (filter (λ row. has_key k (one-keys shard.rows roots field a plain row i)) rows))) (distinct_keys (flat_map (λ row. one-keys shard.rows roots field a plain row i) rows)))))
        ∙ sym (node-is shard.rows roots field a plain rows)
