-- The dictionary of a field: the distinct words of its values, ascending.
use Rattle.std.proofs.Common.{◌≡◌, ◌≢◌, refl, ℕ, ◌+◌, ◌<◌, zero, suc, true, false, Bool, T, cond, eqb, List, [], ◌∷◌, ◌++◌, Some, length, get_or, map, find, flat_map, unwrap_or, option_map, sym, ◌∙◌, ap, subst, arith, Contains, inl, inr}
use Rattle.std.specs.Prelude.{◌||◌, sum}
use Rattle.std.specs.List.{list_all, AllByRecursion}
use Rattle.std.specs.declared.cmp.Ordering.{Ordering}
use Rattle.std.specs.declared.cmp.Ordering.TheVariants.{Less, Equal, Greater}
use Rattle.std.specs.Ordering.{nat_cmp, is_lt, match_ordering}
use Rattle.std.specs.Cmp.Lexicographic.{slice_cmp}
use Rattle.std.specs.List.Sorted.{IsStrictlySortedBy, IsStrictlyIncreasing}
use Rattle.std.proofs.lemmas.List.{append-nil, get_or_past}
use Rattle.std.proofs.lemmas.Bool.{cases_lt}
use Rattle.std.proofs.lemmas.List.Folds.{flat_map-map}
use Rattle.std.proofs.lemmas.List.Sums.{sum-map, sum_by-cons}
use Rattle.std.proofs.lemmas.Grind.{flat_map-append}
use Rattle.std.proofs.Math.Facts.{eqb_yes}
use Rattle.list_laws.proofs.Booleans.{same_truth, and_left, and_right, both}
use Rattle.agg_model.specs.declared.key.Key.{Key}
use Rattle.agg_model.specs.declared.key.Key.TheVariants as key
use Rattle.agg_model.specs.declared.row.Scalar.{Scalar}
use Rattle.agg_model.specs.declared.row.Scalar.TheVariants as scalar
use Rattle.agg_model.specs.declared.row.FieldValues.{FieldValues}
use Rattle.agg_evaluation.specs.KeyOrder.{key_cmp, key_eq, has_key}
use Rattle.agg_model.specs.ValueKeys.{scalar_key}
use Rattle.agg_evaluation.specs.Keys.{distinct_keys}
use Rattle.agg_evaluation.specs.Rows.{PlacedRow, values_of, row_of, no_row}
use Rattle.list_laws.specs.Sorting.{ascending, insert_once}
use Rattle.agg_evaluation.specs.Trees.{is_ascending}
use Rattle.agg_evaluation.proofs.Computing.{computing}
use Rattle.agg_evaluation.proofs.KeyLists.{key_eq-self, key_eq-exact, same_keys, ascending-distinct_keys, has_key-distinct_keys}
use Rattle.list_laws.proofs.Orders.{less_is}
use Rattle.shard_columns.specs.declared.layout.Laid.{Laid}
use Rattle.shard_columns.specs.Dictionary.{all_words, words_of}
use Rattle.agg_evaluation.specs.ColumnBytes.{word_bytes, dictionary_bytes}
use Rattle.shard_columns.specs.Layout.{values_of_laid}
use Rattle.shard_columns.specs.Values.{Words, word_in, words_in, words_for, AllAmong}
use Rattle.shard_columns.specs.Words.{SameWords, row_words}
use Rattle.shard_columns.proofs.Storing.{Contains-flat_map}
use Rattle.shard_columns.proofs.Searching.{rises-by, map-same}

word_cmp : (v w : List ℕ) → key_cmp (key.Word v) (key.Word w) ≡ slice_cmp nat_cmp v w
unfolding computing
word_cmp v w = refl

abbrev as_keys : Words → List Key
as_keys ws = map key.Word ws

map-insert : (w : List ℕ) (ws : Words) → insert_once key_cmp (key.Word w) (as_keys ws) ≡ as_keys (insert_once (slice_cmp nat_cmp) w ws)
map-insert w [] = refl
map-insert w (v ∷ vs) =
    ap (λ (o : Ordering). match_ordering o (key.Word w ∷ key.Word v ∷ as_keys vs) (key.Word v ∷ as_keys vs) (key.Word v ∷ insert_once key_cmp (key.Word w) (as_keys vs))) (word_cmp w v)
    ∙ (ap (λ (ks : List Key). match_ordering (slice_cmp nat_cmp w v) (key.Word w ∷ key.Word v ∷ as_keys vs) (key.Word v ∷ as_keys vs) (key.Word v ∷ ks)) (map-insert w vs)
    ∙ choice (slice_cmp nat_cmp w v))
  where
    choice : (o : Ordering) → match_ordering o (key.Word w ∷ key.Word v ∷ as_keys vs) (key.Word v ∷ as_keys vs) (key.Word v ∷ as_keys (insert_once (slice_cmp nat_cmp) w vs))
        ≡ as_keys (match_ordering o (w ∷ v ∷ vs) (v ∷ vs) (v ∷ insert_once (slice_cmp nat_cmp) w vs))
    choice Less = refl
    choice Equal = refl
    choice Greater = refl

distinct-words : (ws : Words) → distinct_keys (as_keys ws) ≡ as_keys (ascending (slice_cmp nat_cmp) ws)
distinct-words [] = refl
distinct-words (w ∷ ws) = ap (insert_once key_cmp (key.Word w)) (distinct-words ws) ∙ map-insert w (ascending (slice_cmp nat_cmp) ws)

below-keys : (d : List ℕ) (ds : Words) → AllByRecursion (λ y. slice_cmp nat_cmp d y ≡ Less) ds → T (list_all (λ later. is_lt (key_cmp (key.Word d) later)) (as_keys ds))
below-keys d [] h = tt
below-keys d (e ∷ es) h = both (is_lt (key_cmp (key.Word d) (key.Word e))) _ (subst (λ (o : Ordering). T (is_lt o)) (sym (word_cmp d e ∙ h.0)) tt) (below-keys d es h.1)

ascending-keys : (ds : Words) → IsStrictlySortedBy (slice_cmp nat_cmp) ds → T (is_ascending (as_keys ds))
unfolding IsStrictlySortedBy
ascending-keys [] h = tt
ascending-keys (d ∷ ds) h = both (list_all (λ later. is_lt (key_cmp (key.Word d) later)) (as_keys ds)) _ (below-keys d ds h.0) (ascending-keys ds h.1)

below-words : (d : List ℕ) (ds : Words) → T (list_all (λ later. is_lt (key_cmp (key.Word d) later)) (as_keys ds)) → AllByRecursion (λ y. slice_cmp nat_cmp d y ≡ Less) ds
below-words d [] h = tt
below-words d (e ∷ es) h = (sym (word_cmp d e) ∙ less_is (key_cmp (key.Word d) (key.Word e)) (and_left (is_lt (key_cmp (key.Word d) (key.Word e))) _ h), below-words d es (and_right (is_lt (key_cmp (key.Word d) (key.Word e))) _ h))

strict-words : (ds : Words) → T (is_ascending (as_keys ds)) → IsStrictlySortedBy (slice_cmp nat_cmp) ds
unfolding IsStrictlySortedBy
strict-words [] h = tt
strict-words (d ∷ ds) h = (below-words d ds (and_left (list_all (λ later. is_lt (key_cmp (key.Word d) later)) (as_keys ds)) _ h), strict-words ds (and_right (list_all (λ later. is_lt (key_cmp (key.Word d) later)) (as_keys ds)) _ h))

ascending-strict : (ws : Words) → IsStrictlySortedBy (slice_cmp nat_cmp) (ascending (slice_cmp nat_cmp) ws)
ascending-strict ws = strict-words (ascending (slice_cmp nat_cmp) ws) (subst (λ (ks : List Key). T (is_ascending ks)) (distinct-words ws) (ascending-distinct_keys (as_keys ws)))

-- each word of a dictionary is before those behind it
pub words_of-strict : (field : ℕ) (rows : List PlacedRow) → IsStrictlySortedBy (slice_cmp nat_cmp) (words_of field rows)
words_of-strict field rows = ascending-strict (all_words field rows)

-- a key that stands in a list of words is one of them
in-words : (q : Key) (ws : Words) → T (has_key q (as_keys ws)) → (w : List ℕ) × (Contains ws w × (q ≡ key.Word w))
in-words q [] h = absurd h
in-words q (v ∷ vs) h = here (in-words q vs) (key_eq q (key.Word v)) refl h
  where
    here : (T (has_key q (as_keys vs)) → (w : List ℕ) × (Contains vs w × (q ≡ key.Word w))) → (b : Bool) → key_eq q (key.Word v) ≡ b → T (b || has_key q (as_keys vs)) → (w : List ℕ) × (Contains (v ∷ vs) w × (q ≡ key.Word w))
    here more true e t = (v, ((0, omega arith, refl), key_eq-exact q (key.Word v) (subst T (sym e) tt)))
    here more false e t = let rest = more t in (rest.0, ((suc rest.1.0.0, (let within = rest.1.0.1 in omega (arith, within)), rest.1.0.2), rest.1.1))

has-word : (w : List ℕ) (ws : Words) (k : ℕ) → k < length ws → get_or ws k w ≡ w → T (has_key (key.Word w) (as_keys ws))
has-word w [] k below is = absurd (omega arith)
has-word w (v ∷ vs) zero below is = subst (λ (b : Bool). T (b || has_key (key.Word w) (as_keys vs))) (sym (ap (λ (u : List ℕ). key_eq (key.Word w) (key.Word u)) is ∙ key_eq-self (key.Word w))) tt
has-word w (v ∷ vs) (suc k) below is = later (key_eq (key.Word w) (key.Word v)) (has-word w vs k (omega arith) is)
  where
    later : (b : Bool) → T (has_key (key.Word w) (as_keys vs)) → T (b || has_key (key.Word w) (as_keys vs))
    later true h = tt
    later false h = h

has-among : (q : Key) (vs ws : Words) → AllAmong vs ws → T (has_key q (as_keys vs)) → T (has_key q (as_keys ws))
has-among q vs ws among h =
    let found = in-words q vs h in
    let there = among found.0 found.1.0 in
    subst (λ (k : Key). T (has_key k (as_keys ws))) (sym found.1.1) (has-word found.0 ws there.0 there.1 there.2)

words-back : (vs ws : Words) → as_keys vs ≡ as_keys ws → vs ≡ ws
words-back [] [] e = refl
words-back [] (w ∷ ws) e = absurd (cc e)
words-back (v ∷ vs) [] e = absurd (cc e)
words-back (v ∷ vs) (w ∷ ws) e =
    let first : v ≡ w = cc e in
    let rest : as_keys vs ≡ as_keys ws = cc e in
    (λ i. first i ∷ words-back vs ws rest i)

-- distinct words in ascending order are the dictionary
pub SameWords-ascending : (ws ds : Words) → SameWords ws ds → ds ≡ ascending (slice_cmp nat_cmp) ws
SameWords-ascending ws ds same =
    words-back ds (ascending (slice_cmp nat_cmp) ws)
    (same_keys (as_keys ds) (distinct_keys (as_keys ws)) (ascending-keys ds same.strict) (ascending-distinct_keys (as_keys ws))
    (λ q. same_truth (has_key q (as_keys ds)) (has_key q (as_keys ws)) (has-among q ds ws same.nothing_else) (has-among q ws ds same.kept) ∙ sym (has_key-distinct_keys q (as_keys ws)))
    ∙ distinct-words ws)

-- the words of a field in a row, where each field stands once

skip-field : (f : ℕ) (v : FieldValues) (b : Bool) → eqb v.field f ≡ b → v.field ≢ f → cond b (words_in v.values) [] ≡ []
skip-field f v true e other = absurd (other (eqb_yes (subst T (sym e) tt)))
skip-field f v false e other = refl

words_for-none : (f : ℕ) (vs : List FieldValues) (d : FieldValues) → ((k : ℕ) → k < length vs → (get_or vs k d).field ≢ f) → words_for f vs ≡ []
words_for-none f [] d other = refl
words_for-none f (v ∷ vs) d other =
    ap (λ (ws : Words). ws ++ words_for f vs) (skip-field f v (eqb v.field f) refl (other 0 (omega arith))) ∙ words_for-none f vs d (λ k below. other (suc k) (omega arith))

abbrev pub found_values : ℕ → List FieldValues → List Scalar
found_values f vs = unwrap_or (option_map (λ (v : FieldValues). v.values) (find (λ (v : FieldValues). eqb v.field f) vs)) []

rising-rest : (n : ℕ) (ns : List ℕ) → IsStrictlyIncreasing (n ∷ ns) → IsStrictlyIncreasing ns
rising-rest n ns rise k below = subst (λ (j : ℕ). get_or ns k 0 < get_or (n ∷ ns) j 0) (let e : suc k + 1 ≡ suc (k + 1) = omega arith in e) (rise (suc k) (omega arith))

words-once : (f : ℕ) (vs : List FieldValues) → IsStrictlyIncreasing (map (λ v. v.field) vs) → words_for f vs ≡ words_in (found_values f vs)
words-once f [] rise = refl
words-once f (v ∷ vs) rise = here (words-once f vs (rising-rest v.field (map (λ v. v.field) vs) rise)) (eqb v.field f) refl
  where
    here : words_for f vs ≡ words_in (found_values f vs) → (b : Bool) → eqb v.field f ≡ b → cond b (words_in v.values) [] ++ words_for f vs ≡ words_in (unwrap_or (option_map (λ (v : FieldValues). v.values) (cond b (Some v) (find (λ (v : FieldValues). eqb v.field f) vs))) [])
    here rest true e =
        let same : v.field ≡ f = eqb_yes (subst T (sym e) tt) in
        ap (λ (ws : Words). words_in v.values ++ ws) (words_for-none f vs v (λ k below again. let up = rises-by (λ (v : FieldValues). v.field) (v ∷ vs) rise 0 (suc k) v (omega arith) (omega arith) in absurd (omega (arith, up, same, again))))
        ∙ append-nil (words_in v.values)
    here rest false e = rest

flat-words : (g : PlacedRow → List Scalar) (rows : List PlacedRow) → flat_map (λ r. words_in (g r)) rows ≡ words_in (flat_map g rows)
flat-words g [] = refl
flat-words g (r ∷ rs) = ap (λ (ws : Words). words_in (g r) ++ ws) (flat-words g rs) ∙ sym (flat_map-append word_in (g r) (flat_map g rs))

rows-once : (f : ℕ) (rows : List PlacedRow) (d : PlacedRow) → ((n : ℕ) → n < length rows → IsStrictlyIncreasing (map (λ v. v.field) (get_or rows n d).values)) → flat_map (λ r. words_for f r.values) rows ≡ flat_map (λ r. words_in (values_of f r)) rows
rows-once f [] d rise = refl
rows-once f (r ∷ rs) d rise = (λ i. words-once f r.values (rise 0 (omega arith)) i ++ rows-once f rs d (λ n below. rise (suc n) (omega arith)) i)

-- what is collected from rows as they are laid out are the words of the rows
pub row_words-all : (f : ℕ) (laid : List Laid) (rows : List PlacedRow) (d : PlacedRow) → map (λ r. r.values) rows ≡ values_of_laid laid → ((n : ℕ) → n < length rows → IsStrictlyIncreasing (map (λ v. v.field) (get_or rows n d).values)) →
    flat_map (row_words f) laid ≡ all_words f rows
row_words-all f laid rows d same rise =
    sym (flat_map-map (words_for f) (λ (l : Laid). l.values.now) laid)
    ∙ (ap (flat_map (words_for f)) (sym same)
    ∙ (flat_map-map (words_for f) (λ (r : PlacedRow). r.values) rows
    ∙ (rows-once f rows d rise ∙ flat-words (values_of f) rows)))

-- what a row has is in the dictionary
pub words_of-has : (f : ℕ) (rows : List PlacedRow) (n : ℕ) (w : List ℕ) → Contains (values_of f (row_of rows n)) (scalar.Word w) → Contains (words_of f rows) w
words_of-has f rows n w has =
    let vs = values_of f (row_of rows n) in
    let here : Contains (words_in vs) w = Contains-flat_map word_in vs has.0 (scalar.Word w) w has.1 (subst (λ (v : Scalar). Contains (word_in v) w) (sym has.2) (0, omega arith, refl)) in
    let all : Contains (all_words f rows) w =
    elim (cases_lt n (length rows)) [
      | inl below ↦ subst (λ (ws : Words). Contains ws w) (flat-words (values_of f) rows) (Contains-flat_map (λ (r : PlacedRow). words_in (values_of f r)) rows n no_row w below here)
      | inr past ↦ (let none : Contains [] w = subst (λ (r : PlacedRow). Contains (words_in (values_of f r)) w) (get_or_past rows n no_row past) here in absurd (omega (arith, none.1)))
    ] in
    let kept : T (has_key (key.Word w) (as_keys (words_of f rows))) =
    subst (λ (ks : List Key). T (has_key (key.Word w) ks)) (distinct-words (all_words f rows)) (subst T (sym (has_key-distinct_keys (key.Word w) (as_keys (all_words f rows)))) (has-word w (all_words f rows) all.0 all.1 all.2)) in
    let found = in-words (key.Word w) (words_of f rows) kept in
    let same : w ≡ found.0 = cc (found.1.1) in
    subst (λ (u : List ℕ). Contains (words_of f rows) u) (sym same) found.1.0

-- the bytes of distinct words are those of distinct keys

abbrev value_cmp : Scalar → Scalar → Ordering
value_cmp v w = key_cmp (scalar_key v) (scalar_key w)

insert-values : (v : Scalar) (vs : List Scalar) → insert_once key_cmp (scalar_key v) (map scalar_key vs) ≡ map scalar_key (insert_once value_cmp v vs)
insert-values v [] = refl
insert-values v (u ∷ us) =
    ap (λ (ks : List Key). match_ordering (value_cmp v u) (scalar_key v ∷ scalar_key u ∷ map scalar_key us) (scalar_key u ∷ map scalar_key us) (scalar_key u ∷ ks)) (insert-values v us) ∙ choice (value_cmp v u)
  where
    choice : (o : Ordering) → match_ordering o (scalar_key v ∷ scalar_key u ∷ map scalar_key us) (scalar_key u ∷ map scalar_key us) (scalar_key u ∷ map scalar_key (insert_once value_cmp v us))
        ≡ map scalar_key (match_ordering o (v ∷ u ∷ us) (u ∷ us) (u ∷ insert_once value_cmp v us))
    choice Less = refl
    choice Equal = refl
    choice Greater = refl

distinct-values : (vs : List Scalar) → distinct_keys (map scalar_key vs) ≡ map scalar_key (ascending value_cmp vs)
distinct-values [] = refl
distinct-values (v ∷ vs) = ap (insert_once key_cmp (scalar_key v)) (distinct-values vs) ∙ insert-values v (ascending value_cmp vs)

insert-no_word : (v : Scalar) (vs : List Scalar) → word_in v ≡ [] → words_in (insert_once value_cmp v vs) ≡ words_in vs
insert-no_word v [] none = ap (λ (ws : Words). ws ++ []) none
insert-no_word v (u ∷ us) none = choice (insert-no_word v us none) (value_cmp v u)
  where
    choice : words_in (insert_once value_cmp v us) ≡ words_in us → (o : Ordering) → words_in (match_ordering o (v ∷ u ∷ us) (u ∷ us) (u ∷ insert_once value_cmp v us)) ≡ words_in (u ∷ us)
    choice rest Less = ap (λ (ws : Words). ws ++ words_in (u ∷ us)) none
    choice rest Equal = refl
    choice rest Greater = ap (λ (ws : Words). word_in u ++ ws) rest

past-whole : (w : List ℕ) (n : _) → value_cmp (scalar.Word w) (scalar.Whole n) ≡ Greater
unfolding computing
past-whole w n = refl

past-flag : (w : List ℕ) (b : Bool) → value_cmp (scalar.Word w) (scalar.Flag b) ≡ Greater
unfolding computing
past-flag w b = refl

insert-word : (w : List ℕ) (vs : List Scalar) → words_in (insert_once value_cmp (scalar.Word w) vs) ≡ insert_once (slice_cmp nat_cmp) w (words_in vs)
insert-word w [] = refl
insert-word w (scalar.Whole n ∷ us) =
    ap (λ (o : Ordering). words_in (match_ordering o (scalar.Word w ∷ scalar.Whole n ∷ us) (scalar.Whole n ∷ us) (scalar.Whole n ∷ insert_once value_cmp (scalar.Word w) us))) (past-whole w n) ∙ insert-word w us
insert-word w (scalar.Flag b ∷ us) =
    ap (λ (o : Ordering). words_in (match_ordering o (scalar.Word w ∷ scalar.Flag b ∷ us) (scalar.Flag b ∷ us) (scalar.Flag b ∷ insert_once value_cmp (scalar.Word w) us))) (past-flag w b) ∙ insert-word w us
insert-word w (scalar.Word u ∷ us) =
    ap (λ (o : Ordering). words_in (match_ordering o (scalar.Word w ∷ scalar.Word u ∷ us) (scalar.Word u ∷ us) (scalar.Word u ∷ insert_once value_cmp (scalar.Word w) us))) (word_cmp w u)
    ∙ choice (insert-word w us) (slice_cmp nat_cmp w u)
  where
    choice : words_in (insert_once value_cmp (scalar.Word w) us) ≡ insert_once (slice_cmp nat_cmp) w (words_in us) → (o : Ordering) → words_in (match_ordering o (scalar.Word w ∷ scalar.Word u ∷ us) (scalar.Word u ∷ us) (scalar.Word u ∷ insert_once value_cmp (scalar.Word w) us))
        ≡ match_ordering o (w ∷ u ∷ words_in us) (u ∷ words_in us) (u ∷ insert_once (slice_cmp nat_cmp) w (words_in us))
    choice rest Less = refl
    choice rest Equal = refl
    choice rest Greater = ap (λ (ws : Words). u ∷ ws) rest

words-ascending : (vs : List Scalar) → words_in (ascending value_cmp vs) ≡ ascending (slice_cmp nat_cmp) (words_in vs)
words-ascending [] = refl
words-ascending (scalar.Whole n ∷ vs) = insert-no_word (scalar.Whole n) (ascending value_cmp vs) refl ∙ words-ascending vs
words-ascending (scalar.Flag b ∷ vs) = insert-no_word (scalar.Flag b) (ascending value_cmp vs) refl ∙ words-ascending vs
words-ascending (scalar.Word w ∷ vs) = insert-word w (ascending value_cmp vs) ∙ ap (insert_once (slice_cmp nat_cmp) w) (words-ascending vs)

pub sum-cons : (n : ℕ) (ns : List ℕ) → sum (n ∷ ns) ≡ n + sum ns
sum-cons n ns =
    ap sum (sym (map-same (n ∷ ns))) ∙ (sum-map (λ (k : ℕ). k) (n ∷ ns)
    ∙ (sum_by-cons (λ (k : ℕ). k) n ns ∙ ap (λ (k : ℕ). n + k) (sym (sum-map (λ (k : ℕ). k) ns) ∙ ap sum (map-same ns))))

bytes-in : (vs : List Scalar) → sum (map word_bytes (map scalar_key vs)) ≡ sum (map length (words_in vs))
bytes-in [] = refl
bytes-in (scalar.Whole n ∷ vs) = bytes-in vs
bytes-in (scalar.Flag b ∷ vs) = bytes-in vs
bytes-in (scalar.Word w ∷ vs) = sum-cons (length w) (map word_bytes (map scalar_key vs)) ∙ (ap (λ (n : ℕ). length w + n) (bytes-in vs) ∙ sym (sum-cons (length w) (map length (words_in vs))))

pub dictionary_bytes-words : (field : ℕ) (rows : List PlacedRow) → dictionary_bytes rows field ≡ sum (map length (words_of field rows))
dictionary_bytes-words field rows =
    let vs = flat_map (values_of field) rows in
    ap (λ (ks : List Key). sum (map word_bytes ks)) (distinct-values vs) ∙ (bytes-in (ascending value_cmp vs) ∙ ap (λ (ws : Words). sum (map length ws)) (words-ascending vs))
