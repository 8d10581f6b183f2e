-- Rows by the keys that they have, one after another.
use Rattle.std.specs.Prelude.{◌≡◌, refl, ℕ, zero, suc, ℤ, ◌<◌, ◌||◌, Bool, true, false, cond, T, List, [], ◌∷◌, ◌++◌, map, filter, flat_map, slice_get, Some, length, take, ◌+◌}
use Rattle.std.specs.List.{IsDistinct, list_any}
use Rattle.std.specs.Ordering.{int_eq}
use Rattle.std.proofs.Common.{sym, ◌∙◌, ap, subst, inl, inr, append_assoc}
use Rattle.std.proofs.Math.ListN.{set, get_or}
use Rattle.std.proofs.lemmas.Bool.{cases_Bool, false≢true, or_parts}
use Rattle.std.proofs.lemmas.Bool.Decides.{Decides-int_eq}
use Rattle.std.proofs.lemmas.Cmp.{int_eq_equiv}
use Rattle.list_laws.proofs.Booleans.{holds, and_left, and_right}
use Rattle.list_laws.proofs.Lists.{filter-append, flat_map-append, map-append, append-nil}
use Rattle.list_laws.proofs.Options.{none_some, some_same}
use Rattle.agg_model.specs.declared.key.Key.{Key}
use Rattle.agg_evaluation.specs.KeyOrder.{key_eq, has_key}
use Rattle.agg_evaluation.specs.Trees.{is_ascending}
use Rattle.agg_evaluation.proofs.KeyLists.{below-absent, key_eq-exact, key_eq-self}
use Rattle.agg_evaluation.proofs.UnionLaws.{has_key-append}
use Rattle.std.proofs.lemmas.Option.{slice_get-get_or}
use Rattle.bucket_places.specs.Places.{IsPlaceOf}
use Rattle.bucket_places.specs.declared.places.Place.{Place}
use Rattle.bucket_places.specs.declared.places.Place.TheVariants.{Found, Added}
use Rattle.growing_tree.specs.Grouped.{AreGroups, HasOwnKeys, rows_with, pairs_of}
use Rattle.growing_tree.proofs.Putting.{apart-at, first-absent, rest-distinct}
use Rattle.growing_tree.proofs.Steps.{take-more}

or-none : (b : Bool) → (b || false) ≡ b
or-none true = refl
or-none false = refl

or-yes : (b : Bool) → (b || true) ≡ true
or-yes true = refl
or-yes false = refl

-- one more row with a key
with-more : (q k : Key) (pairs : List (Key × ℕ)) (row : ℕ) → rows_with q (pairs ++ (k, row) ∷ []) ≡ rows_with q pairs ++ cond (key_eq q k) (row ∷ []) []
with-more q k pairs row = ap (map (λ (p : Key × ℕ). p.1)) (filter-append (λ (p : Key × ℕ). key_eq q p.0) pairs ((k, row) ∷ [])) ∙ map-append (λ (p : Key × ℕ). p.1) _ _ ∙ ap (λ xs. rows_with q pairs ++ xs) (one (key_eq q k))
  where
    one : (b : Bool) → map (λ (p : Key × ℕ). p.1) (cond b ((k, row) ∷ []) []) ≡ cond b (row ∷ []) []
    one true = refl
    one false = refl

module _ (key_of : ℤ → Key) (own : HasOwnKeys key_of) where
  pub apart-keys : (c d : ℤ) → int_eq c d ≡ false → key_eq (key_of c) (key_of d) ≡ false
  apart-keys c d other = elim (cases_Bool (key_eq (key_of c) (key_of d))) [
    | inl same ↦ absurd (false≢true (sym other ∙ (Decides-int_eq c d).1 (own c d (key_eq-exact (key_of c) (key_of d) (holds _ same)))))
    | inr f ↦ f
  ]

  module _ (pairs : List (Key × ℕ)) (code : ℤ) (row : ℕ) where
    abbrev rows_of : ℤ → List ℕ
    rows_of c = rows_with (key_of c) pairs

    abbrev more_of : ℤ → List ℕ
    more_of c = rows_with (key_of c) (pairs ++ (key_of code, row) ∷ [])

    same-more : more_of code ≡ rows_of code ++ row ∷ []
    same-more = with-more (key_of code) (key_of code) pairs row ∙ ap (λ b. rows_of code ++ cond b (row ∷ []) []) (key_eq-self (key_of code))

    other-more : (c : ℤ) → int_eq c code ≡ false → rows_of c ≡ more_of c
    other-more c other = sym (with-more (key_of c) (key_of code) pairs row ∙ ap (λ b. rows_of c ++ cond b (row ∷ []) []) (apart-keys c code other) ∙ append-nil (rows_of c))

    int-sym : (c d : ℤ) → int_eq c d ≡ false → int_eq d c ≡ false
    int-sym c d e = int_eq_equiv.symm d c ∙ e

    others-more : (cs : List ℤ) → list_any (int_eq code) cs ≡ false → map rows_of cs ≡ map more_of cs
    others-more [] e = refl
    others-more (c ∷ cs) e =
        let parts = or_parts (int_eq code c) (list_any (int_eq code) cs) e in
        λ i. other-more c (int-sym code c parts.0) i ∷ others-more cs parts.1 i

    -- the code stood at this place
    set-more : (cs : List ℤ) (i : ℕ) → IsDistinct int_eq cs → slice_get cs i ≡ Some code → set (map rows_of cs) i (rows_of code ++ row ∷ []) ≡ map more_of cs
    set-more [] zero h e = none_some code e
    set-more [] (suc i) h e = none_some code e
    set-more (c ∷ cs) zero h e =
        let same : code ≡ c = sym (some_same c code e) in
        λ i. (sym same-more ∙ ap more_of same) i ∷ others-more cs (ap (λ k. list_any (int_eq k) cs) same ∙ first-absent c cs h) i
    set-more (c ∷ cs) (suc i) h e = λ j. other-more c (int-sym code c (apart-at code c cs i h e)) j ∷ set-more cs i (rest-distinct c cs h) e j

    has-more : (q : Key) → has_key q (map (λ (p : Key × ℕ). p.0) (pairs ++ (key_of code, row) ∷ [])) ≡ (has_key q (map (λ (p : Key × ℕ). p.0) pairs) || key_eq q (key_of code))
    has-more q = ap (has_key q) (map-append (λ (p : Key × ℕ). p.0) pairs ((key_of code, row) ∷ [])) ∙ has_key-append q (map (λ (p : Key × ℕ). p.0) pairs) (key_of code ∷ []) ∙ ap (λ b. has_key q (map (λ (p : Key × ℕ). p.0) pairs) || b) (or-none (key_eq q (key_of code)))

    has-code : (q : Key) (cs : List ℤ) (i : ℕ) → slice_get cs i ≡ Some code → key_eq q (key_of code) ≡ true → has_key q (map key_of cs) ≡ true
    has-code q [] zero e f = none_some code e
    has-code q [] (suc i) e f = none_some code e
    has-code q (c ∷ cs) zero e f = ap (λ k. key_eq q (key_of k) || has_key q (map key_of cs)) (some_same c code e) ∙ ap (λ b. b || has_key q (map key_of cs)) f
    has-code q (c ∷ cs) (suc i) e f = ap (λ b. key_eq q (key_of c) || b) (has-code q cs i e f) ∙ or-yes (key_eq q (key_of c))

    -- a row with a code that stood there
    pub found-more : (cs : List ℤ) (groups : List (List ℕ)) (i : ℕ) (old : List ℕ) → IsDistinct int_eq cs → slice_get cs i ≡ Some code → slice_get groups i ≡ Some old → AreGroups key_of pairs cs groups
        → AreGroups key_of (pairs ++ (key_of code, row) ∷ []) cs (set groups i (old ++ row ∷ []))
    found-more cs groups i old h e f was = record {
      groups_are = (λ j. set (was.groups_are j) i (old_is j ++ row ∷ [])) ∙ set-more cs i h e;
      there = λ q. elim (cases_Bool (key_eq q (key_of code))) [
        | inl same ↦ has-code q cs i e same ∙ sym (has-more q ∙ ap (λ b. has_key q (map (λ (p : Key × ℕ). p.0) pairs) || b) same ∙ or-yes (has_key q (map (λ (p : Key × ℕ). p.0) pairs)))
        | inr other ↦ was.there q ∙ sym (has-more q ∙ ap (λ b. has_key q (map (λ (p : Key × ℕ). p.0) pairs) || b) other ∙ or-none (has_key q (map (λ (p : Key × ℕ). p.0) pairs)))
      ];
    }
      where
        get-map : (cs : List ℤ) (i : ℕ) → slice_get cs i ≡ Some code → slice_get (map rows_of cs) i ≡ Some (rows_of code)
        get-map [] zero e = none_some code e
        get-map [] (suc i) e = none_some code e
        get-map (c ∷ cs) zero e = ap (λ k. Some (rows_of k)) (some_same c code e)
        get-map (c ∷ cs) (suc i) e = get-map cs i e

        old_is : old ≡ rows_of code
        old_is = some_same old (rows_of code) (sym f ∙ ap (λ gs. slice_get gs i) was.groups_are ∙ get-map cs i e)

    none-with : (ps : List (Key × ℕ)) → has_key (key_of code) (map (λ (p : Key × ℕ). p.0) ps) ≡ false → rows_with (key_of code) ps ≡ []
    none-with [] e = refl
    none-with (p ∷ ps) e =
        let parts = or_parts (key_eq (key_of code) p.0) (has_key (key_of code) (map (λ (p : Key × ℕ). p.0) ps)) e in
        ap (λ b. map (λ (p : Key × ℕ). p.1) (cond b (p ∷ filter (λ (p : Key × ℕ). key_eq (key_of code) p.0) ps) (filter (λ (p : Key × ℕ). key_eq (key_of code) p.0) ps))) parts.0 ∙ none-with ps parts.1

    no-code : (cs : List ℤ) → list_any (int_eq code) cs ≡ false → has_key (key_of code) (map key_of cs) ≡ false
    no-code [] e = refl
    no-code (c ∷ cs) e = let parts = or_parts (int_eq code c) (list_any (int_eq code) cs) e in λ i. apart-keys code c parts.0 i || no-code cs parts.1 i

    -- a row with a code that is new
    pub added-more : (cs : List ℤ) (groups : List (List ℕ)) → list_any (int_eq code) cs ≡ false → AreGroups key_of pairs cs groups
        → AreGroups key_of (pairs ++ (key_of code, row) ∷ []) (cs ++ code ∷ []) (groups ++ (row ∷ []) ∷ [])
    added-more cs groups absent was = record {
      groups_are =
          (λ j. (was.groups_are ∙ others-more cs absent) j ++ (row ∷ []) ∷ [])
          ∙ ap (λ xs. map more_of cs ++ xs ∷ []) (sym (same-more ∙ ap (λ xs. xs ++ row ∷ []) (none-with pairs (sym (was.there (key_of code)) ∙ no-code cs absent))))
          ∙ sym (map-append more_of cs (code ∷ []));
      there = λ q.
          ap (has_key q) (map-append key_of cs (code ∷ [])) ∙ has_key-append q (map key_of cs) (key_of code ∷ [])
          ∙ (λ j. was.there q j || or-none (key_eq q (key_of code)) j) ∙ sym (has-more q);
    }

-- the rows that have a key, where each row has it at most once
once : (q : Key) (row : ℕ) (ks : List Key) → T (is_ascending ks) → rows_with q (map (λ k. (k, row)) ks) ≡ cond (has_key q ks) (row ∷ []) []
once q row [] up = refl
once q row (k ∷ ks) up =
    elim (key_eq q k) as (λ b. key_eq q k ≡ b → map (λ (p : Key × ℕ). p.1) (cond b ((k, row) ∷ filter (λ (p : Key × ℕ). key_eq q p.0) (map (λ k. (k, row)) ks)) (filter (λ (p : Key × ℕ). key_eq q p.0) (map (λ k. (k, row)) ks))) ≡ cond (b || has_key q ks) (row ∷ []) []) [
      | true ↦ λ e. ap (λ xs. row ∷ xs) (once q row ks (and_right _ _ up) ∙ ap (λ b. cond b (row ∷ []) []) (ap (λ j. has_key j ks) (key_eq-exact q k (holds _ e)) ∙ below-absent k ks (and_left _ _ up)))
      | false ↦ λ e. once q row ks (and_right _ _ up)
    ] refl

pub rows-with-key : (keys_of : ℕ → List Key) → ((n : ℕ) → T (is_ascending (keys_of n))) → (q : Key) (rows : List ℕ) → rows_with q (pairs_of keys_of rows) ≡ filter (λ n. has_key q (keys_of n)) rows
rows-with-key keys_of up q [] = refl
rows-with-key keys_of up q (row ∷ rows) =
    ap (map (λ (p : Key × ℕ). p.1)) (filter-append (λ (p : Key × ℕ). key_eq q p.0) (map (λ k. (k, row)) (keys_of row)) (pairs_of keys_of rows))
    ∙ map-append (λ (p : Key × ℕ). p.1) _ _
    ∙ (λ i. once q row (keys_of row) (up row) i ++ rows-with-key keys_of up q rows i)
    ∙ one (has_key q (keys_of row)) (filter (λ n. has_key q (keys_of n)) rows)
  where
    one : (b : Bool) (ns : List ℕ) → cond b (row ∷ []) [] ++ ns ≡ cond b (row ∷ ns) ns
    one true ns = refl
    one false ns = refl

pub keys-of-pairs : (keys_of : ℕ → List Key) (rows : List ℕ) → map (λ (p : Key × ℕ). p.0) (pairs_of keys_of rows) ≡ flat_map keys_of rows
keys-of-pairs keys_of [] = refl
keys-of-pairs keys_of (row ∷ rows) = map-append (λ (p : Key × ℕ). p.0) (map (λ k. (k, row)) (keys_of row)) (pairs_of keys_of rows) ∙ (λ i. firsts (keys_of row) i ++ keys-of-pairs keys_of rows i)
  where
    firsts : (ks : List Key) → map (λ (p : Key × ℕ). p.0) (map (λ k. (k, row)) ks) ≡ ks
    firsts [] = refl
    firsts (k ∷ ks) = ap (λ xs. k ∷ xs) (firsts ks)

-- the place of a code that was looked for, among groups
module _ (key_of : ℤ → Key) (own : HasOwnKeys key_of) (pairs : List (Key × ℕ)) (code x : ℤ) (row : ℕ) (same : x ≡ code) (cs more : List ℤ) (groups : List (List ℕ)) (p : Place) (at : IsPlaceOf x cs more p) (distinct : IsDistinct int_eq more) (was : AreGroups key_of pairs cs groups) where
  pub group-found : (place : ℕ) (old : List ℕ) → p ≡ Found place → place < length groups → old ≡ get_or groups place old → AreGroups key_of (pairs ++ (key_of code, row) ∷ []) more (set groups place (old ++ row ∷ []))
  group-found place old e l f =
      let found = subst (IsPlaceOf x cs more) e at in
      subst (λ ks. AreGroups key_of (pairs ++ (key_of code, row) ∷ []) ks (set groups place (old ++ row ∷ []))) (sym found.same)
      (found-more key_of own pairs code row cs groups place old (subst (IsDistinct int_eq) found.same distinct) (found.here ∙ ap Some same) (slice_get-get_or groups place old l ∙ ap Some (sym f)) was)

  pub group-added : (place : ℕ) → p ≡ Added place → AreGroups key_of (pairs ++ (key_of code, row) ∷ []) more (groups ++ (row ∷ []) ∷ [])
  group-added place e =
      let at_end = subst (IsPlaceOf x cs more) e at in
      subst (λ ks. AreGroups key_of (pairs ++ (key_of code, row) ∷ []) ks (groups ++ (row ∷ []) ∷ [])) (sym (at_end.more ∙ ap (λ k. cs ++ k ∷ []) same))
      (added-more key_of own pairs code row cs groups (ap (λ k. list_any (int_eq k) cs) (sym same) ∙ at_end.absent) was)

-- one more code of a row
pub pairs-more : (key_of : ℤ → Key) (pairs : List (Key × ℕ)) (codes : List ℤ) (i : ℕ) (x : ℤ) (row : ℕ) → slice_get codes i ≡ Some x
    → (pairs ++ map (λ k. (k, row)) (map key_of (take i codes))) ++ (key_of x, row) ∷ [] ≡ pairs ++ map (λ k. (k, row)) (map key_of (take (i + 1) codes))
pairs-more key_of pairs codes i x row e =
    append_assoc pairs (map (λ k. (k, row)) (map key_of (take i codes))) ((key_of x, row) ∷ [])
    ∙ ap (λ ps. pairs ++ ps) (sym (ap (λ cs. map (λ k. (k, row)) (map key_of cs)) (take-more codes i x e)
    ∙ ap (map (λ k. (k, row))) (map-append key_of (take i codes) (x ∷ [])) ∙ map-append (λ k. (k, row)) (map key_of (take i codes)) (key_of x ∷ [])))

-- one more row
pub rows-more : (keys_of : ℕ → List Key) (rows : List ℕ) (i : ℕ) (row : ℕ) → slice_get rows i ≡ Some row
    → pairs_of keys_of (take i rows) ++ map (λ k. (k, row)) (keys_of row) ≡ pairs_of keys_of (take (i + 1) rows)
rows-more keys_of rows i row e =
    sym (ap (pairs_of keys_of) (take-more rows i row e) ∙ flat_map-append (λ row. map (λ k. (k, row)) (keys_of row)) (take i rows) (row ∷ [])
    ∙ ap (λ ps. pairs_of keys_of (take i rows) ++ ps) (append-nil (map (λ k. (k, row)) (keys_of row))))
