-- An index over no code, and over one more; codes that differ.
use Rattle.std.specs.Prelude.{◌≡◌, refl, ◌||◌, ◌+◌, ℕ, ℤ, pos, zero, suc, ◌<◌, true, false, cond, List, [], ◌∷◌, ◌++◌, length, Option, Some, None, slice_get}
use Rattle.std.specs.BTreeMap.{BTreeMap, Updates, get}
use Rattle.std.specs.List.{AllByRecursion, IsDistinct, list_any, position_from, slice_index_or}
use Rattle.std.specs.Map.{lookup}
use Rattle.std.specs.Ordering.{int_cmp, int_eq}
use Rattle.std.specs.Result.{OnErr, OnOk, is_err}
use Rattle.std.proofs.Common.{sym, ◌∙◌, ap, subst, arith, inl, inr, Result, Ok, Err}
use Rattle.std.proofs.Math.ListN.{set, take}
use Rattle.std.proofs.lemmas.Bool.{cases_Bool, false≢true}
use Rattle.std.proofs.lemmas.Bool.Decides.{Decides-int_eq}
use Rattle.std.proofs.lemmas.Cmp.{int_eq_equiv}
use Rattle.std.proofs.lemmas.Int.{ints}
use Rattle.std.proofs.lemmas.List.{get_or-set_same, get_or-set_other, length-set}
use Rattle.std.proofs.lemmas.List.Folds.{list_any-append}
use Rattle.std.proofs.lemmas.Map.Keys.{IsDistinct-push}
use Rattle.std.proofs.lemmas.Option.{none-some}
use Rattle.bucket_places.specs.Places.{IsIndexed, IsOutside, Indexes, place_at}

-- of no code
pub nothing_indexed : (table : List ℕ) (others : BTreeMap ℤ ℕ) → ((n : ℕ) → n < length table → slice_index_or table n 0 ≡ 0) → others.entries ≡ [] → IsIndexed [] table others
nothing_indexed table others zeros empty = record {
  of_table = λ n l. subst (λ (k : ℕ). Indexes [] (pos n) (place_at k)) (sym (zeros n l)) refl;
  of_others = λ code out. subst (λ (o : Option ℕ). Indexes [] code o) (sym (ap (λ es. lookup (λ k. int_eq code k) es) empty)) refl;
}

-- a place before the end
get-before : (codes : List ℤ) (x code : ℤ) (place : ℕ) → slice_get codes place ≡ Some code → slice_get (codes ++ x ∷ []) place ≡ Some code
get-before [] x code zero e = absurd (none-some code e)
get-before [] x code (suc place) e = absurd (none-some code e)
get-before (c ∷ codes) x code zero e = e
get-before (c ∷ codes) x code (suc place) e = get-before codes x code place e

-- the place at the end
get-last : (codes : List ℤ) (x : ℤ) → slice_get (codes ++ x ∷ []) (length codes) ≡ Some x
get-last [] x = refl
get-last (c ∷ codes) x = get-last codes x

-- another code comes
indexes-more : (codes : List ℤ) (code x : ℤ) (o : Option ℕ) → int_eq code x ≡ false → Indexes codes code o → Indexes (codes ++ x ∷ []) code o
indexes-more codes code x (Some place) other h = get-before codes x code place h
indexes-more codes code x None other h = list_any-append (int_eq code) codes (x ∷ []) ∙ (λ i. h i || (other i || false))

-- none stands twice
pub still_distinct : (codes : List ℤ) (code : ℤ) → IsDistinct int_eq codes → list_any (int_eq code) codes ≡ false → IsDistinct int_eq (codes ++ code ∷ [])
still_distinct codes code distinct absent = IsDistinct-push int_eq_equiv codes code distinct absent

module _ (codes : List ℤ) (table : List ℕ) (others : BTreeMap ℤ ℕ) (was : IsIndexed codes table others) (code : ℤ) (absent : list_any (int_eq code) codes ≡ false) where
  -- what the index says of the code is its place
  says_last : (o : Option ℕ) (other : ℤ) → other ≡ code → o ≡ Some (length codes) → Indexes (codes ++ code ∷ []) other o
  says_last o other same e = subst (λ (p : Option ℕ). Indexes (codes ++ code ∷ []) other p) (sym e) (get-last codes code ∙ ap Some (sym same))

  -- a code of the table
  pub of_table_more : (n after : ℕ) → code ≡ pos n → n < length table → after ≡ suc (length codes) → IsIndexed (codes ++ code ∷ []) (set table n after) others
  of_table_more n after is below last = record {
    of_table = λ m l. let within : m < length table = omega (arith, l, length-set table n after) in
        elim (cases_Bool (int_eq (pos m) code)) [
          | inl same ↦
              let one : pos m ≡ code = (Decides-int_eq (pos m) code).0 same in
              let here : m ≡ n = let e = one ∙ is in omega (arith, ints) in
              says_last (place_at (slice_index_or (set table n after) m 0)) (pos m) one
              (ap (λ (k : ℕ). place_at (slice_index_or (set table n after) k 0)) here ∙ ap place_at (get_or-set_same table n after 0 below ∙ last))
          | inr other ↦
              let apart : m ≡ n → ⊥ = λ e. false≢true (sym other ∙ (Decides-int_eq (pos m) code).1 (ap pos e ∙ sym is)) in
              subst (λ (k : ℕ). Indexes (codes ++ code ∷ []) (pos m) (place_at k)) (sym (get_or-set_other table n m after 0 apart)) (indexes-more codes (pos m) code _ other (was.of_table m within))
        ];
    of_others = λ c out.
        let outside : IsOutside c (length table) = λ k l. out k (omega (arith, l, length-set table n after)) in
        elim (cases_Bool (int_eq c code)) [
          | inl same ↦ absurd (outside n below ((Decides-int_eq c code).0 same ∙ is))
          | inr other ↦ indexes-more codes c code _ other (was.of_others c outside)
        ];
  }

  -- another code
  pub of_others_more : (more : BTreeMap ℤ ℕ) → IsOutside code (length table) → Updates int_cmp others more code (Some (length codes)) → IsIndexed (codes ++ code ∷ []) table more
  of_others_more more outside updates = record {
    of_table = λ m l. elim (cases_Bool (int_eq (pos m) code)) [
      | inl same ↦ absurd (outside m l (sym ((Decides-int_eq (pos m) code).0 same)))
      | inr other ↦ indexes-more codes (pos m) code _ other (was.of_table m l)
    ];
    of_others = λ c out. elim (cases_Bool (int_eq c code)) [
      | inl same ↦
          let one : c ≡ code = (Decides-int_eq c code).0 same in
          says_last (get int_cmp more c) c one (updates.0 c ∙ ap (λ b. cond b (Some (length codes)) (get int_cmp others c)) (int_eq_equiv.symm code c ∙ same))
      | inr other ↦
          subst (λ (o : Option ℕ). Indexes (codes ++ code ∷ []) c o) (sym (updates.0 c ∙ ap (λ b. cond b (Some (length codes)) (get int_cmp others c)) (int_eq_equiv.symm code c ∙ other)))
          (indexes-more codes c code _ other (was.of_others c out))
    ];
  }

-- a map of the same entries
pub still_indexed : (codes : List ℤ) (table : List ℕ) {others : BTreeMap ℤ ℕ} → IsIndexed codes table others → (same : BTreeMap ℤ ℕ) → same.entries ≡ others.entries → IsIndexed codes table same
still_indexed codes table was same e = record {
  of_table = was.of_table;
  of_others = λ code outside. subst (λ (o : Option ℕ). Indexes codes code o) (sym (ap (λ es. lookup (λ k. int_eq code k) es) e)) (was.of_others code outside);
}

-- a map that has changed at a code and a place that are these
pub updates_at : (others more : BTreeMap ℤ ℕ) (place last : ℕ) {x code : ℤ} → x ≡ code → place ≡ last → Updates int_cmp others more x (Some place) → Updates int_cmp others more code (Some last)
updates_at others more place last {x} {code} same at h = subst (λ (k : ℕ). Updates int_cmp others more code (Some k)) at (subst (λ (z : ℤ). Updates int_cmp others more z (Some place)) same h)

-- a code that stands after one from which all differ
differs-later : (code : ℤ) (codes : List ℤ) (k : ℕ) (d : ℤ) → k < length codes → AllByRecursion (λ y. int_eq code y ≡ false) codes → int_eq (slice_index_or codes k d) code ≡ false
differs-later code [] k d l apart = absurd (omega (arith, l))
differs-later code (c ∷ codes) zero d l apart = int_eq_equiv.symm c code ∙ apart.0
differs-later code (c ∷ codes) (suc k) d l apart = differs-later code codes k d (omega (arith, l)) apart.1

-- of distinct codes, each stands nowhere before its place
pub absent-before : (codes : List ℤ) (k : ℕ) (d : ℤ) → IsDistinct int_eq codes → k < length codes → list_any (int_eq (slice_index_or codes k d)) (take k codes) ≡ false
unfolding IsDistinct
absent-before [] k d distinct l = absurd (omega (arith, l))
absent-before (c ∷ codes) zero d distinct l = refl
absent-before (c ∷ codes) (suc k) d distinct l =
    let within : k < length codes = omega (arith, l) in
    λ i. differs-later c codes k d within distinct.0 i || absent-before codes k d distinct.1 within i

-- what looking through codes from one of that number on has found
abbrev FoundFrom : ℕ → List ℤ → ℤ → Option ℕ → Type 0
FoundFrom from codes code (Some place) = (k : ℕ) × (place ≡ k + from) × (slice_get codes k ≡ Some code)
FoundFrom from codes code None = list_any (int_eq code) codes ≡ false

found-later : (from : ℕ) (c : ℤ) (codes : List ℤ) (code : ℤ) (o : Option ℕ) → int_eq code c ≡ false → FoundFrom (from + 1) codes code o → FoundFrom from (c ∷ codes) code o
found-later from c codes code (Some place) other h = (suc h.0, omega (arith, h.1), h.2)
found-later from c codes code None other h = λ i. other i || h i

found-from : (from : ℕ) (codes : List ℤ) (code : ℤ) → FoundFrom from codes code (position_from (λ known. int_eq known code) from codes)
found-from from [] code = refl
found-from from (c ∷ codes) code = elim (cases_Bool (int_eq c code)) [
  | inl same ↦ rw same (zero, omega arith, ap Some ((Decides-int_eq c code).0 same))
  | inr other ↦ rw other (found-later from c codes code _ (int_eq_equiv.symm code c ∙ other) (found-from (from + 1) codes code))
]

scanned-as : (codes : List ℤ) (code : ℤ) (o : Option ℕ) → FoundFrom 0 codes code o → Indexes codes code o
scanned-as codes code (Some place) h = subst (λ (k : ℕ). slice_get codes k ≡ Some code) (omega (arith, h.1)) h.2
scanned-as codes code None h = h

-- looking through codes from the front finds the place
pub scanned : (codes : List ℤ) (code : ℤ) → Indexes codes code (position_from (λ known. int_eq known code) 0 codes)
scanned codes code = scanned-as codes code _ (found-from 0 codes code)

-- what a result that is an error says, and what one that is none does
pub on_err : {T E P : Type 0} (r : Result T E) → P → OnErr r P
on_err (Ok _) h = tt
on_err (Err _) h = h

pub ok_given : {T E P : Type 0} (r : Result T E) → is_err r ≡ false → OnOk r P → P
ok_given (Ok _) ok h = h
ok_given (Err _) ok h = absurd (false≢true (sym ok))

pub err_given : {T E P : Type 0} (r : Result T E) → is_err r ≡ true → OnErr r P → P
err_given (Ok _) err h = absurd (false≢true err)
err_given (Err _) err h = h
