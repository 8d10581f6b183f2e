-- The numbers of the rows of a context.
use Rattle.std.proofs.Common.{◌≡◌, ◌≢◌, refl, ℕ, ◌+◌, ◌-◌, ◌<◌, ◌≤◌, zero, suc, true, false, Bool, T, cond, eqb, eq-eqb, List, [], ◌∷◌, ◌++◌, length, get_or, set, take, map, filter, sym, ◌∙◌, ap, subst, arith, inl, inr, length-append, append_assoc}
use Rattle.std.specs.Prelude.{◌&&◌, ◌==◌}
use Rattle.std.specs.List.Sorted.{IsStrictlyIncreasing}
use Rattle.std.proofs.lemmas.List.{append-nil, length-set, get_or-set_same, get_or-set_other, get_or_append_left, get_or-append-add, length-take, take_more}
use Rattle.std.proofs.lemmas.Bool.{cases_lt}
use Rattle.std.proofs.Math.Facts.{eqb_yes}
use Rattle.std.proofs.Math.Seq.{get_or-append_seam}
use Rattle.agg_evaluation.specs.Rows.{PlacedRow, is_within, no_row, row_of}
use Rattle.shard_columns.specs.declared.layout.Entry.{Entry}
use Rattle.shard_columns.specs.Contexts.{AreNumbered}
use Rattle.shard_columns.specs.Layout.{context_of, numbers_at}

choose : (all : List PlacedRow) (b : Bool) (n : ℕ) (ns : List ℕ) → map (row_of all) (cond b (n ∷ ns) ns) ≡ cond b (row_of all n ∷ map (row_of all) ns) (map (row_of all) ns)
choose all true n ns = refl
choose all false n ns = refl

choose-both : (all : List PlacedRow) (p : ℕ → Bool) (n : ℕ) (ns : List ℕ) (b q : Bool) → p n ≡ q →
    map (row_of all) (filter p (cond b (n ∷ ns) ns)) ≡ cond (b && q) (row_of all n ∷ map (row_of all) (filter p ns)) (map (row_of all) (filter p ns))
choose-both all p n ns true q is = ap (λ (c : Bool). map (row_of all) (cond c (n ∷ filter p ns) (filter p ns))) is ∙ choose all q n (filter p ns)
choose-both all p n ns false q is = refl

module _ (all : List PlacedRow) (context : ℕ) where
  here : (front rs : List PlacedRow) (r : PlacedRow) (n : ℕ) → all ≡ front ++ r ∷ rs → length front ≡ n → row_of all n ≡ r
  here front rs r n is at = ap (λ (xs : List PlacedRow). get_or xs n no_row) is ∙ (ap (λ (k : ℕ). get_or (front ++ r ∷ rs) k no_row) (sym at) ∙ get_or-append_seam front r rs no_row)

  -- the rows of a context among rows that are numbered from n
  pub rows-numbered : (n : ℕ) (front rows : List PlacedRow) (es : List Entry) → all ≡ front ++ rows → length front ≡ n → map (λ r. r.context) rows ≡ map (λ e. context_of e.origin) es →
      map (row_of all) (numbers_at context n es) ≡ filter (λ r. r.context == context) rows
  unfolding numbers_at
  rows-numbered n front [] [] is at same = refl
  rows-numbered n front (r ∷ rs) [] is at same = absurd (cc same)
  rows-numbered n front [] (e ∷ es) is at same = absurd (cc same)
  rows-numbered n front (r ∷ rs) (e ∷ es) is at same =
      let first : r.context ≡ context_of e.origin = cc same in
      let rest : map (λ (r : PlacedRow). r.context) rs ≡ map (λ (e : Entry). context_of e.origin) es = cc same in
      let after : length (front ++ r ∷ []) ≡ n + 1 = omega (arith, length-append front (r ∷ []), at) in
      let below = rows-numbered (n + 1) (front ++ r ∷ []) rs es (is ∙ sym (append_assoc front (r ∷ []) rs)) after rest in
      choose all (eqb (context_of e.origin) context) n (numbers_at context (n + 1) es)
      ∙ (λ i. cond (eqb (sym first i) context) (here front rs r n is at i ∷ below i) (below i))

  -- those among them that lie within a row
  pub rows-beneath : (outer : PlacedRow) (p : ℕ → Bool) (n : ℕ) (front rows : List PlacedRow) (es : List Entry) → ((j : ℕ) → j < length all → is_within (row_of all j) outer ≡ p j) →
      all ≡ front ++ rows → length front ≡ n → map (λ r. r.context) rows ≡ map (λ e. context_of e.origin) es →
      filter (λ r. (r.context == context) && is_within r outer) rows ≡ map (row_of all) (filter p (numbers_at context n es))
  unfolding numbers_at
  rows-beneath outer p n front [] [] within is at same = refl
  rows-beneath outer p n front (r ∷ rs) [] within is at same = absurd (cc same)
  rows-beneath outer p n front [] (e ∷ es) within is at same = absurd (cc same)
  rows-beneath outer p n front (r ∷ rs) (e ∷ es) within is at same =
      let first : r.context ≡ context_of e.origin = cc same in
      let rest : map (λ (r : PlacedRow). r.context) rs ≡ map (λ (e : Entry). context_of e.origin) es = cc same in
      let after : length (front ++ r ∷ []) ≡ n + 1 = omega (arith, length-append front (r ∷ []), at) in
      let below = rows-beneath outer p (n + 1) (front ++ r ∷ []) rs es within (is ∙ sym (append_assoc front (r ∷ []) rs)) after rest in
      let in_all : n < length all = omega (arith, ap length is, length-append front (r ∷ rs), at) in
      let tested : p n ≡ is_within r outer = sym (within n in_all) ∙ ap (λ (x : PlacedRow). is_within x outer) (here front rs r n is at) in
      sym (choose-both all p n (numbers_at context (n + 1) es) (eqb (context_of e.origin) context) (is_within r outer) tested
      ∙ (λ i. cond (eqb (sym first i) context && is_within r outer) (here front rs r n is at i ∷ sym below i) (sym below i)))

at-least : (context n : ℕ) (es : List Entry) (k : ℕ) → k < length (numbers_at context n es) → n ≤ get_or (numbers_at context n es) k 0
unfolding numbers_at
at-least context n [] k below = absurd (omega arith)
at-least context n (e ∷ es) k below = pick (eqb (context_of e.origin) context) k below (λ j at. at-least context (n + 1) es j at)
  where
    pick : (b : Bool) (k : ℕ) → k < length (cond b (n ∷ numbers_at context (n + 1) es) (numbers_at context (n + 1) es)) →
        ((j : ℕ) → j < length (numbers_at context (n + 1) es) → n + 1 ≤ get_or (numbers_at context (n + 1) es) j 0) → n ≤ get_or (cond b (n ∷ numbers_at context (n + 1) es) (numbers_at context (n + 1) es)) k 0
    pick true zero below rest = omega arith
    pick true (suc k) below rest = omega (arith, rest k (omega arith))
    pick false k below rest = omega (arith, rest k below)

pub numbers-rise : (context n : ℕ) (es : List Entry) → IsStrictlyIncreasing (numbers_at context n es)
unfolding numbers_at
numbers-rise context n [] k below = absurd (omega arith)
numbers-rise context n (e ∷ es) k below = pick (eqb (context_of e.origin) context) k below (numbers-rise context (n + 1) es) (λ j at. at-least context (n + 1) es j at)
  where
    pick : (b : Bool) (k : ℕ) → k + 1 < length (cond b (n ∷ numbers_at context (n + 1) es) (numbers_at context (n + 1) es)) → IsStrictlyIncreasing (numbers_at context (n + 1) es) →
        ((j : ℕ) → j < length (numbers_at context (n + 1) es) → n + 1 ≤ get_or (numbers_at context (n + 1) es) j 0) →
        get_or (cond b (n ∷ numbers_at context (n + 1) es) (numbers_at context (n + 1) es)) k 0 < get_or (cond b (n ∷ numbers_at context (n + 1) es) (numbers_at context (n + 1) es)) (k + 1) 0
    pick true zero below rise least = let low = least 0 (omega arith) in let e : 0 + 1 ≡ 1 = omega arith in subst (λ (j : ℕ). n < get_or (n ∷ numbers_at context (n + 1) es) j 0) (sym e) (omega (arith, low))
    pick true (suc k) below rise least =
        subst (λ (j : ℕ). get_or (numbers_at context (n + 1) es) k 0 < get_or (n ∷ numbers_at context (n + 1) es) j 0) (let e : suc (k + 1) ≡ suc k + 1 = omega arith in e) (rise k (omega arith))
    pick false k below rise least = rise k below

pub numbers-below : (context n : ℕ) (es : List Entry) (k d : ℕ) → k < length (numbers_at context n es) → get_or (numbers_at context n es) k d < n + length es
unfolding numbers_at
numbers-below context n [] k d below = absurd (omega arith)
numbers-below context n (e ∷ es) k d below = pick (eqb (context_of e.origin) context) k below (λ j at. numbers-below context (n + 1) es j d at)
  where
    pick : (b : Bool) (k : ℕ) → k < length (cond b (n ∷ numbers_at context (n + 1) es) (numbers_at context (n + 1) es)) →
        ((j : ℕ) → j < length (numbers_at context (n + 1) es) → get_or (numbers_at context (n + 1) es) j d < (n + 1) + length es) → get_or (cond b (n ∷ numbers_at context (n + 1) es) (numbers_at context (n + 1) es)) k d < n + suc (length es)
    pick true zero below rest = omega arith
    pick true (suc k) below rest = omega (arith, rest k (omega arith))
    pick false k below rest = omega (arith, rest k below)

pub numbers-few : (context n : ℕ) (es : List Entry) → length (numbers_at context n es) ≤ length es
unfolding numbers_at
numbers-few context n [] = omega arith
numbers-few context n (e ∷ es) = pick (eqb (context_of e.origin) context) (numbers-few context (n + 1) es)
  where
    pick : (b : Bool) → length (numbers_at context (n + 1) es) ≤ length es → length (cond b (n ∷ numbers_at context (n + 1) es) (numbers_at context (n + 1) es)) ≤ suc (length es)
    pick true few = omega arith
    pick false few = omega arith

numbers-push : (context n : ℕ) (es : List Entry) (e : Entry) → numbers_at context n (es ++ e ∷ []) ≡ numbers_at context n es ++ cond (eqb (context_of e.origin) context) ((n + length es) ∷ []) []
unfolding numbers_at
numbers-push context n [] e = ap (λ (k : ℕ). cond (eqb (context_of e.origin) context) (k ∷ []) []) (let at : n ≡ n + 0 = omega arith in at)
numbers-push context n (x ∷ xs) e =
    let at : (n + 1) + length xs ≡ n + suc (length xs) = omega arith in
    let more = numbers-push context (n + 1) xs e ∙ ap (λ (k : ℕ). numbers_at context (n + 1) xs ++ cond (eqb (context_of e.origin) context) (k ∷ []) []) at in
    ap (λ (ns : List ℕ). cond (eqb (context_of x.origin) context) (n ∷ ns) ns) more
    ∙ split (eqb (context_of x.origin) context) n (numbers_at context (n + 1) xs) (cond (eqb (context_of e.origin) context) ((n + suc (length xs)) ∷ []) [])
  where
    split : (b : Bool) (n : ℕ) (xs ys : List ℕ) → cond b (n ∷ (xs ++ ys)) (xs ++ ys) ≡ cond b (n ∷ xs) xs ++ ys
    split true n xs ys = refl
    split false n xs ys = refl

numbers-more : (rows : List Entry) (context n : ℕ) (d : Entry) → n < length rows → numbers_at context 0 (take (n + 1) rows) ≡ numbers_at context 0 (take n rows) ++ cond (eqb (context_of (get_or rows n d).origin) context) (n ∷ []) []
numbers-more rows context n d below =
    let at : 0 + length (take n rows) ≡ n = omega (arith, length-take n rows) in
    ap (numbers_at context 0) (take_more rows n d below) ∙ (numbers-push context 0 (take n rows) (get_or rows n d)
    ∙ ap (λ (k : ℕ). numbers_at context 0 (take n rows) ++ cond (eqb (context_of (get_or rows n d).origin) context) (k ∷ []) []) at)

empty-read : (n : ℕ) → get_or {A = List ℕ} ([] ∷ []) n [] ≡ []
empty-read zero = refl
empty-read (suc n) = refl

pub AreNumbered-empty : AreNumbered 0 [] []
unfolding numbers_at
AreNumbered-empty = record { sizes = refl; numbers_are = λ context. refl }

none-numbered : (c : ℕ) → [] ≡ numbers_at c 0 []
unfolding numbers_at
none-numbered c = refl

pub AreNumbered-push : (n : ℕ) (numbers : List (List ℕ)) → AreNumbered n [] numbers → AreNumbered (n + 1) [] (numbers ++ [] ∷ [])
AreNumbered-push n numbers are = record {
  sizes = omega (arith, length-append {A = List ℕ} numbers ([] ∷ []), are.sizes);
  numbers_are = λ c. elim (cases_lt c (length numbers)) [
    | inl front ↦ get_or_append_left numbers ([] ∷ []) [] c front ∙ are.numbers_are c
    | inr behind ↦ ap (λ (n : ℕ). get_or (numbers ++ [] ∷ []) n []) (let at : c ≡ length numbers + (c - length numbers) = omega arith in at) ∙ (get_or-append-add numbers ([] ∷ []) (c - length numbers) [] ∙ (empty-read (c - length numbers) ∙ none-numbered c))
  ];
}

set-same : (now : List (List ℕ)) (k c n : ℕ) (old new : List ℕ) → k < length now → get_or now c [] ≡ old → (b : Bool) → eqb k c ≡ b → new ≡ old ++ cond b (n ∷ []) [] → get_or (set now k (get_or now k [] ++ n ∷ [])) c [] ≡ new
set-same now k c n old new here was true e is =
    let same : k ≡ c = eqb_yes (subst T (sym e) tt) in
    ap (λ (g : ℕ). get_or (set now k (get_or now k [] ++ n ∷ [])) g []) (sym same)
    ∙ (get_or-set_same now k (get_or now k [] ++ n ∷ []) [] here ∙ (ap (λ (g : ℕ). get_or now g [] ++ n ∷ []) same ∙ (ap (λ (ns : List ℕ). ns ++ n ∷ []) was ∙ sym is)))
set-same now k c n old new here was false e is =
    let other : c ≢ k = λ (h : c ≡ k). absurd (cc (sym (eq-eqb k c (sym h)) ∙ e)) in
    get_or-set_other now k c (get_or now k [] ++ n ∷ []) [] other ∙ (was ∙ sym (is ∙ append-nil old))

-- the number of one more row is put behind those of its context
pub AreNumbered-more : (count : ℕ) (rows : List Entry) (n k : ℕ) (d : Entry) (now : List (List ℕ)) → n < length rows → k < count → k ≡ context_of (get_or rows n d).origin → AreNumbered count (take n rows) now →
    AreNumbered count (take (n + 1) rows) (set now k (get_or now k [] ++ n ∷ []))
AreNumbered-more count rows n k d now below in_range is are = record {
  sizes = length-set now k (get_or now k [] ++ n ∷ []) ∙ are.sizes;
  numbers_are = λ c. set-same now k c n (numbers_at c 0 (take n rows)) (numbers_at c 0 (take (n + 1) rows)) (omega (arith, are.sizes)) (are.numbers_are c) (eqb k c) refl
      (numbers-more rows c n d below ∙ ap (λ (x : ℕ). numbers_at c 0 (take n rows) ++ cond (eqb x c) (n ∷ []) []) (sym is));
}
