-- The row around a row, and all that enclose it.
use Rattle.std.proofs.Common.{◌≡◌, refl, ℕ, ◌+◌, ◌<◌, zero, suc, true, false, Bool, T, eqb, eq-eqb, List, [], ◌∷◌, ◌++◌, map, length, get_or, take, sym, ◌∙◌, ap, subst, arith, inl, inr, length-append, append_assoc}
use Rattle.std.specs.Prelude.{◌||◌, ◌%◌, ◌⊎◌, nat_le, nat_eq}
use Rattle.std.specs.List.{starts_with, zip}
use Rattle.std.proofs.lemmas.List.{append-nil, get_or-map, length-map, get_or-take, get_or_past, length-take, take-append-le, take_all}
use Rattle.std.proofs.lemmas.Bool.{cases_lt}
use Rattle.std.proofs.Math.Facts.{eqb_yes, leb_yes}
use Rattle.std.proofs.Math.Seq.{get_or-append_seam}
use Rattle.list_laws.proofs.Booleans.{or_left, or_right, and_left, and_right, both, same_truth}
use Rattle.agg_model.specs.declared.row.FieldValues.{FieldValues}
use Rattle.agg_evaluation.specs.Rows.{PlacedRow, is_within, no_row, row_of}
use Rattle.shard_columns.specs.declared.layout.Entry.{Entry}
use Rattle.shard_columns.specs.declared.layout.Origin.TheVariants.{Root, Nested}
use Rattle.shard_columns.specs.declared.shard.Shard.TheInside.{Inside}
use Rattle.shard_columns.specs.Columns.{Columns}
use Rattle.shard_columns.specs.Layout.{placed, row_at, place_at}
use Rattle.shard_columns.specs.Shard.{columns_of, placed_rows, IsSound}
use Rattle.shard_columns.proofs.Building.{zip-first}
use Rattle.shard_columns.proofs.Enclosing.{begins-self}
use Rattle.shard_columns.proofs.Reading.{vals, aligned, rows-are, in-range, enclosed-are}

placed-more : (ids : List (List ℕ)) (rows : List PlacedRow) (es : List (Entry × List FieldValues)) → (more : List PlacedRow) × (placed ids rows es ≡ rows ++ more)
unfolding placed
placed-more ids rows [] = ([], sym (append-nil rows))
placed-more ids rows (e ∷ es) =
    let r = row_at ids rows e.0 e.1 in
    let rest = placed-more ids (rows ++ r ∷ []) es in
    (r ∷ rest.0, rest.1 ∙ append_assoc rows (r ∷ []) rest.0)

-- a row is made of its entry and the rows before it
placed-at : (ids : List (List ℕ)) (rows : List PlacedRow) (es : List (Entry × List FieldValues)) (k : ℕ) (d : Entry × List FieldValues) → k < length es →
    get_or (placed ids rows es) (length rows + k) no_row ≡ row_at ids (take (length rows + k) (placed ids rows es)) (get_or es k d).0 (get_or es k d).1
unfolding placed
placed-at ids rows [] k d below = absurd (omega arith)
placed-at ids rows (e ∷ es) zero d below =
    let r = row_at ids rows e.0 e.1 in
    let rest = placed-more ids (rows ++ r ∷ []) es in
    let is : placed ids (rows ++ r ∷ []) es ≡ rows ++ r ∷ rest.0 = rest.1 ∙ append_assoc rows (r ∷ []) rest.0 in
    let at : length rows + 0 ≡ length rows = omega arith in
    let front : take (length rows + 0) (placed ids (rows ++ r ∷ []) es) ≡ rows =
    (λ i. take (at i) (is i)) ∙ (take-append-le (length rows) rows (r ∷ rest.0) (omega arith) ∙ take_all (length rows) rows (omega arith)) in
    (λ i. get_or (is i) (at i) no_row) ∙ (get_or-append_seam rows r rest.0 no_row ∙ ap (λ (rs : List PlacedRow). row_at ids rs e.0 e.1) (sym front))
placed-at ids rows (e ∷ es) (suc k) d below =
    let r = row_at ids rows e.0 e.1 in
    let at : length (rows ++ r ∷ []) + k ≡ length rows + suc k = omega (arith, length-append rows (r ∷ [])) in
    subst (λ (n : ℕ). get_or (placed ids (rows ++ r ∷ []) es) n no_row ≡ row_at ids (take n (placed ids (rows ++ r ∷ []) es)) (get_or es k d).0 (get_or es k d).1) at
    (placed-at ids (rows ++ r ∷ []) es k d (omega arith))

-- what a place at an odd depth begins with: what the place two levels up begins with, or all of it
nested-prefix : (q : List ℕ) (a b : ℕ) (x : List ℕ) → (length x + length q) % 2 ≡ 0 → T (starts_with nat_eq (q ++ a ∷ b ∷ []) x) → T (starts_with nat_eq q x) ⊎ (x ≡ q ++ a ∷ b ∷ [])
nested-prefix [] a b [] parity h = inl tt
nested-prefix (c ∷ q) a b [] parity h = inl tt
nested-prefix [] a b (y ∷ []) parity h = absurd (omega (arith, parity))
nested-prefix [] a b (y ∷ z ∷ []) parity h =
    let first : y ≡ a = eqb_yes (and_left (nat_eq y a) _ h) in
    let second : z ≡ b = eqb_yes (and_left (nat_eq z b) _ (and_right (nat_eq y a) _ h)) in
    inr (λ i. first i ∷ second i ∷ [])
nested-prefix [] a b (y ∷ z ∷ w ∷ ws) parity h = absurd (and_right (nat_eq z b) _ (and_right (nat_eq y a) _ h))
nested-prefix (c ∷ q) a b (y ∷ ys) parity h =
    let first : y ≡ c = eqb_yes (and_left (nat_eq y c) _ h) in
    elim (nested-prefix q a b ys (omega (arith, parity)) (and_right (nat_eq y c) _ h)) [
      | inl t ↦ inl (both (nat_eq y c) _ (and_left (nat_eq y c) _ h) t)
      | inr e ↦ inr (λ i. first i ∷ e i)
    ]

begins-extended : (q t x : List ℕ) → T (starts_with nat_eq q x) → T (starts_with nat_eq (q ++ t) x)
begins-extended [] [] [] h = tt
begins-extended [] (u ∷ us) [] h = tt
begins-extended (c ∷ q) t [] h = tt
begins-extended [] t (y ∷ ys) h = absurd h
begins-extended (c ∷ q) t (y ∷ ys) h = both (nat_eq y c) _ (and_left (nat_eq y c) _ h) (begins-extended q t ys (and_right (nat_eq y c) _ h))

root-prefix : (k : ℕ) (x : List ℕ) → length x % 2 ≡ 1 → T (starts_with nat_eq (k ∷ []) x) → x ≡ k ∷ []
root-prefix k [] parity h = absurd (omega (arith, parity))
root-prefix k (y ∷ []) parity h = ap (λ (z : ℕ). z ∷ []) (eqb_yes (and_left (nat_eq y k) _ h))
root-prefix k (y ∷ z ∷ zs) parity h = absurd (and_right (nat_eq y k) _ h)

or_cases : (a b : Bool) → T (a || b) → T a ⊎ T b
or_cases true b h = inl tt
or_cases false b h = inr h

T-same : (m n : ℕ) → m ≡ n → T (eqb m n)
T-same m n e = subst T (sym (eq-eqb m n e)) tt

module _ (s : Inside) (v : Columns) (view : columns_of s ≡ v) (sound : IsSound s) where
  place-is : (n : ℕ) (e : Entry) → n < length v.rows → e ≡ get_or s.rows n e → (row_of v.rows n).place ≡ place_at (take n v.rows) e.document e.origin
  place-is n e below is =
      let values = vals s in
      let pairs = zip s.rows values in
      let d : Entry × List FieldValues = (e, []) in
      let firsts : map (λ (p : Entry × List FieldValues). p.0) pairs ≡ s.rows = zip-first (λ (e : Entry). e) s.rows values (aligned s) ∙ map-itself s.rows in
      let n_pairs : n < length pairs = omega (arith, in-range s v view sound n below, ap length firsts, length-map pairs (λ (p : Entry × List FieldValues). p.0)) in
      let entry_is : (get_or pairs n d).0 ≡ e = sym (get_or-map (λ (p : Entry × List FieldValues). p.0) pairs n d e n_pairs) ∙ (ap (λ (es : List Entry). get_or es n e) firsts ∙ sym is) in
      let at = placed-at s.ids [] pairs n d n_pairs in
      let start : length {A = PlacedRow} [] + n ≡ n = omega arith in
      ap (λ (rs : List PlacedRow). (row_of rs n).place) (sym (rows-are s v view sound))
      ∙ (ap (λ (k : ℕ). (get_or (placed_rows s) k no_row).place) (sym start)
      ∙ (ap (λ (r : PlacedRow). r.place) at
      ∙ ((λ i. place_at (take (start i) (rows-are s v view sound i)) (entry_is i).document (entry_is i).origin))))
    where
      map-itself : (es : List Entry) → map (λ (e : Entry). e) es ≡ es
      map-itself [] = refl
      map-itself (e ∷ es) = ap (λ (xs : List Entry). e ∷ xs) (map-itself es)

  odd-at : (n : ℕ) → n < length v.rows → length (row_of v.rows n).place % 2 ≡ 1
  odd-at = subst (λ (rs : List PlacedRow). (n : ℕ) → n < length rs → length (row_of rs n).place % 2 ≡ 1) (rows-are s v view sound) sound.odd

  -- the entry of a nested row names the row around it
  pub around : (n : ℕ) (e : Entry) (p path number : ℕ) → n < length v.rows → e ≡ get_or s.rows n e → e.origin ≡ Nested p path number →
      (p < n) × ((row_of v.rows n).place ≡ (row_of v.rows p).place ++ path ∷ number ∷ [])
  around n e p path number below is origin =
      let place : (row_of v.rows n).place ≡ (row_of (take n v.rows) p).place ++ path ∷ number ∷ [] = place-is n e below is ∙ ap (place_at (take n v.rows) e.document) origin in
      elim (cases_lt p n) [
        | inl before ↦ (before, place ∙ ap (λ (r : PlacedRow). r.place ++ path ∷ number ∷ []) (get_or-take n v.rows p no_row before))
        | inr behind ↦ (let none : row_of (take n v.rows) p ≡ no_row = get_or_past (take n v.rows) p no_row (omega (arith, length-take n v.rows)) in
            let two : length (row_of v.rows n).place ≡ 2 = ap length (place ∙ ap (λ (r : PlacedRow). r.place ++ path ∷ number ∷ []) none) in
            let odd = odd-at n below in
            absurd (omega (arith, two, odd)))
      ]

  same-number : (m n : ℕ) → m < length v.rows → n < length v.rows → (row_of v.rows m).place ≡ (row_of v.rows n).place → m ≡ n
  same-number m n m_below n_below same =
      let laid = enclosed-are s v view sound in
      let m_place = (row_of v.rows m).place in
      let n_place = (row_of v.rows n).place in
      let up : T (nat_le m n) = and_left (nat_le m n) _ (subst T (laid.within m n m_below n_below) (subst T (sym ((λ i. starts_with nat_eq n_place (same i)) ∙ begins-self n_place)) tt)) in
      let down : T (nat_le n m) = and_left (nat_le n m) _ (subst T (laid.within n m n_below m_below) (subst T (sym ((λ i. starts_with nat_eq m_place (sym same i)) ∙ begins-self m_place)) tt)) in
      let a = leb_yes up in
      let b = leb_yes down in
      omega (arith, a, b)

  pub enclosed-nested : (n : ℕ) (e : Entry) (p path number : ℕ) → n < length v.rows → e ≡ get_or s.rows n e → e.origin ≡ Nested p path number →
      (m : ℕ) → m < length v.rows → is_within (row_of v.rows n) (row_of v.rows m) ≡ (eqb m n || is_within (row_of v.rows p) (row_of v.rows m))
  enclosed-nested n e p path number below is origin m m_below =
      let known = around n e p path number below is origin in
      let outer = (row_of v.rows p).place in
      let x = (row_of v.rows m).place in
      let place = known.1 in
      let p_below : p < length v.rows = omega (arith, known.0) in
      let m_odd = odd-at m m_below in
      let p_odd = odd-at p p_below in
      let parity : (length x + length outer) % 2 ≡ 0 = omega (arith, m_odd, p_odd) in
      same_truth (is_within (row_of v.rows n) (row_of v.rows m)) (eqb m n || is_within (row_of v.rows p) (row_of v.rows m))
      (λ h. elim (nested-prefix outer path number x parity (subst (λ (q : List ℕ). T (starts_with nat_eq q x)) place h)) [
        | inl t ↦ or_right (eqb m n) _ t
        | inr same ↦ or_left (eqb m n) _ (T-same m n (same-number m n m_below below (same ∙ sym place)))
      ])
      (λ h. subst (λ (q : List ℕ). T (starts_with nat_eq q x)) (sym place) (elim (or_cases (eqb m n) _ h) [
        | inl same ↦ subst (λ (q : List ℕ). T (starts_with nat_eq q x)) (ap (λ (k : ℕ). (row_of v.rows k).place) (eqb_yes same) ∙ place) (subst T (sym (begins-self x)) tt)
        | inr t ↦ begins-extended outer (path ∷ number ∷ []) x t
      ]))

  pub enclosed-root : (n : ℕ) (e : Entry) → n < length v.rows → e ≡ get_or s.rows n e → e.origin ≡ Root →
      (m : ℕ) → m < length v.rows → is_within (row_of v.rows n) (row_of v.rows m) ≡ (eqb m n || false)
  enclosed-root n e below is origin m m_below =
      let place : (row_of v.rows n).place ≡ e.document ∷ [] = place-is n e below is ∙ ap (place_at (take n v.rows) e.document) origin in
      let x = (row_of v.rows m).place in
      same_truth (is_within (row_of v.rows n) (row_of v.rows m)) (eqb m n || false)
      (λ h. or_left (eqb m n) false (T-same m n (same-number m n m_below below (root-prefix e.document x (odd-at m m_below) (subst (λ (q : List ℕ). T (starts_with nat_eq q x)) place h) ∙ sym place))))
      (λ h. elim (or_cases (eqb m n) false h) [
        | inl same ↦ subst (λ (q : List ℕ). T (starts_with nat_eq q x)) (ap (λ (k : ℕ). (row_of v.rows k).place) (eqb_yes same)) (subst T (sym (begins-self x)) tt)
        | inr never ↦ absurd never
      ])
