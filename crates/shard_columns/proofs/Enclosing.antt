-- Which rows lie within which: those from a row's number to before its end.
use Rattle.std.proofs.Common.{◌≡◌, ◌≢◌, refl, ℕ, ◌+◌, ◌-◌, ◌<◌, ◌≤◌, zero, suc, true, false, Bool, T, List, [], ◌∷◌, ◌++◌, length, get_or, map, sym, ◌∙◌, ap, arith, inl, inr, length-append, append_assoc}
use Rattle.std.specs.Prelude.{◌&&◌, ◌%◌, nat_le, nat_lt, nat_eq}
use Rattle.std.specs.List.{starts_with, flat_map, enumerate_from}
use Rattle.std.proofs.lemmas.List.{get_or_append_left, get_or-append-add}
use Rattle.std.proofs.lemmas.Bool.{cases_lt}
use Rattle.std.proofs.Math.Facts.{leb_yes}
use Rattle.std.proofs.lemmas.Bool.Decides.{nat_tests}
use Rattle.agg_model.specs.declared.row.Row.{Row, Row', Row_of-Children, end_of-Children, more_of-Children}
use Rattle.agg_model.specs.declared.row.Children.{Children, Children', Row_of-Row, end_of-Row, more_of-Row}
use Rattle.agg_model.specs.declared.row.Document.{Document}
use Rattle.agg_evaluation.specs.Folds.{fold_rows, fold_all_children}
use Rattle.agg_evaluation.specs.Rows.{PlacedRow, rows_of, walk_row, walk_children, is_within, no_row, row_of, rows_of_documents}
use Rattle.list_laws.proofs.Booleans.{and_left, and_right}
use Rattle.shard_columns.specs.Ends.{each, row_ends, children_ends, ends_row, ends_children, root_ends}
use Rattle.shard_columns.specs.Layout.{children_of}
use Rattle.shard_columns.specs.Rising.{paths_rise, rise_from, children_rise, all_rise, documents_rise}
use Rattle.agg_evaluation.specs.DocumentFits.{path_of}

same-yes : (a : ℕ) → nat_eq a a ≡ true
same-yes a = grind (arith, nat_tests)

other-no : (a b : ℕ) → a ≢ b → nat_eq a b ≡ false
other-no a b other = grind (arith, nat_tests)

pub begins-self : (p : List ℕ) → starts_with nat_eq p p ≡ true
begins-self [] = refl
begins-self (x ∷ xs) = ap (λ (b : Bool). b && starts_with nat_eq xs xs) (same-yes x) ∙ begins-self xs

pub begins-front : (p t : List ℕ) → starts_with nat_eq (p ++ t) p ≡ true
begins-front [] t = refl
begins-front (x ∷ xs) t = ap (λ (b : Bool). b && starts_with nat_eq (xs ++ t) xs) (same-yes x) ∙ begins-front xs t

pub begins-apart : (p : List ℕ) (a b : ℕ) (s t : List ℕ) → b ≢ a → starts_with nat_eq (p ++ a ∷ s) (p ++ b ∷ t) ≡ false
begins-apart [] a b s t other = ap (λ (c : Bool). c && starts_with nat_eq s t) (other-no b a other)
begins-apart (x ∷ xs) a b s t other = ap (λ (c : Bool). c && starts_with nat_eq (xs ++ a ∷ s) (xs ++ b ∷ t)) (same-yes x) ∙ begins-apart xs a b s t other

pub begins-longer : (p : List ℕ) (q : ℕ) (t : List ℕ) → starts_with nat_eq p (p ++ q ∷ t) ≡ false
begins-longer [] q t = refl
begins-longer (x ∷ xs) q t = ap (λ (c : Bool). c && starts_with nat_eq xs (xs ++ q ∷ t)) (same-yes x) ∙ begins-longer xs q t

-- a place beneath a place, by way of a number of this kind
pub record Under (p : List ℕ) (K : ℕ → Type 0) (place : List ℕ) : Type 0 where
  pub number : ℕ
  pub rest : List ℕ
  pub fits : K number
  pub is : place ≡ p ++ number ∷ rest

-- rows with their ends, where the first has this number: those within each are those up to its end
pub record IsLaid (p : List ℕ) (K : ℕ → Type 0) (first : ℕ) (rows : List PlacedRow) (ends : List ℕ) : Type 0 where
  pub sizes : length ends ≡ length rows
  pub reach : (n : ℕ) → n < length rows → (first + n < get_or ends n 0) × (get_or ends n 0 ≤ first + length rows)
  pub within : (n j : ℕ) → n < length rows → j < length rows → is_within (row_of rows j) (row_of rows n) ≡ (nat_le n j && nat_lt (first + j) (get_or ends n 0))
  pub under : (n : ℕ) → n < length rows → Under p K (row_of rows n).place
  pub odd : (n : ℕ) → n < length rows → length (row_of rows n).place % 2 ≡ 1

low-no : (n j a e : ℕ) → j < n → (nat_le n j && nat_lt a e) ≡ false
low-no n j a e below = grind (arith, nat_tests)

high-no : (n j a e : ℕ) → e ≤ a → (nat_le n j && nat_lt a e) ≡ false
high-no n j a e above = grind (arith, nat_tests)

same-tests : (n j a m k b e : ℕ) → (n ≤ j → m ≤ k) → (m ≤ k → n ≤ j) → a ≡ b → (nat_le n j && nat_lt a e) ≡ (nat_le m k && nat_lt b e)
same-tests n j a m k b e f g same = grind (arith, nat_tests)

pub IsLaid-none : (p : List ℕ) (K : ℕ → Type 0) (first : ℕ) → IsLaid p K first [] []
IsLaid-none p K first = record {
  sizes = refl;
  reach = λ n below. absurd (omega arith);
  within = λ n j below _. absurd (omega arith);
  under = λ n below. absurd (omega arith);
  odd = λ n below. absurd (omega arith);
}

apart-places : (p : List ℕ) (J K : ℕ → Type 0) (x y : List ℕ) → ((a b : ℕ) → J a → K b → a ≢ b) → Under p J x → Under p K y → (starts_with nat_eq y x ≡ false) × (starts_with nat_eq x y ≡ false)
apart-places p J K x y differ u v = (
  (λ i. starts_with nat_eq (v.is i) (u.is i)) ∙ begins-apart p v.number u.number v.rest u.rest (differ u.number v.number u.fits v.fits),
  (λ i. starts_with nat_eq (u.is i) (v.is i)) ∙ begins-apart p u.number v.number u.rest v.rest (λ same. differ u.number v.number u.fits v.fits (sym same)),
)

module _ (p : List ℕ) (J K L : ℕ → Type 0) (first next : ℕ) (A B : List PlacedRow) (EA EB : List ℕ) (differ : (a b : ℕ) → J a → K b → a ≢ b) (a : IsLaid p J first A EA) (b : IsLaid p K next B EB) (next_is : next ≡ first + length A) where
  row-left : (n : ℕ) → n < length A → row_of (A ++ B) n ≡ row_of A n
  row-left n below = get_or_append_left A B no_row n below

  row-right : (n : ℕ) → length A ≤ n → row_of (A ++ B) n ≡ row_of B (n - length A)
  row-right n above = ap (row_of (A ++ B)) (let e : n ≡ length A + (n - length A) = omega arith in e) ∙ get_or-append-add A B (n - length A) no_row

  end-left : (n : ℕ) → n < length A → get_or (EA ++ EB) n 0 ≡ get_or EA n 0
  end-left n below = get_or_append_left EA EB 0 n (omega (arith, a.sizes))

  end-right : (n : ℕ) → length A ≤ n → get_or (EA ++ EB) n 0 ≡ get_or EB (n - length A) 0
  end-right n above =
      ap (λ (k : ℕ). get_or (EA ++ EB) k 0) (let e : n ≡ length EA + (n - length EA) = omega (arith, a.sizes) in e)
      ∙ (get_or-append-add EA EB (n - length EA) 0 ∙ ap (λ (k : ℕ). get_or EB (n - k) 0) a.sizes)

  total : length (A ++ B) ≡ length A + length B
  total = length-append A B

  behind : (n : ℕ) → n < length (A ++ B) → length A ≤ n → n - length A < length B
  behind n below above = omega (arith, total)

  join-reach : (n : ℕ) → n < length (A ++ B) → (first + n < get_or (EA ++ EB) n 0) × (get_or (EA ++ EB) n 0 ≤ first + length (A ++ B))
  join-reach n below =
      elim (cases_lt n (length A)) [
        | inl front ↦ (let r = a.reach n front in let e = end-left n front in (omega (arith, r.0, e), omega (arith, r.1, e, total)))
        | inr back ↦ (let r = b.reach (n - length A) (behind n below back) in let e = end-right n back in (omega (arith, r.0, e, next_is), omega (arith, r.1, e, next_is, total)))
      ]

  join-within : (n j : ℕ) → n < length (A ++ B) → j < length (A ++ B) → is_within (row_of (A ++ B) j) (row_of (A ++ B) n) ≡ (nat_le n j && nat_lt (first + j) (get_or (EA ++ EB) n 0))
  join-within n j n_below j_below =
      elim (cases_lt n (length A)) [
        | inl n_front ↦ elim (cases_lt j (length A)) [
          | inl j_front ↦ (λ i. is_within (row-left j j_front i) (row-left n n_front i)) ∙ (a.within n j n_front j_front ∙ (λ i. nat_le n j && nat_lt (first + j) (sym (end-left n n_front) i)))
          | inr j_back ↦ (λ i. is_within (row-right j j_back i) (row-left n n_front i))
              ∙ ((apart-places p J K (row_of A n).place (row_of B (j - length A)).place differ (a.under n n_front) (b.under (j - length A) (behind j j_below j_back))).0
              ∙ sym (high-no n j (first + j) (get_or (EA ++ EB) n 0) (let r = a.reach n n_front in let e = end-left n n_front in omega (arith, r.1, e))))
        ]
        | inr n_back ↦ elim (cases_lt j (length A)) [
          | inl j_front ↦ (λ i. is_within (row-left j j_front i) (row-right n n_back i))
              ∙ ((apart-places p J K (row_of A j).place (row_of B (n - length A)).place differ (a.under j j_front) (b.under (n - length A) (behind n n_below n_back))).1
              ∙ sym (low-no n j (first + j) (get_or (EA ++ EB) n 0) (omega arith)))
          | inr j_back ↦ (λ i. is_within (row-right j j_back i) (row-right n n_back i))
              ∙ (b.within (n - length A) (j - length A) (behind n n_below n_back) (behind j j_below j_back)
              ∙ ((λ i. nat_le (n - length A) (j - length A) && nat_lt (next + (j - length A)) (sym (end-right n n_back) i))
              ∙ same-tests (n - length A) (j - length A) (next + (j - length A)) n j (first + j) (get_or (EA ++ EB) n 0) (λ h. omega arith) (λ h. omega arith) (omega (arith, next_is))))
        ]
      ]

  pub IsLaid-join : ((q : ℕ) → J q → L q) → ((q : ℕ) → K q → L q) → IsLaid p L first (A ++ B) (EA ++ EB)
  IsLaid-join left right = record {
    sizes = omega (arith, length-append EA EB, a.sizes, b.sizes, total);
    reach = join-reach;
    within = join-within;
    under = λ n below. elim (cases_lt n (length A)) [
      | inl front ↦ (let u = a.under n front in record { number = u.number; rest = u.rest; fits = left u.number u.fits; is = ap (λ (r : PlacedRow). r.place) (row-left n front) ∙ u.is })
      | inr back ↦ (let u = b.under (n - length A) (behind n below back) in record { number = u.number; rest = u.rest; fits = right u.number u.fits; is = ap (λ (r : PlacedRow). r.place) (row-right n back) ∙ u.is })
    ];
    odd = λ n below. elim (cases_lt n (length A)) [
      | inl front ↦ ap (λ (r : PlacedRow). length r.place % 2) (row-left n front) ∙ a.odd n front
      | inr back ↦ ap (λ (r : PlacedRow). length r.place % 2) (row-right n back) ∙ b.odd (n - length A) (behind n below back)
    ];
  }

-- rows beneath one number
pub IsLaid-deeper : (p : List ℕ) (k : ℕ) (K : ℕ → Type 0) (first : ℕ) (rows : List PlacedRow) (ends : List ℕ) → IsLaid (p ++ k ∷ []) K first rows ends → IsLaid p (λ q. q ≡ k) first rows ends
IsLaid-deeper p k K first rows ends laid = record {
  sizes = laid.sizes;
  reach = laid.reach;
  within = laid.within;
  under = λ n below. let u = laid.under n below in record { number = k; rest = u.number ∷ u.rest; fits = refl; is = u.is ∙ append_assoc p (k ∷ []) (u.number ∷ u.rest) };
  odd = laid.odd;
}

module _ (p place : List ℕ) (k : ℕ) (K : ℕ → Type 0) (first : ℕ) (self : PlacedRow) (B : List PlacedRow) (EB : List ℕ) (place_is : place ≡ p ++ k ∷ []) (self_is : self.place ≡ place) (place_odd : length place % 2 ≡ 1) (b : IsLaid place K (first + 1) B EB) where
  self-within : (n j : ℕ) → n < length (self ∷ B) → j < length (self ∷ B) → is_within (row_of (self ∷ B) j) (row_of (self ∷ B) n) ≡ (nat_le n j && nat_lt (first + j) (get_or ((first + 1 + length EB) ∷ EB) n 0))
  self-within zero zero n_below j_below = begins-self self.place ∙ sym (both 0 0 (first + 0) (first + 1 + length EB) (omega arith) (omega arith))
    where
      both : (n j a e : ℕ) → n ≤ j → a < e → (nat_le n j && nat_lt a e) ≡ true
      both n j a e low high = grind (arith, nat_tests)
  self-within zero (suc j) n_below j_below =
      let u = b.under j (omega arith) in
      (λ i. starts_with nat_eq (u.is i) (self_is i)) ∙ (begins-front place (u.number ∷ u.rest) ∙ sym (both 0 (suc j) (first + suc j) (first + 1 + length EB) (omega arith) (omega (arith, b.sizes))))
    where
      both : (n j a e : ℕ) → n ≤ j → a < e → (nat_le n j && nat_lt a e) ≡ true
      both n j a e low high = grind (arith, nat_tests)
  self-within (suc n) zero n_below j_below =
      let u = b.under n (omega arith) in
      (λ i. starts_with nat_eq (self_is i) (u.is i)) ∙ (begins-longer place u.number u.rest ∙ sym (low-no (suc n) 0 (first + 0) (get_or EB n 0) (omega arith)))
  self-within (suc n) (suc j) n_below j_below =
      b.within n j (omega arith) (omega arith) ∙ same-tests n j (first + 1 + j) (suc n) (suc j) (first + suc j) (get_or EB n 0) (λ h. omega arith) (λ h. omega arith) (omega arith)

  self-reach : (n : ℕ) → n < length (self ∷ B) → (first + n < get_or ((first + 1 + length EB) ∷ EB) n 0) × (get_or ((first + 1 + length EB) ∷ EB) n 0 ≤ first + length (self ∷ B))
  self-reach zero below = (omega arith, omega (arith, b.sizes))
  self-reach (suc n) below = let r = b.reach n (omega arith) in (omega (arith, r.0), omega (arith, r.1))

  self-under : (n : ℕ) → n < length (self ∷ B) → Under p (λ q. q ≡ k) (row_of (self ∷ B) n).place
  self-under zero below = record { number = k; rest = []; fits = refl; is = self_is ∙ place_is }
  self-under (suc n) below =
      let u = b.under n (omega arith) in
      record { number = k; rest = u.number ∷ u.rest; fits = refl; is = u.is ∙ (ap (λ (x : List ℕ). x ++ u.number ∷ u.rest) place_is ∙ append_assoc p (k ∷ []) (u.number ∷ u.rest)) }

  self-odd : (n : ℕ) → n < length (self ∷ B) → length (row_of (self ∷ B) n).place % 2 ≡ 1
  self-odd zero below = ap (λ (x : List ℕ). length x % 2) self_is ∙ place_odd
  self-odd (suc n) below = b.odd n (omega arith)

  -- a row and all beneath it
  pub IsLaid-self : IsLaid p (λ q. q ≡ k) first (self ∷ B) ((first + 1 + length EB) ∷ EB)
  IsLaid-self = record { sizes = omega (arith, b.sizes); reach = self-reach; within = self-within; under = self-under; odd = self-odd }

abbrev Odd : List ℕ → Type 0
Odd place = length place % 2 ≡ 1

odd-next : (place : List ℕ) (a b : ℕ) → Odd place → Odd (place ++ a ∷ b ∷ [])
odd-next place a b odd =
    let longer : length (place ++ a ∷ b ∷ []) ≡ length place + 2 = omega (arith, length-append place (a ∷ b ∷ [])) in
    ap (λ (n : ℕ). n % 2) longer ∙ omega (arith, odd)

not-next : (path : ℕ) (a b : ℕ) → a ≡ path → path + 1 ≤ b → a ≢ b
not-next path a b is above same = absurd (omega arith)

low-yes : (m n : ℕ) → T (nat_le m n) → m ≤ n
low-yes m n h = leb_yes h

mutual
  unfolding each

  pub row-laid : (r : Row) (context : ℕ) (id place p : List ℕ) (k first : ℕ) → T (paths_rise r) → Odd place → place ≡ p ++ k ∷ [] → IsLaid p (λ q. q ≡ k) first (rows_of r context id place) (row_ends r first)
  row-laid (Row' values n children) context id place p k first rise odd is =
      IsLaid-self p place k (λ q. 0 ≤ q) first (record { place = place; context = context; id = id; values = values })
      (flat_map (λ c. c id place) (fold_all_children walk_children walk_row children)) (each (fold_all_children ends_children ends_row children) (first + 1)) is refl odd
      (all-laid children id place 0 (first + 1) rise odd)

  all-laid : {n : _} (cs : Row_of-Children n) (id place : List ℕ) (least first : ℕ) → T (rise_from least cs) → Odd place →
      IsLaid place (λ q. least ≤ q) first (flat_map (λ c. c id place) (fold_all_children walk_children walk_row cs)) (each (fold_all_children ends_children ends_row cs) first)
  all-laid end_of-Children id place least first rise odd = IsLaid-none place (λ q. least ≤ q) first
  all-laid (more_of-Children c rest) id place least first rise odd =
      let here = children-laid c id place first (and_left (children_rise c) (rise_from (path_of c + 1) rest) (and_right (nat_le least (path_of c)) _ rise)) odd in
      let later = all-laid rest id place (path_of c + 1) (first + length (children_ends c first)) (and_right (children_rise c) (rise_from (path_of c + 1) rest) (and_right (nat_le least (path_of c)) _ rise)) odd in
      let low : least ≤ path_of c = low-yes least (path_of c) (and_left (nat_le least (path_of c)) _ rise) in
      IsLaid-join place (λ q. q ≡ path_of c) (λ q. path_of c + 1 ≤ q) (λ q. least ≤ q) first (first + length (children_ends c first)) (children_of c id place) _ (children_ends c first) _
      (not-next (path_of c)) here later (ap (λ (n : ℕ). first + n) here.sizes) (λ q e. omega (arith, e, low)) (λ q e. omega (arith, e, low))

  children-laid : (c : Children) (id place : List ℕ) (first : ℕ) → T (children_rise c) → Odd place → IsLaid place (λ q. q ≡ path_of c) first (children_of c id place) (children_ends c first)
  children-laid (Children' path n rows) id place first rise odd =
      IsLaid-deeper place path (λ q. 0 ≤ q) first _ _ (each-laid rows path id place 0 first rise odd)

  each-laid : {n : _} (rs : Row_of-Row n) (path : ℕ) (id place : List ℕ) (least first : ℕ) → T (all_rise rs) → Odd place →
      IsLaid (place ++ path ∷ []) (λ q. least ≤ q) first (flat_map (λ r. r.1 (path + 1) id (place ++ path ∷ r.0 ∷ [])) (enumerate_from least (fold_rows walk_children walk_row rs))) (each (fold_rows ends_children ends_row rs) first)
  each-laid end_of-Row path id place least first rise odd = IsLaid-none (place ++ path ∷ []) (λ q. least ≤ q) first
  each-laid (more_of-Row r rest) path id place least first rise odd =
      let here = row-laid r (path + 1) id (place ++ path ∷ least ∷ []) (place ++ path ∷ []) least first (and_left (paths_rise r) (all_rise rest) rise) (odd-next place path least odd) (sym (append_assoc place (path ∷ []) (least ∷ []))) in
      let later = each-laid rest path id place (least + 1) (first + length (row_ends r first)) (and_right (paths_rise r) (all_rise rest) rise) odd in
      IsLaid-join (place ++ path ∷ []) (λ q. q ≡ least) (λ q. least + 1 ≤ q) (λ q. least ≤ q) first (first + length (row_ends r first)) (rows_of r (path + 1) id (place ++ path ∷ least ∷ [])) _ (row_ends r first) _
      (not-next least) here later (ap (λ (n : ℕ). first + n) here.sizes) (λ q e. omega (arith, e)) (λ q e. omega (arith, e))

documents-laid : (documents : List Document) (least first : ℕ) → T (documents_rise documents) →
    IsLaid [] (λ q. least ≤ q) first (flat_map (λ (d : ℕ × (List ℕ × Row)). rows_of d.1.1 0 d.1.0 (d.0 ∷ [])) (enumerate_from least (map (λ d. (d.id, d.root)) documents))) (each (map root_ends documents) first)
unfolding each
documents-laid [] least first rise = IsLaid-none [] (λ q. least ≤ q) first
documents-laid (d ∷ ds) least first rise =
    let here = row-laid d.root 0 d.id (least ∷ []) [] least first (and_left (paths_rise d.root) (documents_rise ds) rise) refl refl in
    let later = documents-laid ds (least + 1) (first + length (row_ends d.root first)) (and_right (paths_rise d.root) (documents_rise ds) rise) in
    IsLaid-join [] (λ q. q ≡ least) (λ q. least + 1 ≤ q) (λ q. least ≤ q) first (first + length (row_ends d.root first)) (rows_of d.root 0 d.id (least ∷ [])) _ (row_ends d.root first) _
    (not-next least) here later (ap (λ (n : ℕ). first + n) here.sizes) (λ q e. omega (arith, e)) (λ q e. omega (arith, e))

-- all rows of the documents, whose ends are laid out with them
pub all-rows-laid : (documents : List Document) → T (documents_rise documents) → IsLaid [] (λ q. 0 ≤ q) 0 (rows_of_documents documents) (each (map root_ends documents) 0)
all-rows-laid documents rise = documents-laid documents 0 0 rise
