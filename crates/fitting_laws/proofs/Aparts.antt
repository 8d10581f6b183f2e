-- No row of documents that fit lies below two rows of one context.
use Rattle.std.specs.Prelude.{◌≡◌, refl, ℕ, suc, zero, ◌+◌, ◌==◌, ◌≤◌, nat_eq, nat_le, Bool, true, false, ◌&&◌, cond, List, [], ◌∷◌, ◌++◌, filter, length, slice_get, Option, Some, None, is_some}
use Rattle.std.specs.List.{list_all, starts_with}
use Rattle.std.specs.Option.{option_map_or}
use Rattle.std.proofs.Common.{sym, ◌∙◌, ap, subst, arith, length-append}
use Rattle.std.proofs.lemmas.Bool.{false≢true, and_parts, and_from}
use Rattle.std.proofs.lemmas.Bool.Decides.{nat_tests}
use Rattle.std.proofs.lemmas.List.Folds.{list_all-append}
use Rattle.list_laws.proofs.Lists.{filter-append}
use Rattle.agg_model.specs.declared.mapping.Mapping.{Mapping}
use Rattle.agg_model.specs.declared.mapping.NestedPath.{NestedPath}
use Rattle.agg_model.specs.declared.row.Row.{Row, Row', Row_of-Children, end_of-Children, more_of-Children}
use Rattle.agg_model.specs.declared.row.Children.{Children, Children', Row_of-Row, end_of-Row, more_of-Row}
use Rattle.agg_model.specs.declared.row.Document.{Document}
use Rattle.agg_evaluation.specs.Folds.{fold_rows, fold_all_children}
use Rattle.agg_evaluation.specs.Rows.{PlacedRow, walk_children, walk_row, rows_of, rows_of_documents}
use Rattle.shard_columns.specs.Layout.{children_of}
use Rattle.agg_evaluation.specs.DocumentFits.{path_of, fields_fit, is_path_of, row_fits, children_fit, child_fits, rows_fit, fits, all_fit}
use Rattle.agg_evaluation.specs.Counted.{is_around_row, IsApart}
use Rattle.agg_model.specs.Contexts.{parents_before, parents_before_from}
use Rattle.agg_evaluation.proofs.RowsFit.{rows_at, beneath_at, rows_from}

-- what is left of a place behind another with which it begins
abbrev left_of : List ℕ → List ℕ → Option (List ℕ)
left_of [] p = Some p
left_of (q ∷ qs) [] = None
left_of (q ∷ qs) (a ∷ p) = cond (nat_eq q a) (left_of qs p) None

begins-left : (place p : List ℕ) → starts_with nat_eq p place ≡ is_some (left_of place p)
begins-left [] p = refl
begins-left (q ∷ qs) [] = refl
begins-left (q ∷ qs) (a ∷ p) = elim (nat_eq q a) as (λ b. (b && starts_with nat_eq p qs) ≡ is_some (cond b (left_of qs p) None)) [ true ↦ begins-left qs p | false ↦ refl ]

abbrev then_left : List ℕ → Option (List ℕ) → Option (List ℕ)
then_left qs None = None
then_left qs (Some p) = left_of qs p

left-append : (place qs p : List ℕ) → left_of (place ++ qs) p ≡ then_left qs (left_of place p)
left-append [] qs p = refl
left-append (r ∷ place) qs [] = refl
left-append (r ∷ place) qs (a ∷ p) = elim (nat_eq r a) as (λ b. cond b (left_of (place ++ qs) p) None ≡ then_left qs (cond b (left_of place p) None)) [ true ↦ left-append place qs p | false ↦ refl ]

abbrev any : Option (List ℕ) → ℕ
any None = 0
any (Some p) = 1

-- the next number is this one or a later one
abbrev from : ℕ → Option (List ℕ) → ℕ
from least None = 0
from least (Some []) = 0
from least (Some (a ∷ p)) = cond (nat_le least a) 1 0

-- the next number is this path, and the one behind it this one or a later one
abbrev at : ℕ → ℕ → Option (List ℕ) → ℕ
at path k None = 0
at path k (Some []) = 0
at path k (Some (a ∷ [])) = 0
at path k (Some (a ∷ b ∷ p)) = cond (nat_eq path a) (cond (nat_le k b) 1 0) 0

by_one : (k b : ℕ) (p : List ℕ) → any (cond (nat_eq k b) (Some p) None) + cond (nat_le (k + 1) b) 1 0 ≤ cond (nat_le k b) 1 0
by_one k b p =
    elim (nat_eq k b) as (λ e. nat_eq k b ≡ e → any (cond e (Some p) None) + cond (nat_le (k + 1) b) 1 0 ≤ cond (nat_le k b) 1 0) [
      | true ↦ λ t.
          let here : nat_le k b ≡ true = grind (arith, nat_tests, t) in
          let past : nat_le (k + 1) b ≡ false = grind (arith, nat_tests, t) in
          subst (λ e. 1 + cond (nat_le (k + 1) b) 1 0 ≤ cond e 1 0) (sym here) (subst (λ e. 1 + cond e 1 0 ≤ 1) (sym past) (omega arith))
      | false ↦ λ t. later k b
    ] refl
  where
    later : (k b : ℕ) → 0 + cond (nat_le (k + 1) b) 1 0 ≤ cond (nat_le k b) 1 0
    later k b =
        elim (nat_le (k + 1) b) as (λ e. nat_le (k + 1) b ≡ e → 0 + cond e 1 0 ≤ cond (nat_le k b) 1 0) [
          | true ↦ λ t. let here : nat_le k b ≡ true = grind (arith, nat_tests, t) in subst (λ e. 0 + 1 ≤ cond e 1 0) (sym here) (omega arith)
          | false ↦ λ t. omega arith
        ] refl

one_more_at : (path k : ℕ) (o : Option (List ℕ)) → any (then_left (path ∷ k ∷ []) o) + at path (k + 1) o ≤ at path k o
one_more_at path k None = omega arith
one_more_at path k (Some []) = omega arith
one_more_at path k (Some (a ∷ [])) = elim (nat_eq path a) as (λ e. any (cond e None None) + 0 ≤ 0) [ true ↦ omega arith | false ↦ omega arith ]
one_more_at path k (Some (a ∷ b ∷ p)) =
    elim (nat_eq path a) as (λ e. any (cond e (cond (nat_eq k b) (Some p) None) None) + cond e (cond (nat_le (k + 1) b) 1 0) 0 ≤ cond e (cond (nat_le k b) 1 0) 0) [ true ↦ by_one k b p | false ↦ omega arith ]

from_less : (least more a : ℕ) → least ≤ more → cond (nat_le more a) 1 0 ≤ cond (nat_le least a) 1 0
from_less least more a low =
    elim (nat_le more a) as (λ e. nat_le more a ≡ e → cond e 1 0 ≤ cond (nat_le least a) 1 0) [
      | true ↦ λ t. let here : nat_le least a ≡ true = grind (arith, nat_tests, t, low) in subst (λ e. 1 ≤ cond e 1 0) (sym here) (omega arith)
      | false ↦ λ t. omega arith
    ] refl

at_and_from : (least path : ℕ) (o : Option (List ℕ)) → least ≤ path → at path 0 o + from (path + 1) o ≤ from least o
at_and_from least path None low = omega arith
at_and_from least path (Some []) low = omega arith
at_and_from least path (Some (a ∷ [])) low = omega (arith, from_less least (path + 1) a (omega (arith, low)))
at_and_from least path (Some (a ∷ b ∷ p)) low =
    let rest = from_less least (path + 1) a (omega (arith, low)) in
    elim (nat_eq path a) as (λ e. nat_eq path a ≡ e → cond e (cond (nat_le 0 b) 1 0) 0 + cond (nat_le (path + 1) a) 1 0 ≤ cond (nat_le least a) 1 0) [
      | true ↦ λ t.
          let here : nat_le least a ≡ true = grind (arith, nat_tests, t, low) in
          let past : nat_le (path + 1) a ≡ false = grind (arith, nat_tests, t) in
          let first : cond (nat_le 0 b) 1 0 ≤ 1 = elim (nat_le 0 b) as (λ e. cond e 1 0 ≤ 1) [ true ↦ omega arith | false ↦ omega arith ] in
          subst (λ e. cond (nat_le 0 b) 1 0 + cond (nat_le (path + 1) a) 1 0 ≤ cond e 1 0) (sym here) (subst (λ e. cond (nat_le 0 b) 1 0 + cond e 1 0 ≤ 1) (sym past) (omega (arith, first)))
      | false ↦ λ t. omega (arith, rest)
    ] refl

from_any : (o : Option (List ℕ)) → from 0 o ≤ any o
from_any None = omega arith
from_any (Some []) = omega arith
from_any (Some (a ∷ p)) = elim (nat_le 0 a) as (λ e. cond e 1 0 ≤ 1) [ true ↦ omega arith | false ↦ omega arith ]

-- a path's parent stands before it
parent_before : (n : ℕ) (ps : List NestedPath) → parents_before_from n ps ≡ true → (i : ℕ) (p : NestedPath) → slice_get ps i ≡ Some p → p.parent ≤ n + i
parent_before n [] h i p e = absurd (false≢true (ap is_some e))
parent_before n (q ∷ ps) h zero p e =
    let parts = and_parts (nat_le q.parent n) (parents_before_from (n + 1) ps) h in
    let same : q.parent ≡ p.parent = ap (λ (o : Option NestedPath). option_map_or (λ x. x.parent) o 0) e in
    grind (arith, nat_tests, parts.0, same)
parent_before n (q ∷ ps) h (suc i) p e = let rest = parent_before (n + 1) ps (and_parts (nat_le q.parent n) (parents_before_from (n + 1) ps) h).1 i p e in omega (arith, rest)

path_after : (m : Mapping) → parents_before m ≡ true → (context path : ℕ) → is_path_of m context path ≡ true → context ≤ path
path_after m before context path h =
    elim (slice_get m.nested path) as (λ o. slice_get m.nested path ≡ o → option_map_or (λ p. p.parent == context) o false ≡ true → context ≤ path) [
      | None ↦ λ e k. absurd (false≢true k)
      | Some p ↦ λ e k. let low = parent_before 0 m.nested before path p e in grind (arith, nat_tests, low, k)
    ] refl h

-- the context of a row and of all below it

abbrev are_from : ℕ → List PlacedRow → Bool
are_from least rows = list_all (λ r. nat_le least r.context) rows

are_later : (least more : ℕ) (rows : List PlacedRow) → least ≤ more → are_from more rows ≡ true → are_from least rows ≡ true
are_later least more [] low h = refl
are_later least more (r ∷ rows) low h =
    let parts = and_parts (nat_le more r.context) (are_from more rows) h in
    and_from (nat_le least r.context) _ (grind (arith, nat_tests, parts.0, low)) (are_later least more rows low parts.1)

module _ (m : Mapping) (before : parents_before m ≡ true) where
  mutual
    row_from : (r : Row) (context : ℕ) (id place : List ℕ) → row_fits m context r ≡ true → are_from context (rows_of r context id place) ≡ true
    row_from (Row' values n children) context id place h =
        let parts = and_parts (fields_fit m context 0 values) (children_fit m context 0 children) h in
        and_from (nat_le context context) _ (grind (arith, nat_tests)) (are_later context (context + 1) _ (omega arith) (all_from children context 0 id place parts.1))

    all_from : {n : _} (cs : Row_of-Children n) (context least : ℕ) (id place : List ℕ) → children_fit m context least cs ≡ true → are_from (context + 1) (beneath_at id place (fold_all_children walk_children walk_row cs)) ≡ true
    all_from end_of-Children context least id place h = refl
    all_from (more_of-Children c rest) context least id place h =
        let first = and_parts (nat_le least (path_of c)) (child_fits m context c && children_fit m context (path_of c + 1) rest) h in
        let parts = and_parts (child_fits m context c) (children_fit m context (path_of c + 1) rest) first.1 in
        list_all-append (λ (r : PlacedRow). nat_le (context + 1) r.context) (children_of c id place) (beneath_at id place (fold_all_children walk_children walk_row rest))
        ∙ and_from _ _ (child_from c context id place parts.0) (all_from rest context (path_of c + 1) id place parts.1)

    child_from : (c : Children) (context : ℕ) (id place : List ℕ) → child_fits m context c ≡ true → are_from (context + 1) (children_of c id place) ≡ true
    child_from (Children' path n rows) context id place h =
        let parts = and_parts (is_path_of m context path) (rows_fit m (path + 1) rows) h in
        let low = path_after m before context path parts.0 in
        are_later (context + 1) (path + 1) _ (omega (arith, low)) (rows_from_path rows path 0 id place parts.1)

    rows_from_path : {n : _} (rs : Row_of-Row n) (path k : ℕ) (id place : List ℕ) → rows_fit m (path + 1) rs ≡ true → are_from (path + 1) (rows_at path id place k (fold_rows walk_children walk_row rs)) ≡ true
    rows_from_path end_of-Row path k id place h = refl
    rows_from_path (more_of-Row r rest) path k id place h =
        let parts = and_parts (row_fits m (path + 1) r) (rows_fit m (path + 1) rest) h in
        list_all-append (λ (r : PlacedRow). nat_le (path + 1) r.context) (rows_of r (path + 1) id (place ++ path ∷ k ∷ [])) (rows_at path id place (k + 1) (fold_rows walk_children walk_row rest))
        ∙ and_from _ _ (row_from r (path + 1) id (place ++ path ∷ k ∷ []) parts.0) (rows_from_path rest path (k + 1) id place parts.1)

  -- how many rows of a context lie around a place

  module _ (inner : PlacedRow) (c : ℕ) where
    abbrev count : List PlacedRow → ℕ
    count rows = length (filter (is_around_row c inner) rows)

    count-append : (xs ys : List PlacedRow) → count (xs ++ ys) ≡ count xs + count ys
    count-append xs ys = ap length (filter-append (is_around_row c inner) xs ys) ∙ length-append (filter (is_around_row c inner) xs) (filter (is_around_row c inner) ys)

    -- none where all contexts are greater
    none_later : (rows : List PlacedRow) → are_from (c + 1) rows ≡ true → count rows ≡ 0
    none_later [] h = refl
    none_later (r ∷ rows) h =
        let parts = and_parts (nat_le (c + 1) r.context) (are_from (c + 1) rows) h in
        let other : (r.context == c) ≡ false = grind (arith, nat_tests, parts.0) in
        ap (λ b. length (cond (b && starts_with nat_eq inner.place r.place) (r ∷ filter (is_around_row c inner) rows) (filter (is_around_row c inner) rows))) other ∙ none_later rows parts.1

    abbrev left : List ℕ → Option (List ℕ)
    left place = left_of place inner.place

    self : (r : PlacedRow) → count (r ∷ []) ≤ any (left r.place)
    self r =
        elim (r.context == c) as (λ e. length (cond (e && starts_with nat_eq inner.place r.place) (r ∷ []) []) ≤ any (left r.place)) [
          | true ↦ subst (λ e. length (cond e (r ∷ []) []) ≤ any (left r.place)) (sym (begins-left r.place inner.place)) (by (left r.place))
          | false ↦ omega arith
        ]
      where
        by : (o : Option (List ℕ)) → length (cond (is_some o) (r ∷ []) []) ≤ any o
        by None = omega arith
        by (Some p) = omega arith

    other : (r : PlacedRow) → (r.context == c) ≡ false → count (r ∷ []) ≡ 0
    other r e = ap (λ b. length (cond (b && starts_with nat_eq inner.place r.place) (r ∷ []) [])) e

    mutual
      row_one : (r : Row) (context : ℕ) (id place : List ℕ) → row_fits m context r ≡ true → count (rows_of r context id place) ≤ any (left place)
      row_one (Row' values n children) context id place h =
          let parts = and_parts (fields_fit m context 0 values) (children_fit m context 0 children) h in
          let first : PlacedRow = record { place = place; context = context; id = id; values = values } in
          let rest = beneath_at id place (fold_all_children walk_children walk_row children) in
          let all = count-append (first ∷ []) rest in
          elim (context == c) as (λ e. (context == c) ≡ e → count (first ∷ rest) ≤ any (left place)) [
            | true ↦ λ e.
                let same : context ≡ c = grind (arith, nat_tests, e) in
                let none = none_later rest (subst (λ (n : ℕ). are_from (n + 1) rest ≡ true) same (all_from children context 0 id place parts.1)) in
                omega (arith, all, none, self first)
            | false ↦ λ e. omega (arith, all, other first e, all_one children context 0 id place parts.1, from_any (left place))
          ] refl

      all_one : {n : _} (cs : Row_of-Children n) (context least : ℕ) (id place : List ℕ) → children_fit m context least cs ≡ true → count (beneath_at id place (fold_all_children walk_children walk_row cs)) ≤ from least (left place)
      all_one end_of-Children context least id place h = omega arith
      all_one (more_of-Children c' rest) context least id place h =
          let first = and_parts (nat_le least (path_of c')) (child_fits m context c' && children_fit m context (path_of c' + 1) rest) h in
          let parts = and_parts (child_fits m context c') (children_fit m context (path_of c' + 1) rest) first.1 in
          let low : least ≤ path_of c' = grind (arith, nat_tests, first.0) in
          let all = count-append (children_of c' id place) (beneath_at id place (fold_all_children walk_children walk_row rest)) in
          omega (arith, all, child_one c' context id place parts.0, all_one rest context (path_of c' + 1) id place parts.1, at_and_from least (path_of c') (left place) low)

      child_one : (c' : Children) (context : ℕ) (id place : List ℕ) → child_fits m context c' ≡ true → count (children_of c' id place) ≤ at (path_of c') 0 (left place)
      child_one (Children' path n rows) context id place h = rows_one rows path 0 id place (and_parts (is_path_of m context path) (rows_fit m (path + 1) rows) h).1

      rows_one : {n : _} (rs : Row_of-Row n) (path k : ℕ) (id place : List ℕ) → rows_fit m (path + 1) rs ≡ true → count (rows_at path id place k (fold_rows walk_children walk_row rs)) ≤ at path k (left place)
      rows_one end_of-Row path k id place h = omega arith
      rows_one (more_of-Row r rest) path k id place h =
          let parts = and_parts (row_fits m (path + 1) r) (rows_fit m (path + 1) rest) h in
          let all = count-append (rows_of r (path + 1) id (place ++ path ∷ k ∷ [])) (rows_at path id place (k + 1) (fold_rows walk_children walk_row rest)) in
          let first = row_one r (path + 1) id (place ++ path ∷ k ∷ []) parts.0 in
          let same = ap any (left-append place (path ∷ k ∷ []) inner.place) in
          omega (arith, all, first, same, rows_one rest path (k + 1) id place parts.1, one_more_at path k (left place))

    root_step : (k : ℕ) (p : List ℕ) → any (left_of (k ∷ []) p) + from (k + 1) (Some p) ≤ from k (Some p)
    root_step k [] = omega arith
    root_step k (a ∷ p) = by_one k a p

    documents_one : (k : ℕ) (ds : List Document) → all_fit m ds ≡ true → count (rows_from k ds) ≤ from k (Some inner.place)
    documents_one k [] h = omega arith
    documents_one k (d ∷ ds) h =
        let parts = and_parts (fits m d.root) (all_fit m ds) h in
        let all = count-append (rows_of d.root 0 d.id (k ∷ [])) (rows_from (k + 1) ds) in
        omega (arith, all, row_one d.root 0 d.id (k ∷ []) parts.0, documents_one (k + 1) ds parts.1, root_step k inner.place)

    documents_at_most : (ds : List Document) → all_fit m ds ≡ true → count (rows_of_documents ds) ≤ 1
    documents_at_most ds h = omega (arith, documents_one 0 ds h, from_any (Some inner.place))

pub documents_apart : (m : Mapping) (ds : List Document) → parents_before m ≡ true → all_fit m ds ≡ true → IsApart (rows_of_documents ds)
documents_apart m ds before h inner context = documents_at_most m before inner context ds h
