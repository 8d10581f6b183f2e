-- The roots of a shard rise: each lies in a later document than those before it.
use Rattle.std.specs.Prelude.{◌≡◌, refl, ℕ, zero, suc, ◌+◌, ◌≤◌, ◌==◌, Bool, true, false, cond, not, ◌++◌, T, List, [], ◌∷◌, filter, flat_map, nat_le, take, slice_get, Some}
use Rattle.std.specs.List.{enumerate_from, list_all}
use Rattle.std.proofs.Common.{sym, ◌∙◌, ap, subst, arith}
use Rattle.agg_model.specs.declared.row.Row.{Row, Row'}
use Rattle.agg_evaluation.specs.Folds.{fold_all_children}
use Rattle.agg_evaluation.specs.Rows.{PlacedRow, roots, shard_rows, walk_children, walk_row}
use Rattle.list_laws.proofs.Booleans.{and_left, and_right, both}
use Rattle.list_laws.proofs.Lists.{filter-append}
use Rattle.list_laws.proofs.Options.{none_some, some_same}
use Rattle.growth_laws.specs.Documents.{lie_before, lie_behind, lies_behind, starts_below, starts_from}
use Rattle.growth_laws.proofs.DocumentRows.{all-filter}
use Rattle.growth_laws.proofs.ShardRows.{all-children-at, at_most_holds, behind-from, document_rows, less_holds}
use Rattle.list_laws.proofs.Booleans.{true_is}

-- each row lies in a document, and the later ones in later documents
abbrev pub Rising : List PlacedRow → Type 0
Rising [] = Unit {0}
Rising (r ∷ rows) = ((d : ℕ) × (rest : List ℕ) × (r.place ≡ d ∷ rest) × T (lie_behind (d + 1) rows)) × Rising rows

-- some of them rise too
pub rising-filter : (p : PlacedRow → Bool) (rows : List PlacedRow) → Rising rows → Rising (filter p rows)
rising-filter p [] h = tt
rising-filter p (r ∷ rows) h =
    elim (p r) as (λ b. Rising (cond b (r ∷ filter p rows) (filter p rows))) [
      | true ↦ ((h.0.0, h.0.1, h.0.2, all-filter (lies_behind (h.0.0 + 1)) p rows h.0.3), rising-filter p rows h.1)
      | false ↦ rising-filter p rows h.1
    ]

-- what holds of all rows holds of the one at a place
at-place : (p : PlacedRow → Bool) (rows : List PlacedRow) (n : ℕ) (row : PlacedRow) → T (list_all p rows) → slice_get rows n ≡ Some row → T (p row)
at-place p [] zero row h e = none_some row e
at-place p [] (suc n) row h e = none_some row e
at-place p (r ∷ rows) zero row h e = subst (λ x. T (p x)) (some_same r row e) (and_left _ _ h)
at-place p (r ∷ rows) (suc n) row h e = at-place p rows n row (and_right _ _ h) e

-- a number that is known to be from another on
from-at_most : (n d : ℕ) (rest : List ℕ) → T (starts_from n (d ∷ rest)) → n ≤ d
from-at_most n d rest h = let e = true_is (nat_le n d) h in grind arith

-- the rows before a place lie before the document of the row there
pub rising-split : (rows : List PlacedRow) (n : ℕ) (row : PlacedRow) → Rising rows → slice_get rows n ≡ Some row
    → (d : ℕ) × (rest : List ℕ) × (row.place ≡ d ∷ rest) × T (lie_before d (take n rows))
rising-split [] zero row h e = none_some row e
rising-split [] (suc n) row h e = none_some row e
rising-split (r ∷ rows) zero row h e = (h.0.0, h.0.1, sym (ap (λ (x : PlacedRow). x.place) (some_same r row e)) ∙ h.0.2, tt)
rising-split (r ∷ rows) (suc n) row h e =
    let rest = rising-split rows n row h.1 e in
    let later = at-place (lies_behind (h.0.0 + 1)) rows n row h.0.3 e in
    let less = from-at_most (h.0.0 + 1) rest.0 rest.1 (subst (λ p. T (starts_from (h.0.0 + 1) p)) rest.2 later) in
    (rest.0, rest.1, rest.2, both _ _ (subst (λ p. T (starts_below rest.0 p)) (sym h.0.2) (less_holds h.0.0 rest.0 (omega arith))) rest.3)

-- a row lies behind the number of its own document
pub own-document : (row : PlacedRow) (d : ℕ) (rest : List ℕ) → row.place ≡ d ∷ rest → T (lie_behind d (row ∷ []))
own-document row d rest e = both _ _ (subst (λ p. T (starts_from d p)) (sym e) (at_most_holds d d (omega arith))) tt

-- rows of which none is a root
no-roots : (rows : List PlacedRow) → T (list_all (λ r. not (r.context == 0)) rows) → roots rows ≡ []
no-roots [] h = refl
no-roots (r ∷ rows) h =
    elim (r.context == 0) as (λ b. T (not b) → cond b (r ∷ roots rows) (roots rows) ≡ []) [
      | true ↦ λ g. absurd g
      | false ↦ λ g. no-roots rows (and_right _ _ h)
    ] (and_left _ _ h)

-- a document has one root
one-root : (m : ℕ) (d : List ℕ × Row) → (root : PlacedRow) × (root.place ≡ m ∷ []) × (roots (document_rows (m, d)) ≡ root ∷ [])
one-root m (id, Row' values n children) =
    let root : PlacedRow = record { place = m ∷ []; context = 0; id = id; values = values } in
    (root, refl, ap (λ rows. root ∷ rows) (no-roots (flat_map (λ c. c id (m ∷ [])) (fold_all_children walk_children walk_row children)) (all-children-at (λ r. not (r.context == 0)) m (λ path id rest values. no_context path) children id [])))
  where
    no_context : (path : ℕ) → T (not ((path + 1) == 0))
    no_context path = subst T (sym (let e : not ((path + 1) == 0) ≡ true = grind arith in e)) tt

-- the roots of documents rise
rising-from : (m : ℕ) (documents : List (List ℕ × Row)) → Rising (roots (flat_map document_rows (enumerate_from m documents)))
rising-from m [] = tt
rising-from m (d ∷ documents) =
    let one = one-root m d in
    let later = flat_map document_rows (enumerate_from (m + 1) documents) in
    subst Rising (sym (filter-append (λ r. r.context == 0) (document_rows (m, d)) later ∙ ap (λ rows. rows ++ roots later) one.2))
    ((m, [], one.1, all-filter (lies_behind (m + 1)) (λ r. r.context == 0) later (behind-from (m + 1) (m + 1) documents (omega arith))), rising-from (m + 1) documents)

-- the roots of a shard rise
pub roots-rise : (documents : List (List ℕ × Row)) → Rising (roots (shard_rows documents))
roots-rise documents = rising-from 0 documents
