-- The rows of a shard's documents come document by document.
use Rattle.std.specs.Prelude.{refl, ℕ, ◌+◌, ◌<◌, ◌≤◌, Bool, ◌++◌, T, List, [], ◌∷◌, flat_map, nat_le, nat_lt}
use Rattle.std.specs.List.{enumerate_from, list_all}
use Rattle.std.proofs.Common.{sym, ◌∙◌, ap, append_assoc, arith, ⊎_elim}
use Rattle.std.proofs.lemmas.Bool.{cases_lt}
use Rattle.agg_model.specs.declared.row.Children.{Children, Children', Row_of-Row, end_of-Row, more_of-Row}
use Rattle.agg_model.specs.declared.row.FieldValues.{FieldValues}
use Rattle.agg_model.specs.declared.row.Row.{Row, Row', Row_of-Children, end_of-Children, more_of-Children}
use Rattle.agg_evaluation.specs.Folds.{fold_all_children, fold_children, fold_rows}
use Rattle.agg_evaluation.specs.Rows.{PlacedRow, rows_of, shard_rows, walk_children, walk_row}
use Rattle.list_laws.proofs.Booleans.{both, holds}
use Rattle.growth_laws.specs.Documents.{IsCutAt, lie_behind, lies_before, lies_behind}
use Rattle.growth_laws.proofs.DocumentRows.{all-append}

-- what holds of each nested row that lies in a document
module _ (p : PlacedRow → Bool) (d : ℕ) (passes : (path : ℕ) (id rest : List ℕ) (values : List FieldValues) → T (p (record { place = d ∷ rest; context = path + 1; id = id; values = values }))) where
  mutual
    -- a row and what it encloses
    row-at : (r : Row) (path : ℕ) (id rest : List ℕ) → T (list_all p (rows_of r (path + 1) id (d ∷ rest)))
    row-at (Row' values n children) path id rest = both _ _ (passes path id rest values) (all-children-at children id rest)

    -- rows of one path
    rows-at : {n : _} (rows : Row_of-Row n) (m path : ℕ) (id rest : List ℕ) → T (list_all p (flat_map (λ r. r.1 (path + 1) id ((d ∷ rest) ++ path ∷ r.0 ∷ [])) (enumerate_from m (fold_rows walk_children walk_row rows))))
    rows-at end_of-Row m path id rest = tt
    rows-at (more_of-Row r rows) m path id rest = all-append p _ _ (row-at r path id (rest ++ path ∷ m ∷ [])) (rows-at rows (m + 1) path id rest)

    -- the rows of a path of a row
    children-at : (c : Children) (id rest : List ℕ) → T (list_all p (fold_children walk_children walk_row c id (d ∷ rest)))
    children-at (Children' path n rows) id rest = rows-at rows 0 path id rest

    -- the rows of all paths of a row
    pub all-children-at : {n : _} (children : Row_of-Children n) (id rest : List ℕ) → T (list_all p (flat_map (λ c. c id (d ∷ rest)) (fold_all_children walk_children walk_row children)))
    all-children-at end_of-Children id rest = tt
    all-children-at (more_of-Children c children) id rest = all-append p _ _ (children-at c id rest) (all-children-at children id rest)

-- the rows of a document
abbrev pub document_rows : ℕ × (List ℕ × Row) → List PlacedRow
document_rows d = rows_of d.1.1 0 d.1.0 (d.0 ∷ [])

-- a number that is below another
pub less_holds : (d n : ℕ) → d < n → T (nat_lt d n)
less_holds d n h = holds _ (grind arith)

-- a number that is at most another
pub at_most_holds : (n d : ℕ) → n ≤ d → T (nat_le n d)
at_most_holds n d h = holds _ (grind arith)

-- what holds of each row of a document
document-at : (p : PlacedRow → Bool) (m : ℕ) (d : List ℕ × Row) → ((context : ℕ) (id rest : List ℕ) (values : List FieldValues) → T (p (record { place = m ∷ rest; context = context; id = id; values = values })))
    → T (list_all p (document_rows (m, d)))
document-at p m (id, Row' values n children) passes = both _ _ (passes 0 id [] values) (all-children-at p m (λ path. passes (path + 1)) children id [])

-- the rows of documents from a number on
pub behind-from : (n m : ℕ) (documents : List (List ℕ × Row)) → n ≤ m → T (lie_behind n (flat_map document_rows (enumerate_from m documents)))
behind-from n m [] h = tt
behind-from n m (x ∷ documents) h =
    all-append (lies_behind n) (document_rows (m, x)) (flat_map document_rows (enumerate_from (m + 1) documents))
    (document-at (lies_behind n) m x (λ context id rest values. at_most_holds n m h)) (behind-from n (m + 1) documents (omega arith))

-- the cut of documents from a number on
cut-from : (n m : ℕ) (documents : List (List ℕ × Row)) → IsCutAt n (flat_map document_rows (enumerate_from m documents))
cut-from n m [] = record { before = []; behind = []; split = refl; before_lie = tt; behind_lie = tt }
cut-from n m (x ∷ documents) = ⊎_elim
    (λ (l : m < n). let rest = cut-from n (m + 1) documents in
    (record {
      before = document_rows (m, x) ++ rest.before;
      behind = rest.behind;
      split = ap (λ rows. document_rows (m, x) ++ rows) rest.split ∙ sym (append_assoc (document_rows (m, x)) rest.before rest.behind);
      before_lie = all-append (lies_before n) (document_rows (m, x)) rest.before (document-at (lies_before n) m x (λ context id rest values. less_holds m n l)) rest.before_lie;
      behind_lie = rest.behind_lie;
    }))
    (λ (l : n ≤ m). record { before = []; behind = flat_map document_rows (enumerate_from m (x ∷ documents)); split = refl; before_lie = tt; behind_lie = behind-from n m (x ∷ documents) l })
    (cases_lt m n)

-- a shard's rows are cut at each document
pub shard-cut : (documents : List (List ℕ × Row)) (n : ℕ) → IsCutAt n (shard_rows documents)
shard-cut documents n = cut-from n 0 documents
