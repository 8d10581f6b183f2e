-- Rows that are reached, one more at a time.
use Rattle.std.proofs.Common.{◌≡◌, refl, ℕ, ◌+◌, ◌*◌, ◌<◌, List, length, get_or, set, [], ◌∷◌, ◌++◌, sym, ◌∙◌, ap, arith}
use Rattle.std.specs.Prelude.{sum_by}
use Rattle.std.proofs.lemmas.List.Sums.{sum_by-cons, sum_by-set}
use Rattle.list_laws.proofs.Lists.{map-append, sum_by-map}
use Rattle.agg_evaluation.specs.Ceiling.{Reached}
use Rattle.agg_evaluation.specs.Rows.{PlacedRow, row_of}
use Rattle.agg_cost.proofs.Capping.{alike-add, alike-mul}
use Rattle.agg_cost.specs.Capped.{capped, Alike}
use Rattle.agg_cost.specs.Paths.{reached_by, over_paths}
use Rattle.agg_cost.specs.declared.paths.RowPaths.{RowPaths}

abbrev pair : List PlacedRow → RowPaths → Reached
pair rows r = (row_of rows r.row, r.paths)

over-push : (f : PlacedRow → ℕ) (rs : List Reached) (r : Reached) → over_paths f (rs ++ r ∷ []) ≡ over_paths f rs + r.1 * f r.0
over-push f [] r = let one = sum_by-cons (λ (r : Reached). r.1 * f r.0) r [] in omega arith
over-push f (q ∷ rs) r =
    let whole = sum_by-cons (λ (r : Reached). r.1 * f r.0) q (rs ++ r ∷ []) in
    let part = sum_by-cons (λ (r : Reached). r.1 * f r.0) q rs in
    let rest = over-push f rs r in
    omega arith

-- one row more
pub reached-push : (rows : List PlacedRow) (f : PlacedRow → ℕ) (rs : List RowPaths) (r : RowPaths) → over_paths f (reached_by rows (rs ++ r ∷ [])) ≡ over_paths f (reached_by rows rs) + r.paths * f (row_of rows r.row)
reached-push rows f rs r = ap (over_paths f) (map-append (pair rows) rs (r ∷ [])) ∙ over-push f (reached_by rows rs) (pair rows r)

abbrev pub with_paths : RowPaths → ℕ → RowPaths
with_paths r n = record { row = r.row; paths = n }

-- more paths to a row that is there
pub reached-more : (rows : List PlacedRow) (f : PlacedRow → ℕ) (rs : List RowPaths) (i : ℕ) (r : RowPaths) (q p : ℕ) → i < length rs → r ≡ get_or rs i r → Alike q (r.paths + p)
    → Alike (over_paths f (reached_by rows (set rs i (with_paths r q)))) (over_paths f (reached_by rows rs) + p * f (row_of rows r.row))
reached-more rows f rs i r q p below is more =
    let own = λ (x : RowPaths). x.paths * f (row_of rows x.row) in
    let amount = f (row_of rows r.row) in
    let without = with_paths r 0 in
    let with = with_paths r q in
    let listed = λ (xs : List RowPaths). sum_by-map (λ (x : Reached). x.1 * f x.0) (pair rows) xs in
    let first = sum_by-set own rs i without r below in
    let second = sum_by-set own rs i with r below in
    let here : own (get_or rs i r) ≡ r.paths * amount = ap own (sym is) in
    let product : (r.paths + p) * amount ≡ r.paths * amount + p * amount = omega arith in
    let made : sum_by own (set rs i with) ≡ sum_by own (set rs i without) + q * amount = omega arith in
    let sum : sum_by own (set rs i without) + (r.paths + p) * amount ≡ sum_by own rs + p * amount = omega arith in
    ap capped (listed (set rs i with) ∙ made)
    ∙ (alike-add (sum_by own (set rs i without)) (sum_by own (set rs i without)) (q * amount) ((r.paths + p) * amount) refl (alike-mul q (r.paths + p) amount amount more refl)
    ∙ ap capped (sum ∙ ap (λ (n : ℕ). n + p * amount) (sym (listed rs))))
