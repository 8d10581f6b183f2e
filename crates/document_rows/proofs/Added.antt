-- What one more item makes of a row that is walked.
use Rattle.std.specs.Prelude.{◌≡◌, refl, ℕ, ◌==◌, List, [], ◌∷◌, ◌++◌, map, length, Some, true, false, unwrap_or, option_map, cond}
use Rattle.std.specs.declared.cmp.Ordering.TheVariants.{Less, Equal, Greater}
use Rattle.std.specs.Ordering.{nat_cmp, is_eq, match_ordering}
use Rattle.std.specs.Map.{lookup}
use Rattle.std.specs.BTreeMap.{is_at}
use Rattle.std.proofs.Common.{sym, ◌∙◌, ap, arith}
use Rattle.std.proofs.lemmas.Bool.Decides.{nat_tests}
use Rattle.agg_model.specs.declared.row.Scalar.{Scalar}
use Rattle.agg_model.specs.declared.row.FieldValues.{FieldValues}
use Rattle.agg_model.specs.declared.row.Row.{Row}
use Rattle.agg_model.specs.declared.row.Children.{Children, out-roll-Children}
use Rattle.agg_reading.specs.declared.parts.Draft.{Draft}
use Rattle.agg_reading.specs.Rows.{count_in, with_value, with_row}
use Rattle.document_rows.specs.Drafts.{with_item, field_values, child_rows, draft_of}

same_test : (a b : ℕ) → (a == b) ≡ is_eq (nat_cmp b a)
same_test a b = grind (arith, nat_tests)

pub counted : (field : ℕ) (es : List (ℕ × List Scalar)) → count_in field (map field_values es) ≡ unwrap_or (option_map length (lookup (is_at (nat_cmp field)) es)) 0
unfolding count_in
counted field [] = refl
counted field (e ∷ es) =
    ap (λ b. cond b (length e.1) (count_in field (map field_values es))) (same_test e.0 field)
    ∙ elim (is_eq (nat_cmp field e.0)) as (λ b. cond b (length e.1) (count_in field (map field_values es)) ≡ unwrap_or (option_map length (cond b (Some e.1) (lookup (is_at (nat_cmp field)) es))) 0) [ true ↦ refl | false ↦ counted field es ]

values-with : (field : ℕ) (v : Scalar) (es : List (ℕ × List Scalar)) → map field_values (with_item field v es) ≡ with_value field v (map field_values es)
unfolding with_value
values-with field v [] = refl
values-with field v (e ∷ es) =
    elim (nat_cmp field e.0) as (λ o. map field_values (match_ordering o ((field, v ∷ []) ∷ e ∷ es) ((field, e.1 ++ v ∷ []) ∷ es) (e ∷ with_item field v es))
    ≡ match_ordering o (field_values (field, v ∷ []) ∷ map field_values (e ∷ es)) (field_values (field, e.1 ++ v ∷ []) ∷ map field_values es) (field_values e ∷ with_value field v (map field_values es))) [
      | Less ↦ refl
      | Equal ↦ refl
      | Greater ↦ ap (λ fs. field_values e ∷ fs) (values-with field v es)
    ]

rows-with : (path : ℕ) (r : Row) (es : List (ℕ × List Row)) → map child_rows (with_item path r es) ≡ with_row path r (map child_rows es)
unfolding with_row
rows-with path r [] = refl
rows-with path r (e ∷ es) =
    elim (nat_cmp path e.0) as (λ o. map child_rows (match_ordering o ((path, r ∷ []) ∷ e ∷ es) ((path, e.1 ++ r ∷ []) ∷ es) (e ∷ with_item path r es))
    ≡ match_ordering o (child_rows (path, r ∷ []) ∷ map child_rows (e ∷ es)) (child_rows (path, e.1 ++ r ∷ []) ∷ map child_rows es) (child_rows e ∷ with_row path r (map child_rows es))) [
      | Less ↦ refl
      | Equal ↦ refl
      | Greater ↦ ap (λ cs. child_rows e ∷ cs) (rows-with path r es)
    ]
    ∙ ap (λ c. match_ordering (nat_cmp path c.path) (child_rows (path, r ∷ []) ∷ map child_rows (e ∷ es)) (child_rows (path, c.rows ++ r ∷ []) ∷ map child_rows es) (child_rows e ∷ with_row path r (map child_rows es)))
    (sym (out-roll-Children (record { path = e.0; rows = e.1 })))

pub value_added : (field : ℕ) (v : Scalar) (es new : List (ℕ × List Scalar)) (cs : List (ℕ × List Row)) (d : Draft) → new ≡ with_item field v es → draft_of es cs ≡ d
    → draft_of new cs ≡ record { values = with_value field v d.values; children = d.children }
value_added field v es new cs d e is =
    ap (λ xs. draft_of xs cs) e
    ∙ ap (λ (vs : List FieldValues). let x : Draft = record { values = vs; children = map child_rows cs } in x) (values-with field v es)
    ∙ ap (λ (old : Draft). let x : Draft = record { values = with_value field v old.values; children = old.children } in x) is

pub row_added : (path : ℕ) (r : Row) (es : List (ℕ × List Scalar)) (cs new : List (ℕ × List Row)) (d : Draft) → new ≡ with_item path r cs → draft_of es cs ≡ d
    → draft_of es new ≡ record { values = d.values; children = with_row path r d.children }
row_added path r es cs new d e is =
    ap (λ xs. draft_of es xs) e
    ∙ ap (λ (rows : List Children). let x : Draft = record { values = map field_values es; children = rows } in x) (rows-with path r cs)
    ∙ ap (λ (old : Draft). let x : Draft = record { values = old.values; children = with_row path r old.children } in x) is
