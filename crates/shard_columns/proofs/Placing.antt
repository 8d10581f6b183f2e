-- Rows that entries stand for: one more entry, and what stays of earlier ones.
use Rattle.std.proofs.Common.{◌≡◌, refl, ℕ, ◌+◌, List, [], ◌∷◌, ◌++◌, map, length, ◌∙◌, ap, arith, length-append}
use Rattle.std.proofs.lemmas.List.{map-append, length-map}
use Rattle.agg_model.specs.declared.row.FieldValues.{FieldValues}
use Rattle.agg_evaluation.specs.Rows.{PlacedRow}
use Rattle.shard_columns.specs.declared.layout.Entry.{Entry}
use Rattle.shard_columns.specs.declared.layout.Laid.{Laid}
use Rattle.shard_columns.specs.Layout.{placed, row_at, flat_rows}

pub placed-append : (ids : List (List ℕ)) (rows : List PlacedRow) (xs ys : List (Entry × List FieldValues)) → placed ids rows (xs ++ ys) ≡ placed ids (placed ids rows xs) ys
unfolding placed
placed-append ids rows [] ys = refl
placed-append ids rows (x ∷ xs) ys = placed-append ids (rows ++ row_at ids rows x.0 x.1 ∷ []) xs ys

pub length-placed : (ids : List (List ℕ)) (rows : List PlacedRow) (xs : List (Entry × List FieldValues)) → length (placed ids rows xs) ≡ length rows + length xs
unfolding placed
length-placed ids rows [] = omega arith
length-placed ids rows (x ∷ xs) = omega (arith, length-placed ids (rows ++ row_at ids rows x.0 x.1 ∷ []) xs, length-append rows (row_at ids rows x.0 x.1 ∷ []))

-- one more entry is one more row
pub flat_rows-push : (ids : List (List ℕ)) (xs : List Laid) (x : Laid) → flat_rows ids (xs ++ x ∷ []) ≡ flat_rows ids xs ++ row_at ids (flat_rows ids xs) x.entry x.values.now ∷ []
unfolding placed
flat_rows-push ids xs x = ap (placed ids []) (map-append (λ (l : Laid). (l.entry, l.values.now)) xs (x ∷ [])) ∙ placed-append ids [] (map (λ (l : Laid). (l.entry, l.values.now)) xs) ((x.entry, x.values.now) ∷ [])

abbrev pair : Laid → Entry × List FieldValues
pair l = (l.entry, l.values.now)

pub length-flat_rows : (ids : List (List ℕ)) (xs : List Laid) → length (flat_rows ids xs) ≡ length xs
length-flat_rows ids xs = length-placed ids [] (map pair xs) ∙ (omega (arith, length-map {A = Laid} {B = Entry × List FieldValues} xs pair))
