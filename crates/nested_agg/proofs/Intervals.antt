-- The rows within a row of a shard: those that follow it, up to some row.
use Rattle.std.proofs.Common.{◌≡◌, ℕ, ◌<◌, ◌≤◌, true, List, [], length, get_or, sym, ◌∙◌, subst, arith}
use Rattle.std.specs.Prelude.{◌&&◌, nat_le, nat_lt, map}
use Rattle.std.proofs.Math.Bool.{Bool-set}
use Rattle.std.proofs.Math.Logic.{∥∥₁_elim}
use Rattle.std.proofs.lemmas.Bool.{and_parts, leb-true}
use Rattle.std.proofs.lemmas.Bool.Decides.{nat_tests}
use Rattle.list_laws.proofs.Booleans.{holds}
use Rattle.agg_model.specs.declared.mapping.Mapping.{Mapping}
use Rattle.agg_model.specs.declared.row.Document.{Document}
use Rattle.agg_evaluation.specs.Rows.{PlacedRow, is_within, row_of, rows_of_documents}
use Rattle.shard_columns.specs.Built.{IsBuiltFrom, IsShard}
use Rattle.shard_columns.specs.Columns.{Columns}
use Rattle.shard_columns.specs.Contexts.{AreEnclosed}
use Rattle.shard_columns.specs.Ends.{each, root_ends}
use Rattle.shard_columns.specs.Rising.{documents_rise}
use Rattle.shard_columns.proofs.Enclosing.{all-rows-laid}
use Rattle.shard_columns.proofs.Givens.{all_rise_from_fit}
use Rattle.shard_columns.proofs.Making.{AreEnclosed-laid}

module _ (rows : List PlacedRow) (ends : List ℕ) (enclosed : AreEnclosed rows ends) where
  parts : (n j : ℕ) → n < length rows → j < length rows → is_within (row_of rows j) (row_of rows n) ≡ true → (nat_le n j ≡ true) × (nat_lt j (get_or ends n 0) ≡ true)
  parts n j n_below j_below h = and_parts (nat_le n j) (nat_lt j (get_or ends n 0)) (sym (enclosed.within n j n_below j_below) ∙ h)

  both : (n k j e : ℕ) → n ≤ k → k ≤ j → nat_lt j e ≡ true → (nat_le n k && nat_lt k e) ≡ true
  both n k j e low high h = grind (arith, nat_tests)

  between_laid : (n k j : ℕ) → j < length rows → n ≤ k → k ≤ j → is_within (row_of rows j) (row_of rows n) ≡ true → is_within (row_of rows k) (row_of rows n) ≡ true
  between_laid n k j j_below low high h =
      enclosed.within n k (omega (arith, j_below)) (omega (arith, j_below))
      ∙ both n k j (get_or ends n 0) low high (parts n j (omega (arith, j_below)) j_below h).1

enclosed_of : (m : Mapping) (s : Columns) (documents : List Document) → IsBuiltFrom m documents s → AreEnclosed s.rows (each (map root_ends documents) 0)
enclosed_of m s documents built =
    let rise = holds (documents_rise documents) (all_rise_from_fit m documents built.fit) in
    subst (λ (c : Columns). AreEnclosed c.rows (each (map root_ends documents) 0)) (sym built.columns_are)
    (AreEnclosed-laid [] (λ q. 0 ≤ q) (rows_of_documents documents) (each (map root_ends documents) 0) (all-rows-laid documents rise))

module _ (s : Columns) (shard : IsShard s) where
  -- a row stands before those within it
  pub before : (n j : ℕ) → n < length s.rows → j < length s.rows → is_within (row_of s.rows j) (row_of s.rows n) ≡ true → n ≤ j
  before n j n_below j_below h =
      leb-true n j (∥∥₁_elim shard (Bool-set _ _) (λ made. ∥∥₁_elim made.1 (Bool-set _ _) (λ found.
      (parts s.rows _ (enclosed_of made.0 s found.0 found.1) n j n_below j_below h).0)))

  -- what stands between a row and one within it lies within it
  pub between : (n k j : ℕ) → j < length s.rows → n ≤ k → k ≤ j → is_within (row_of s.rows j) (row_of s.rows n) ≡ true → is_within (row_of s.rows k) (row_of s.rows n) ≡ true
  between n k j j_below low high h =
      ∥∥₁_elim shard (Bool-set _ _) (λ made. ∥∥₁_elim made.1 (Bool-set _ _) (λ found.
      between_laid s.rows _ (enclosed_of made.0 s found.0 found.1) n k j j_below low high h))
