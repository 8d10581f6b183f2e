-- Values that a row holds.
use Rattle.std.proofs.Common.{◌≡◌, ℕ, zero, suc, true, List, [], ◌∷◌, ◌⊎◌, inl, inr, Some, Contains, arith}
use Rattle.std.specs.List.{slice_get}
use Rattle.agg_model.specs.declared.row.Scalar.{Scalar}
use Rattle.agg_model.specs.declared.row.Scalar.TheVariants as scalar
use Rattle.agg_evaluation.specs.Rows.{PlacedRow, values_of, row_of}
use Rattle.column_query.specs.declared.content.Content.{Content}
use Rattle.column_query.specs.declared.content.Content.TheVariants.{Wholes, Words, Flags}
use Rattle.column_query.specs.Numbers.{is_content, IsHeld, Holds}

pub contains-at : {A : Type 0} (xs : List A) (k : ℕ) (x : A) → slice_get xs k ≡ Some x → Contains xs x
contains-at [] k x is = absurd (cc is)
contains-at (y ∷ ys) zero x is = (0, omega arith, (let same : y ≡ x = cc is in same))
contains-at (y ∷ ys) (suc k) x is = let rest = contains-at ys k x is in (suc rest.0, omega (arith, rest.1), rest.2)

pub held-at : (rows : List PlacedRow) (field row place : ℕ) (v : Scalar) → slice_get (values_of field (row_of rows row)) place ≡ Some v → IsHeld rows field v
held-at rows field row place v is = (row, contains-at (values_of field (row_of rows row)) place v is)

other : (c : Content) (w : List ℕ) → is_content c (scalar.Word w) ≡ true → (c ≡ Wholes) ⊎ (c ≡ Flags) → ⊥
other Wholes w e is = absurd (cc e)
other Flags w e is = absurd (cc e)
other Words w e is = elim is [
  | inl e ↦ absurd (cc e)
  | inr e ↦ absurd (cc e)
]

pub no_word : (rows : List PlacedRow) (field : ℕ) (c : Content) (row place : ℕ) (w : List ℕ) → Holds rows field c → slice_get (values_of field (row_of rows row)) place ≡ Some (scalar.Word w) → (c ≡ Wholes) ⊎ (c ≡ Flags) → ⊥
no_word rows field c row place w holds at is = other c w (holds.only (scalar.Word w) (held-at rows field row place (scalar.Word w) at)) is
