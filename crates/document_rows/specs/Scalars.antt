-- Values of fields in one order for all kinds, so that they can be sorted (Elasticsearch Reference 8, 'Field data types').
use Rattle.std.specs.Prelude.{◌≡◌, ℕ, List, Bool, true, false}
use Rattle.std.specs.List.{list_all}
use Rattle.std.specs.Str.{bytes_eq}
use Rattle.std.specs.declared.cmp.Ordering.{Ordering}
use Rattle.std.specs.Ordering.{nat_cmp, int_cmp, bool_cmp}
use Rattle.std.specs.Cmp.Lexicographic.{slice_cmp}
use Rattle.agg_model.specs.declared.mapping.FieldKind.{FieldKind}
use Rattle.agg_model.specs.declared.row.Scalar.{Scalar}
use Rattle.agg_model.specs.declared.row.Scalar.TheVariants.{Whole, Word, Flag}
use Rattle.agg_model.specs.FieldKinds.{is_of_kind}

-- a number for the kind of a value
abbrev pub rank : Scalar → ℕ
rank (Whole z) = 0
rank (Word w) = 1
rank (Flag b) = 2

-- numbers by value, words by their bytes, false before true, and any two kinds by their ranks
abbrev pub scalar_order : Scalar → Scalar → Ordering
scalar_order (Whole m) (Whole n) = int_cmp m n
scalar_order (Word v) (Word w) = slice_cmp nat_cmp v w
scalar_order (Flag a) (Flag b) = bool_cmp a b
scalar_order s t = nat_cmp (rank s) (rank t)

abbrev pub same_word : Scalar → Scalar → Bool
same_word (Word v) (Word w) = bytes_eq v w
same_word _ _ = false

-- some field may have all the values
abbrev pub IsOneKind : List Scalar → Type 0
IsOneKind values = (kind : FieldKind) × (list_all (is_of_kind kind) values ≡ true)
