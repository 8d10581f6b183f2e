-- A row as its object is walked, and when it is done (Elasticsearch Reference 8, 'Nested field type', 'Keyword type family').
use Rattle.std.specs.Prelude.{ℕ, ◌==◌, List, [], ◌∷◌, ◌++◌, length, map, if◌then◌else◌}
use Rattle.std.specs.declared.cmp.Ordering.{Ordering}
use Rattle.std.specs.declared.cmp.Ordering.TheVariants.{Equal}
use Rattle.std.specs.Ordering.{nat_cmp, int_cmp, bool_cmp, match_ordering}
use Rattle.std.specs.Cmp.Lexicographic.{slice_cmp}
use Rattle.list_laws.specs.Sorting.{insert_sorted, insert_once}
use Rattle.agg_model.specs.declared.row.Scalar.{Scalar}
use Rattle.agg_model.specs.declared.row.Scalar.TheVariants.{Whole, Word, Flag}
use Rattle.agg_model.specs.declared.row.FieldValues.{FieldValues}
use Rattle.agg_model.specs.declared.row.Row.{Row, roll-Row}
use Rattle.agg_model.specs.declared.row.Children.{Children, roll-Children, out-Children}
use Rattle.agg_reading.specs.declared.parts.Draft.{Draft}

-- Numbers by value, words by their bytes, false before true. The values of one field are of one kind.
abbrev pub scalar_cmp : Scalar → Scalar → Ordering
scalar_cmp (Whole m) (Whole n) = int_cmp m n
scalar_cmp (Whole m) (Word w) = Equal
scalar_cmp (Whole m) (Flag b) = Equal
scalar_cmp (Word v) (Whole n) = Equal
scalar_cmp (Word v) (Word w) = slice_cmp nat_cmp v w
scalar_cmp (Word v) (Flag b) = Equal
scalar_cmp (Flag a) (Whole n) = Equal
scalar_cmp (Flag a) (Word w) = Equal
scalar_cmp (Flag a) (Flag b) = bool_cmp a b

-- a value in its place; equal words are joined, equal numbers and flags are kept
unfoldable pub insert_value : Scalar → List Scalar → List Scalar
insert_value (Whole n) ss = insert_sorted scalar_cmp (Whole n) ss
insert_value (Word w) ss = insert_once scalar_cmp (Word w) ss
insert_value (Flag b) ss = insert_sorted scalar_cmp (Flag b) ss

-- the values ascending, words distinct
unfoldable pub finished_values : List Scalar → List Scalar
finished_values [] = []
finished_values (s ∷ ss) = insert_value s (finished_values ss)

unfoldable pub finished_field : FieldValues → FieldValues
finished_field f = record { field = f.field; values = finished_values f.values }

-- a draft whose object was walked to its end
unfoldable pub finished : Draft → Row
finished row = roll-Row (record { values = map finished_field row.values; children = row.children })

abbrev pub empty_draft : Draft
empty_draft = record { values = []; children = [] }

-- the number of values of a field
unfoldable pub count_in : ℕ → List FieldValues → ℕ
count_in field [] = 0
count_in field (f ∷ fs) = if f.field == field then length f.values else count_in field fs

-- one more value of a field, behind those before; the fields stay ascending
unfoldable pub with_value : ℕ → Scalar → List FieldValues → List FieldValues
with_value field s [] = record { field = field; values = s ∷ [] } ∷ []
with_value field s (f ∷ fs) =
    match_ordering (nat_cmp field f.field)
    (record { field = field; values = s ∷ [] } ∷ f ∷ fs)
    (record { field = field; values = f.values ++ s ∷ [] } ∷ fs)
    (f ∷ with_value field s fs)

-- one more row beneath at a nested path, behind those before; the paths stay ascending
unfoldable pub with_row : ℕ → Row → List Children → List Children
with_row path r [] = roll-Children (record { path = path; rows = r ∷ [] }) ∷ []
with_row path r (c ∷ cs) =
    match_ordering (nat_cmp path (out-Children c).path)
    (roll-Children (record { path = path; rows = r ∷ [] }) ∷ c ∷ cs)
    (roll-Children (record { path = path; rows = (out-Children c).rows ++ r ∷ [] }) ∷ cs)
    (c ∷ with_row path r cs)
