-- A row while its object is walked, as the code holds it: lists by place in a map (Elasticsearch Reference 8, 'Nested field type').
use Rattle.std.specs.Prelude.{ℕ, ◌+◌, ◌≤◌, List, [], ◌∷◌, ◌++◌, map, nat_lt, Bool, true, Option, None, Some, ⊤}
use Rattle.std.specs.List.{list_all}
use Rattle.std.specs.Ordering.{nat_cmp, match_ordering}
use Rattle.agg_model.specs.declared.mapping.Field.{Field}
use Rattle.agg_model.specs.declared.row.Scalar.{Scalar}
use Rattle.agg_model.specs.declared.row.FieldValues.{FieldValues}
use Rattle.agg_model.specs.declared.row.Row.{Row}
use Rattle.agg_model.specs.declared.row.Children.{Children, roll-Children}
use Rattle.agg_reading.specs.declared.parts.Draft.{Draft}
use Rattle.document_rows.specs.Roles.{kind_in}
use Rattle.agg_model.specs.FieldKinds.{is_of_kind}

-- another item may stand beside so many; none is the limit of nothing
abbrev pub has_room : Option ℕ → ℕ → Bool
has_room None n = true
has_room (Some most) n = nat_lt n most

-- one more item at a place, behind those before; the places stay ascending
abbrev pub with_item : {A : Type 0} → ℕ → A → List (ℕ × List A) → List (ℕ × List A)
with_item place x [] = (place, x ∷ []) ∷ []
with_item place x (e ∷ es) = match_ordering (nat_cmp place e.0) ((place, x ∷ []) ∷ e ∷ es) ((place, e.1 ++ x ∷ []) ∷ es) (e ∷ with_item place x es)

-- places from a least one on, each above the one before
abbrev pub Ascends : {A : Type 0} → ℕ → List (ℕ × A) → Type 0
Ascends least [] = ⊤
Ascends least (e ∷ es) = (least ≤ e.0) × Ascends (e.0 + 1) es

-- the lists that came in order, or all lists once one came late
abbrev pub all_lists : {A : Type 0} → List (ℕ × A) → List (ℕ × A) → List (ℕ × A)
all_lists ascending [] = ascending
all_lists ascending (e ∷ es) = e ∷ es

abbrev pub field_values : ℕ × List Scalar → FieldValues
field_values e = record { field = e.0; values = e.1 }

abbrev pub child_rows : ℕ × List Row → Children
child_rows e = roll-Children (record { path = e.0; rows = e.1 })

abbrev pub draft_of : List (ℕ × List Scalar) → List (ℕ × List Row) → Draft
draft_of values children = record { values = map field_values values; children = map child_rows children }

-- each value is of the kind of its field
abbrev pub is_typed : List Field → List FieldValues → Bool
is_typed fields values = list_all (λ f. list_all (is_of_kind (kind_in fields f.field)) f.values) values
