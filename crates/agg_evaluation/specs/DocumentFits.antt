-- A row of a document such as its reader gives it for a mapping (Elasticsearch Reference 8, 'Mapping', 'Nested field type').
use Rattle.std.specs.Prelude.{ℕ, ◌+◌, ◌==◌, List, [], ◌∷◌, length, slice_get, Bool, true, false, ◌&&◌, nat_le}
use Rattle.std.specs.List.{list_all}
use Rattle.std.specs.Option.{option_map_or}
use Rattle.std.specs.Ordering.{nat_cmp, int_cmp, bool_cmp, is_lt, is_le}
use Rattle.std.specs.Cmp.Lexicographic.{slice_cmp}
use Rattle.date_spec.specs.Instants.{is_in_range}
use Rattle.agg_model.specs.declared.limits.TheConstants.{MAX_FIELD_VALUES, MAX_KEYWORD}
use Rattle.agg_model.specs.declared.mapping.FieldKind.{FieldKind}
use Rattle.agg_model.specs.declared.mapping.Mapping.{Mapping}
use Rattle.agg_model.specs.declared.row.Scalar.{Scalar}
use Rattle.agg_model.specs.declared.row.Scalar.TheVariants.{Whole, Word, Flag}
use Rattle.agg_model.specs.declared.row.FieldValues.{FieldValues}
use Rattle.agg_model.specs.declared.row.Row.{Row, Row', Row_of-Children, end_of-Children, more_of-Children}
use Rattle.agg_model.specs.declared.row.Children.{Children, Children', Row_of-Row, end_of-Row, more_of-Row}
use Rattle.agg_model.specs.declared.row.Document.{Document}
use Rattle.agg_model.specs.FieldKinds.{ValueKind, value_kind, fits_below}

abbrev pub is_value_of : ValueKind → Scalar → Bool
is_value_of (ValueKind.wholes half) (Whole z) = fits_below half z
is_value_of (ValueKind.wholes half) (Word w) = false
is_value_of (ValueKind.wholes half) (Flag b) = false
is_value_of ValueKind.words (Whole z) = false
is_value_of ValueKind.words (Word w) = nat_le (length w) MAX_KEYWORD
is_value_of ValueKind.words (Flag b) = false
is_value_of ValueKind.flags (Whole z) = false
is_value_of ValueKind.flags (Word w) = false
is_value_of ValueKind.flags (Flag b) = true
is_value_of ValueKind.dates (Whole z) = is_in_range z
is_value_of ValueKind.dates (Word w) = false
is_value_of ValueKind.dates (Flag b) = false

-- a value of the kind, in its range
abbrev pub is_value : FieldKind → Scalar → Bool
is_value kind v = is_value_of (value_kind kind) v

-- one value may stand right before another: numbers and flags repeat, words do not
abbrev pub follows : Scalar → Scalar → Bool
follows (Whole m) (Whole n) = is_le (int_cmp m n)
follows (Whole m) (Word w) = false
follows (Whole m) (Flag b) = false
follows (Word v) (Whole n) = false
follows (Word v) (Word w) = is_lt (slice_cmp nat_cmp v w)
follows (Word v) (Flag b) = false
follows (Flag a) (Whole n) = false
follows (Flag a) (Word w) = false
follows (Flag a) (Flag b) = is_le (bool_cmp a b)

abbrev pub ascend_from : Scalar → List Scalar → Bool
ascend_from s [] = true
ascend_from s (t ∷ ts) = follows s t && ascend_from t ts

abbrev pub ascend : List Scalar → Bool
ascend [] = true
ascend (s ∷ ss) = ascend_from s ss

-- the values are of the kind of the field, which is one of the context's own
abbrev pub is_own : Mapping → ℕ → ℕ → List Scalar → Bool
is_own m context field values = option_map_or (λ f. (f.context == context) && list_all (is_value f.kind) values) (slice_get m.fields field) false

-- 1 to MAX_FIELD_VALUES values
abbrev pub is_number_of_values : ℕ → Bool
is_number_of_values n = nat_le 1 n && nat_le n MAX_FIELD_VALUES

abbrev pub field_fits : Mapping → ℕ → FieldValues → Bool
field_fits m context f = is_own m context f.field f.values && (is_number_of_values (length f.values) && ascend f.values)

-- the fields ascend from this number on
abbrev pub fields_fit : Mapping → ℕ → ℕ → List FieldValues → Bool
fields_fit m context least [] = true
fields_fit m context least (f ∷ fs) = nat_le least f.field && (field_fits m context f && fields_fit m context (f.field + 1) fs)

-- the nested path lies directly beneath the context
abbrev pub is_path_of : Mapping → ℕ → ℕ → Bool
is_path_of m context path = option_map_or (λ p. p.parent == context) (slice_get m.nested path) false

abbrev pub path_of : Children → ℕ
path_of (Children' path n rows) = path

abbrev mutual
  -- a row of this context, 0 for the root, with all that lies beneath it
  pub row_fits : Mapping → ℕ → Row → Bool
  row_fits m context (Row' values n children) = fields_fit m context 0 values && children_fit m context 0 children

  -- the paths ascend from this number on
  pub children_fit : {n : _} → Mapping → ℕ → ℕ → Row_of-Children n → Bool
  children_fit m context least end_of-Children = true
  children_fit m context least (more_of-Children c rest) = nat_le least (path_of c) && (child_fits m context c && children_fit m context (path_of c + 1) rest)

  pub child_fits : Mapping → ℕ → Children → Bool
  child_fits m context (Children' path n rows) = is_path_of m context path && rows_fit m (path + 1) rows

  pub rows_fit : {n : _} → Mapping → ℕ → Row_of-Row n → Bool
  rows_fit m context end_of-Row = true
  rows_fit m context (more_of-Row r rest) = row_fits m context r && rows_fit m context rest

-- a document's root row such as the reader gives it for the mapping
abbrev pub fits : Mapping → Row → Bool
fits m root = row_fits m 0 root

abbrev pub all_fit : Mapping → List Document → Bool
all_fit m documents = list_all (λ d. fits m d.root) documents
