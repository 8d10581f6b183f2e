-- What a shard is built on, of documents that fit: fields, kinds and paths that rise, row by row.
use Rattle.std.specs.Prelude.{◌≡◌, refl, ℕ, ◌+◌, ◌<◌, ◌≤◌, suc, zero, List, [], ◌∷◌, map, length, slice_get, slice_index, slice_index_or, Option, Some, None, Bool, true, false, ◌&&◌, ◌==◌, cond, nat_le, find, option_map, unwrap_or, is_some}
use Rattle.std.specs.List.{list_all}
use Rattle.std.specs.List.Sorted.{IsStrictlyIncreasing}
use Rattle.std.specs.Option.{option_map_or}
use Rattle.std.proofs.Common.{sym, ◌∙◌, ap, subst, arith}
use Rattle.std.proofs.lemmas.Bool.{false≢true, and_parts, and_from}
use Rattle.std.proofs.lemmas.Bool.Decides.{nat_tests}
use Rattle.agg_model.specs.declared.limits.TheConstants.{MAX_PATHS, WEIGHT_LIMIT}
use Rattle.agg_model.specs.declared.mapping.Field.{Field}
use Rattle.agg_model.specs.declared.mapping.FieldKind.{FieldKind}
use Rattle.agg_model.specs.declared.mapping.FieldKind.TheVariants.{Long, Integer, Short, Byte, Keyword, Boolean, Date}
use Rattle.agg_model.specs.declared.mapping.Mapping.{Mapping}
use Rattle.agg_model.specs.declared.row.Scalar.{Scalar}
use Rattle.agg_model.specs.declared.row.Scalar.TheVariants.{Whole, Word, Flag}
use Rattle.agg_model.specs.declared.row.FieldValues.{FieldValues}
use Rattle.agg_model.specs.declared.row.Row.{Row, Row', Row_of-Children, end_of-Children, more_of-Children}
use Rattle.agg_model.specs.declared.row.Children.{Children, Children', Row_of-Row, end_of-Row, more_of-Row}
use Rattle.agg_model.specs.declared.row.Document.{Document}
use Rattle.agg_evaluation.specs.Rows.{PlacedRow, row_of, no_row, rows_of_documents, values_of}
use Rattle.shard_columns.specs.Stored.{AreSound}
use Rattle.shard_columns.specs.Values.{FieldsBelow}
use Rattle.agg_model.specs.FieldKinds.{is_of_kind}
use Rattle.shard_columns.specs.Given.{IsGiven, RowsBelow}
use Rattle.agg_evaluation.specs.DocumentFits.{is_value, ascend, is_own, is_number_of_values, path_of, is_path_of, field_fits, fields_fit, row_fits, children_fit, child_fits, rows_fit, fits, all_fit}
use Rattle.agg_evaluation.specs.PlacedFits.{placed_fits, rows_placed}
use Rattle.std.proofs.lemmas.Option.{slice_get_within}
use Rattle.agg_evaluation.specs.RowsWeight.{rows_weight}
use Rattle.agg_evaluation.proofs.RowsFit.{rows_fit_placed}
use Rattle.shard_columns.specs.Rising.{paths_rise, rise_from, children_rise, all_rise, documents_rise}

-- what holds of each item holds of the item at each place, where it holds of the one behind the end
pub all_at : {A : Type 0} (p : A → Bool) (xs : List A) (none : A) → p none ≡ true → list_all p xs ≡ true → (n : ℕ) → p (slice_index_or xs n none) ≡ true
all_at p [] none d h n = d
all_at p (x ∷ xs) none d h zero = (and_parts (p x) (list_all p xs) h).0
all_at p (x ∷ xs) none d h (suc n) = all_at p xs none d (and_parts (p x) (list_all p xs) h).1 n

module _ (m : Mapping) where
  mutual
    row_rises : (r : Row) (context : ℕ) → row_fits m context r ≡ true → paths_rise r ≡ true
    row_rises (Row' values n children) context h = children_rise_from children context 0 (and_parts (fields_fit m context 0 values) (children_fit m context 0 children) h).1

    children_rise_from : {n : _} (cs : Row_of-Children n) (context least : ℕ) → children_fit m context least cs ≡ true → rise_from least cs ≡ true
    children_rise_from end_of-Children context least h = refl
    children_rise_from (more_of-Children c rest) context least h =
        let first = and_parts (nat_le least (path_of c)) (child_fits m context c && children_fit m context (path_of c + 1) rest) h in
        let parts = and_parts (child_fits m context c) (children_fit m context (path_of c + 1) rest) first.1 in
        and_from _ _ first.0 (and_from _ _ (child_rises c context parts.0) (children_rise_from rest context (path_of c + 1) parts.1))

    child_rises : (c : Children) (context : ℕ) → child_fits m context c ≡ true → children_rise c ≡ true
    child_rises (Children' path n rows) context h = rows_rise rows (path + 1) (and_parts (is_path_of m context path) (rows_fit m (path + 1) rows) h).1

    rows_rise : {n : _} (rs : Row_of-Row n) (context : ℕ) → rows_fit m context rs ≡ true → all_rise rs ≡ true
    rows_rise end_of-Row context h = refl
    rows_rise (more_of-Row r rest) context h = let parts = and_parts (row_fits m context r) (rows_fit m context rest) h in and_from _ _ (row_rises r context parts.0) (rows_rise rest context parts.1)

  pub all_rise_from_fit : (ds : List Document) → all_fit m ds ≡ true → documents_rise ds ≡ true
  all_rise_from_fit [] h = refl
  all_rise_from_fit (d ∷ ds) h = let parts = and_parts (fits m d.root) (all_fit m ds) h in and_from _ _ (row_rises d.root 0 parts.0) (all_rise_from_fit ds parts.1)

  no_row_fits : placed_fits m no_row ≡ true
  no_row_fits = and_from (nat_le 0 (length m.nested)) _ (grind (arith, nat_tests)) refl

  own_field : (context field : ℕ) (vs : List Scalar) → is_own m context field vs ≡ true → (f : Field) × (slice_get m.fields field ≡ Some f) × (list_all (is_value f.kind) vs ≡ true)
  own_field context field vs h =
      elim (slice_get m.fields field) as (λ o. slice_get m.fields field ≡ o → option_map_or (λ f. (f.context == context) && list_all (is_value f.kind) vs) o false ≡ true → (f : Field) × (slice_get m.fields field ≡ Some f) × (list_all (is_value f.kind) vs ≡ true)) [
        | None ↦ λ e k. absurd (false≢true k)
        | Some f ↦ λ e k. (f, e, (and_parts (f.context == context) (list_all (is_value f.kind) vs) k).1)
      ] refl h

  -- what a list of fields says of its first and of the others
  first_of : (context least : ℕ) (f : FieldValues) (fs : List FieldValues) → fields_fit m context least (f ∷ fs) ≡ true
      → (nat_le least f.field ≡ true) × (is_own m context f.field f.values ≡ true) × (fields_fit m context (f.field + 1) fs ≡ true)
  first_of context least f fs h =
      let first = and_parts (nat_le least f.field) (field_fits m context f && fields_fit m context (f.field + 1) fs) h in
      let rest = and_parts (field_fits m context f) (fields_fit m context (f.field + 1) fs) first.1 in
      (first.0, (and_parts (is_own m context f.field f.values) (is_number_of_values (length f.values) && ascend f.values) rest.0).0, rest.1)

  below_of : (context least : ℕ) (fs : List FieldValues) → fields_fit m context least fs ≡ true → FieldsBelow (length m.fields) fs
  unfolding FieldsBelow
  below_of context least [] h = tt
  below_of context least (f ∷ fs) h =
      let parts = first_of context least f fs h in
      let own = own_field context f.field f.values parts.1 in
      (slice_get_within m.fields f.field own.0 own.1, below_of context (f.field + 1) fs parts.2)

  rows_below : (rows : List PlacedRow) → rows_placed m rows ≡ true → RowsBelow (length m.fields) rows
  unfolding RowsBelow
  rows_below [] h = tt
  rows_below (r ∷ rows) h =
      let parts = and_parts (placed_fits m r) (rows_placed m rows) h in
      (below_of r.context 0 r.values (and_parts (nat_le r.context (length m.nested)) (fields_fit m r.context 0 r.values) parts.0).1, rows_below rows parts.1)

  rises_next : (context least : ℕ) (fs : List FieldValues) → fields_fit m context least fs ≡ true → (k : ℕ) → suc k < length (map (λ v. v.field) fs) → slice_index (map (λ v. v.field) fs) k < slice_index (map (λ v. v.field) fs) (suc k)
  rises_next context least [] h k low = absurd (omega (arith, low))
  rises_next context least (f ∷ []) h k low = absurd (omega (arith, low))
  rises_next context least (f ∷ g ∷ fs) h zero low =
      let next = (first_of context (f.field + 1) g fs (first_of context least f (g ∷ fs) h).2).0 in
      grind (arith, nat_tests, next)
  rises_next context least (f ∷ g ∷ fs) h (suc k) low = rises_next context (f.field + 1) (g ∷ fs) (first_of context least f (g ∷ fs) h).2 k (omega (arith, low))

  rises : (context least : ℕ) (fs : List FieldValues) → fields_fit m context least fs ≡ true → IsStrictlyIncreasing (map (λ v. v.field) fs)
  rises context least fs h k low =
      let next : suc k ≡ k + 1 = omega arith in
      subst (λ (n : ℕ). slice_index (map (λ v. v.field) fs) k < slice_index (map (λ v. v.field) fs) n) next (rises_next context least fs h k (omega (arith, low)))

  of_kind : (k : FieldKind) (v : Scalar) → is_value k v ≡ true → is_of_kind k v ≡ true
  of_kind Keyword (Word w) h = refl
  of_kind Keyword (Whole w) h = absurd (false≢true h)
  of_kind Keyword (Flag w) h = absurd (false≢true h)
  of_kind Boolean (Flag w) h = refl
  of_kind Boolean (Whole w) h = absurd (false≢true h)
  of_kind Boolean (Word w) h = absurd (false≢true h)
  of_kind Long (Whole w) h = refl
  of_kind Long (Word w) h = absurd (false≢true h)
  of_kind Long (Flag w) h = absurd (false≢true h)
  of_kind Integer (Whole w) h = refl
  of_kind Integer (Word w) h = absurd (false≢true h)
  of_kind Integer (Flag w) h = absurd (false≢true h)
  of_kind Short (Whole w) h = refl
  of_kind Short (Word w) h = absurd (false≢true h)
  of_kind Short (Flag w) h = absurd (false≢true h)
  of_kind Byte (Whole w) h = refl
  of_kind Byte (Word w) h = absurd (false≢true h)
  of_kind Byte (Flag w) h = absurd (false≢true h)
  of_kind Date (Whole w) h = refl
  of_kind Date (Word w) h = absurd (false≢true h)
  of_kind Date (Flag w) h = absurd (false≢true h)

  all_of_kind : (k : FieldKind) (vs : List Scalar) → list_all (is_value k) vs ≡ true → list_all (is_of_kind k) vs ≡ true
  all_of_kind k [] h = refl
  all_of_kind k (v ∷ vs) h = let parts = and_parts (is_value k v) (list_all (is_value k) vs) h in and_from _ _ (of_kind k v parts.0) (all_of_kind k vs parts.1)

  kind_there : (fs : List Field) (n : ℕ) (k : FieldKind) → slice_get (map (λ f. f.kind) fs) n ≡ Some k → (f : Field) → slice_get fs n ≡ Some f → f.kind ≡ k
  kind_there [] n k e f there = absurd (false≢true (ap is_some e))
  kind_there (g ∷ fs) zero k e f there = ap (λ (o : Option Field). option_map_or (λ x. x.kind) o k) (sym there) ∙ ap (λ (o : Option FieldKind). unwrap_or o k) e
  kind_there (g ∷ fs) (suc n) k e f there = kind_there fs n k e f there

  kinds_hold : (context least : ℕ) (fs : List FieldValues) → fields_fit m context least fs ≡ true → (field : ℕ) (k : FieldKind) → slice_get (map (λ f. f.kind) m.fields) field ≡ Some k
      → list_all (is_of_kind k) (unwrap_or (option_map (λ v. v.values) (find (λ v. v.field == field) fs)) []) ≡ true
  kinds_hold context least [] h field k e = refl
  kinds_hold context least (f ∷ fs) h field k e =
      let parts = first_of context least f fs h in
      elim (f.field == field) as (λ b. (f.field == field) ≡ b → list_all (is_of_kind k) (unwrap_or (option_map (λ v. v.values) (cond b (Some f) (find (λ v. v.field == field) fs))) []) ≡ true) [
        | true ↦ λ t.
            let same : f.field ≡ field = grind (arith, nat_tests, t) in
            let own = own_field context f.field f.values parts.1 in
            let kind = kind_there m.fields field k e own.0 (ap (slice_get m.fields) (sym same) ∙ own.1) in
            all_of_kind k f.values (ap (λ q. list_all (is_value q) f.values) (sym kind) ∙ own.2)
        | false ↦ λ t. kinds_hold context (f.field + 1) fs parts.2 field k e
      ] refl

  pub documents_given : (ds : List Document) → length m.fields + length m.nested ≤ MAX_PATHS → rows_weight (rows_of_documents ds) < WEIGHT_LIMIT → all_fit m ds ≡ true → IsGiven m ds
  documents_given ds few light h =
      let rows = rows_of_documents ds in
      let placed : rows_placed m (rows_of_documents ds) ≡ true = rows_fit_placed m ds h in
      let at : (n : ℕ) → placed_fits m (row_of (rows_of_documents ds) n) ≡ true = all_at (placed_fits m) (rows_of_documents ds) no_row no_row_fits placed in
      let parts : (n : ℕ) → (nat_le (row_of (rows_of_documents ds) n).context (length m.nested) ≡ true) × (fields_fit m (row_of (rows_of_documents ds) n).context 0 (row_of (rows_of_documents ds) n).values ≡ true) = λ n. and_parts _ _ (at n) in
      record {
        fields = rows_below rows placed;
        rising = λ n. rises (row_of rows n).context 0 (row_of rows n).values (parts n).1;
        kinds = λ field kind e n. kinds_hold (row_of rows n).context 0 (row_of rows n).values (parts n).1 field kind e;
        contexts = λ n. let c = (parts n).0 in grind (arith, nat_tests, c);
        paths = all_rise_from_fit ds h;
        few_fields = omega (arith, few);
        few_paths = omega (arith, few);
        light = light;
      }

  -- each field of a row has values of its kind
  pub sound_fields : (context least : ℕ) (fs : List FieldValues) → fields_fit m context least fs ≡ true → AreSound (map (λ f. f.kind) m.fields) least fs
  unfolding AreSound
  sound_fields context least [] h = tt
  sound_fields context least (f ∷ fs) h =
      let first = and_parts (nat_le least f.field) (field_fits m context f && fields_fit m context (f.field + 1) fs) h in
      let rest = and_parts (field_fits m context f) (fields_fit m context (f.field + 1) fs) first.1 in
      let parts = and_parts (is_own m context f.field f.values) (is_number_of_values (length f.values) && ascend f.values) rest.0 in
      let number = and_parts (is_number_of_values (length f.values)) (ascend f.values) parts.1 in
      let some = (and_parts (nat_le 1 (length f.values)) _ number.0).0 in
      let low = first.0 in
      let own = own_field context f.field f.values parts.0 in (
        grind (arith, nat_tests, low),
        (
          grind (arith, nat_tests, some),
          (
            λ k e. (let kind = kind_there m.fields f.field k e own.0 own.1 in all_of_kind k f.values (ap (λ q. list_all (is_value q) f.values) (sym kind) ∙ own.2)),
            sound_fields context (f.field + 1) fs rest.1,
          ),
        ),
      )

  pub sound_rows : (ds : List Document) → all_fit m ds ≡ true → (n : ℕ) → AreSound (map (λ f. f.kind) m.fields) 0 (row_of (rows_of_documents ds) n).values
  sound_rows ds h n =
      let row = row_of (rows_of_documents ds) n in
      sound_fields row.context 0 row.values (and_parts _ _ (all_at (placed_fits m) (rows_of_documents ds) no_row no_row_fits (rows_fit_placed m ds h) n)).1

  ascend_found : (context least : ℕ) (fs : List FieldValues) (field : ℕ) → fields_fit m context least fs ≡ true → ascend (unwrap_or (option_map (λ v. v.values) (find (λ v. v.field == field) fs)) []) ≡ true
  ascend_found context least [] field h = refl
  ascend_found context least (f ∷ fs) field h =
      let first = and_parts (nat_le least f.field) (field_fits m context f && fields_fit m context (f.field + 1) fs) h in
      let rest = and_parts (field_fits m context f) (fields_fit m context (f.field + 1) fs) first.1 in
      let parts = and_parts (is_own m context f.field f.values) (is_number_of_values (length f.values) && ascend f.values) rest.0 in
      let up = (and_parts (is_number_of_values (length f.values)) (ascend f.values) parts.1).1 in
      pick (f.field == field) up (ascend_found context (f.field + 1) fs field rest.1)
    where
      pick : (b : Bool) → ascend f.values ≡ true → ascend (unwrap_or (option_map (λ v. v.values) (find (λ v. v.field == field) fs)) []) ≡ true →
          ascend (unwrap_or (option_map (λ v. v.values) (cond b (Some f) (find (λ v. v.field == field) fs))) []) ≡ true
      pick true here there = here
      pick false here there = there

  pub ascend_rows : (ds : List Document) → all_fit m ds ≡ true → (field n : ℕ) → ascend (values_of field (row_of (rows_of_documents ds) n)) ≡ true
  ascend_rows ds h field n =
      let row = row_of (rows_of_documents ds) n in
      ascend_found row.context 0 row.values field (and_parts _ _ (all_at (placed_fits m) (rows_of_documents ds) no_row no_row_fits (rows_fit_placed m ds h) n)).1
