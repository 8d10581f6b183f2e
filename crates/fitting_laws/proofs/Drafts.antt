-- A row while its object is walked: its fields and nested paths ascend, and are the context's own.
use Rattle.std.specs.Prelude.{◌≡◌, refl, ℕ, ◌+◌, ◌<◌, ◌≤◌, List, [], ◌∷◌, ◌++◌, map, length, Option, Some, None, Bool, true, false, ◌&&◌, ◌==◌, cond, slice_get, nat_le}
use Rattle.std.specs.declared.cmp.Ordering.TheVariants.{Less, Equal, Greater}
use Rattle.std.specs.Ordering.{nat_cmp, match_ordering}
use Rattle.std.specs.List.{list_all}
use Rattle.std.specs.Option.{option_map_or}
use Rattle.std.proofs.Common.{sym, ◌∙◌, ap, arith, length-append}
use Rattle.std.proofs.lemmas.Bool.{false≢true, and_parts, and_from}
use Rattle.std.proofs.lemmas.Bool.Decides.{nat_tests}
use Rattle.std.proofs.lemmas.Cmp.{ranked}
use Rattle.std.proofs.lemmas.List.Folds.{list_all-append}
use Rattle.agg_model.specs.declared.mapping.Field.{Field}
use Rattle.agg_model.specs.declared.mapping.FieldKind.{FieldKind}
use Rattle.agg_model.specs.declared.mapping.Mapping.{Mapping}
use Rattle.agg_model.specs.declared.row.Scalar.{Scalar}
use Rattle.agg_model.specs.declared.row.FieldValues.{FieldValues}
use Rattle.agg_model.specs.declared.row.Row.{Row}
use Rattle.agg_model.specs.declared.row.Children.{Children, roll-Children, out-Children}
use Rattle.agg_reading.specs.declared.parts.Draft.{Draft}
use Rattle.agg_reading.specs.Rows.{with_value, with_row, count_in, finished_values, finished_field, finished}
use Rattle.agg_evaluation.specs.DocumentFits.{path_of, is_value, is_own, is_number_of_values, field_fits, fields_fit, is_path_of, row_fits, child_fits}
use Rattle.fitting_laws.proofs.Rolled.{listed_fit, row-roll, path-roll, child-roll, path-out, child-out}
use Rattle.fitting_laws.proofs.Finishing.{finished_all, finished_ascends, finished_some, finished_few}
use Rattle.fitting_laws.proofs.Places.{IsOwnField}

-- the fields of a draft: as those of a row, but in any order of their values
abbrev pub field_drafted : Mapping → ℕ → FieldValues → Bool
field_drafted m context f = is_own m context f.field f.values && is_number_of_values (length f.values)

abbrev pub fields_drafted : Mapping → ℕ → ℕ → List FieldValues → Bool
fields_drafted m context least [] = true
fields_drafted m context least (f ∷ fs) = nat_le least f.field && (field_drafted m context f && fields_drafted m context (f.field + 1) fs)

number_from : (n : ℕ) → 1 ≤ n → n ≤ 1024 → is_number_of_values n ≡ true
number_from n some few = and_from (nat_le 1 n) (nat_le n 1024) (grind (arith, nat_tests, some)) (grind (arith, nat_tests, few))

least_zero : (n : ℕ) → nat_le 0 n ≡ true
least_zero n = grind (arith, nat_tests)

own_of : (m : Mapping) (context field : ℕ) (vs : List Scalar) (f : Field) → slice_get m.fields field ≡ Some f → is_own m context field vs ≡ ((f.context == context) && list_all (is_value f.kind) vs)
own_of m context field vs f e = ap (λ (o : Option Field). option_map_or (λ g. (g.context == context) && list_all (is_value g.kind) vs) o false) e

module _ (m : Mapping) (context field : ℕ) (kind : FieldKind) (own : IsOwnField m context field kind) where
  values_own : (vs : List Scalar) → list_all (is_value kind) vs ≡ true → is_own m context field vs ≡ true
  values_own vs h = own_of m context field vs own.0 own.1 ∙ and_from _ _ own.3 (ap (λ k. list_all (is_value k) vs) own.2 ∙ h)

  own_values : (vs : List Scalar) → is_own m context field vs ≡ true → list_all (is_value kind) vs ≡ true
  own_values vs h = ap (λ k. list_all (is_value k) vs) (sym own.2) ∙ (and_parts (own.0.context == context) (list_all (is_value own.0.kind) vs) (sym (own_of m context field vs own.0 own.1) ∙ h)).1

  one_drafted : (v : Scalar) → is_value kind v ≡ true → field_drafted m context (record { field = field; values = v ∷ [] }) ≡ true
  one_drafted v h = and_from _ _ (values_own (v ∷ []) (and_from _ _ h refl)) refl

  more_drafted : (v : Scalar) (vs : List Scalar) → is_value kind v ≡ true → is_own m context field vs ≡ true → length vs < 1024 → field_drafted m context (record { field = field; values = vs ++ v ∷ [] }) ≡ true
  more_drafted v vs h own_vs few =
      let n : length (vs ++ v ∷ []) ≡ length vs + 1 = length-append vs (v ∷ []) in
      and_from _ _
      (values_own (vs ++ v ∷ []) (list_all-append (is_value kind) vs (v ∷ []) ∙ and_from _ _ (own_values vs own_vs) (and_from _ _ h refl)))
      (number_from (length (vs ++ v ∷ [])) (omega (arith, n)) (omega (arith, n, few)))

  with_drafted : (least : ℕ) (v : Scalar) (fs : List FieldValues) → is_value kind v ≡ true → nat_le least field ≡ true → nat_le 1024 (count_in field fs) ≡ false → fields_drafted m context least fs ≡ true
      → fields_drafted m context least (with_value field v fs) ≡ true
  unfolding with_value count_in
  with_drafted least v [] h low few fit = and_from _ _ low (and_from _ _ (one_drafted v h) refl)
  with_drafted least v (f ∷ fs) h low few fit =
      let first = and_parts (nat_le least f.field) (field_drafted m context f && fields_drafted m context (f.field + 1) fs) fit in
      let rest = and_parts (field_drafted m context f) (fields_drafted m context (f.field + 1) fs) first.1 in
      elim (nat_cmp field f.field) as (λ o. o ≡ nat_cmp field f.field → fields_drafted m context least (match_ordering o (record { field = field; values = v ∷ [] } ∷ f ∷ fs) (record { field = field; values = f.values ++ v ∷ [] } ∷ fs) (f ∷ with_value field v fs)) ≡ true) [
        | Less ↦ λ e.
            let lt : field < f.field = ranked field f.field Less e in
            let le : nat_le (field + 1) f.field ≡ true = grind (arith, nat_tests, lt) in
            and_from _ _ low (and_from _ _ (one_drafted v h) (and_from _ _ le first.1))
        | Equal ↦ λ e.
            let here : field ≡ f.field = ranked field f.field Equal e in
            let same : (f.field == field) ≡ true = grind (arith, nat_tests, here) in
            let less : nat_le 1024 (length f.values) ≡ false = ap (λ b. nat_le 1024 (cond b (length f.values) (count_in field fs))) (sym same) ∙ few in
            let own_vs : is_own m context field f.values ≡ true = ap (λ (n : ℕ). is_own m context n f.values) here ∙ (and_parts (is_own m context f.field f.values) (is_number_of_values (length f.values)) rest.0).0 in
            and_from _ _ low (and_from _ _ (more_drafted v f.values h own_vs (grind (arith, nat_tests, less))) (ap (λ (n : ℕ). fields_drafted m context (n + 1) fs) here ∙ rest.1))
        | Greater ↦ λ e.
            let gt : f.field < field = ranked field f.field Greater e in
            let other : (f.field == field) ≡ false = grind (arith, nat_tests, gt) in
            let le : nat_le (f.field + 1) field ≡ true = grind (arith, nat_tests, gt) in
            let fewer : nat_le 1024 (count_in field fs) ≡ false = ap (λ b. nat_le 1024 (cond b (length f.values) (count_in field fs))) (sym other) ∙ few in
            and_from _ _ first.0 (and_from _ _ rest.0 (with_drafted (f.field + 1) v fs h le fewer rest.1))
      ] refl

  pub value_drafted : (v : Scalar) (fs : List FieldValues) → is_value kind v ≡ true → nat_le 1024 (count_in field fs) ≡ false → fields_drafted m context 0 fs ≡ true → fields_drafted m context 0 (with_value field v fs) ≡ true
  value_drafted v fs h few fit = with_drafted 0 v fs h (least_zero field) few fit

-- one more row beneath

module _ (m : Mapping) (context path : ℕ) (r : Row) (own : is_path_of m context path ≡ true) (fit_r : row_fits m (path + 1) r ≡ true) where
  with_listed : (least : ℕ) (cs : List Children) → nat_le least path ≡ true → listed_fit m context least cs ≡ true → listed_fit m context least (with_row path r cs) ≡ true
  unfolding with_row
  with_listed least [] low fit =
      and_from _ _ (ap (nat_le least) (path-roll path (r ∷ [])) ∙ low) (and_from _ _ (child-roll m context path (r ∷ []) ∙ and_from _ _ own (and_from _ _ fit_r refl)) refl)
  with_listed least (c ∷ cs) low fit =
      let first = and_parts (nat_le least (path_of c)) (child_fits m context c && listed_fit m context (path_of c + 1) cs) fit in
      let rest = and_parts (child_fits m context c) (listed_fit m context (path_of c + 1) cs) first.1 in
      let at = (out-Children c).path in
      elim (nat_cmp path (out-Children c).path) as (λ o. o ≡ nat_cmp path (out-Children c).path → listed_fit m context least (match_ordering o (roll-Children (record { path = path; rows = r ∷ [] }) ∷ c ∷ cs)
      (roll-Children (record { path = path; rows = (out-Children c).rows ++ r ∷ [] }) ∷ cs) (c ∷ with_row path r cs)) ≡ true) [
        | Less ↦ λ e.
            let lt : path < (out-Children c).path = ranked path (out-Children c).path Less e in
            let le : nat_le (path + 1) (out-Children c).path ≡ true = grind (arith, nat_tests, lt) in
            and_from _ _ (ap (nat_le least) (path-roll path (r ∷ [])) ∙ low)
            (and_from _ _ (child-roll m context path (r ∷ []) ∙ and_from _ _ own (and_from _ _ fit_r refl))
            (and_from _ _ (ap (λ (n : ℕ). nat_le (n + 1) (path_of c)) (path-roll path (r ∷ [])) ∙ ap (nat_le (path + 1)) (path-out c) ∙ le) first.1))
        | Equal ↦ λ e.
            let here : path ≡ (out-Children c).path = ranked path (out-Children c).path Equal e in
            let rows = (out-Children c).rows in
            let before : list_all (row_fits m ((out-Children c).path + 1)) (out-Children c).rows ≡ true =
            (and_parts (is_path_of m context (out-Children c).path) (list_all (row_fits m ((out-Children c).path + 1)) (out-Children c).rows) (sym (child-out m context c) ∙ rest.0)).1 in
            and_from _ _ (ap (nat_le least) (path-roll path (rows ++ r ∷ [])) ∙ low)
            (and_from _ _ (child-roll m context path (rows ++ r ∷ []) ∙ and_from _ _ own (list_all-append (row_fits m (path + 1)) rows (r ∷ []) ∙ and_from _ _ (ap (λ (n : ℕ). list_all (row_fits m (n + 1)) rows) here ∙ before) (and_from _ _ fit_r refl)))
            (ap (λ (n : ℕ). listed_fit m context (n + 1) cs) (path-roll path (rows ++ r ∷ []) ∙ here ∙ sym (path-out c)) ∙ rest.1))
        | Greater ↦ λ e.
            let gt : (out-Children c).path < path = ranked path (out-Children c).path Greater e in
            let le : nat_le ((out-Children c).path + 1) path ≡ true = grind (arith, nat_tests, gt) in
            and_from _ _ first.0 (and_from _ _ rest.0 (with_listed (path_of c + 1) cs (ap (λ (n : ℕ). nat_le (n + 1) path) (path-out c) ∙ le) rest.1))
      ] refl

  pub row_listed : (cs : List Children) → listed_fit m context 0 cs ≡ true → listed_fit m context 0 (with_row path r cs) ≡ true
  row_listed cs fit = with_listed 0 cs (least_zero path) fit

-- a draft whose object was walked to its end

abbrev pub IsDrafted : Mapping → ℕ → Draft → Type 0
IsDrafted m context d = (fields_drafted m context 0 d.values ≡ true) × (listed_fit m context 0 d.children ≡ true)

-- the kind of a field that is there
kind_at : (m : Mapping) (context field : ℕ) (vs : List Scalar) → is_own m context field vs ≡ true → (kind : FieldKind) × IsOwnField m context field kind
kind_at m context field vs h =
    elim (slice_get m.fields field) as (λ o. slice_get m.fields field ≡ o → option_map_or (λ f. (f.context == context) && list_all (is_value f.kind) vs) o false ≡ true → (kind : FieldKind) × IsOwnField m context field kind) [
      | None ↦ λ e k. absurd (false≢true k)
      | Some f ↦ λ e k. (f.kind, (f, e, refl, (and_parts (f.context == context) (list_all (is_value f.kind) vs) k).0))
    ] refl h

field_finished : (m : Mapping) (context : ℕ) (f : FieldValues) → field_drafted m context f ≡ true → field_fits m context (finished_field f) ≡ true
unfolding finished_field
field_finished m context f h =
    let parts = and_parts (is_own m context f.field f.values) (is_number_of_values (length f.values)) h in
    let number = and_parts (nat_le 1 (length f.values)) (nat_le (length f.values) 1024) parts.1 in
    let k = kind_at m context f.field f.values parts.0 in
    let vs = own_values m context f.field k.0 k.1 f.values parts.0 in
    let some : 1 ≤ length (finished_values f.values) = finished_some f.values (grind (arith, nat_tests, number.0)) in
    let few = finished_few f.values in
    let upper : length f.values ≤ 1024 = grind (arith, nat_tests, number.1) in
    and_from _ _ (values_own m context f.field k.0 k.1 (finished_values f.values) (finished_all (is_value k.0) f.values vs))
    (and_from _ _ (number_from (length (finished_values f.values)) some (omega (arith, few, upper))) (finished_ascends k.0 f.values vs))

fields_finished : (m : Mapping) (context least : ℕ) (fs : List FieldValues) → fields_drafted m context least fs ≡ true → fields_fit m context least (map finished_field fs) ≡ true
unfolding finished_field
fields_finished m context least [] h = refl
fields_finished m context least (f ∷ fs) h =
    let first = and_parts (nat_le least f.field) (field_drafted m context f && fields_drafted m context (f.field + 1) fs) h in
    let rest = and_parts (field_drafted m context f) (fields_drafted m context (f.field + 1) fs) first.1 in
    and_from _ _ first.0 (and_from _ _ (field_finished m context f rest.0) (fields_finished m context (f.field + 1) fs rest.1))

pub draft_finished : (m : Mapping) (context : ℕ) (d : Draft) → IsDrafted m context d → row_fits m context (finished d) ≡ true
unfolding finished
draft_finished m context d h = row-roll m context (map finished_field d.values) d.children ∙ and_from _ _ (fields_finished m context 0 d.values h.0) h.1
