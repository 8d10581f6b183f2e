-- The walk of a document gives each field values of its kind alone.
use Rattle.std.specs.Prelude.{◌≡◌, refl, ℕ, ◌+◌, List, [], ◌∷◌, ◌++◌, Option, Some, None, Result, Ok, Err, Bool, true, false, not, ◌&&◌, ◌==◌, cond, ⊤, nat_le, nat_lt, length, ℤ}
use Rattle.std.specs.declared.cmp.Ordering.TheVariants.{Less, Equal, Greater}
use Rattle.std.specs.Ordering.{nat_cmp, match_ordering}
use Rattle.std.specs.List.{list_all}
use Rattle.std.proofs.Common.{sym, ◌∙◌, ap, subst, arith}
use Rattle.std.proofs.lemmas.Bool.{and_parts, and_from}
use Rattle.std.proofs.lemmas.Cmp.{ranked}
use Rattle.std.proofs.lemmas.List.Folds.{list_all-append}
use Rattle.date_spec.specs.declared.fault.DateFault.{DateFault}
use Rattle.date_spec.specs.declared.fault.DateFault.TheVariants.{Malformed, OutOfRange}
use Rattle.date_spec.specs.DateTexts.{read_date}
use Rattle.serde_json.specs.Find.{as_integer}
use Rattle.serde_json.specs.Data.{Data, null, boolean, number, string, array, object, Items, no_items, item, Members, no_members, member}
use Rattle.agg_model.specs.declared.mapping.Field.{Field}
use Rattle.agg_model.specs.declared.mapping.FieldKind.{FieldKind}
use Rattle.agg_model.specs.declared.mapping.FieldKind.TheVariants.{Long, Integer, Short, Byte, Keyword, Boolean, Date}
use Rattle.agg_model.specs.declared.mapping.NestedPath.{NestedPath}
use Rattle.agg_model.specs.declared.mapping.Mapping.{Mapping}
use Rattle.agg_model.specs.declared.row.Scalar.{Scalar}
use Rattle.agg_model.specs.declared.row.Scalar.TheVariants.{Whole, Word, Flag}
use Rattle.agg_model.specs.declared.row.FieldValues.{FieldValues}
use Rattle.agg_reading.specs.declared.parts.Role.{Role}
use Rattle.agg_reading.specs.declared.parts.Role.TheVariants as role
use Rattle.agg_reading.specs.Reading.{Reading, ◌>>=◌, refuse, or_refuse}
use Rattle.agg_reading.specs.Json.{is_among}
use Rattle.agg_reading.specs.Fields.{field_from, nested_from}
use Rattle.agg_reading.specs.Scalars.{whole, word}
use Rattle.agg_model.specs.FieldKinds.{fits_kind, is_of_kind}
use Rattle.agg_reading.specs.Rows.{with_value, count_in, empty_draft}
use Rattle.agg_reading.specs.Document.{State, leads_deeper, nested_role, inner_role, field_role, role_of, number_value, word_value, is_ignored, document_flag, instant_value, date_value, scalar_at, with_scalar, leaf_at, around, object_by, chosen, value_at, items_at, members_at}
use Rattle.document_rows.specs.Drafts.{is_typed}
use Rattle.document_rows.specs.Roles.{kind_in, IsRoleIn}
use Rattle.document_rows.proofs.Places.{kind_found, nested_found}

-- the role of a path is one of the mapping's

nested_known : (m : Mapping) (context : ℕ) (path : List ℕ) (found : Option (ℕ × NestedPath)) → nested_from 0 m.nested path ≡ found → IsRoleIn m (nested_role context found)
nested_known m context path None e = tt
nested_known m context path (Some p) e =
    elim (p.1.parent == context) as (λ b. IsRoleIn m (cond b (role.Nested p.0) role.Unmapped)) [ true ↦ omega (arith, nested_found 0 m.nested path p.0 p.1 e) | false ↦ tt ]

inner_known : (m : Mapping) (context : ℕ) (path : List ℕ) → IsRoleIn m (inner_role m context path)
inner_known m context path =
    elim (is_among m.objects path && not (leads_deeper m context path)) as (λ b. IsRoleIn m (cond b role.Plain (nested_role context (nested_from 0 m.nested path)))) [
      | true ↦ tt
      | false ↦ nested_known m context path (nested_from 0 m.nested path) refl
    ]

field_known : (m : Mapping) (context : ℕ) (path : List ℕ) (found : Option (ℕ × Field)) → field_from 0 m.fields path ≡ found → IsRoleIn m (field_role m context path found)
field_known m context path None e = inner_known m context path
field_known m context path (Some f) e =
    let r = kind_found 0 m.fields path f.0 f.1 e in
    let place : r.0 ≡ f.0 = omega (arith, r.1) in
    elim (f.1.context == context) as (λ b. IsRoleIn m (cond b (role.Leaf f.0 f.1.kind f.1.ignore_above) (inner_role m context path))) [
      | true ↦ r.2 ∙ ap (kind_in m.fields) place
      | false ↦ inner_known m context path
    ]

role_known : (m : Mapping) (context : ℕ) (path : List ℕ) → IsRoleIn m (role_of m context path)
unfolding role_of
role_known m context path = field_known m context path (field_from 0 m.fields path) refl

-- what a value gives is of its field's kind

abbrev OfKind : FieldKind → Reading (Option Scalar) → Type 0
OfKind kind (Ok (Some v)) = is_of_kind kind v ≡ true
OfKind kind (Ok None) = ⊤
OfKind kind (Err e) = ⊤

whole_kind : (kind : FieldKind) (path : List ℕ) (z : Option ℤ) → ((n : ℤ) → is_of_kind kind (Whole n) ≡ true) → OfKind kind (number_value kind path z)
whole_kind kind path None whole = tt
whole_kind kind path (Some z) whole = elim (fits_kind kind z) as (λ b. OfKind kind (cond b (Ok (Some (Whole z))) (refuse 22 path))) [ true ↦ whole z | false ↦ tt ]

word_kind : (above : Option ℕ) (path : List ℕ) (w : Option (List ℕ)) → OfKind Keyword (word_value above path w)
word_kind above path None = tt
word_kind above path (Some w) =
    elim (is_ignored above w) as (λ b. OfKind Keyword (cond b (Ok None) (cond (nat_lt 32766 (length w)) (refuse 23 path) (Ok (Some (Word w)))))) [
      | true ↦ tt
      | false ↦ elim (nat_lt 32766 (length w)) as (λ b. OfKind Keyword (cond b (refuse 23 path) (Ok (Some (Word w))))) [ true ↦ tt | false ↦ refl ]
    ]

flag_kind : (path : List ℕ) (b : Option Bool) → OfKind Boolean (or_refuse 21 path b >>= λ b. Ok (Some (Flag b)))
flag_kind path None = tt
flag_kind path (Some b) = refl

instant_kind : (path : List ℕ) (read : Result ℤ DateFault) → OfKind Date (instant_value path read)
instant_kind path (Ok z) = refl
instant_kind path (Err Malformed) = tt
instant_kind path (Err OutOfRange) = tt

date_kind : (path : List ℕ) (d : Data) → OfKind Date (date_value path d)
date_kind path null = tt
date_kind path (boolean b) = tt
date_kind path (number n) = whole_kind Date path (as_integer n) (λ n. refl)
date_kind path (string s) = instant_kind path (read_date s)
date_kind path (array ds) = tt
date_kind path (object ms) = tt

scalar_kind : (kind : FieldKind) (above : Option ℕ) (path : List ℕ) (d : Data) → OfKind kind (scalar_at kind above path d)
unfolding scalar_at
scalar_kind Keyword above path d = word_kind above path (word d)
scalar_kind Boolean above path d = flag_kind path (document_flag d)
scalar_kind Long above path d = whole_kind Long path (whole d) (λ n. refl)
scalar_kind Integer above path d = whole_kind Integer path (whole d) (λ n. refl)
scalar_kind Short above path d = whole_kind Short path (whole d) (λ n. refl)
scalar_kind Byte above path d = whole_kind Byte path (whole d) (λ n. refl)
scalar_kind Date above path d = date_kind path d

typed-with : (fields : List Field) (field : ℕ) (v : Scalar) (fs : List FieldValues) → is_of_kind (kind_in fields field) v ≡ true → is_typed fields fs ≡ true → is_typed fields (with_value field v fs) ≡ true
unfolding with_value
typed-with fields field v [] k h = and_from _ _ (and_from _ _ k refl) refl
typed-with fields field v (f ∷ fs) k h =
    let parts = and_parts (list_all (is_of_kind (kind_in fields f.field)) f.values) (is_typed fields fs) h in
    elim (nat_cmp field f.field) as (λ o. nat_cmp field f.field ≡ o → is_typed fields (match_ordering o (record { field = field; values = v ∷ [] } ∷ f ∷ fs) (record { field = field; values = f.values ++ v ∷ [] } ∷ fs) (f ∷ with_value field v fs)) ≡ true) [
      | Less ↦ λ e. and_from _ _ (and_from _ _ k refl) h
      | Equal ↦ λ e.
          let here : field ≡ f.field = ranked field f.field Equal (sym e) in
          and_from _ _
          (list_all-append (is_of_kind (kind_in fields field)) f.values (v ∷ []) ∙ and_from _ _ (ap (λ (n : ℕ). list_all (is_of_kind (kind_in fields n)) f.values) here ∙ parts.0) (and_from _ _ k refl))
          parts.1
      | Greater ↦ λ e. and_from _ _ parts.0 (typed-with fields field v fs k parts.1)
    ] refl

-- what the walk answers is typed, where it begins so

module _ (m : Mapping) where
  abbrev IsTyped : State → Type 0
  IsTyped s = is_typed m.fields s.0.values ≡ true

  abbrev OkTyped : Reading State → Type 0
  OkTyped (Ok s) = IsTyped s
  OkTyped (Err e) = ⊤

  bind_typed : (o : Reading State) (f : State → Reading State) → OkTyped o → ((t : State) → IsTyped t → OkTyped (f t)) → OkTyped (o >>= f)
  bind_typed (Ok t) f h g = g t h
  bind_typed (Err e) f h g = tt

  scalar_typed : (field : ℕ) (path : List ℕ) (s : State) (o : Reading (Option Scalar)) → OfKind (kind_in m.fields field) o → IsTyped s → OkTyped (o >>= with_scalar field path s)
  unfolding with_scalar
  scalar_typed field path s (Ok None) k h = h
  scalar_typed field path s (Ok (Some v)) k h =
      elim (nat_le 1024 (count_in field s.0.values)) as (λ b. OkTyped (cond b (refuse 25 path) (Ok (record { values = with_value field v s.0.values; children = s.0.children }, s.1)))) [
        | true ↦ tt
        | false ↦ typed-with m.fields field v s.0.values k h
      ]
  scalar_typed field path s (Err e) k h = tt

  leaf_typed : (r : Role) (path : List ℕ) (s : State) (d : Data) → IsRoleIn m r → IsTyped s → OkTyped (leaf_at r path s d)
  unfolding leaf_at
  leaf_typed (role.Leaf field kind above) path s d known h =
      scalar_typed field path s (scalar_at kind above path d) (subst (λ k. OfKind k (scalar_at kind above path d)) known (scalar_kind kind above path d)) h
  leaf_typed role.Plain path s d known h = tt
  leaf_typed (role.Nested p) path s d known h = tt
  leaf_typed role.Unmapped path s d known h = h

  around_typed : (p : ℕ) (s : State) (o : Reading State) → IsTyped s → OkTyped (o >>= around p s)
  unfolding around
  around_typed p s (Ok inner) h = h
  around_typed p s (Err e) h = tt

  object_typed : (r : Role) (path : List ℕ) (s : State) (inner : Reading State) (nested : ℕ → Reading State) → IsTyped s → OkTyped inner → OkTyped (object_by r path s inner nested)
  object_typed (role.Leaf field kind above) path s inner nested h g = tt
  object_typed role.Plain path s inner nested h g = g
  object_typed (role.Nested p) path s inner nested h g =
      elim (nat_le 10000 s.1) as (λ b. OkTyped (cond b (refuse 24 path) (nested (p + 1) >>= around p s))) [ true ↦ tt | false ↦ around_typed p s (nested (p + 1)) h ]
  object_typed role.Unmapped path s inner nested h g = h

  chosen_typed : (r : Role) (path : List ℕ) (s : State) (mapped : Reading State) → IsTyped s → OkTyped mapped → OkTyped (chosen m r path s mapped)
  chosen_typed (role.Leaf field kind above) path s mapped h g = g
  chosen_typed role.Plain path s mapped h g = g
  chosen_typed (role.Nested p) path s mapped h g = g
  chosen_typed role.Unmapped path s mapped h g = elim m.strict as (λ b. OkTyped (cond b (refuse 27 path) (Ok s))) [ true ↦ tt | false ↦ h ]

  mutual
    value_typed : (r : Role) (context : ℕ) (path : List ℕ) (s : State) (d : Data) → IsRoleIn m r → IsTyped s → OkTyped (value_at m r context path s d)
    value_typed r context path s null known h = h
    value_typed r context path s (boolean b) known h = leaf_typed r path s (boolean b) known h
    value_typed r context path s (number n) known h = leaf_typed r path s (number n) known h
    value_typed r context path s (string t) known h = leaf_typed r path s (string t) known h
    value_typed r context path s (array ds) known h = items_typed r context path s ds known h
    value_typed r context path s (object ms) known h = object_typed r path s _ _ h (members_typed context (path ++ 46 ∷ []) s ms h)

    items_typed : (r : Role) (context : ℕ) (path : List ℕ) (s : State) (ds : Items) → IsRoleIn m r → IsTyped s → OkTyped (items_at m r context path s ds)
    items_typed r context path s no_items known h = h
    items_typed r context path s (item d ds) known h = bind_typed (value_at m r context path s d) _ (value_typed r context path s d known h) (λ t g. items_typed r context path t ds known g)

    members_typed : (context : ℕ) (front : List ℕ) (s : State) (ms : Members) → IsTyped s → OkTyped (members_at m context front s ms)
    members_typed context front s no_members h = h
    members_typed context front s (member k d ms) h =
        let path = front ++ k in
        let r = role_of m context path in
        bind_typed (chosen m r path s (value_at m r context path s d)) _ (chosen_typed r path s (value_at m r context path s d) h (value_typed r context path s d (role_known m context path) h)) (λ t g. members_typed context front t ms g)

pub ends_typed : (m : Mapping) (context : ℕ) (front : List ℕ) (s t : State) (ms : Members) → s.0 ≡ empty_draft → members_at m context front s ms ≡ Ok t → is_typed m.fields t.0.values ≡ true
ends_typed m context front s t ms empty e = subst (OkTyped m) e (members_typed m context front s ms (ap (λ d. is_typed m.fields d.values) empty))
