-- Each reading of a document is refused with a number of items, and so is each action.
use Rattle.std.specs.Prelude.{◌≡◌, refl, ℕ, ℤ, ◌+◌, List, [], ◌∷◌, ◌++◌, length, true, ◌&&◌, Option, Some, None, Result, Ok, Err, is_some, nat_lt, nat_le}
use Rattle.std.proofs.lemmas.Bool.{or_right}
use Rattle.serde_json.specs.Find.{as_integer}
use Rattle.serde_json.specs.Data.{Data, null, boolean, number, string, array, object, Items, no_items, item, Members, no_members, member}
use Rattle.date_spec.specs.declared.fault.DateFault.{DateFault}
use Rattle.date_spec.specs.declared.fault.DateFault.TheVariants.{Malformed, OutOfRange}
use Rattle.date_spec.specs.DateTexts.{read_date}
use Rattle.agg_model.specs.FieldKinds.{fits_kind}
use Rattle.agg_model.specs.declared.bulk.Action.{Action}
use Rattle.agg_model.specs.declared.bulk.ActionKind.{ActionKind}
use Rattle.agg_model.specs.declared.bulk.ActionKind.TheVariants.{Index, Create, Delete}
use Rattle.agg_model.specs.declared.bulk.Applied.{Applied}
use Rattle.agg_model.specs.declared.mapping.FieldKind.{FieldKind}
use Rattle.agg_model.specs.declared.mapping.FieldKind.TheVariants.{Long, Integer, Short, Byte, Keyword, Boolean, Date}
use Rattle.agg_model.specs.declared.mapping.Mapping.{Mapping}
use Rattle.agg_model.specs.declared.row.Row.{Row}
use Rattle.agg_model.specs.declared.row.Scalar.{Scalar}
use Rattle.agg_reading.specs.declared.fault.RequestFault.{RequestFault}
use Rattle.agg_reading.specs.declared.fault.RequestFault.TheVariants.{NotJson, Bad, Memory}
use Rattle.agg_reading.specs.declared.parts.Role.{Role}
use Rattle.agg_reading.specs.declared.parts.Role.TheVariants as role
use Rattle.agg_reading.specs.Reading.{Reading}
use Rattle.agg_reading.specs.Json.{reading}
use Rattle.agg_reading.specs.Scalars.{whole, word}
use Rattle.agg_reading.specs.Rows.{empty_draft, count_in}
use Rattle.agg_reading.specs.Document.{role_of, number_value, is_ignored, word_value, document_flag, instant_value, date_value, scalar_at, State, with_scalar, leaf_at, around, object_by, chosen, value_at, items_at, members_at, document_value_at, document_at}
use Rattle.agg_reading.specs.Store.{Store, store_weight, live_at, is_create, kept, put_row, applied_by, applied}
use Rattle.agg_reading.specs.Refusals.{is_refusal, document_refusals, item_refusals}
use Rattle.agg_reading.proofs.Refusing.{Refusing, value, refused, found, then, either, an_object, wider}

-- values

a_number : (kind : FieldKind) (path : List ℕ) (z : Option ℤ) → Refusing document_refusals (number_value kind path z)
a_number kind path None = refused 21 path refl
a_number kind path (Some z) = either (fits_kind kind z) _ _ (value _) (refused 22 path refl)

a_word : (above : Option ℕ) (path : List ℕ) (w : Option (List ℕ)) → Refusing document_refusals (word_value above path w)
a_word above path None = refused 21 path refl
a_word above path (Some w) = either (is_ignored above w) _ _ (value None) (either (nat_lt 32766 (length w)) _ _ (refused 23 path refl) (value _))

an_instant : (path : List ℕ) (read : Result ℤ DateFault) → Refusing document_refusals (instant_value path read)
an_instant path (Ok z) = value _
an_instant path (Err Malformed) = refused 21 path refl
an_instant path (Err OutOfRange) = refused 22 path refl

a_date : (path : List ℕ) (d : Data) → Refusing document_refusals (date_value path d)
a_date path null = refused 21 path refl
a_date path (boolean b) = refused 21 path refl
a_date path (number n) = a_number Date path (as_integer n)
a_date path (string s) = an_instant path (read_date s)
a_date path (array ds) = refused 21 path refl
a_date path (object ms) = refused 21 path refl

a_scalar : (kind : FieldKind) (above : Option ℕ) (path : List ℕ) (d : Data) → Refusing document_refusals (scalar_at kind above path d)
unfolding scalar_at
a_scalar Keyword above path d = a_word above path (word d)
a_scalar Boolean above path d = then _ _ (found 21 path (document_flag d) refl) (λ b. value _)
a_scalar Long above path d = a_number Long path (whole d)
a_scalar Integer above path d = a_number Integer path (whole d)
a_scalar Short above path d = a_number Short path (whole d)
a_scalar Byte above path d = a_number Byte path (whole d)
a_scalar Date above path d = a_date path d

counted : (field : ℕ) (path : List ℕ) (s : State) (v : Option Scalar) → Refusing document_refusals (with_scalar field path s v)
unfolding with_scalar
counted field path s None = value s
counted field path s (Some v) = either (nat_le 1024 (count_in field s.0.values)) _ _ (refused 25 path refl) (value _)

a_leaf : (r : Role) (path : List ℕ) (s : State) (d : Data) → Refusing document_refusals (leaf_at r path s d)
unfolding leaf_at
a_leaf (role.Leaf field kind above) path s d = then _ _ (a_scalar kind above path d) (λ v. counted field path s v)
a_leaf role.Plain path s d = refused 21 path refl
a_leaf (role.Nested p) path s d = refused 21 path refl
a_leaf role.Unmapped path s d = value s

an_object_by : (r : Role) (path : List ℕ) (s : State) (inner : Reading State) (nested : ℕ → Reading State) → Refusing document_refusals inner → ((p : ℕ) → Refusing document_refusals (nested p)) → Refusing document_refusals (object_by r path s inner nested)
unfolding around
an_object_by (role.Leaf field kind above) path s inner nested h k = refused 21 path refl
an_object_by role.Plain path s inner nested h k = h
an_object_by (role.Nested p) path s inner nested h k = either (nat_le 10000 s.1) _ _ (refused 24 path refl) (then (nested (p + 1)) _ (k (p + 1)) (λ t. value _))
an_object_by role.Unmapped path s inner nested h k = value s

a_choice : (m : Mapping) (r : Role) (path : List ℕ) (s : State) (mapped : Reading State) → Refusing document_refusals mapped → Refusing document_refusals (chosen m r path s mapped)
a_choice m role.Unmapped path s mapped h = either m.strict _ _ (refused 27 path refl) (value s)
a_choice m (role.Leaf field kind above) path s mapped h = h
a_choice m role.Plain path s mapped h = h
a_choice m (role.Nested p) path s mapped h = h

-- the walk

mutual
  a_value : (m : Mapping) (r : Role) (context : ℕ) (path : List ℕ) (s : State) (d : Data) → Refusing document_refusals (value_at m r context path s d)
  a_value m r context path s null = value s
  a_value m r context path s (boolean b) = a_leaf r path s (boolean b)
  a_value m r context path s (number n) = a_leaf r path s (number n)
  a_value m r context path s (string t) = a_leaf r path s (string t)
  a_value m r context path s (array ds) = some_items m r context path s ds
  a_value m r context path s (object ms) =
      an_object_by r path s _ _ (some_members m context (path ++ 46 ∷ []) s ms) (λ within. some_members m within (path ++ 46 ∷ []) (empty_draft, s.1 + 1) ms)

  some_items : (m : Mapping) (r : Role) (context : ℕ) (path : List ℕ) (s : State) (ds : Items) → Refusing document_refusals (items_at m r context path s ds)
  some_items m r context path s no_items = value s
  some_items m r context path s (item d ds) = then _ _ (a_value m r context path s d) (λ t. some_items m r context path t ds)

  some_members : (m : Mapping) (context : ℕ) (front : List ℕ) (s : State) (ms : Members) → Refusing document_refusals (members_at m context front s ms)
  some_members m context front s no_members = value s
  some_members m context front s (member k d ms) =
      then _ _ (a_choice m (role_of m context (front ++ k)) (front ++ k) s _ (a_value m (role_of m context (front ++ k)) context (front ++ k) s d)) (λ t. some_members m context front t ms)

a_document_value : (m : Mapping) (d : Data) → Refusing document_refusals (document_value_at m d)
unfolding document_value_at
a_document_value m d = then _ _ (an_object 20 [] d refl) (λ ms. then _ _ (some_members m 0 [] (empty_draft, 0) ms) (λ s. value _))

pub a_document : (m : Mapping) (source : List ℕ) → Refusing document_refusals (document_at m source)
unfolding document_at
a_document m source = then _ _ (found 20 [] (reading source) refl) (a_document_value m)

-- actions

stored : (what : Applied) (store : Store) → Refusing item_refusals (kept what store)
stored what store = either (nat_lt (store_weight store) 4294967296) _ _ (value _) (refused 28 [] refl)

put : (action : Action) (root : Row) (store : Store) → Refusing item_refusals (put_row action root store)
unfolding put_row
put action root store = either (is_create action.kind && is_some (live_at action.id store)) _ _ (refused 26 [] refl) (stored _ _)

an_item : (e : RequestFault) → is_refusal document_refusals e ≡ true → is_refusal item_refusals e ≡ true
an_item (Bad code at) h = or_right _ _ (or_right _ _ h)
an_item NotJson h = h
an_item Memory h = h

by_kind : (kind : ActionKind) (m : Mapping) (action : Action) (store : Store) → Refusing item_refusals (applied_by kind m action store)
by_kind Delete m action store = value _
by_kind Index m action store = then _ _ (wider _ an_item (a_document m action.source)) (λ root. put action root store)
by_kind Create m action store = then _ _ (wider _ an_item (a_document m action.source)) (λ root. put action root store)

pub an_action : (m : Mapping) (action : Action) (store : Store) → Refusing item_refusals (applied m action store)
unfolding applied
an_action m action store = by_kind action.kind m action store
