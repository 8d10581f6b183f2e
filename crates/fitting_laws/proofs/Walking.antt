-- The walk of a document gives rows that fit.
use Rattle.std.specs.Prelude.{◌≡◌, refl, ℕ, ◌+◌, List, [], ◌∷◌, ◌++◌, Option, Some, None, Ok, Err, Bool, true, false, cond, ⊤, nat_le, nat_lt, length, ℤ, IfOk}
use Rattle.std.proofs.Common.{◌∙◌, arith}
use Rattle.std.proofs.lemmas.Bool.Decides.{nat_tests}
use Rattle.serde_json.specs.Find.{as_integer}
use Rattle.serde_json.specs.Data.{Data, null, boolean, number, string, array, object, Items, no_items, item, Members, no_members, member}
use Rattle.date_spec.specs.declared.fault.DateFault.TheVariants.{OutOfRange}
use Rattle.date_spec.specs.DateTexts.{named_instant, ranged}
use Rattle.date_spec.specs.Instants.{is_in_range}
use Rattle.agg_model.specs.declared.mapping.FieldKind.{FieldKind}
use Rattle.agg_model.specs.declared.mapping.FieldKind.TheVariants.{Long, Integer, Short, Byte, Keyword, Boolean, Date}
use Rattle.agg_model.specs.declared.mapping.Mapping.{Mapping}
use Rattle.agg_model.specs.declared.row.Scalar.{Scalar}
use Rattle.agg_model.specs.declared.row.Scalar.TheVariants.{Whole, Word, Flag}
use Rattle.agg_model.specs.declared.row.Row.{Row}
use Rattle.agg_reading.specs.declared.parts.Role.{Role}
use Rattle.agg_reading.specs.declared.parts.Role.TheVariants as role
use Rattle.agg_reading.specs.Reading.{Reading, ◌>>=◌, refuse, or_refuse}
use Rattle.agg_reading.specs.Json.{reading, object_at}
use Rattle.agg_reading.specs.Scalars.{whole, word}
use Rattle.agg_model.specs.FieldKinds.{fits_kind}
use Rattle.agg_reading.specs.Rows.{with_value, count_in, empty_draft, finished}
use Rattle.agg_reading.specs.Document.{State, role_of, number_value, word_value, is_ignored, document_flag, instant_value, date_value, scalar_at, with_scalar, leaf_at, around, object_by, chosen, value_at, items_at, members_at, document_value_at, document_at}
use Rattle.agg_reading.proofs.Steps.{then_ok, next_ok}
use Rattle.agg_evaluation.specs.DocumentFits.{is_value, fits}
use Rattle.fitting_laws.proofs.Places.{IsRoleOf, role_known}
use Rattle.fitting_laws.proofs.Drafts.{IsDrafted, value_drafted, row_listed, draft_finished}

-- what a value gives is of its field's kind and in its range

abbrev OfKind : FieldKind → Reading (Option Scalar) → Type 0
OfKind kind (Ok (Some v)) = is_value kind v ≡ true
OfKind kind (Ok None) = ⊤
OfKind kind (Err e) = ⊤

whole_kind : (kind : FieldKind) (path : List ℕ) (z : Option ℤ) → ((n : ℤ) → is_value kind (Whole n) ≡ fits_kind kind n) → OfKind kind (number_value kind path z)
whole_kind kind path None whole = tt
whole_kind kind path (Some z) whole = elim (fits_kind kind z) as (λ b. fits_kind kind z ≡ b → OfKind kind (cond b (Ok (Some (Whole z))) (refuse 22 path))) [ true ↦ λ e. whole z ∙ e | false ↦ λ e. tt ] refl

word_kind : (above : Option ℕ) (path : List ℕ) (w : Option (List ℕ)) → OfKind Keyword (word_value above path w)
word_kind above path None = tt
word_kind above path (Some w) =
    elim (is_ignored above w) as (λ b. OfKind Keyword (cond b (Ok None) (cond (nat_lt 32766 (length w)) (refuse 23 path) (Ok (Some (Word w)))))) [
      | true ↦ tt
      | false ↦ elim (nat_lt 32766 (length w)) as (λ b. nat_lt 32766 (length w) ≡ b → OfKind Keyword (cond b (refuse 23 path) (Ok (Some (Word w))))) [ true ↦ λ e. tt | false ↦ λ e. grind (arith, nat_tests, e) ] refl
    ]

flag_kind : (path : List ℕ) (b : Option Bool) → OfKind Boolean (or_refuse 21 path b >>= λ b. Ok (Some (Flag b)))
flag_kind path None = tt
flag_kind path (Some b) = refl

ranged_kind : (path : List ℕ) (z : Option ℤ) → OfKind Date (instant_value path (ranged z))
ranged_kind path None = tt
ranged_kind path (Some z) =
    elim (is_in_range z) as (λ b. is_in_range z ≡ b → OfKind Date (instant_value path (cond b (Ok z) (Err OutOfRange)))) [ true ↦ λ e. e | false ↦ λ e. tt ] refl

date_kind : (path : List ℕ) (d : Data) → OfKind Date (date_value path d)
date_kind path null = tt
date_kind path (boolean b) = tt
date_kind path (number n) = whole_kind Date path (as_integer n) (λ n. refl)
date_kind path (string s) = ranged_kind path (named_instant s)
date_kind path (array ds) = tt
date_kind path (object ms) = tt

scalar_kind : (kind : FieldKind) (above : Option ℕ) (path : List ℕ) (d : Data) → OfKind kind (scalar_at kind above path d)
unfolding scalar_at
scalar_kind Keyword above path d = word_kind above path (word d)
scalar_kind Boolean above path d = flag_kind path (document_flag d)
scalar_kind Long above path d = whole_kind Long path (whole d) (λ n. refl)
scalar_kind Integer above path d = whole_kind Integer path (whole d) (λ n. refl)
scalar_kind Short above path d = whole_kind Short path (whole d) (λ n. refl)
scalar_kind Byte above path d = whole_kind Byte path (whole d) (λ n. refl)
scalar_kind Date above path d = date_kind path d

module _ (m : Mapping) where
  abbrev Good : ℕ → State → Type 0
  Good context s = IsDrafted m context s.0

  abbrev OkGood : ℕ → Reading State → Type 0
  OkGood context o = IfOk o (Good context)

  scalar_good : (context field : ℕ) (kind : FieldKind) (above : Option ℕ) (path : List ℕ) (s : State) (o : Reading (Option Scalar)) → IsRoleOf m context (role.Leaf field kind above) → OfKind kind o → Good context s
      → OkGood context (o >>= with_scalar field path s)
  unfolding with_scalar
  scalar_good context field kind above path s (Ok None) own k h = h
  scalar_good context field kind above path s (Ok (Some v)) own k h =
      elim (nat_le 1024 (count_in field s.0.values)) as (λ b. nat_le 1024 (count_in field s.0.values) ≡ b
      → OkGood context (cond b (refuse 25 path) (Ok (record { values = with_value field v s.0.values; children = s.0.children }, s.1)))) [
        | true ↦ λ e. tt
        | false ↦ λ e. (value_drafted m context field kind own v s.0.values k e h.0, h.1)
      ] refl
  scalar_good context field kind above path s (Err e) own k h = tt

  leaf_good : (r : Role) (context : ℕ) (path : List ℕ) (s : State) (d : Data) → IsRoleOf m context r → Good context s → OkGood context (leaf_at r path s d)
  unfolding leaf_at
  leaf_good (role.Leaf field kind above) context path s d known h = scalar_good context field kind above path s (scalar_at kind above path d) known (scalar_kind kind above path d) h
  leaf_good role.Plain context path s d known h = tt
  leaf_good (role.Nested p) context path s d known h = tt
  leaf_good role.Unmapped context path s d known h = h

  around_good : (context p : ℕ) (s : State) (o : Reading State) → IsRoleOf m context (role.Nested p) → Good context s → OkGood (p + 1) o → OkGood context (o >>= around p s)
  unfolding around
  around_good context p s (Ok inner) own h g = (h.0, row_listed m context p (finished inner.0) own (draft_finished m (p + 1) inner.0 g) s.0.children h.1)
  around_good context p s (Err e) own h g = tt

  object_good : (r : Role) (context : ℕ) (path : List ℕ) (s : State) (inner : Reading State) (nested : ℕ → Reading State) → IsRoleOf m context r → Good context s → OkGood context inner → ((p : ℕ) → OkGood p (nested p))
      → OkGood context (object_by r path s inner nested)
  object_good (role.Leaf field kind above) context path s inner nested own h g n = tt
  object_good role.Plain context path s inner nested own h g n = g
  object_good (role.Nested p) context path s inner nested own h g n =
      elim (nat_le 10000 s.1) as (λ b. OkGood context (cond b (refuse 24 path) (nested (p + 1) >>= around p s))) [ true ↦ tt | false ↦ around_good context p s (nested (p + 1)) own h (n (p + 1)) ]
  object_good role.Unmapped context path s inner nested own h g n = h

  chosen_good : (r : Role) (context : ℕ) (path : List ℕ) (s : State) (mapped : Reading State) → Good context s → OkGood context mapped → OkGood context (chosen m r path s mapped)
  chosen_good (role.Leaf field kind above) context path s mapped h g = g
  chosen_good role.Plain context path s mapped h g = g
  chosen_good (role.Nested p) context path s mapped h g = g
  chosen_good role.Unmapped context path s mapped h g = elim m.strict as (λ b. OkGood context (cond b (refuse 27 path) (Ok s))) [ true ↦ tt | false ↦ h ]

  mutual
    value_good : (r : Role) (context : ℕ) (path : List ℕ) (s : State) (d : Data) → IsRoleOf m context r → Good context s → OkGood context (value_at m r context path s d)
    value_good r context path s null known h = h
    value_good r context path s (boolean b) known h = leaf_good r context path s (boolean b) known h
    value_good r context path s (number n) known h = leaf_good r context path s (number n) known h
    value_good r context path s (string t) known h = leaf_good r context path s (string t) known h
    value_good r context path s (array ds) known h = items_good r context path s ds known h
    value_good r context path s (object ms) known h =
        object_good r context path s _ _ known h (members_good context (path ++ 46 ∷ []) s ms h) (λ p. members_good p (path ++ 46 ∷ []) (empty_draft, s.1 + 1) ms (refl, refl))

    items_good : (r : Role) (context : ℕ) (path : List ℕ) (s : State) (ds : Items) → IsRoleOf m context r → Good context s → OkGood context (items_at m r context path s ds)
    items_good r context path s no_items known h = h
    items_good r context path s (item d ds) known h =
        next_ok (Good context) (Good context) (value_at m r context path s d) _ (value_good r context path s d known h) (λ t g. items_good r context path t ds known g)

    members_good : (context : ℕ) (front : List ℕ) (s : State) (ms : Members) → Good context s → OkGood context (members_at m context front s ms)
    members_good context front s no_members h = h
    members_good context front s (member k d ms) h =
        let path = front ++ k in
        let r = role_of m context path in
        next_ok (Good context) (Good context) (chosen m r path s (value_at m r context path s d)) _ (chosen_good r context path s (value_at m r context path s d) h (value_good r context path s d (role_known m context path) h))
        (λ t g. members_good context front t ms g)

abbrev Fitting : Mapping → Row → Type 0
Fitting m root = fits m root ≡ true

value_fits : (m : Mapping) (d : Data) → IfOk (document_value_at m d) (Fitting m)
unfolding document_value_at
value_fits m d =
    then_ok (Fitting m) (object_at 20 [] d) _ (λ ms.
    next_ok (Good m 0) (Fitting m) (members_at m 0 [] (empty_draft, 0) ms) _ (members_good m 0 [] (empty_draft, 0) ms (refl, refl)) (λ s g. draft_finished m 0 s.0 g))

-- the root row of a document that is read fits
pub document_fits : (m : Mapping) (source : List ℕ) → IfOk (document_at m source) (Fitting m)
unfolding document_at
document_fits m source = then_ok (Fitting m) (or_refuse 20 [] (reading source)) _ (λ d. value_fits m d)
