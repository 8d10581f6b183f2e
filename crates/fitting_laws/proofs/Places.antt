-- The role of a path is one of the mapping's, and of the context.
use Rattle.std.specs.Prelude.{◌≡◌, refl, ℕ, suc, ◌+◌, List, [], ◌∷◌, Option, Some, None, true, false, not, ◌&&◌, ◌==◌, cond, slice_get, is_some, unwrap_or, ⊤}
use Rattle.std.specs.Option.{option_map_or}
use Rattle.std.specs.Str.{bytes_eq}
use Rattle.std.proofs.Common.{sym, ◌∙◌, ap, arith}
use Rattle.std.proofs.lemmas.Bool.{false≢true}
use Rattle.std.proofs.lemmas.Slice.Eq.{bytes_eq-Decides}
use Rattle.agg_model.specs.declared.mapping.Field.{Field}
use Rattle.agg_model.specs.declared.mapping.FieldKind.{FieldKind}
use Rattle.agg_model.specs.declared.mapping.NestedPath.{NestedPath}
use Rattle.agg_model.specs.declared.mapping.Mapping.{Mapping}
use Rattle.agg_reading.specs.declared.parts.Role.{Role}
use Rattle.agg_reading.specs.declared.parts.Role.TheVariants as role
use Rattle.agg_reading.specs.Json.{is_among}
use Rattle.agg_reading.specs.Fields.{field_from, nested_from}
use Rattle.agg_reading.specs.Document.{leads_deeper, nested_role, inner_role, field_role, role_of}
use Rattle.agg_evaluation.specs.DocumentFits.{is_path_of}

pub field_found : (n : ℕ) (fs : List Field) (path : List ℕ) (i : ℕ) (f : Field) → field_from n fs path ≡ Some (i, f) → (k : ℕ) × (i ≡ n + k) × (slice_get fs k ≡ Some f)
unfolding field_from
field_found n [] path i f e = absurd (false≢true (ap is_some e))
field_found n (g ∷ fs) path i f e =
    elim (bytes_eq g.path path) as (λ b. cond b (Some (n, g)) (field_from (n + 1) fs path) ≡ Some (i, f) → (k : ℕ) × (i ≡ n + k) × (slice_get (g ∷ fs) k ≡ Some f)) [
      | true ↦ λ h. let place : n ≡ i = ap (λ (o : Option (ℕ × Field)). (unwrap_or o (i, f)).0) h in (0, omega (arith, place), ap (λ (o : Option (ℕ × Field)). Some (unwrap_or o (i, f)).1) h)
      | false ↦ λ h. let r = field_found (n + 1) fs path i f h in (suc r.0, omega (arith, r.1), r.2)
    ] e

pub path_found : (n : ℕ) (ps : List NestedPath) (path : List ℕ) (i : ℕ) (p : NestedPath) → nested_from n ps path ≡ Some (i, p) → (k : ℕ) × (i ≡ n + k) × (slice_get ps k ≡ Some p)
unfolding nested_from
path_found n [] path i p e = absurd (false≢true (ap is_some e))
path_found n (q ∷ ps) path i p e =
    elim (bytes_eq q.path path) as (λ b. cond b (Some (n, q)) (nested_from (n + 1) ps path) ≡ Some (i, p) → (k : ℕ) × (i ≡ n + k) × (slice_get (q ∷ ps) k ≡ Some p)) [
      | true ↦ λ h. let place : n ≡ i = ap (λ (o : Option (ℕ × NestedPath)). (unwrap_or o (i, p)).0) h in (0, omega (arith, place), ap (λ (o : Option (ℕ × NestedPath)). Some (unwrap_or o (i, p)).1) h)
      | false ↦ λ h. let r = path_found (n + 1) ps path i p h in (suc r.0, omega (arith, r.1), r.2)
    ] e

pub path_same : (n : ℕ) (ps : List NestedPath) (path : List ℕ) (i : ℕ) (p : NestedPath) → nested_from n ps path ≡ Some (i, p) → p.path ≡ path
unfolding nested_from
path_same n [] path i p e = absurd (false≢true (ap is_some e))
path_same n (q ∷ ps) path i p e =
    elim (bytes_eq q.path path) as (λ b. bytes_eq q.path path ≡ b → cond b (Some (n, q)) (nested_from (n + 1) ps path) ≡ Some (i, p) → p.path ≡ path) [
      | true ↦ λ same h. ap (λ (o : Option (ℕ × NestedPath)). (unwrap_or o (i, p)).1.path) (sym h) ∙ (bytes_eq-Decides q.path path).0 same
      | false ↦ λ same h. path_same (n + 1) ps path i p h
    ] refl e

-- the field has this kind and is one of the context's own
abbrev pub IsOwnField : Mapping → ℕ → ℕ → FieldKind → Type 0
IsOwnField m context field kind = (f : Field) × (slice_get m.fields field ≡ Some f) × (f.kind ≡ kind) × ((f.context == context) ≡ true)

abbrev pub IsRoleOf : Mapping → ℕ → Role → Type 0
IsRoleOf m context (role.Leaf field kind above) = IsOwnField m context field kind
IsRoleOf m context role.Plain = ⊤
IsRoleOf m context (role.Nested place) = is_path_of m context place ≡ true
IsRoleOf m context role.Unmapped = ⊤

nested_known : (m : Mapping) (context : ℕ) (path : List ℕ) (found : Option (ℕ × NestedPath)) → nested_from 0 m.nested path ≡ found → IsRoleOf m context (nested_role context found)
nested_known m context path None e = tt
nested_known m context path (Some p) e =
    let r = path_found 0 m.nested path p.0 p.1 e in
    let place : r.0 ≡ p.0 = omega (arith, r.1) in
    let there : slice_get m.nested p.0 ≡ Some p.1 = ap (slice_get m.nested) (sym place) ∙ r.2 in
    elim (p.1.parent == context) as (λ b. (p.1.parent == context) ≡ b → IsRoleOf m context (cond b (role.Nested p.0) role.Unmapped)) [
      | true ↦ λ same. ap (λ (o : Option NestedPath). option_map_or (λ q. q.parent == context) o false) there ∙ same
      | false ↦ λ same. tt
    ] refl

inner_known : (m : Mapping) (context : ℕ) (path : List ℕ) → IsRoleOf m context (inner_role m context path)
inner_known m context path =
    elim (is_among m.objects path && not (leads_deeper m context path)) as (λ b. IsRoleOf m context (cond b role.Plain (nested_role context (nested_from 0 m.nested path)))) [
      | true ↦ tt
      | false ↦ nested_known m context path (nested_from 0 m.nested path) refl
    ]

field_known : (m : Mapping) (context : ℕ) (path : List ℕ) (found : Option (ℕ × Field)) → field_from 0 m.fields path ≡ found → IsRoleOf m context (field_role m context path found)
field_known m context path None e = inner_known m context path
field_known m context path (Some f) e =
    let r = field_found 0 m.fields path f.0 f.1 e in
    let place : r.0 ≡ f.0 = omega (arith, r.1) in
    elim (f.1.context == context) as (λ b. (f.1.context == context) ≡ b → IsRoleOf m context (cond b (role.Leaf f.0 f.1.kind f.1.ignore_above) (inner_role m context path))) [
      | true ↦ λ same. (f.1, ap (slice_get m.fields) (sym place) ∙ r.2, refl, same)
      | false ↦ λ same. inner_known m context path
    ] refl

pub role_known : (m : Mapping) (context : ℕ) (path : List ℕ) → IsRoleOf m context (role_of m context path)
unfolding role_of
role_known m context path = field_known m context path (field_from 0 m.fields path) refl
