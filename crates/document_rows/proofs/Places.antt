-- What a look-up of a path finds.
use Rattle.std.specs.Prelude.{◌≡◌, ℕ, suc, ◌+◌, ◌<◌, true, false, List, [], ◌∷◌, length, Option, Some, unwrap_or, is_some, cond}
use Rattle.std.specs.Str.{bytes_eq}
use Rattle.std.proofs.Common.{sym, ap, arith}
use Rattle.std.proofs.lemmas.Bool.{false≢true}
use Rattle.agg_model.specs.declared.mapping.Field.{Field}
use Rattle.agg_model.specs.declared.mapping.NestedPath.{NestedPath}
use Rattle.agg_reading.specs.Fields.{field_from, nested_from}
use Rattle.document_rows.specs.Roles.{kind_in}

pub kind_found : (n : ℕ) (fs : List Field) (path : List ℕ) (i : ℕ) (f : Field) → field_from n fs path ≡ Some (i, f) → (k : ℕ) × (i ≡ n + k) × (f.kind ≡ kind_in fs k)
unfolding field_from
kind_found n [] path i f e = absurd (false≢true (ap is_some e))
kind_found n (g ∷ fs) path i f e =
    elim (bytes_eq g.path path) as (λ b. cond b (Some (n, g)) (field_from (n + 1) fs path) ≡ Some (i, f) → (k : ℕ) × (i ≡ n + k) × (f.kind ≡ kind_in (g ∷ fs) k)) [
      | true ↦ λ h. let place : n ≡ i = ap (λ (o : Option (ℕ × Field)). (unwrap_or o (i, f)).0) h in (0, omega (arith, place), sym (ap (λ (o : Option (ℕ × Field)). (unwrap_or o (i, f)).1.kind) h))
      | false ↦ λ h. let r = kind_found (n + 1) fs path i f h in (suc r.0, omega (arith, r.1), r.2)
    ] e

pub nested_found : (n : ℕ) (ps : List NestedPath) (path : List ℕ) (i : ℕ) (p : NestedPath) → nested_from n ps path ≡ Some (i, p) → i < n + length ps
unfolding nested_from
nested_found n [] path i p e = absurd (false≢true (ap is_some e))
nested_found n (q ∷ ps) path i p e =
    elim (bytes_eq q.path path) as (λ b. cond b (Some (n, q)) (nested_from (n + 1) ps path) ≡ Some (i, p) → i < n + suc (length ps)) [
      | true ↦ λ h. let place : n ≡ i = ap (λ (o : Option (ℕ × NestedPath)). (unwrap_or o (i, p)).0) h in omega (arith, place)
      | false ↦ λ h. omega (arith, nested_found (n + 1) ps path i p h)
    ] e
