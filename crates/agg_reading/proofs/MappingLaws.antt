-- What every mapping keeps that an index line gives: at most 1,000 fields and nested paths, in byte order of the paths.
use Rattle.std.specs.Prelude.{◌≡◌, refl, ℕ, zero, suc, ◌+◌, ◌≤◌, ◌<◌, ◌++◌, List, [], ◌∷◌, length, Bool, false, Option, Some, None, Ok, IfOk, unwrap_or, codes}
use Rattle.std.proofs.Common.{arith}
use Rattle.std.proofs.lemmas.Bool.Decides.{nat_tests}
use Rattle.std.proofs.lemmas.List.{length-map}
use Rattle.list_laws.proofs.StableSort.{length-insert_behind}
use Rattle.serde_json.specs.Data.{Data, Members, no_members, member}
use Rattle.agg_model.specs.declared.mapping.FieldKind.{FieldKind}
use Rattle.agg_model.specs.declared.mapping.Field.{Field}
use Rattle.agg_model.specs.declared.mapping.NestedPath.{NestedPath}
use Rattle.agg_reading.specs.declared.names.FieldType.{FieldType}
use Rattle.agg_reading.specs.declared.names.FieldType.TheVariants.{Leaf, Object, Nested}
use Rattle.agg_reading.specs.declared.parts.Found.{Found}
use Rattle.agg_reading.specs.declared.parts.FoundField.{FoundField}
use Rattle.agg_reading.specs.declared.parts.FoundPath.{FoundPath}
use Rattle.agg_reading.specs.Reading.{Reading, ◌>>=◌, refuse}
use Rattle.agg_reading.specs.Pointer.{member_step}
use Rattle.agg_model.specs.MappingOrder.{IsOrdered}
use Rattle.agg_reading.proofs.PathOrder.{IsArranged, arranged-none, arranged-place, arranged-ascends, ascend_mapped}
use Rattle.agg_reading.proofs.Steps.{then_ok, next_ok, if_ok}
use Rattle.agg_reading.specs.Json.{object_at, known, optional}
use Rattle.agg_reading.specs.Properties.{by_path, place, is_field_name, format_at, bound_at, leaf_names, leaf_at, is_full, with_nested, with_object, fields_from, properties_at, properties_of, inner_at, by_type, type_in, property_at}
use Rattle.agg_reading.specs.Mapping.{numbered, numbered_field, numbered_path, found_in, nothing_found, dynamic_at, mapping_at}

-- one more item makes the list one longer
length-place : {A : Type 0} (path_of : A → List ℕ) (x : A) (ys : List A) → length (place path_of x ys) ≡ suc (length ys)
unfolding place
length-place path_of x ys = length-insert_behind (by_path path_of) x ys

-- what was found so far is few, and stands in order
pub record Fits (found : Found) : Type 0 where
  pub few : length found.fields + length found.nested ≤ 1000
  pub fields : IsArranged (λ f. f.path) found.fields
  pub nested : IsArranged (λ p. p.path) found.nested
  pub objects : IsArranged (λ p. p) found.objects

not_full : (found : Found) → is_full found ≡ false → length found.fields + length found.nested < 1000
not_full found e = grind (arith, nat_tests)

leaf_at-fits : (kind : FieldKind) (within path at : List ℕ) (found : Found) (ms : Members) → Fits found → IfOk (leaf_at kind within path at found ms) Fits
unfolding leaf_at
leaf_at-fits kind within path at found ms b =
    if_ok Fits (is_full found) (refuse 31 at) _ (λ e. tt) (λ e.
    then_ok Fits (known 31 (leaf_names kind) at ms) _ (λ _.
    then_ok Fits (optional format_at (codes "format") at ms) _ (λ _.
    then_ok Fits (optional bound_at (codes "ignore_above") at ms) _ (λ above.
    let f : FoundField = record { path = path; kind = kind; ignore_above = above; within = within } in
    record {
      few = rw (length-place (λ f. f.path) f found.fields) (omega (arith, not_full found e));
      fields = arranged-place (λ f. f.path) f found.fields b.fields;
      nested = b.nested;
      objects = b.objects;
    }))))

-- what adds fields keeps the bound
abbrev Keeps : (List ℕ → List ℕ → List ℕ → Found → Data → Reading Found) → Type 0
Keeps field = (within path at : List ℕ) (found : Found) (d : Data) → Fits found → IfOk (field within path at found d) Fits

fields_from-fits : (field : List ℕ → List ℕ → List ℕ → Found → Data → Reading Found) → Keeps field → (within front at : List ℕ) (found : Found) (ms : Members) → Fits found → IfOk (fields_from field within front at found ms) Fits
unfolding fields_from
fields_from-fits field h within front at found no_members b = b
fields_from-fits field h within front at found (member k d ms) b =
    if_ok Fits (is_field_name k) _ (refuse 31 (at ++ member_step k))
    (λ e. next_ok Fits Fits (field within (front ++ k) (at ++ member_step k) found d) _ (h within (front ++ k) (at ++ member_step k) found d b) (λ next c. fields_from-fits field h within front at next ms c))
    (λ e. tt)

properties_of-fits : (field : List ℕ → List ℕ → List ℕ → Found → Data → Reading Found) → Keeps field → (within front at : List ℕ) (found : Found) (o : Option Data) → Fits found → IfOk (properties_of field within front at found o) Fits
unfolding properties_at
properties_of-fits field h within front at found None b = b
properties_of-fits field h within front at found (Some d) b = then_ok Fits (object_at 31 at d) _ (λ ms. fields_from-fits field h within front at found ms b)

inner_at-fits : (field : List ℕ → List ℕ → List ℕ → Found → Data → Reading Found) → Keeps field → (within path at : List ℕ) (found : Found) (ms : Members) → Fits found → IfOk (inner_at field within path at found ms) Fits
unfolding inner_at
inner_at-fits field h within path at found ms b =
    then_ok Fits (known 31 (codes "properties" ∷ codes "type" ∷ []) at ms) _ (λ _. properties_of-fits field h within _ _ found _ b)

nested_fits : (within path : List ℕ) (found : Found) → is_full found ≡ false → Fits found → Fits (with_nested within path found)
nested_fits within path found e b =
    let p : FoundPath = record { path = path; within = within } in
    record {
      few = rw (length-place (λ p. p.path) p found.nested) (omega (arith, not_full found e));
      fields = b.fields;
      nested = arranged-place (λ p. p.path) p found.nested b.nested;
      objects = b.objects;
    }

object_fits : (path : List ℕ) (found : Found) → Fits found → Fits (with_object path found)
object_fits path found b = record { few = b.few; fields = b.fields; nested = b.nested; objects = arranged-place (λ p. p) path found.objects b.objects }

by_type-fits : (field : List ℕ → List ℕ → List ℕ → Found → Data → Reading Found) → Keeps field → (t : FieldType) (within path at : List ℕ) (found : Found) (ms : Members) → Fits found → IfOk (by_type field t within path at found ms) Fits
by_type-fits field h (Leaf kind) within path at found ms b = leaf_at-fits kind within path at found ms b
by_type-fits field h Object within path at found ms b = inner_at-fits field h within path at (with_object path found) ms (object_fits path found b)
by_type-fits field h Nested within path at found ms b =
    if_ok Fits (is_full found) (refuse 31 at) _ (λ e. tt) (λ e. inner_at-fits field h path path at (with_nested within path found) ms (nested_fits within path found e b))

property_at-fits : (left : ℕ) → Keeps (property_at left)
unfolding property_at
property_at-fits zero within path at found d b = tt
property_at-fits (suc left) within path at found d b =
    then_ok Fits (object_at 31 at d) _ (λ ms. then_ok Fits (type_in at ms) _ (λ t. by_type-fits (property_at left) (property_at-fits left) t within path at found ms b))

numbered-ordered : (strict : Bool) (found : Found) → Fits found → IsOrdered (numbered strict found)
unfolding numbered numbered_field numbered_path
numbered-ordered strict found b = record {
  fields = ascend_mapped (numbered_field found.nested) (λ (f : FoundField). f.path) (λ (f : Field). f.path) (λ x. refl) found.fields (arranged-ascends (λ f. f.path) found.fields b.fields);
  nested = ascend_mapped (numbered_path found.nested) (λ (p : FoundPath). p.path) (λ (p : NestedPath). p.path) (λ x. refl) found.nested (arranged-ascends (λ p. p.path) found.nested b.nested);
  objects = arranged-ascends (λ p. p) found.objects b.objects;
  few = rw (length-map found.fields (numbered_field found.nested), length-map found.nested (numbered_path found.nested)) b.few;
}

nothing_fits : Fits nothing_found
nothing_fits = record { few = omega arith; fields = arranged-none (λ f. f.path); nested = arranged-none (λ p. p.path); objects = arranged-none (λ p. p) }

found_in-fits : (at : List ℕ) (ms : Members) → IfOk (found_in at ms) Fits
unfolding found_in
found_in-fits at ms = properties_of-fits (property_at 20) (property_at-fits 20) [] [] _ nothing_found _ nothing_fits

numbered_after-ordered : (at : List ℕ) (ms : Members) (strict : Option Bool) → IfOk (found_in at ms >>= λ found. Ok (numbered (unwrap_or strict false) found)) IsOrdered
numbered_after-ordered at ms strict =
    next_ok Fits IsOrdered (found_in at ms) (λ found. Ok (numbered (unwrap_or strict false) found)) (found_in-fits at ms) (λ found b. numbered-ordered (unwrap_or strict false) found b)

pub mapping_at-ordered : (at : List ℕ) (d : Data) → IfOk (mapping_at at d) IsOrdered
unfolding mapping_at
mapping_at-ordered at d =
    then_ok IsOrdered (object_at 31 at d) _ (λ ms.
    then_ok IsOrdered (known 31 (codes "dynamic" ∷ codes "properties" ∷ []) at ms) _ (λ _.
    then_ok IsOrdered (optional dynamic_at (codes "dynamic") at ms) _ (λ strict. numbered_after-ordered at ms strict)))
