-- Each reading of a line of a script is refused with the numbers of that line.
use Rattle.std.specs.Prelude.{refl, ℕ, ℤ, pos, negsuc, zero, suc, List, [], ◌∷◌, ◌++◌, length, ◌&&◌, ◌==◌, Option, Some, None, is_some, nat_lt, nat_le, codes}
use Rattle.std.specs.Str.{bytes_eq}
use Rattle.serde_json.specs.Data.{Data, null, boolean, number, string, array, object, Members, no_members, member}
use Rattle.serde_json.specs.Find.{get_member, as_number, as_u64, as_integer}
use Rattle.agg_model.specs.declared.bulk.ActionKind.{ActionKind}
use Rattle.agg_model.specs.declared.bulk.ActionKind.TheVariants.{Index, Create, Delete}
use Rattle.agg_model.specs.declared.mapping.FieldKind.{FieldKind}
use Rattle.agg_reading.specs.declared.names.FieldType.{FieldType}
use Rattle.agg_reading.specs.declared.names.FieldType.TheVariants.{Leaf, Object, Nested}
use Rattle.agg_reading.specs.declared.parts.Found.{Found}
use Rattle.agg_reading.specs.Reading.{Reading}
use Rattle.agg_reading.specs.Pointer.{member_step}
use Rattle.agg_reading.specs.Json.{reading}
use Rattle.agg_reading.specs.Scalars.{whole}
use Rattle.agg_reading.specs.Properties.{is_field_name, type_named, type_at, type_or, type_in, is_full, date_format, format_at, bound_in, bound_at, leaf_at, with_object, with_nested, fields_from, properties_at, properties_of, inner_at, by_type, property_at}
use Rattle.agg_reading.specs.Mapping.{dynamic_at, nothing_found, found_in, mapping_at}
use Rattle.agg_reading.specs.IndexLine.{shards_in, shards_at, shards_named, inner_shards_of, inner_shards, agreed, agreed_all, settings_at, index_name_at, index_value_at, index_line_at}
use Rattle.agg_reading.specs.Action.{action_named, is_plain, set_member, label_of, label_in, id_or, heading_at, action_value_at, action_at}
use Rattle.agg_reading.specs.Refusals.{index_line_refusals, action_refusals}
use Rattle.agg_reading.proofs.Refusing.{Refusing, value, refused, found, then, either, an_object, a_text, one_member, names, maybe}

-- properties of a mapping

a_type : (at : List ℕ) (d : Data) → Refusing index_line_refusals (type_at at d)
unfolding type_at
a_type at d = then _ _ (a_text 31 at d refl) (λ s. found 31 at (type_named s) refl)

typed : (at : List ℕ) (t : Option FieldType) (ms : Members) → Refusing index_line_refusals (type_or at t ms)
typed at (Some t) ms = value t
typed at None ms = either (is_some (get_member (codes "properties") ms)) _ _ (value Object) (refused 31 at refl)

the_type : (at : List ℕ) (ms : Members) → Refusing index_line_refusals (type_in at ms)
unfolding type_in
the_type at ms = then _ _ (maybe _ _ (get_member (codes "type") ms) a_type) (λ t. typed at t ms)

within_bound : (at : List ℕ) (n : Option ℕ) → Refusing index_line_refusals (bound_in at n)
within_bound at None = refused 31 at refl
within_bound at (Some n) = either (nat_le n 2147483647) _ _ (value n) (refused 31 at refl)

a_bound : (at : List ℕ) (d : Data) → Refusing index_line_refusals (bound_at at d)
unfolding bound_at
a_bound at d = then _ _ (found 31 at (as_number d) refl) (λ n. within_bound at (as_u64 n))

a_format : (at : List ℕ) (d : Data) → Refusing index_line_refusals (format_at at d)
unfolding format_at
a_format at d = then _ _ (a_text 31 at d refl) (λ s. either (bytes_eq s date_format) _ _ (value tt) (refused 31 at refl))

a_leaf : (kind : FieldKind) (within path at : List ℕ) (before : Found) (ms : Members) → Refusing index_line_refusals (leaf_at kind within path at before ms)
unfolding leaf_at
a_leaf kind within path at before ms =
    either (is_full before) _ _ (refused 31 at refl)
    (then _ _ (names 31 _ at ms refl) (λ u. then _ _ (maybe _ _ (get_member (codes "format") ms) a_format) (λ f.
    then _ _ (maybe _ _ (get_member (codes "ignore_above") ms) a_bound) (λ above. value _))))

-- a field within, where each is refused so
abbrev Each : (List ℕ → List ℕ → List ℕ → Found → Data → Reading Found) → Type 0
Each field = (within path at : List ℕ) (before : Found) (d : Data) → Refusing index_line_refusals (field within path at before d)

module _ (field : List ℕ → List ℕ → List ℕ → Found → Data → Reading Found) (each : Each field) where
  some_fields : (within front at : List ℕ) (before : Found) (ms : Members) → Refusing index_line_refusals (fields_from field within front at before ms)
  unfolding fields_from
  some_fields within front at before no_members = value before
  some_fields within front at before (member k d ms) =
      either (is_field_name k) _ _ (then _ _ (each within (front ++ k) _ before d) (λ next. some_fields within front at next ms)) (refused 31 _ refl)

  some_properties : (within front at : List ℕ) (before : Found) (d : Data) → Refusing index_line_refusals (properties_at field within front at before d)
  unfolding properties_at
  some_properties within front at before d = then _ _ (an_object 31 at d refl) (λ ms. some_fields within front at before ms)

  or_none : (within front at : List ℕ) (before : Found) (d : Option Data) → Refusing index_line_refusals (properties_of field within front at before d)
  or_none within front at before None = value before
  or_none within front at before (Some d) = some_properties within front at before d

  an_inner : (within path at : List ℕ) (before : Found) (ms : Members) → Refusing index_line_refusals (inner_at field within path at before ms)
  unfolding inner_at
  an_inner within path at before ms = then _ _ (names 31 _ at ms refl) (λ u. or_none within (path ++ 46 ∷ []) _ before (get_member (codes "properties") ms))

  of_type : (t : FieldType) (within path at : List ℕ) (before : Found) (ms : Members) → Refusing index_line_refusals (by_type field t within path at before ms)
  of_type (Leaf kind) within path at before ms = a_leaf kind within path at before ms
  of_type Object within path at before ms = an_inner within path at (with_object path before) ms
  of_type Nested within path at before ms = either (is_full before) _ _ (refused 31 at refl) (an_inner path path at (with_nested within path before) ms)

a_property : (left : ℕ) → Each (property_at left)
unfolding property_at
a_property zero within path at before d = refused 31 at refl
a_property (suc left) within path at before d =
    then _ _ (an_object 31 at d refl) (λ ms. then _ _ (the_type at ms) (λ t. of_type (property_at left) (a_property left) t within path at before ms))

-- index lines

a_dynamic : (at : List ℕ) (d : Data) → Refusing index_line_refusals (dynamic_at at d)
unfolding dynamic_at
a_dynamic at (boolean b) = either b _ _ (refused 31 at refl) (value _)
a_dynamic at (string s) = either (bytes_eq s (codes "strict")) _ _ (value _) (either (bytes_eq s (codes "false")) _ _ (value _) (refused 31 at refl))
a_dynamic at null = refused 31 at refl
a_dynamic at (number n) = refused 31 at refl
a_dynamic at (array ds) = refused 31 at refl
a_dynamic at (object ms) = refused 31 at refl

all_found : (at : List ℕ) (ms : Members) → Refusing index_line_refusals (found_in at ms)
unfolding found_in
all_found at ms = or_none (property_at 20) (a_property 20) [] [] _ nothing_found (get_member (codes "properties") ms)

pub a_mapping : (at : List ℕ) (d : Data) → Refusing index_line_refusals (mapping_at at d)
unfolding mapping_at
a_mapping at d =
    then _ _ (an_object 31 at d refl) (λ ms. then _ _ (names 31 _ at ms refl) (λ u.
    then _ _ (maybe _ _ (get_member (codes "dynamic") ms) a_dynamic) (λ strict. then _ _ (all_found at ms) (λ found. value _))))

some_shards : (at : List ℕ) (z : Option ℤ) → Refusing index_line_refusals (shards_in at z)
some_shards at (Some (pos n)) = either (nat_le 1 n && nat_le n 1024) _ _ (value n) (refused 31 at refl)
some_shards at (Some (negsuc n)) = refused 31 at refl
some_shards at None = refused 31 at refl

a_number : (at : List ℕ) (d : Data) → Refusing index_line_refusals (shards_at at d)
unfolding shards_at
a_number at d = some_shards at (whole d)

named_number : (name at : List ℕ) (ms : Members) → Refusing index_line_refusals (shards_named name at ms)
unfolding shards_named
named_number name at ms = maybe _ _ (get_member name ms) a_number

inner_numbers : (at : List ℕ) (d : Option Data) → Refusing index_line_refusals (inner_shards_of at d)
inner_numbers at (Some (object ms)) =
    then _ _ (named_number (codes "index.number_of_shards") at ms) (λ dotted. then _ _ (named_number (codes "number_of_shards") at ms) (λ plain. value _))
inner_numbers at None = value _
inner_numbers at (Some null) = value _
inner_numbers at (Some (boolean b)) = value _
inner_numbers at (Some (number n)) = value _
inner_numbers at (Some (string s)) = value _
inner_numbers at (Some (array ds)) = value _

the_inner : (at : List ℕ) (ms : Members) → Refusing index_line_refusals (inner_shards at ms)
unfolding inner_shards
the_inner at ms = inner_numbers (at ++ member_step (codes "index")) (get_member (codes "index") ms)

agree : (before : Option ℕ) (at : List ℕ) (further : Option ℕ) → Refusing index_line_refusals (agreed before at further)
unfolding agreed
agree None at further = value further
agree (Some n) at None = value (Some n)
agree (Some n) at (Some further) = either (n == further) _ _ (value (Some n)) (refused 31 at refl)

agree_all : (at : List ℕ) (dotted : Option ℕ) (inner : Option ℕ × Option ℕ) (plain : Option ℕ) → Refusing index_line_refusals (agreed_all at dotted inner plain)
unfolding agreed_all
agree_all at dotted inner plain = then _ _ (agree dotted _ inner.0) (λ one. then _ _ (agree one _ inner.1) (λ two. agree two _ plain))

some_settings : (at : List ℕ) (d : Data) → Refusing index_line_refusals (settings_at at d)
unfolding settings_at
some_settings at d =
    then _ _ (an_object 31 at d refl) (λ ms. then _ _ (the_inner at ms) (λ inner.
    then _ _ (named_number (codes "index.number_of_shards") at ms) (λ dotted.
    then _ _ (named_number (codes "number_of_shards") at ms) (λ plain. then _ _ (agree_all at dotted inner plain) (λ shards. value _)))))

a_name : (at : List ℕ) (d : Data) → Refusing index_line_refusals (index_name_at at d)
unfolding index_name_at
a_name at d = then _ _ (a_text 31 at d refl) (λ s. either (nat_lt 0 (length s) && nat_le (length s) 255) _ _ (value s) (refused 31 at refl))

an_index_value : (d : Data) → Refusing index_line_refusals (index_value_at d)
unfolding index_value_at
an_index_value d =
    then _ _ (an_object 31 [] d refl) (λ ms. then _ _ (names 31 _ [] ms refl) (λ u.
    then _ _ (maybe _ _ (get_member (codes "index") ms) a_name) (λ name.
    then _ _ (maybe _ _ (get_member (codes "mappings") ms) a_mapping) (λ mapping.
    then _ _ (maybe _ _ (get_member (codes "settings") ms) some_settings) (λ shards.
    then _ _ (found 31 [] name refl) (λ given. value _))))))

pub an_index_line : (bytes : List ℕ) → Refusing index_line_refusals (index_line_at bytes)
unfolding index_line_at
an_index_line bytes = then _ _ (found 31 [] (reading bytes) refl) an_index_value

-- actions

a_label : (d : Option Data) → Refusing action_refusals (label_of d)
a_label None = value None
a_label (Some (string s)) = value (Some s)
a_label (Some (number n)) = then _ _ (found 32 [] (as_integer n) refl) (λ z. value _)
a_label (Some null) = refused 32 [] refl
a_label (Some (boolean b)) = refused 32 [] refl
a_label (Some (array ds)) = refused 32 [] refl
a_label (Some (object ms)) = refused 32 [] refl

the_label : (name : List ℕ) (ms : Members) → Refusing action_refusals (label_in name ms)
unfolding label_in
the_label name ms = a_label (set_member name ms)

an_id : (kind : ActionKind) (before : ℕ) (said : Option (List ℕ)) → Refusing action_refusals (id_or kind before said)
an_id Delete before None = refused 32 [] refl
an_id Index before None = value _
an_id Create before None = value _
an_id Delete before (Some id) = either (nat_lt 0 (length id) && nat_le (length id) 512) _ _ (value id) (refused 32 [] refl)
an_id Index before (Some id) = either (nat_lt 0 (length id) && nat_le (length id) 512) _ _ (value id) (refused 32 [] refl)
an_id Create before (Some id) = either (nat_lt 0 (length id) && nat_le (length id) 512) _ _ (value id) (refused 32 [] refl)

a_heading : (index : List ℕ) (before : ℕ) (kind : ActionKind) (ms : Members) → Refusing action_refusals (heading_at index before kind ms)
unfolding heading_at
a_heading index before kind ms =
    either (is_plain index ms) _ _
    (then _ _ (the_label (codes "_id") ms) (λ said. then _ _ (an_id kind before said) (λ id. then _ _ (the_label (codes "routing") ms) (λ routing. value _))))
    (refused 32 [] refl)

an_action_value : (index : List ℕ) (before : ℕ) (d : Data) → Refusing action_refusals (action_value_at index before d)
unfolding action_value_at
an_action_value index before d =
    then _ _ (an_object 32 [] d refl) (λ ms. then _ _ (one_member 32 [] ms refl) (λ said. then _ _ (an_object 32 [] said.1 refl) (λ inner.
    either (bytes_eq said.0 (codes "update")) _ _ (refused 33 [] refl) (then _ _ (found 32 [] (action_named said.0) refl) (λ kind. a_heading index before kind inner)))))

pub an_action : (index : List ℕ) (before : ℕ) (bytes : List ℕ) → Refusing action_refusals (action_at index before bytes)
unfolding action_at
an_action index before bytes = then _ _ (found 32 [] (reading bytes) refl) (an_action_value index before)
