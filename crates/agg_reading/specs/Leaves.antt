-- The queries that hold no other (Elasticsearch Reference 8, 'Query DSL': term-level queries).
use Rattle.std.specs.Prelude.{ℕ, ◌+◌, List, [], ◌∷◌, ◌++◌, Option, Some, None, Ok, Bool, true, false, if◌then◌else◌, nat_le, codes}
use Rattle.serde_json.specs.Data.{Data, null, boolean, number, string, array, object, Items, no_items, item, Members}
use Rattle.serde_json.specs.Find.{get_member}
use Rattle.agg_model.specs.declared.limits.TheConstants.{MAX_LIST_VALUES}
use Rattle.agg_model.specs.declared.body_refusal.TheConstants.{LIMIT_EXCEEDED, NOT_ONE_MEMBER, NO_SUCH_FIELD, OUT_OF_RANGE, UNKNOWN_MEMBER, WRONG_TYPE}
use Rattle.agg_model.specs.declared.mapping.FieldKind.{FieldKind}
use Rattle.agg_model.specs.FieldKinds.{ValueKind, value_kind}
use Rattle.agg_model.specs.declared.mapping.Field.{Field}
use Rattle.agg_model.specs.declared.mapping.Mapping.{Mapping}
use Rattle.agg_model.specs.declared.query.Probe.{Probe}
use Rattle.agg_model.specs.declared.query.RangeOp.{RangeOp}
use Rattle.agg_model.specs.declared.query.RangeOp.TheVariants.{Gt, Gte, Lt, Lte}
use Rattle.agg_model.specs.declared.query.RangeTest.{RangeTest}
use Rattle.agg_model.specs.declared.query.Query.{Query, All, Term, Terms, Range, Exists, Ids}
use Rattle.agg_reading.specs.Reading.{Reading, ◌>>=◌, ◌>>◌, refuse, or_refuse}
use Rattle.agg_reading.specs.Pointer.{member_step, item_step}
use Rattle.agg_reading.specs.Json.{object_at, list_at, text_at, required, known, sole_besides}
use Rattle.agg_reading.specs.Scalars.{probe_of}
use Rattle.agg_reading.specs.Fields.{field_at}

-- a value for a field of this kind
unfoldable pub value_at : FieldKind → List ℕ → Data → Reading Probe
value_at kind at d = or_refuse OUT_OF_RANGE at (probe_of kind d)

-- the member `field`, which names a field
unfoldable pub field_in : Mapping → List ℕ → Members → Reading (ℕ × Field)
field_in m at ms = do
  d ← required (codes "field") at ms
  path ← text_at WRONG_TYPE (at ++ member_step (codes "field")) d
  field_at m (at ++ member_step (codes "field")) path

-- the one field that an object names beside `boost`, and what is said of it
unfoldable pub about : List ℕ → Data → Reading (List ℕ × Data)
about at d = do
  ms ← object_at WRONG_TYPE at d
  or_refuse NOT_ONE_MEMBER at (sole_besides (codes "boost" ∷ []) None ms)

unfoldable pub match_all_at : List ℕ → Data → Reading Query
match_all_at at d = do
  ms ← object_at WRONG_TYPE at d
  known UNKNOWN_MEMBER (codes "boost" ∷ []) at ms
  Ok All

-- the value of a term in an object of its own
unfoldable pub boxed_value : FieldKind → List ℕ → Members → Reading Probe
boxed_value kind at ms = do
  known UNKNOWN_MEMBER (codes "boost" ∷ codes "value" ∷ []) at ms
  v ← required (codes "value") at ms
  value_at kind (at ++ member_step (codes "value")) v

abbrev pub term_value : FieldKind → List ℕ → Data → Reading Probe
term_value kind at (object ms) = boxed_value kind at ms
term_value kind at null = value_at kind at null
term_value kind at (boolean b) = value_at kind at (boolean b)
term_value kind at (number n) = value_at kind at (number n)
term_value kind at (string s) = value_at kind at (string s)
term_value kind at (array ds) = value_at kind at (array ds)

unfoldable pub term_at : Mapping → List ℕ → Data → Reading Query
term_at m at d = do
  said ← about at d
  f ← field_at m (at ++ member_step said.0) said.0
  v ← term_value f.1.kind (at ++ member_step said.0) said.1
  Ok (Term f.0 v)

-- the values of a list from this place on, after those before; at most MAX_LIST_VALUES
unfoldable pub values_from : FieldKind → List ℕ → ℕ → List Probe → Items → Reading (List Probe)
values_from kind at n done no_items = Ok done
values_from kind at n done (item d ds) =
    if nat_le MAX_LIST_VALUES n then refuse LIMIT_EXCEEDED (at ++ item_step n) else (do
      v ← value_at kind (at ++ item_step n) d
      values_from kind at (n + 1) (done ++ v ∷ []) ds)

unfoldable pub values_at : FieldKind → List ℕ → Data → Reading (List Probe)
values_at kind at d = list_at WRONG_TYPE at d >>= values_from kind at 0 []

unfoldable pub terms_at : Mapping → List ℕ → Data → Reading Query
terms_at m at d = do
  said ← about at d
  f ← field_at m (at ++ member_step said.0) said.0
  vs ← values_at f.1.kind (at ++ member_step said.0) said.1
  Ok (Terms f.0 vs)

-- one test of a range; null is absent
abbrev pub test_of : RangeOp → FieldKind → List ℕ → List RangeTest → Option Data → Reading (List RangeTest)
test_of op kind at done None = Ok done
test_of op kind at done (Some null) = Ok done
test_of op kind at done (Some d) = value_at kind at d >>= λ v. Ok (done ++ record { op = op; value = v } ∷ [])

unfoldable pub test_at : RangeOp → List ℕ → FieldKind → List ℕ → List RangeTest → Members → Reading (List RangeTest)
test_at op name kind at done ms = test_of op kind (at ++ member_step name) done (get_member name ms)

abbrev pub is_boolean : FieldKind → Bool
is_boolean kind = elim (value_kind kind) [ ValueKind.wholes half ↦ false | ValueKind.words ↦ false | ValueKind.flags ↦ true | ValueKind.dates ↦ false ]

unfoldable pub tests_at : FieldKind → List ℕ → Data → Reading (List RangeTest)
tests_at kind at d = do
  ms ← object_at WRONG_TYPE at d
  known UNKNOWN_MEMBER (codes "boost" ∷ codes "gt" ∷ codes "gte" ∷ codes "lt" ∷ codes "lte" ∷ []) at ms
  a ← test_at Gt (codes "gt") kind at [] ms
  b ← test_at Gte (codes "gte") kind at a ms
  c ← test_at Lt (codes "lt") kind at b ms
  test_at Lte (codes "lte") kind at c ms

-- `range` is for whole numbers, dates and keywords
unfoldable pub range_at : Mapping → List ℕ → Data → Reading Query
range_at m at d = do
  said ← about at d
  f ← field_at m (at ++ member_step said.0) said.0
  if is_boolean f.1.kind then refuse NO_SUCH_FIELD (at ++ member_step said.0) else (do
    tests ← tests_at f.1.kind (at ++ member_step said.0) said.1
    Ok (Range f.0 tests))

unfoldable pub exists_at : Mapping → List ℕ → Data → Reading Query
exists_at m at d = do
  ms ← object_at WRONG_TYPE at d
  known UNKNOWN_MEMBER (codes "boost" ∷ codes "field" ∷ []) at ms
  f ← field_in m at ms
  Ok (Exists f.0)

unfoldable pub ids_from : List ℕ → ℕ → List (List ℕ) → Items → Reading (List (List ℕ))
ids_from at n done no_items = Ok done
ids_from at n done (item d ds) =
    if nat_le MAX_LIST_VALUES n then refuse LIMIT_EXCEEDED (at ++ item_step n) else (do
      id ← text_at WRONG_TYPE (at ++ item_step n) d
      ids_from at (n + 1) (done ++ id ∷ []) ds)

unfoldable pub ids_at : List ℕ → Data → Reading Query
ids_at at d = do
  ms ← object_at WRONG_TYPE at d
  known UNKNOWN_MEMBER (codes "boost" ∷ codes "values" ∷ []) at ms
  values ← required (codes "values") at ms
  ds ← list_at WRONG_TYPE (at ++ member_step (codes "values")) values
  ids ← ids_from (at ++ member_step (codes "values")) 0 [] ds
  Ok (Ids ids)
