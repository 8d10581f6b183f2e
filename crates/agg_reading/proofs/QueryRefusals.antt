-- Each reading of a query is refused with a number of search bodies.
use Rattle.std.specs.Prelude.{refl, ℕ, zero, suc, ◌+◌, List, [], ◌∷◌, ◌++◌, Option, Some, None, Ok, nat_le, codes}
use Rattle.serde_json.specs.Data.{Data, null, boolean, number, string, array, object, Items, no_items, item, Members}
use Rattle.serde_json.specs.Find.{get_member, as_u64}
use Rattle.agg_model.specs.declared.mapping.FieldKind.{FieldKind}
use Rattle.agg_model.specs.declared.mapping.Mapping.{Mapping}
use Rattle.agg_model.specs.declared.query.Probe.{Probe}
use Rattle.agg_model.specs.declared.query.Query.{Query}
use Rattle.agg_model.specs.declared.query.RangeOp.{RangeOp}
use Rattle.agg_model.specs.declared.query.RangeOp.TheVariants.{Gt, Gte, Lt, Lte}
use Rattle.agg_model.specs.declared.query.RangeTest.{RangeTest}
use Rattle.agg_reading.specs.declared.names.QueryName.{QueryName}
use Rattle.agg_reading.specs.declared.names.QueryName.TheVariants as name
use Rattle.agg_reading.specs.Reading.{Reading, ◌>>=◌}
use Rattle.agg_reading.specs.Pointer.{member_step, item_step}
use Rattle.agg_reading.specs.Json.{required}
use Rattle.agg_reading.specs.Numbers.{number_at, in_range, whole_at, truth_at}
use Rattle.agg_reading.specs.Fields.{field_at}
use Rattle.agg_model.specs.Contexts.{is_in_context}
use Rattle.agg_reading.specs.Leaves.{value_at, field_in, about, match_all_at, boxed_value, term_value, term_at, values_from, values_at, terms_at, test_of, test_at, is_boolean, tests_at, range_at, exists_at, ids_from, ids_at}
use Rattle.agg_reading.specs.Query.{Counted, query_name, queries_from, clause_of, clause_at, all_at, clauses_at, bool_at, nested_at, path_in, within_at, named, named_at, query_at, top_query_at}
use Rattle.agg_reading.specs.Refusals.{body_refusals}
use Rattle.agg_reading.proofs.Refusing.{Refusing, value, refused, found, then, either, an_object, a_list, a_text, one_member, names, maybe}

pub a_member : (name at : List ℕ) (ms : Members) → Refusing body_refusals (required name at ms)
unfolding required
a_member name at ms = found 102 at _ refl

within_range : (least most : ℕ) (at : List ℕ) (n : Option ℕ) → Refusing body_refusals (in_range least most at n)
within_range least most at None = refused 104 at refl
within_range least most at (Some n) = either _ _ _ (value n) (refused 104 at refl)

pub a_number : (least most : ℕ) (at : List ℕ) (d : Data) → Refusing body_refusals (whole_at least most at d)
unfolding whole_at number_at
a_number least most at d = then _ _ (found 103 at _ refl) (λ n. within_range least most at (as_u64 n))

pub a_truth : (at : List ℕ) (d : Data) → Refusing body_refusals (truth_at at d)
unfolding truth_at
a_truth at d = found 103 at _ refl

a_field : (m : Mapping) (at path : List ℕ) → Refusing body_refusals (field_at m at path)
unfolding field_at
a_field m at path = found 108 at _ refl

pub a_value : (kind : FieldKind) (at : List ℕ) (d : Data) → Refusing body_refusals (value_at kind at d)
unfolding value_at
a_value kind at d = found 104 at _ refl

pub named_field : (m : Mapping) (at : List ℕ) (ms : Members) → Refusing body_refusals (field_in m at ms)
unfolding field_in
named_field m at ms = then _ _ (a_member (codes "field") at ms) (λ d. then _ _ (a_text 103 _ d refl) (λ path. a_field m _ path))

a_subject : (at : List ℕ) (d : Data) → Refusing body_refusals (about at d)
unfolding about
a_subject at d = then _ _ (an_object 103 at d refl) (λ ms. found 107 at _ refl)

all_rows : (at : List ℕ) (d : Data) → Refusing body_refusals (match_all_at at d)
unfolding match_all_at
all_rows at d = then _ _ (an_object 103 at d refl) (λ ms. then _ _ (names 101 _ at ms refl) (λ u. value _))

boxed : (kind : FieldKind) (at : List ℕ) (ms : Members) → Refusing body_refusals (boxed_value kind at ms)
unfolding boxed_value
boxed kind at ms = then _ _ (names 101 _ at ms refl) (λ u. then _ _ (a_member (codes "value") at ms) (λ v. a_value kind _ v))

a_term_value : (kind : FieldKind) (at : List ℕ) (d : Data) → Refusing body_refusals (term_value kind at d)
a_term_value kind at (object ms) = boxed kind at ms
a_term_value kind at null = a_value kind at null
a_term_value kind at (boolean b) = a_value kind at (boolean b)
a_term_value kind at (number n) = a_value kind at (number n)
a_term_value kind at (string s) = a_value kind at (string s)
a_term_value kind at (array ds) = a_value kind at (array ds)

a_term : (m : Mapping) (at : List ℕ) (d : Data) → Refusing body_refusals (term_at m at d)
unfolding term_at
a_term m at d =
    then _ _ (a_subject at d) (λ said. then _ _ (a_field m _ said.0) (λ f. then _ _ (a_term_value f.1.kind _ said.1) (λ v. value _)))

some_values : (kind : FieldKind) (at : List ℕ) (n : ℕ) (done : List Probe) (ds : Items) → Refusing body_refusals (values_from kind at n done ds)
unfolding values_from
some_values kind at n done no_items = value done
some_values kind at n done (item d ds) =
    either (nat_le 65536 n) _ _ (refused 111 _ refl) (then _ _ (a_value kind _ d) (λ v. some_values kind at (n + 1) (done ++ v ∷ []) ds))

pub all_values : (kind : FieldKind) (at : List ℕ) (d : Data) → Refusing body_refusals (values_at kind at d)
unfolding values_at
all_values kind at d = then _ _ (a_list 103 at d refl) (λ ds. some_values kind at 0 [] ds)

a_terms : (m : Mapping) (at : List ℕ) (d : Data) → Refusing body_refusals (terms_at m at d)
unfolding terms_at
a_terms m at d =
    then _ _ (a_subject at d) (λ said. then _ _ (a_field m _ said.0) (λ f. then _ _ (all_values f.1.kind _ said.1) (λ vs. value _)))

a_bound : (op : RangeOp) (kind : FieldKind) (at : List ℕ) (done : List RangeTest) (d : Option Data) → Refusing body_refusals (test_of op kind at done d)
a_bound op kind at done None = value done
a_bound op kind at done (Some null) = value done
a_bound op kind at done (Some (boolean b)) = then _ _ (a_value kind at (boolean b)) (λ v. value _)
a_bound op kind at done (Some (number n)) = then _ _ (a_value kind at (number n)) (λ v. value _)
a_bound op kind at done (Some (string s)) = then _ _ (a_value kind at (string s)) (λ v. value _)
a_bound op kind at done (Some (array ds)) = then _ _ (a_value kind at (array ds)) (λ v. value _)
a_bound op kind at done (Some (object ms)) = then _ _ (a_value kind at (object ms)) (λ v. value _)

a_test : (op : RangeOp) (name : List ℕ) (kind : FieldKind) (at : List ℕ) (done : List RangeTest) (ms : Members) → Refusing body_refusals (test_at op name kind at done ms)
unfolding test_at
a_test op name kind at done ms = a_bound op kind (at ++ member_step name) done (get_member name ms)

some_tests : (kind : FieldKind) (at : List ℕ) (d : Data) → Refusing body_refusals (tests_at kind at d)
unfolding tests_at
some_tests kind at d =
    then _ _ (an_object 103 at d refl) (λ ms. then _ _ (names 101 _ at ms refl) (λ u.
    then _ _ (a_test Gt (codes "gt") kind at [] ms) (λ a.
    then _ _ (a_test Gte (codes "gte") kind at a ms) (λ b.
    then _ _ (a_test Lt (codes "lt") kind at b ms) (λ c. a_test Lte (codes "lte") kind at c ms)))))

a_range : (m : Mapping) (at : List ℕ) (d : Data) → Refusing body_refusals (range_at m at d)
unfolding range_at
a_range m at d =
    then _ _ (a_subject at d) (λ said. then _ _ (a_field m _ said.0) (λ f.
    either (is_boolean f.1.kind) _ _ (refused 108 _ refl) (then _ _ (some_tests f.1.kind _ said.1) (λ ts. value _))))

an_exists : (m : Mapping) (at : List ℕ) (d : Data) → Refusing body_refusals (exists_at m at d)
unfolding exists_at
an_exists m at d =
    then _ _ (an_object 103 at d refl) (λ ms. then _ _ (names 101 _ at ms refl) (λ u. then _ _ (named_field m at ms) (λ f. value _)))

some_ids : (at : List ℕ) (n : ℕ) (done : List (List ℕ)) (ds : Items) → Refusing body_refusals (ids_from at n done ds)
unfolding ids_from
some_ids at n done no_items = value done
some_ids at n done (item d ds) =
    either (nat_le 65536 n) _ _ (refused 111 _ refl) (then _ _ (a_text 103 _ d refl) (λ id. some_ids at (n + 1) (done ++ id ∷ []) ds))

all_ids : (at : List ℕ) (d : Data) → Refusing body_refusals (ids_at at d)
unfolding ids_at
all_ids at d =
    then _ _ (an_object 103 at d refl) (λ ms. then _ _ (names 101 _ at ms refl) (λ u.
    then _ _ (a_member (codes "values") at ms) (λ values. then _ _ (a_list 103 _ values refl) (λ ds.
    then _ _ (some_ids _ 0 [] ds) (λ ids. value _)))))

a_nested : (m : Mapping) (context : ℕ) (at path : List ℕ) → Refusing body_refusals (nested_at m context at path)
unfolding nested_at
a_nested m context at path = either (is_in_context m.nested context path) _ _ (found 109 at _ refl) (refused 109 at refl)

pub a_path : (m : Mapping) (context : ℕ) (at : List ℕ) (ms : Members) → Refusing body_refusals (path_in m context at ms)
unfolding path_in
a_path m context at ms =
    then _ _ (a_member (codes "path") at ms) (λ d. then _ _ (a_text 103 _ d refl) (λ path. a_nested m context _ path))

-- queries within a query, where each is readable
module _ (read : ℕ → List ℕ → Data → Reading Counted) (each : (count : ℕ) (at : List ℕ) (d : Data) → Refusing body_refusals (read count at d)) where
  some_queries : (at : List ℕ) (n : ℕ) (done : List Query) (count : ℕ) (ds : Items) → Refusing body_refusals (queries_from read at n done count ds)
  unfolding queries_from
  some_queries at n done count no_items = value _
  some_queries at n done count (item d ds) =
      then _ _ (each count (at ++ item_step n) d) (λ q. some_queries at (n + 1) (done ++ q.0 ∷ []) q.1 ds)

  one_more : (at : List ℕ) (done : List Query) (count : ℕ) (d : Data) → Refusing {A = List Query × ℕ} body_refusals (read count at d >>= λ q. Ok (done ++ q.0 ∷ [], q.1))
  one_more at done count d = then (read count at d) _ (each count at d) (λ q. value _)

  some_clause : (at : List ℕ) (done : List Query) (count : ℕ) (d : Option Data) → Refusing body_refusals (clause_of read at done count d)
  some_clause at done count None = value _
  some_clause at done count (Some (array ds)) = some_queries at 0 done count ds
  some_clause at done count (Some null) = one_more at done count null
  some_clause at done count (Some (boolean b)) = one_more at done count (boolean b)
  some_clause at done count (Some (number n)) = one_more at done count (number n)
  some_clause at done count (Some (string s)) = one_more at done count (string s)
  some_clause at done count (Some (object ms)) = one_more at done count (object ms)

  a_clause : (name at : List ℕ) (done : List Query) (count : ℕ) (ms : Members) → Refusing body_refusals (clause_at read name at done count ms)
  unfolding clause_at
  a_clause name at done count ms = some_clause (at ++ member_step name) done count (get_member name ms)

  all_clauses : (at : List ℕ) (count : ℕ) (ms : Members) → Refusing body_refusals (all_at read at count ms)
  unfolding all_at
  all_clauses at count ms =
      then _ _ (a_clause (codes "filter") at [] count ms) (λ filter.
      then _ _ (maybe (whole_at 0 1024) _ (get_member (codes "minimum_should_match") ms) (a_number 0 1024)) (λ least.
      then _ _ (a_clause (codes "must") at filter.0 filter.1 ms) (λ must. value _)))

  the_clauses : (at : List ℕ) (count : ℕ) (ms : Members) → Refusing body_refusals (clauses_at read at count ms)
  unfolding clauses_at
  the_clauses at count ms =
      then _ _ (all_clauses at count ms) (λ must.
      then _ _ (a_clause (codes "must_not") at [] must.2 ms) (λ must_not.
      then _ _ (a_clause (codes "should") at [] must_not.1 ms) (λ should. value _)))

  a_bool : (at : List ℕ) (count : ℕ) (d : Data) → Refusing body_refusals (bool_at read at count d)
  unfolding bool_at
  a_bool at count d = then _ _ (an_object 103 at d refl) (λ ms. then _ _ (names 101 _ at ms refl) (λ u. the_clauses at count ms))

module _ (read : ℕ → ℕ → List ℕ → Data → Reading Counted) (each : (context count : ℕ) (at : List ℕ) (d : Data) → Refusing body_refusals (read context count at d)) where
  a_within : (m : Mapping) (context : ℕ) (at : List ℕ) (count : ℕ) (d : Data) → Refusing body_refusals (within_at read m context at count d)
  unfolding within_at
  a_within m context at count d =
      then _ _ (an_object 103 at d refl) (λ ms. then _ _ (names 101 _ at ms refl) (λ u.
      then _ _ (a_path m context at ms) (λ path. then _ _ (a_member (codes "query") at ms) (λ query.
      then _ _ (each (path.0 + 1) count _ query) (λ q. value _)))))

  of_name : (m : Mapping) (context : ℕ) (at : List ℕ) (count : ℕ) (said : Option QueryName) (d : Data) → Refusing body_refusals (named read m context at count said d)
  of_name m context at count None d = refused 105 at refl
  of_name m context at count (Some name.MatchAll) d = then _ _ (all_rows at d) (λ q. value _)
  of_name m context at count (Some name.Term) d = then _ _ (a_term m at d) (λ q. value _)
  of_name m context at count (Some name.Terms) d = then _ _ (a_terms m at d) (λ q. value _)
  of_name m context at count (Some name.Range) d = then _ _ (a_range m at d) (λ q. value _)
  of_name m context at count (Some name.Exists) d = then _ _ (an_exists m at d) (λ q. value _)
  of_name m context at count (Some name.Ids) d = then _ _ (all_ids at d) (λ q. value _)
  of_name m context at count (Some name.Bool) d = a_bool (read context) (each context) at count d
  of_name m context at count (Some name.Nested) d = a_within m context at count d

  a_name : (m : Mapping) (context : ℕ) (at : List ℕ) (count : ℕ) (s : List ℕ) (d : Data) → Refusing body_refusals (named_at read m context at count s d)
  unfolding named_at
  a_name m context at count s d = of_name m context (at ++ member_step s) count (query_name s) d

pub a_query : (left : ℕ) (m : Mapping) (context before : ℕ) (at : List ℕ) (d : Data) → Refusing body_refusals (query_at left m context before at d)
unfolding query_at
a_query zero m context before at d = refused 111 at refl
a_query (suc left) m context before at d =
    either (nat_le 1024 before) _ _ (refused 111 at refl) (then _ _ (an_object 103 at d refl) (λ ms. then _ _ (one_member 107 at ms refl) (λ said.
    a_name (query_at left m) (a_query left m) m context at (before + 1) said.0 said.1)))

pub a_top_query : (m : Mapping) (context before : ℕ) (at : List ℕ) (d : Data) → Refusing body_refusals (top_query_at m context before at d)
unfolding top_query_at
a_top_query m context before at d = a_query 32 m context before at d
