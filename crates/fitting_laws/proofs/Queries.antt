-- Queries that are read are made for the mapping.
use Rattle.std.specs.Prelude.{◌≡◌, refl, ℕ, ℤ, zero, suc, ◌+◌, ◌^◌, List, [], ◌∷◌, ◌++◌, map, slice_get, Option, Some, None, Ok, Err, Bool, true, false, ◌&&◌, cond, nat_le, IfOk, option_map, option_and_then, codes}
use Rattle.std.specs.Result.{result_ok}
use Rattle.std.specs.List.{list_all}
use Rattle.std.specs.Option.{option_map_or}
use Rattle.std.proofs.Common.{sym, ◌∙◌, ap, arith}
use Rattle.std.proofs.lemmas.Bool.{and_from}
use Rattle.std.proofs.lemmas.List.Folds.{list_all-append}
use Rattle.serde_json.specs.Data.{Data, null, boolean, number, string, array, object, Items, no_items, item, Members}
use Rattle.serde_json.specs.Find.{as_integer, get_member}
use Rattle.date_spec.specs.declared.fault.DateFault.TheVariants.{OutOfRange}
use Rattle.date_spec.specs.DateTexts.{named_instant, ranged}
use Rattle.date_spec.specs.Instants.{is_in_range}
use Rattle.agg_model.specs.FieldKinds.{fits_below}
use Rattle.agg_model.proofs.InstantBits.{instant_in_64}
use Rattle.agg_model.specs.declared.limits.TheConstants.{MAX_QUERIES}
use Rattle.agg_model.specs.declared.mapping.Field.{Field}
use Rattle.agg_model.specs.declared.mapping.FieldKind.{FieldKind}
use Rattle.agg_model.specs.declared.mapping.FieldKind.TheVariants.{Long, Integer, Short, Byte, Keyword, Boolean, Date}
use Rattle.agg_model.specs.declared.mapping.Mapping.{Mapping}
use Rattle.agg_model.specs.declared.mapping.NestedPath.{NestedPath}
use Rattle.agg_model.specs.declared.query.Probe.{Probe}
use Rattle.agg_model.specs.declared.query.Probe.TheVariants as probe
use Rattle.agg_model.specs.declared.query.RangeOp.{RangeOp}
use Rattle.agg_model.specs.declared.query.RangeOp.TheVariants.{Gt, Gte, Lt, Lte}
use Rattle.agg_model.specs.declared.query.RangeTest.{RangeTest}
use Rattle.agg_model.specs.declared.query.Query.{Query, Bool as BoolQuery}
use Rattle.agg_model.specs.declared.query.Query.TheVariants as query
use Rattle.agg_evaluation.specs.Folds.{fold_query}
use Rattle.agg_reading.specs.declared.names.QueryName.{QueryName}
use Rattle.agg_reading.specs.declared.names.QueryName.TheVariants as name
use Rattle.agg_reading.specs.Reading.{Reading, ◌>>=◌, refuse, or_refuse}
use Rattle.agg_reading.specs.Pointer.{member_step, item_step}
use Rattle.agg_reading.specs.Json.{object_at, list_at, text_at, required, optional, known, sole_at}
use Rattle.agg_reading.specs.Scalars.{whole, word, flag, within_64, instant, probe_of}
use Rattle.agg_reading.specs.Fields.{field_from, nested_from, field_at}
use Rattle.agg_model.specs.Contexts.{is_in_context}
use Rattle.agg_reading.specs.Leaves.{value_at, field_in, about, match_all_at, boxed_value, term_value, term_at, values_from, values_at, terms_at, test_of, test_at, is_boolean, tests_at, range_at, exists_at, ids_from, ids_at}
use Rattle.agg_reading.specs.Numbers.{whole_at}
use Rattle.agg_reading.specs.Query.{query_name, Counted, counted, minimum, queries_from, clause_of, clause_at, all_at, clauses_at, bool_at, nested_at, path_in, within_at, named, named_at, query_at, top_query_at, query_from}
use Rattle.agg_reading.proofs.Steps.{then_ok, next_ok, if_ok}
use Rattle.agg_evaluation.specs.QueryFits.{field_is, is_probe, are_probes, is_path_beneath, query_fits_at, query_fits}
use Rattle.fitting_laws.proofs.Places.{field_found, path_found, path_same}
use Rattle.agg_evaluation.proofs.QueryFolds.{fold_query-Bool, fold_query-Nested}

-- a field that is found is one of the mapping's

abbrev pub IsFieldOf : Mapping → ℕ × Field → Type 0
IsFieldOf m f = slice_get m.fields f.0 ≡ Some f.1

pub or_refuse_ok : {A : Type 0} (P : A → Type 0) (code : ℕ) (at : List ℕ) (o : Option A) → ((x : A) → o ≡ Some x → P x) → IfOk (or_refuse code at o) P
or_refuse_ok P code at None h = tt
or_refuse_ok P code at (Some x) h = h x refl

pub field_at-is : (m : Mapping) (at path : List ℕ) → IfOk (field_at m at path) (IsFieldOf m)
unfolding field_at
field_at-is m at path = or_refuse_ok (IsFieldOf m) 108 at (field_from 0 m.fields path) (λ f e.
    let r = field_found 0 m.fields path f.0 f.1 e in
    let place : r.0 ≡ f.0 = omega (arith, r.1) in
    ap (slice_get m.fields) (sym place) ∙ r.2)

pub field_in-is : (m : Mapping) (at : List ℕ) (ms : Members) → IfOk (field_in m at ms) (IsFieldOf m)
unfolding field_in
field_in-is m at ms =
    then_ok (IsFieldOf m) (required (codes "field") at ms) _ (λ d.
    then_ok (IsFieldOf m) (text_at 103 (at ++ member_step (codes "field")) d) _ (λ path. field_at-is m _ path))

pub of_field : (m : Mapping) (passes : FieldKind → Bool) (f : ℕ × Field) → IsFieldOf m f → passes f.1.kind ≡ true → field_is m passes f.0 ≡ true
of_field m passes f there h = ap (λ (o : Option Field). option_map_or (λ g. passes g.kind) o false) there ∙ h

-- values

abbrev pub Asked : FieldKind → Probe → Type 0
Asked k p = is_probe k p ≡ true

mapped_ok : {A : Type 0} (k : FieldKind) (f : A → Probe) (code : ℕ) (at : List ℕ) (o : Option A) → ((x : A) → is_probe k (f x) ≡ true) → IfOk (or_refuse code at (option_map f o)) (Asked k)
mapped_ok k f code at None h = tt
mapped_ok k f code at (Some x) h = h x

number_asked : (at : List ℕ) (z : Option ℤ) → IfOk (or_refuse 104 at (option_map probe.Whole (option_and_then within_64 z))) (Asked Date)
number_asked at None = tt
number_asked at (Some z) =
    elim (fits_below (2 ^ 63) z) as (λ b. fits_below (2 ^ 63) z ≡ b → IfOk (or_refuse 104 at (option_map probe.Whole (cond b (Some z) None))) (Asked Date)) [ true ↦ λ e. e | false ↦ λ e. tt ] refl

text_asked : (at : List ℕ) (z : Option ℤ) → IfOk (or_refuse 104 at (option_map probe.Whole (result_ok (ranged z)))) (Asked Date)
text_asked at None = tt
text_asked at (Some z) =
    elim (is_in_range z) as (λ b. is_in_range z ≡ b → IfOk (or_refuse 104 at (option_map probe.Whole (result_ok (cond b (Ok z) (Err OutOfRange))))) (Asked Date)) [ true ↦ λ e. instant_in_64 z e | false ↦ λ e. tt ] refl

date_asked : (at : List ℕ) (d : Data) → IfOk (or_refuse 104 at (option_map probe.Whole (instant d))) (Asked Date)
unfolding instant
date_asked at null = tt
date_asked at (boolean b) = tt
date_asked at (number n) = number_asked at (as_integer n)
date_asked at (string s) = text_asked at (named_instant s)
date_asked at (array ds) = tt
date_asked at (object ms) = tt

pub value_asked : (k : FieldKind) (at : List ℕ) (d : Data) → IfOk (value_at k at d) (Asked k)
unfolding value_at probe_of
value_asked Keyword at d = mapped_ok Keyword probe.Word 104 at (word d) (λ x. refl)
value_asked Boolean at d = mapped_ok Boolean probe.Flag 104 at (flag d) (λ x. refl)
value_asked Long at d = mapped_ok Long probe.Whole 104 at (whole d) (λ x. refl)
value_asked Integer at d = mapped_ok Integer probe.Whole 104 at (whole d) (λ x. refl)
value_asked Short at d = mapped_ok Short probe.Whole 104 at (whole d) (λ x. refl)
value_asked Byte at d = mapped_ok Byte probe.Whole 104 at (whole d) (λ x. refl)
value_asked Date at d = date_asked at d

boxed_asked : (k : FieldKind) (at : List ℕ) (ms : Members) → IfOk (boxed_value k at ms) (Asked k)
unfolding boxed_value
boxed_asked k at ms =
    then_ok (Asked k) (known 101 (codes "boost" ∷ codes "value" ∷ []) at ms) _ (λ _.
    then_ok (Asked k) (required (codes "value") at ms) _ (λ v. value_asked k _ v))

term_asked : (k : FieldKind) (at : List ℕ) (d : Data) → IfOk (term_value k at d) (Asked k)
term_asked k at (object ms) = boxed_asked k at ms
term_asked k at null = value_asked k at null
term_asked k at (boolean b) = value_asked k at (boolean b)
term_asked k at (number n) = value_asked k at (number n)
term_asked k at (string s) = value_asked k at (string s)
term_asked k at (array ds) = value_asked k at (array ds)

abbrev pub AllAsked : FieldKind → List Probe → Type 0
AllAsked k ps = are_probes k ps ≡ true

values_from-asked : (k : FieldKind) (at : List ℕ) (n : ℕ) (done : List Probe) (ds : Items) → AllAsked k done → IfOk (values_from k at n done ds) (AllAsked k)
unfolding values_from
values_from-asked k at n done no_items h = h
values_from-asked k at n done (item d ds) h =
    if_ok (AllAsked k) (nat_le 65536 n) (refuse 111 (at ++ item_step n)) _ (λ e. tt) (λ e.
    next_ok (Asked k) (AllAsked k) (value_at k (at ++ item_step n) d) _ (value_asked k _ d) (λ v a.
    values_from-asked k at (n + 1) (done ++ v ∷ []) ds (list_all-append (is_probe k) done (v ∷ []) ∙ and_from _ _ h (and_from _ _ a refl))))

pub values_asked : (k : FieldKind) (at : List ℕ) (d : Data) → IfOk (values_at k at d) (AllAsked k)
unfolding values_at
values_asked k at d = then_ok (AllAsked k) (list_at 103 at d) _ (λ ds. values_from-asked k at 0 [] ds refl)

abbrev TestsAsked : FieldKind → List RangeTest → Type 0
TestsAsked k ts = list_all (λ t. is_probe k t.value) ts ≡ true

test_read : (op : RangeOp) (k : FieldKind) (at : List ℕ) (done : List RangeTest) (d : Data) → TestsAsked k done → IfOk (value_at k at d >>= λ v. Ok (done ++ record { op = op; value = v } ∷ [])) (TestsAsked k)
test_read op k at done d h = next_ok (Asked k) (TestsAsked k) (value_at k at d) _ (value_asked k at d) (λ v a. list_all-append (λ (t : RangeTest). is_probe k t.value) done (record { op = op; value = v } ∷ []) ∙ and_from _ _ h (and_from _ _ a refl))

test_asked : (op : RangeOp) (k : FieldKind) (at : List ℕ) (done : List RangeTest) (o : Option Data) → TestsAsked k done → IfOk (test_of op k at done o) (TestsAsked k)
test_asked op k at done None h = h
test_asked op k at done (Some null) h = h
test_asked op k at done (Some (boolean b)) h = test_read op k at done (boolean b) h
test_asked op k at done (Some (number b)) h = test_read op k at done (number b) h
test_asked op k at done (Some (string b)) h = test_read op k at done (string b) h
test_asked op k at done (Some (array b)) h = test_read op k at done (array b) h
test_asked op k at done (Some (object b)) h = test_read op k at done (object b) h

test_at-asked : (op : RangeOp) (name : List ℕ) (k : FieldKind) (at : List ℕ) (done : List RangeTest) (ms : Members) → TestsAsked k done → IfOk (test_at op name k at done ms) (TestsAsked k)
unfolding test_at
test_at-asked op name k at done ms h = test_asked op k _ done (get_member name ms) h

tests_asked : (k : FieldKind) (at : List ℕ) (d : Data) → IfOk (tests_at k at d) (TestsAsked k)
unfolding tests_at
tests_asked k at d =
    then_ok (TestsAsked k) (object_at 103 at d) _ (λ ms.
    then_ok (TestsAsked k) (known 101 _ at ms) _ (λ _.
    next_ok (TestsAsked k) (TestsAsked k) (test_at Gt (codes "gt") k at [] ms) _ (test_at-asked Gt (codes "gt") k at [] ms refl) (λ a p.
    next_ok (TestsAsked k) (TestsAsked k) (test_at Gte (codes "gte") k at a ms) _ (test_at-asked Gte (codes "gte") k at a ms p) (λ b q.
    next_ok (TestsAsked k) (TestsAsked k) (test_at Lt (codes "lt") k at b ms) _ (test_at-asked Lt (codes "lt") k at b ms q) (λ c r.
    test_at-asked Lte (codes "lte") k at c ms r)))))

module _ (m : Mapping) where
  -- the queries that hold no other

  abbrev Fit : ℕ → Query → Type 0
  Fit context q = query_fits m context q ≡ true

  all_fits : (context : ℕ) (at : List ℕ) (d : Data) → IfOk (match_all_at at d) (Fit context)
  unfolding match_all_at
  all_fits context at d = then_ok (Fit context) (object_at 103 at d) _ (λ ms. then_ok (Fit context) (known 101 _ at ms) _ (λ _. refl))

  term_fits : (context : ℕ) (at : List ℕ) (d : Data) → IfOk (term_at m at d) (Fit context)
  unfolding term_at
  term_fits context at d =
      then_ok (Fit context) (about at d) _ (λ said.
      next_ok (IsFieldOf m) (Fit context) (field_at m (at ++ member_step said.0) said.0) _ (field_at-is m _ said.0) (λ f there.
      next_ok (Asked f.1.kind) (Fit context) (term_value f.1.kind (at ++ member_step said.0) said.1) _ (term_asked f.1.kind _ said.1) (λ v a.
      of_field m (λ k. is_probe k v) f there a)))

  terms_fits : (context : ℕ) (at : List ℕ) (d : Data) → IfOk (terms_at m at d) (Fit context)
  unfolding terms_at
  terms_fits context at d =
      then_ok (Fit context) (about at d) _ (λ said.
      next_ok (IsFieldOf m) (Fit context) (field_at m (at ++ member_step said.0) said.0) _ (field_at-is m _ said.0) (λ f there.
      next_ok (AllAsked f.1.kind) (Fit context) (values_at f.1.kind (at ++ member_step said.0) said.1) _ (values_asked f.1.kind _ said.1) (λ vs a.
      of_field m (λ k. are_probes k vs) f there a)))

  range_fits : (context : ℕ) (at : List ℕ) (d : Data) → IfOk (range_at m at d) (Fit context)
  unfolding range_at
  range_fits context at d =
      then_ok (Fit context) (about at d) _ (λ said.
      next_ok (IsFieldOf m) (Fit context) (field_at m (at ++ member_step said.0) said.0) _ (field_at-is m _ said.0) (λ f there.
      if_ok (Fit context) (is_boolean f.1.kind) (refuse 108 (at ++ member_step said.0)) _ (λ e. tt) (λ e.
      next_ok (TestsAsked f.1.kind) (Fit context) (tests_at f.1.kind (at ++ member_step said.0) said.1) _ (tests_asked f.1.kind _ said.1) (λ ts a.
      of_field m (λ k. list_all (λ t. is_probe k t.value) ts) f there a))))

  exists_fits : (context : ℕ) (at : List ℕ) (d : Data) → IfOk (exists_at m at d) (Fit context)
  unfolding exists_at
  exists_fits context at d =
      then_ok (Fit context) (object_at 103 at d) _ (λ ms.
      then_ok (Fit context) (known 101 _ at ms) _ (λ _.
      next_ok (IsFieldOf m) (Fit context) (field_in m at ms) _ (field_in-is m at ms) (λ f there. of_field m (λ k. true) f there refl)))

  ids_fits : (context : ℕ) (at : List ℕ) (d : Data) → IfOk (ids_at at d) (Fit context)
  unfolding ids_at
  ids_fits context at d =
      then_ok (Fit context) (object_at 103 at d) _ (λ ms.
      then_ok (Fit context) (known 101 _ at ms) _ (λ _.
      then_ok (Fit context) (required (codes "values") at ms) _ (λ values.
      then_ok (Fit context) (list_at 103 _ values) _ (λ ds.
      then_ok (Fit context) (ids_from _ 0 [] ds) _ (λ ids. refl)))))

  -- the queries that hold others

  abbrev CountedFit : ℕ → Counted → Type 0
  CountedFit context q = Fit context q.0

  abbrev Reads : (ℕ → ℕ → List ℕ → Data → Reading Counted) → Type 0
  Reads read = (context count : ℕ) (at : List ℕ) (d : Data) → IfOk (read context count at d) (CountedFit context)

  abbrev pub IsPathBeneath : ℕ → ℕ × NestedPath → Type 0
  IsPathBeneath context p = is_path_beneath m context p.0 ≡ true

  found_beneath : (context : ℕ) (path : List ℕ) (p : ℕ × NestedPath) → is_in_context m.nested context path ≡ true → nested_from 0 m.nested path ≡ Some p → IsPathBeneath context p
  found_beneath context path p within e =
      let r = path_found 0 m.nested path p.0 p.1 e in
      let place : r.0 ≡ p.0 = omega (arith, r.1) in
      let there : slice_get m.nested p.0 ≡ Some p.1 = ap (slice_get m.nested) (sym place) ∙ r.2 in
      let same : p.1.path ≡ path = path_same 0 m.nested path p.0 p.1 e in
      ap (λ (o : Option NestedPath). option_map_or (λ q. is_in_context m.nested context q.path) o false) there ∙ ap (is_in_context m.nested context) same ∙ within

  nested_at-beneath : (context : ℕ) (at path : List ℕ) → IfOk (nested_at m context at path) (IsPathBeneath context)
  unfolding nested_at
  nested_at-beneath context at path =
      if_ok (IsPathBeneath context) (is_in_context m.nested context path) (or_refuse 109 at (nested_from 0 m.nested path)) (refuse 109 at)
      (λ within. or_refuse_ok (IsPathBeneath context) 109 at (nested_from 0 m.nested path) (λ p e. found_beneath context path p within e)) (λ e. tt)

  pub path_in-beneath : (context : ℕ) (at : List ℕ) (ms : Members) → IfOk (path_in m context at ms) (IsPathBeneath context)
  unfolding path_in
  path_in-beneath context at ms =
      then_ok (IsPathBeneath context) (required (codes "path") at ms) _ (λ d.
      then_ok (IsPathBeneath context) (text_at 103 (at ++ member_step (codes "path")) d) _ (λ path. nested_at-beneath context _ path))

  abbrev ListFit : ℕ → List Query × ℕ → Type 0
  ListFit context r = list_all (query_fits m context) r.0 ≡ true

  module _ (read : ℕ → ℕ → List ℕ → Data → Reading Counted) (reads : Reads read) where
    queries_fit : (context : ℕ) (at : List ℕ) (n : ℕ) (done : List Query) (count : ℕ) (ds : Items) → list_all (query_fits m context) done ≡ true → IfOk (queries_from (read context) at n done count ds) (ListFit context)
    unfolding queries_from
    queries_fit context at n done count no_items h = h
    queries_fit context at n done count (item d ds) h =
        next_ok (CountedFit context) (ListFit context) (read context count (at ++ item_step n) d) _ (reads context count _ d) (λ q a.
        queries_fit context at (n + 1) (done ++ q.0 ∷ []) q.1 ds (list_all-append (query_fits m context) done (q.0 ∷ []) ∙ and_from _ _ h (and_from _ _ a refl)))

    one_fits : (context : ℕ) (at : List ℕ) (done : List Query) (count : ℕ) (d : Data) → list_all (query_fits m context) done ≡ true → IfOk (read context count at d >>= λ q. Ok (done ++ q.0 ∷ [], q.1)) (ListFit context)
    one_fits context at done count d h = next_ok (CountedFit context) (ListFit context) (read context count at d) _ (reads context count at d) (λ q a. list_all-append (query_fits m context) done (q.0 ∷ []) ∙ and_from _ _ h (and_from _ _ a refl))

    clause_fits : (context : ℕ) (at : List ℕ) (done : List Query) (count : ℕ) (o : Option Data) → list_all (query_fits m context) done ≡ true → IfOk (clause_of (read context) at done count o) (ListFit context)
    clause_fits context at done count None h = h
    clause_fits context at done count (Some (array ds)) h = queries_fit context at 0 done count ds h
    clause_fits context at done count (Some null) h = one_fits context at done count null h
    clause_fits context at done count (Some (boolean b)) h = one_fits context at done count (boolean b) h
    clause_fits context at done count (Some (number b)) h = one_fits context at done count (number b) h
    clause_fits context at done count (Some (string b)) h = one_fits context at done count (string b) h
    clause_fits context at done count (Some (object b)) h = one_fits context at done count (object b) h

    clause_at-fits : (context : ℕ) (name at : List ℕ) (done : List Query) (count : ℕ) (ms : Members) → list_all (query_fits m context) done ≡ true → IfOk (clause_at (read context) name at done count ms) (ListFit context)
    unfolding clause_at
    clause_at-fits context name at done count ms h = clause_fits context _ done count (get_member name ms) h

    abbrev MustFit : ℕ → List Query × Option ℕ × ℕ → Type 0
    MustFit context r = list_all (query_fits m context) r.0 ≡ true

    all_at-fits : (context : ℕ) (at : List ℕ) (count : ℕ) (ms : Members) → IfOk (all_at (read context) at count ms) (MustFit context)
    unfolding all_at
    all_at-fits context at count ms =
        next_ok (ListFit context) (MustFit context) (clause_at (read context) (codes "filter") at [] count ms) _ (clause_at-fits context (codes "filter") at [] count ms refl) (λ filter a.
        then_ok (MustFit context) (optional (whole_at 0 1024) (codes "minimum_should_match") at ms) _ (λ least.
        next_ok (ListFit context) (MustFit context) (clause_at (read context) (codes "must") at filter.0 filter.1 ms) _ (clause_at-fits context (codes "must") at filter.0 filter.1 ms a) (λ must b. b)))

    all_map : (context : ℕ) (qs : List Query) → list_all (λ q. q context) (map (fold_query (query_fits_at m)) qs) ≡ list_all (query_fits m context) qs
    all_map context [] = refl
    all_map context (q ∷ qs) = ap (λ b. query_fits m context q && b) (all_map context qs)

    bool_fits : (context : ℕ) (must must_not should : List Query) (k : ℕ) → list_all (query_fits m context) must ≡ true → list_all (query_fits m context) must_not ≡ true → list_all (query_fits m context) should ≡ true
        → Fit context (BoolQuery must must_not should k)
    bool_fits context must must_not should k a b c =
        ap (λ (f : ℕ → Bool). f context) (fold_query-Bool (query_fits_at m) must must_not should k)
        ∙ and_from _ _ (all_map context must ∙ a) (and_from _ _ (all_map context must_not ∙ b) (all_map context should ∙ c))

    clauses_fit : (context : ℕ) (at : List ℕ) (count : ℕ) (ms : Members) → IfOk (clauses_at (read context) at count ms) (CountedFit context)
    unfolding clauses_at
    clauses_fit context at count ms =
        next_ok (MustFit context) (CountedFit context) (all_at (read context) at count ms) _ (all_at-fits context at count ms) (λ must a.
        next_ok (ListFit context) (CountedFit context) (clause_at (read context) (codes "must_not") at [] must.2 ms) _ (clause_at-fits context (codes "must_not") at [] must.2 ms refl) (λ must_not b.
        next_ok (ListFit context) (CountedFit context) (clause_at (read context) (codes "should") at [] must_not.1 ms) _ (clause_at-fits context (codes "should") at [] must_not.1 ms refl) (λ should c.
        bool_fits context must.0 must_not.0 should.0 (minimum must.0 should.0 must.1) a b c)))

    bool_at-fits : (context : ℕ) (at : List ℕ) (count : ℕ) (d : Data) → IfOk (bool_at (read context) at count d) (CountedFit context)
    unfolding bool_at
    bool_at-fits context at count d = then_ok (CountedFit context) (object_at 103 at d) _ (λ ms. then_ok (CountedFit context) (known 101 _ at ms) _ (λ _. clauses_fit context at count ms))

    within_fits : (context : ℕ) (at : List ℕ) (count : ℕ) (d : Data) → IfOk (within_at read m context at count d) (CountedFit context)
    unfolding within_at
    within_fits context at count d =
        then_ok (CountedFit context) (object_at 103 at d) _ (λ ms.
        then_ok (CountedFit context) (known 101 _ at ms) _ (λ _.
        next_ok (IsPathBeneath context) (CountedFit context) (path_in m context at ms) _ (path_in-beneath context at ms) (λ path there.
        then_ok (CountedFit context) (required (codes "query") at ms) _ (λ d.
        next_ok (CountedFit (path.0 + 1)) (CountedFit context) (read (path.0 + 1) count (at ++ member_step (codes "query")) d) _ (reads (path.0 + 1) count _ d) (λ q a.
        ap (λ (f : ℕ → Bool). f context) (fold_query-Nested (query_fits_at m) path.0 q.0) ∙ and_from _ _ there a)))))

    abbrev counts : (context : ℕ) (o : Reading Query) (count : ℕ) → IfOk o (Fit context) → IfOk (o >>= counted count) (CountedFit context)
    counts context o count h = next_ok (Fit context) (CountedFit context) o (counted count) h (λ q a. a)

    named_fits : (context : ℕ) (at : List ℕ) (count : ℕ) (o : Option QueryName) (d : Data) → IfOk (named read m context at count o d) (CountedFit context)
    named_fits context at count None d = tt
    named_fits context at count (Some name.MatchAll) d = counts context (match_all_at at d) count (all_fits context at d)
    named_fits context at count (Some name.Term) d = counts context (term_at m at d) count (term_fits context at d)
    named_fits context at count (Some name.Terms) d = counts context (terms_at m at d) count (terms_fits context at d)
    named_fits context at count (Some name.Range) d = counts context (range_at m at d) count (range_fits context at d)
    named_fits context at count (Some name.Exists) d = counts context (exists_at m at d) count (exists_fits context at d)
    named_fits context at count (Some name.Ids) d = counts context (ids_at at d) count (ids_fits context at d)
    named_fits context at count (Some name.Bool) d = bool_at-fits context at count d
    named_fits context at count (Some name.Nested) d = within_fits context at count d

    named_at-fits : (context : ℕ) (at : List ℕ) (count : ℕ) (s : List ℕ) (d : Data) → IfOk (named_at read m context at count s d) (CountedFit context)
    unfolding named_at
    named_at-fits context at count s d = named_fits context _ count (query_name s) d

  query_at-fits : (left : ℕ) (context before : ℕ) (at : List ℕ) (d : Data) → IfOk (query_at left m context before at d) (CountedFit context)
  unfolding query_at
  query_at-fits zero context before at d = tt
  query_at-fits (suc left) context before at d =
      if_ok (CountedFit context) (nat_le MAX_QUERIES before) (refuse 111 at) _ (λ e. tt) (λ e.
      then_ok (CountedFit context) (object_at 103 at d) _ (λ ms.
      then_ok (CountedFit context) (sole_at 107 at ms) _ (λ said.
      named_at-fits (query_at left m) (query_at-fits left) context at (before + 1) said.0 said.1)))

  pub top_query_fits : (context before : ℕ) (at : List ℕ) (d : Data) → IfOk (top_query_at m context before at d) (CountedFit context)
  unfolding top_query_at
  top_query_fits context before at d = query_at-fits 32 context before at d

-- the query of a body
pub query_from_fits : (m : Mapping) (context before : ℕ) (at : List ℕ) (d : Data) → IfOk (query_from m context before at d) (λ q. query_fits m context q ≡ true)
unfolding query_from
query_from_fits m context before at d = next_ok (λ (q : Counted). query_fits m context q.0 ≡ true) (λ q. query_fits m context q ≡ true) (top_query_at m context before at d) _ (top_query_fits m context before at d) (λ q a. a)
