-- The other kinds of aggregations that are read, but for composites.
use Rattle.std.specs.Prelude.{◌≡◌, refl, ℕ, suc, ◌+◌, ◌<◌, ◌≤◌, ◌==◌, List, [], ◌∷◌, ◌++◌, length, slice_get, Option, Some, None, Ok, true, false, not, nat_le, IfOk, IfSome, codes}
use Rattle.std.specs.List.{list_all}
use Rattle.std.specs.Option.{option_map_or}
use Rattle.std.proofs.Common.{sym, ◌∙◌, ap, arith, length-append}
use Rattle.std.proofs.lemmas.Bool.{and_from, le-leb}
use Rattle.std.proofs.lemmas.Bool.Decides.{nat_tests}
use Rattle.std.proofs.lemmas.List.Folds.{list_all-append}
use Rattle.serde_json.specs.Data.{Data, null, boolean, number, string, array, object, Items, no_items, item, Members, no_members, member}
use Rattle.serde_json.specs.Find.{get_member}
use Rattle.agg_model.specs.declared.mapping.Mapping.{Mapping}
use Rattle.agg_model.specs.declared.mapping.NestedPath.{NestedPath}
use Rattle.agg_model.specs.declared.aggregation.Kind.{Kind}
use Rattle.agg_reading.specs.declared.names.KindName.{KindName}
use Rattle.agg_reading.specs.declared.names.KindName.TheVariants as name
use Rattle.agg_reading.specs.Reading.{refuse, or_refuse}
use Rattle.agg_reading.specs.Pointer.{member_step, item_step}
use Rattle.agg_reading.specs.Json.{object_at, text_at, optional, known}
use Rattle.agg_reading.specs.Numbers.{truth_at}
use Rattle.agg_reading.specs.Fields.{nested_from}
use Rattle.agg_model.specs.Contexts.{encloses}
use Rattle.agg_reading.specs.Leaves.{field_in}
use Rattle.agg_reading.specs.Metrics.{missing_kind_at, global_at, nested_context_at, enclosing_at, outer_of, outer_context_at}
use Rattle.agg_reading.specs.Orders.{with_order}
use Rattle.agg_reading.specs.Query.{Counted, top_query_at, path_in}
use Rattle.agg_model.specs.declared.query.Query.{Query}
use Rattle.agg_reading.specs.Filters.{name_at, listed_from, named_from, FilterList, filter_list_at, other_of, filters_in, filters_at}
use Rattle.agg_reading.proofs.Steps.{then_ok, next_ok, if_ok}
use Rattle.agg_reading.proofs.IndexLineLaws.{optional_of-ok}
use Rattle.agg_evaluation.specs.QueryFits.{query_fits}
use Rattle.agg_evaluation.specs.SearchFits.{is_around, is_within}
use Rattle.fitting_laws.proofs.Places.{path_found, path_same}
use Rattle.fitting_laws.proofs.Queries.{top_query_fits, IsFieldOf, or_refuse_ok, field_in-is, of_field, IsPathBeneath, path_in-beneath}
use Rattle.fitting_laws.proofs.KindReads.{weaken, KindRead}

module _ (m : Mapping) (context : ℕ) where
  -- filters

  abbrev some_items : Items → ℕ
  some_items no_items = 0
  some_items (item d ds) = 1

  abbrev some_members : Members → ℕ
  some_members no_members = 0
  some_members (member k d ms) = 1

  abbrev Listed : ℕ → List Query × ℕ → Type 0
  Listed least r = (least ≤ length r.0) × (length r.0 ≤ 256) × (list_all (query_fits m context) r.0 ≡ true)

  listed_ok : (at : List ℕ) (n : ℕ) (done : List Query) (count : ℕ) (ds : Items) → n ≡ length done → length done ≤ 256 → list_all (query_fits m context) done ≡ true → IfOk (listed_from m context at n done count ds) (Listed (length done + some_items ds))
  unfolding listed_from
  listed_ok at n done count no_items same few h = (omega arith, few, h)
  listed_ok at n done count (item d ds) same few h =
      if_ok (Listed (length done + 1)) (nat_le 256 n) (refuse 111 (at ++ item_step n)) _ (λ e. tt) (λ e.
      next_ok (λ (q : Counted). query_fits m context q.0 ≡ true) (Listed (length done + 1)) (top_query_at m context count (at ++ item_step n) d) _ (top_query_fits m context count (at ++ item_step n) d) (λ q a.
      let more = length-append done (q.0 ∷ []) in
      let below : n < 256 = grind (arith, nat_tests, e) in
      weaken (Listed (length (done ++ q.0 ∷ []) + some_items ds)) (Listed (length done + 1)) (listed_from m context at (n + 1) (done ++ q.0 ∷ []) q.1 ds)
      (listed_ok at (n + 1) (done ++ q.0 ∷ []) q.1 ds (omega (arith, same, more)) (omega (arith, same, more, below)) (list_all-append (query_fits m context) done (q.0 ∷ []) ∙ and_from _ _ h (and_from _ _ a refl)))
      (λ r l. (omega (arith, more, l.0), l.1, l.2))))

  abbrev Named : ℕ → List (List ℕ) × List Query × ℕ → Type 0
  Named least r = (least ≤ length r.1) × (length r.1 ≤ 256) × (list_all (query_fits m context) r.1 ≡ true) × (length r.0 ≡ length r.1)

  named_ok : (at : List ℕ) (names : List (List ℕ)) (done : List Query) (count : ℕ) (ms : Members) → length names ≡ length done → length done ≤ 256 → list_all (query_fits m context) done ≡ true → IfOk (named_from m context at names done count ms) (Named (length done + some_members ms))
  unfolding named_from
  named_ok at names done count no_members same few h = (omega arith, few, h, same)
  named_ok at names done count (member k d ms) same few h =
      then_ok (Named (length done + 1)) (name_at (at ++ member_step k) k) _ (λ _.
      if_ok (Named (length done + 1)) (nat_le 256 (length names)) (refuse 111 (at ++ member_step k)) _ (λ e. tt) (λ e.
      next_ok (λ (q : Counted). query_fits m context q.0 ≡ true) (Named (length done + 1)) (top_query_at m context count (at ++ member_step k) d) _ (top_query_fits m context count (at ++ member_step k) d) (λ q a.
      let more = length-append done (q.0 ∷ []) in
      let longer = length-append names (k ∷ []) in
      let below : length names < 256 = grind (arith, nat_tests, e) in
      weaken (Named (length (done ++ q.0 ∷ []) + some_members ms)) (Named (length done + 1)) (named_from m context at (names ++ k ∷ []) (done ++ q.0 ∷ []) q.1 ms)
      (named_ok at (names ++ k ∷ []) (done ++ q.0 ∷ []) q.1 ms (omega (arith, same, more, longer)) (omega (arith, same, more, below)) (list_all-append (query_fits m context) done (q.0 ∷ []) ∙ and_from _ _ h (and_from _ _ a refl)))
      (λ r l. (omega (arith, more, l.0), l.1, l.2, l.3)))))

  abbrev ListFits : FilterList → Type 0
  ListFits r = (1 ≤ length r.1) × (length r.1 ≤ 256) × (option_map_or (λ ns. length ns == length r.1) r.0 true ≡ true) × (list_all (query_fits m context) r.1 ≡ true)

  filter_list_ok : (count : ℕ) (at : List ℕ) (d : Data) → IfOk (filter_list_at m context count at d) ListFits
  unfolding filter_list_at
  filter_list_ok count at (array no_items) = tt
  filter_list_ok count at (array (item d ds)) = next_ok (Listed 1) ListFits (listed_from m context at 0 [] count (item d ds)) _ (listed_ok at 0 [] count (item d ds) refl (omega arith) refl) (λ r l. (l.0, l.1, refl, l.2))
  filter_list_ok count at (object no_members) = tt
  filter_list_ok count at (object (member k d ms)) =
      next_ok (Named 1) ListFits (named_from m context at [] [] count (member k d ms)) _ (named_ok at [] [] count (member k d ms) refl (omega arith) refl) (λ r l. (l.0, l.1, grind (arith, nat_tests, l.3), l.2))
  filter_list_ok count at null = tt
  filter_list_ok count at (boolean b) = tt
  filter_list_ok count at (number b) = tt
  filter_list_ok count at (string b) = tt

  abbrev FiltersRead : Kind × ℕ → Type 0
  FiltersRead k = KindRead m context name.Filters k.0 0 context

  given : (at : List ℕ) (o : Option FilterList) → IfSome o ListFits → IfOk (or_refuse 102 at o) ListFits
  given at None h = tt
  given at (Some n) h = h

  pub filters_read : (count : ℕ) (at : List ℕ) (d : Data) → IfOk (filters_at m context count at d) FiltersRead
  unfolding filters_at filters_in with_order
  filters_read count at d =
      then_ok FiltersRead (object_at 103 at d) _ (λ ms.
      then_ok FiltersRead (known 101 _ at ms) _ (λ _.
      next_ok (λ o. IfSome o ListFits) FiltersRead (optional (filter_list_at m context count) (codes "filters") at ms) _ (optional_of-ok ListFits (filter_list_at m context count) _ _ (filter_list_ok count)) (λ said s.
      then_ok FiltersRead (optional truth_at (codes "other_bucket") at ms) _ (λ on.
      then_ok FiltersRead (optional (text_at 103) (codes "other_bucket_key") at ms) _ (λ key.
      next_ok ListFits FiltersRead (or_refuse 102 at said) _ (given at said s) (λ list l.
      then_ok FiltersRead (other_of at list.0 on key) _ (λ other.
      record {
        ready = λ children os e h. and_from _ _ (le-leb 1 (length list.1) l.0) (and_from _ _ (le-leb (length list.1) 256 l.1) (and_from _ _ l.2 l.3));
        metric = λ os. refl;
        top = λ os. refl;
        within_is = λ os. refl;
      })))))))

  -- the kinds of one bucket

  abbrev KindIs : KindName → Kind → Type 0
  KindIs n k = KindRead m context n k 0 context

  pub missing_read : (at : List ℕ) (d : Data) → IfOk (missing_kind_at m at d) (KindIs name.Missing)
  unfolding missing_kind_at with_order
  missing_read at d =
      then_ok (KindIs name.Missing) (object_at 103 at d) _ (λ ms.
      then_ok (KindIs name.Missing) (known 101 _ at ms) _ (λ _.
      next_ok (IsFieldOf m) (KindIs name.Missing) (field_in m at ms) _ (field_in-is m at ms) (λ f there.
      record { ready = λ children os e h. of_field m (λ k. true) f there refl; metric = λ os. refl; top = λ os. refl; within_is = λ os. refl })))

  pub global_read : (at : List ℕ) (d : Data) → IfOk (global_at at d) (λ k. KindRead m context name.Global k 0 0)
  unfolding global_at with_order
  global_read at d =
      let P : Kind → Type 0 = λ k. KindRead m context name.Global k 0 0 in
      then_ok P (object_at 103 at d) _ (λ ms.
      then_ok P (known 101 _ at ms) _ (λ _. record { ready = λ children os e h. refl; metric = λ os. refl; top = λ os. refl; within_is = λ os. refl }))

  pub nested_read : (at : List ℕ) (d : Data) → IfOk (nested_context_at m context at d) (λ inner. is_within m context inner ≡ true)
  unfolding nested_context_at
  nested_read at d =
      let P : ℕ → Type 0 = λ inner. is_within m context inner ≡ true in
      then_ok P (object_at 103 at d) _ (λ ms.
      then_ok P (known 101 _ at ms) _ (λ _.
      next_ok (IsPathBeneath m context) P (path_in m context at ms) _ (path_in-beneath m context at ms) (λ p h.
      let next : suc p.0 ≡ p.0 + 1 = omega arith in ap (is_within m context) (sym next) ∙ h)))

  enclosing_ok : (at path : List ℕ) → IfOk (enclosing_at m context at path) (λ outer. is_around m context outer ≡ true)
  unfolding enclosing_at
  enclosing_ok at path =
      let P : ℕ → Type 0 = λ outer. is_around m context outer ≡ true in
      if_ok P (encloses m.nested path context) _ (refuse 109 at) (λ around.
      next_ok (λ p. nested_from 0 m.nested path ≡ Some p) P (or_refuse 109 at (nested_from 0 m.nested path)) _ (or_refuse_ok (λ p. nested_from 0 m.nested path ≡ Some p) 109 at (nested_from 0 m.nested path) (λ p e. e)) (λ p e.
      let r = path_found 0 m.nested path p.0 p.1 e in
      let place : r.0 ≡ p.0 = omega (arith, r.1) in
      let there : slice_get m.nested p.0 ≡ Some p.1 = ap (slice_get m.nested) (sym place) ∙ r.2 in
      let same : p.1.path ≡ path = path_same 0 m.nested path p.0 p.1 e in
      let next : suc p.0 ≡ p.0 + 1 = omega arith in
      ap (is_around m context) (sym next) ∙ ap (λ (o : Option NestedPath). option_map_or (λ q. encloses m.nested q.path context) o false) there ∙ ap (λ (w : List ℕ). encloses m.nested w context) same ∙ around)) (λ e. tt)

  outer_ok : (at : List ℕ) (o : Option Data) → IfOk (outer_of m context at o) (λ outer. is_around m context outer ≡ true)
  outer_ok at None = if_ok (λ outer. is_around m context outer ≡ true) (context == 0) (refuse 109 at) (Ok 0) (λ e. tt) (λ e. ap not e)
  outer_ok at (Some d) = then_ok (λ outer. is_around m context outer ≡ true) (text_at 103 (at ++ member_step (codes "path")) d) _ (λ path. enclosing_ok _ path)

  pub outer_read : (at : List ℕ) (d : Data) → IfOk (outer_context_at m context at d) (λ outer. is_around m context outer ≡ true)
  unfolding outer_context_at
  outer_read at d =
      let P : ℕ → Type 0 = λ outer. is_around m context outer ≡ true in
      then_ok P (object_at 103 at d) _ (λ ms.
      then_ok P (known 101 _ at ms) _ (λ _. outer_ok at (get_member (codes "path") ms)))
