-- Each reading of a kind of aggregation is refused with a number of search bodies.
use Rattle.std.specs.Prelude.{refl, ℕ, ℤ, ◌+◌, ◌==◌, List, [], ◌∷◌, ◌++◌, Bool, ◌&&◌, Option, Some, None, unwrap_or, length, nat_lt, nat_le, codes}
use Rattle.serde_json.specs.Data.{Data, null, boolean, number, string, array, object, Items, no_items, item, Members, no_members, member}
use Rattle.serde_json.specs.Find.{get_member, as_i64, as_number}
use Rattle.date_spec.specs.declared.period.Period.{Period}
use Rattle.date_spec.specs.Instants.{is_in_range}
use Rattle.agg_model.specs.BoundsOrder.{is_at_most, lies_within}
use Rattle.agg_model.specs.Contexts.{encloses}
use Rattle.agg_model.specs.FieldKinds.{is_date_kind, is_number_kind, is_whole_kind}
use Rattle.agg_model.specs.declared.aggregation.Bounds.{Bounds}
use Rattle.agg_model.specs.declared.key.Key.{Key}
use Rattle.agg_model.specs.declared.mapping.Field.{Field}
use Rattle.agg_model.specs.declared.mapping.FieldKind.{FieldKind}
use Rattle.agg_model.specs.declared.mapping.Mapping.{Mapping}
use Rattle.agg_model.specs.declared.query.Query.{Query}
use Rattle.agg_reading.specs.declared.names.KindName.{KindName}
use Rattle.agg_reading.specs.declared.names.KindName.TheVariants as name
use Rattle.agg_reading.specs.declared.names.SourceName.{SourceName}
use Rattle.agg_reading.specs.declared.names.SourceName.TheVariants as source
use Rattle.agg_reading.specs.declared.parts.NamedOrder.{NamedOrder}
use Rattle.agg_reading.specs.Reading.{Reading}
use Rattle.agg_reading.specs.Pointer.{item_step}
use Rattle.agg_reading.specs.Scalars.{instant}
use Rattle.agg_reading.specs.Json.{is_among}
use Rattle.agg_reading.specs.Numbers.{number_at, signed_at, choice_at, whole_at}
use Rattle.agg_reading.specs.Orders.{direction_at, order_at, orders_from, item_count, orders_at}
use Rattle.agg_reading.specs.Terms.{missing_at, term_lists_in, term_counts_in, term_sizes_in, terms_in, terms_at}
use Rattle.agg_reading.specs.Histogram.{whole_field_in, bounds_at, bounds_rule, histogram_ranges_in, histogram_counts_in, histogram_rules, histogram_in, histogram_at}
use Rattle.agg_reading.specs.DateHistogram.{date_field_in, dated, instant_at, calendar_period, fixed_period, zone_of, said_at, date_ranges_in, date_counts_in, period_in, date_histogram_in, date_histogram_at}
use Rattle.agg_reading.specs.Filters.{is_name, name_at, listed_from, named_from, filter_list_at, is_taken, other_of, filters_in, filters_at}
use Rattle.agg_reading.specs.Composite.{Source, source_named, terms_source_at, histogram_source_at, source_by, source_at, source_name_at, sole_of, named_source_at, sources_from, some_sources, sources_at}
use Rattle.agg_reading.specs.After.{After, part_at, source_of, part_of, parts_from, has_names, after_at, source_names, after_rule, distinct_from, composite_in, composite_at}
use Rattle.agg_reading.specs.Metrics.{metered_in, number_metric_at, number_field_in, extreme_at, any_metric_at, missing_kind_at, global_at, nested_context_at, enclosing_at, outer_of, outer_context_at}
use Rattle.agg_reading.specs.Aggregations.{kind_at}
use Rattle.agg_reading.specs.Refusals.{body_refusals}
use Rattle.agg_reading.proofs.Refusing.{Refusing, value, refused, found, then, either, an_object, a_list, a_text, one_member, names, maybe}
use Rattle.agg_reading.proofs.QueryRefusals.{a_member, a_number, a_value, named_field, all_values, a_path, a_top_query, a_truth}

-- plain values

a_signed : (at : List ℕ) (d : Data) → Refusing body_refusals (signed_at at d)
unfolding signed_at number_at
a_signed at d = then _ _ (found 103 at (as_number d) refl) (λ n. found 104 at (as_i64 n) refl)

a_choice : (words : List (List ℕ)) (at : List ℕ) (d : Data) → Refusing body_refusals (choice_at words at d)
unfolding choice_at
a_choice words at d = then _ _ (a_text 103 at d refl) (λ s. either (is_among words s) _ _ (value s) (refused 104 at refl))

a_missing : (kind : FieldKind) (at : List ℕ) (d : Data) → Refusing body_refusals (missing_at kind at d)
unfolding missing_at
a_missing kind at d = then _ _ (a_value kind at d) (λ p. found 104 at _ refl)

-- orders

pub a_direction : (at : List ℕ) (d : Data) → Refusing body_refusals (direction_at at d)
unfolding direction_at
a_direction at d = then _ _ (a_choice _ at d) (λ s. value _)

an_order : (at : List ℕ) (ms : Members) → Refusing body_refusals (order_at at ms)
unfolding order_at
an_order at ms = then _ _ (one_member 107 at ms refl) (λ said. then _ _ (a_direction _ said.1) (λ descending. value _))

some_orders : (at : List ℕ) (n : ℕ) (done : List NamedOrder) (ds : Items) → Refusing body_refusals (orders_from at n done ds)
unfolding orders_from
some_orders at n done no_items = value done
some_orders at n done (item d ds) =
    then _ _ (an_object 103 _ d refl) (λ ms. then _ _ (an_order (at ++ item_step n) ms) (λ o. some_orders at (n + 1) (done ++ o ∷ []) ds))

all_orders : (at : List ℕ) (d : Data) → Refusing body_refusals (orders_at at d)
unfolding orders_at
all_orders at (object ms) = then _ _ (an_order at ms) (λ o. value _)
all_orders at (array ds) = either (nat_le 1 (item_count ds) && nat_le (item_count ds) 4) _ _ (some_orders at 0 [] ds) (refused 104 at refl)
all_orders at null = refused 103 at refl
all_orders at (boolean b) = refused 103 at refl
all_orders at (number n) = refused 103 at refl
all_orders at (string s) = refused 103 at refl

-- terms

some_lists : (kind : FieldKind) (at : List ℕ) (ms : Members) → Refusing body_refusals (term_lists_in kind at ms)
unfolding term_lists_in
some_lists kind at ms =
    then _ _ (maybe (choice_at (codes "breadth_first" ∷ codes "depth_first" ∷ [])) _ (get_member (codes "collect_mode") ms) (a_choice _)) (λ mode.
    then _ _ (maybe _ _ (get_member (codes "exclude") ms) (all_values kind)) (λ exclude.
    then _ _ (maybe (choice_at (codes "global_ordinals" ∷ codes "map" ∷ [])) _ (get_member (codes "execution_hint") ms) (a_choice _)) (λ hint.
    then _ _ (maybe _ _ (get_member (codes "include") ms) (all_values kind)) (λ include. value _))))

some_counts : (kind : FieldKind) (at : List ℕ) (ms : Members) → Refusing body_refusals (term_counts_in kind at ms)
unfolding term_counts_in
some_counts kind at ms =
    then _ _ (maybe (whole_at 1 9223372036854775807) _ (get_member (codes "min_doc_count") ms) (a_number _ _)) (λ least.
    then _ _ (maybe _ _ (get_member (codes "missing") ms) (a_missing kind)) (λ missing.
    then _ _ (maybe _ _ (get_member (codes "order") ms) all_orders) (λ order. value _)))

some_sizes : (at : List ℕ) (ms : Members) → Refusing body_refusals (term_sizes_in at ms)
unfolding term_sizes_in
some_sizes at ms =
    then _ _ (maybe (whole_at 1 2147483647) _ (get_member (codes "shard_size") ms) (a_number _ _)) (λ shard.
    then _ _ (maybe _ _ (get_member (codes "show_term_doc_count_error") ms) a_truth) (λ show.
    then _ _ (maybe (whole_at 1 2147483647) _ (get_member (codes "size") ms) (a_number _ _)) (λ size. value _)))

terms_of : (f : ℕ × Field) (at : List ℕ) (ms : Members) → Refusing body_refusals (terms_in f at ms)
unfolding terms_in
terms_of (place, field) at ms =
    then _ _ (some_lists field.kind at ms) (λ lists. then _ _ (some_counts field.kind at ms) (λ counts. then _ _ (some_sizes at ms) (λ sizes. value _)))

a_terms : (m : Mapping) (at : List ℕ) (d : Data) → Refusing body_refusals (terms_at m at d)
unfolding terms_at
a_terms m at d = then _ _ (an_object 103 at d refl) (λ ms. then _ _ (names 101 _ at ms refl) (λ u. then _ _ (named_field m at ms) (λ f. terms_of f at ms)))

-- histograms

a_whole_field : (m : Mapping) (at : List ℕ) (ms : Members) → Refusing body_refusals (whole_field_in m at ms)
unfolding whole_field_in
a_whole_field m at ms = then _ _ (named_field m at ms) (λ f. either (is_whole_kind f.1.kind) _ _ (value f) (refused 108 _ refl))

some_bounds : (f : List ℕ → Data → Reading ℤ) → ((at : List ℕ) (d : Data) → Refusing body_refusals (f at d)) → (at : List ℕ) (d : Data) → Refusing body_refusals (bounds_at f at d)
unfolding bounds_at
some_bounds f each at d =
    then _ _ (an_object 103 at d refl) (λ ms. then _ _ (names 101 _ at ms refl) (λ u.
    then _ _ (maybe _ _ (get_member (codes "max") ms) each) (λ most.
    then _ _ (maybe _ _ (get_member (codes "min") ms) each) (λ least. either (is_at_most least most) _ _ (value _) (refused 104 at refl)))))

some_ranges : (at : List ℕ) (ms : Members) → Refusing body_refusals (histogram_ranges_in at ms)
unfolding histogram_ranges_in
some_ranges at ms =
    then _ _ (maybe _ _ (get_member (codes "extended_bounds") ms) (some_bounds signed_at a_signed)) (λ extended.
    then _ _ (maybe _ _ (get_member (codes "hard_bounds") ms) (some_bounds signed_at a_signed)) (λ hard.
    then _ _ (maybe (whole_at 1 9223372036854775807) _ (get_member (codes "interval") ms) (a_number _ _)) (λ interval.
    then _ _ (maybe _ _ (get_member (codes "keyed") ms) a_truth) (λ keyed. value _))))

bucket_counts : (kind : FieldKind) (at : List ℕ) (ms : Members) → Refusing body_refusals (histogram_counts_in kind at ms)
unfolding histogram_counts_in
bucket_counts kind at ms =
    then _ _ (maybe (whole_at 0 9223372036854775807) _ (get_member (codes "min_doc_count") ms) (a_number _ _)) (λ least.
    then _ _ (maybe _ _ (get_member (codes "missing") ms) (a_missing kind)) (λ missing.
    then _ _ (maybe (whole_at 0 18446744073709551615) _ (get_member (codes "offset") ms) (a_number _ _)) (λ offset.
    then _ _ (maybe _ _ (get_member (codes "order") ms) all_orders) (λ order. value _))))

bounds_within : (at : List ℕ) (extended hard : Bounds) → Refusing body_refusals (bounds_rule at extended hard)
bounds_within at extended hard = either (lies_within extended hard) _ _ (value tt) (refused 104 _ refl)

some_rules : (at : List ℕ) (interval offset : ℕ) (extended hard : Bounds) → Refusing body_refusals (histogram_rules at interval offset extended hard)
unfolding histogram_rules
some_rules at interval offset extended hard = either (nat_lt offset interval) _ _ (bounds_within at extended hard) (refused 104 _ refl)

histogram_of : (f : ℕ × Field) (at : List ℕ) (ms : Members) → Refusing body_refusals (histogram_in f at ms)
unfolding histogram_in
histogram_of (place, field) at ms =
    then _ _ (some_ranges at ms) (λ ranges. then _ _ (bucket_counts field.kind at ms) (λ counts.
    then _ _ (found 102 at _ refl) (λ interval. then _ _ (some_rules at interval _ _ _) (λ u. value _))))

a_histogram : (m : Mapping) (at : List ℕ) (d : Data) → Refusing body_refusals (histogram_at m at d)
unfolding histogram_at
a_histogram m at d = then _ _ (an_object 103 at d refl) (λ ms. then _ _ (names 101 _ at ms refl) (λ u. then _ _ (a_whole_field m at ms) (λ f. histogram_of f at ms)))

-- date histograms

a_date_field : (m : Mapping) (at : List ℕ) (ms : Members) → Refusing body_refusals (date_field_in m at ms)
unfolding date_field_in
a_date_field m at ms = then _ _ (named_field m at ms) (λ f. either (is_date_kind f.1.kind) _ _ (value f) (refused 108 _ refl))

in_dates : (at : List ℕ) (n : Option ℤ) → Refusing body_refusals (dated at n)
in_dates at None = refused 104 at refl
in_dates at (Some n) = either (is_in_range n) _ _ (value n) (refused 104 at refl)

an_instant : (at : List ℕ) (d : Data) → Refusing body_refusals (instant_at at d)
unfolding instant_at
an_instant at null = refused 103 at refl
an_instant at (boolean b) = refused 103 at refl
an_instant at (number n) = in_dates at (instant (number n))
an_instant at (string s) = in_dates at (instant (string s))
an_instant at (array ds) = refused 103 at refl
an_instant at (object ms) = refused 103 at refl

a_meaning : {A : Type 0} (meaning : List ℕ → Option A) (at : List ℕ) (d : Data) → Refusing body_refusals (said_at meaning at d)
unfolding said_at
a_meaning meaning at d = then _ _ (a_text 103 at d refl) (λ s. found 104 at (meaning s) refl)

date_ranges : (at : List ℕ) (ms : Members) → Refusing body_refusals (date_ranges_in at ms)
unfolding date_ranges_in
date_ranges at ms =
    then _ _ (maybe _ _ (get_member (codes "calendar_interval") ms) (a_meaning calendar_period)) (λ calendar.
    then _ _ (maybe _ _ (get_member (codes "extended_bounds") ms) (some_bounds instant_at an_instant)) (λ extended.
    then _ _ (maybe _ _ (get_member (codes "fixed_interval") ms) (a_meaning fixed_period)) (λ fixed.
    then _ _ (maybe _ _ (get_member (codes "hard_bounds") ms) (some_bounds instant_at an_instant)) (λ hard.
    then _ _ (maybe _ _ (get_member (codes "keyed") ms) a_truth) (λ keyed. value _)))))

date_counts : (kind : FieldKind) (at : List ℕ) (ms : Members) → Refusing body_refusals (date_counts_in kind at ms)
unfolding date_counts_in
date_counts kind at ms =
    then _ _ (maybe (whole_at 0 9223372036854775807) _ (get_member (codes "min_doc_count") ms) (a_number _ _)) (λ least.
    then _ _ (maybe _ _ (get_member (codes "missing") ms) (a_missing kind)) (λ missing.
    then _ _ (maybe _ _ (get_member (codes "order") ms) all_orders) (λ order.
    then _ _ (maybe _ _ (get_member (codes "time_zone") ms) (a_meaning zone_of)) (λ zone. value _))))

a_period : (at : List ℕ) (calendar fixed : Option Period) → Refusing body_refusals (period_in at calendar fixed)
a_period at None None = refused 102 at refl
a_period at (Some period) None = value period
a_period at None (Some period) = value period
a_period at (Some period) (Some other) = refused 104 _ refl

date_histogram_of : (f : ℕ × Field) (at : List ℕ) (ms : Members) → Refusing body_refusals (date_histogram_in f at ms)
unfolding date_histogram_in
date_histogram_of (place, field) at ms =
    then _ _ (date_ranges at ms) (λ ranges. then _ _ (date_counts field.kind at ms) (λ counts.
    then _ _ (a_period at ranges.0 ranges.1) (λ period. then _ _ (bounds_within at ranges.2 ranges.3) (λ u. value _))))

a_date_histogram : (m : Mapping) (at : List ℕ) (d : Data) → Refusing body_refusals (date_histogram_at m at d)
unfolding date_histogram_at
a_date_histogram m at d =
    then _ _ (an_object 103 at d refl) (λ ms. then _ _ (names 101 _ at ms refl) (λ u. then _ _ (a_date_field m at ms) (λ f. date_histogram_of f at ms)))

-- filters

a_name : (at s : List ℕ) → Refusing body_refusals (name_at at s)
unfolding name_at
a_name at s = either (is_name s) _ _ (value tt) (refused 112 at refl)

listed : (m : Mapping) (context : ℕ) (at : List ℕ) (n : ℕ) (done : List Query) (count : ℕ) (ds : Items) → Refusing body_refusals (listed_from m context at n done count ds)
unfolding listed_from
listed m context at n done count no_items = value _
listed m context at n done count (item d ds) =
    either (nat_le 256 n) _ _ (refused 111 _ refl) (then _ _ (a_top_query m context count _ d) (λ q. listed m context at (n + 1) (done ++ q.0 ∷ []) q.1 ds))

named : (m : Mapping) (context : ℕ) (at : List ℕ) (keys : List (List ℕ)) (done : List Query) (count : ℕ) (ms : Members) → Refusing body_refusals (named_from m context at keys done count ms)
unfolding named_from
named m context at keys done count no_members = value _
named m context at keys done count (member k d ms) =
    then _ _ (a_name _ k) (λ u.
    either (nat_le 256 (length keys)) _ _ (refused 111 _ refl) (then _ _ (a_top_query m context count _ d) (λ q. named m context at (keys ++ k ∷ []) (done ++ q.0 ∷ []) q.1 ms)))

some_filters : (m : Mapping) (context count : ℕ) (at : List ℕ) (d : Data) → Refusing body_refusals (filter_list_at m context count at d)
unfolding filter_list_at
some_filters m context count at (array no_items) = refused 104 at refl
some_filters m context count at (array (item d ds)) = then _ _ (listed m context at 0 [] count (item d ds)) (λ r. value _)
some_filters m context count at (object no_members) = refused 104 at refl
some_filters m context count at (object (member k d ms)) = then _ _ (named m context at [] [] count (member k d ms)) (λ r. value _)
some_filters m context count at null = refused 103 at refl
some_filters m context count at (boolean b) = refused 103 at refl
some_filters m context count at (number n) = refused 103 at refl
some_filters m context count at (string s) = refused 103 at refl

another : (at : List ℕ) (keys : Option (List (List ℕ))) (on : Option Bool) (key : Option (List ℕ)) → Refusing body_refusals (other_of at keys on key)
unfolding other_of
another at keys on key =
    either _ _ _ (either (is_taken keys (unwrap_or key (codes "_other_"))) _ _ (refused 104 _ refl) (value _)) (value None)

filters_of : (m : Mapping) (context count : ℕ) (at : List ℕ) (ms : Members) → Refusing body_refusals (filters_in m context count at ms)
unfolding filters_in
filters_of m context count at ms =
    then _ _ (maybe _ _ (get_member (codes "filters") ms) (some_filters m context count)) (λ said.
    then _ _ (maybe _ _ (get_member (codes "other_bucket") ms) a_truth) (λ on.
    then _ _ (maybe _ _ (get_member (codes "other_bucket_key") ms) (λ at d. a_text 103 at d refl)) (λ key.
    then _ _ (found 102 at said refl) (λ list. then _ _ (another at list.0 on key) (λ other. value _)))))

all_filters : (m : Mapping) (context count : ℕ) (at : List ℕ) (d : Data) → Refusing body_refusals (filters_at m context count at d)
unfolding filters_at
all_filters m context count at d = then _ _ (an_object 103 at d refl) (λ ms. then _ _ (names 101 _ at ms refl) (λ u. filters_of m context count at ms))

-- composites

a_terms_source : (m : Mapping) (s at : List ℕ) (d : Data) → Refusing body_refusals (terms_source_at m s at d)
unfolding terms_source_at
a_terms_source m s at d =
    then _ _ (an_object 103 at d refl) (λ ms. then _ _ (names 101 _ at ms refl) (λ u. then _ _ (named_field m at ms) (λ f.
    then _ _ (maybe _ _ (get_member (codes "missing_bucket") ms) a_truth) (λ missing.
    then _ _ (maybe _ _ (get_member (codes "order") ms) a_direction) (λ descending. value _)))))

a_histogram_source : (m : Mapping) (s at : List ℕ) (d : Data) → Refusing body_refusals (histogram_source_at m s at d)
unfolding histogram_source_at
a_histogram_source m s at d =
    then _ _ (an_object 103 at d refl) (λ ms. then _ _ (names 101 _ at ms refl) (λ u. then _ _ (a_whole_field m at ms) (λ f.
    then _ _ (maybe (whole_at 1 9223372036854775807) _ (get_member (codes "interval") ms) (a_number _ _)) (λ said.
    then _ _ (maybe _ _ (get_member (codes "missing_bucket") ms) a_truth) (λ missing.
    then _ _ (maybe _ _ (get_member (codes "order") ms) a_direction) (λ descending.
    then _ _ (found 102 at said refl) (λ interval. value _)))))))

by_kind : (kind : Option SourceName) (m : Mapping) (s at : List ℕ) (d : Data) → Refusing body_refusals (source_by kind m s at d)
by_kind None m s at d = refused 106 at refl
by_kind (Some source.Terms) m s at d = a_terms_source m s at d
by_kind (Some source.Histogram) m s at d = a_histogram_source m s at d

a_source : (m : Mapping) (s at : List ℕ) (d : Data) → Refusing body_refusals (source_at m s at d)
unfolding source_at
a_source m s at d = then _ _ (an_object 103 at d refl) (λ ms. then _ _ (one_member 107 at ms refl) (λ said. by_kind (source_named said.0) m s _ said.1))

a_source_name : (at : List ℕ) (said : Option (List ℕ × Data)) → Refusing body_refusals (source_name_at at said)
a_source_name at None = value tt
a_source_name at (Some said) = a_name _ said.0

a_named_source : (m : Mapping) (at : List ℕ) (d : Data) → Refusing body_refusals (named_source_at m at d)
unfolding named_source_at
a_named_source m at d = then _ _ (an_object 103 at d refl) (λ ms. then _ _ (one_member 107 at ms refl) (λ said. a_source m said.0 _ said.1))

more_sources : (m : Mapping) (at : List ℕ) (n : ℕ) (done : List Source) (ds : Items) → Refusing body_refusals (sources_from m at n done ds)
unfolding sources_from
more_sources m at n done no_items = value done
more_sources m at n done (item d ds) =
    then _ _ (a_source_name _ (sole_of d)) (λ u.
    either (nat_le 16 n) _ _ (refused 111 _ refl) (then _ _ (a_named_source m _ d) (λ s. more_sources m at (n + 1) (done ++ s ∷ []) ds)))

one_or_more : (m : Mapping) (at : List ℕ) (ds : Items) → Refusing body_refusals (some_sources m at ds)
one_or_more m at no_items = refused 104 at refl
one_or_more m at (item d ds) = more_sources m at 0 [] (item d ds)

all_sources : (m : Mapping) (at : List ℕ) (d : Data) → Refusing body_refusals (sources_at m at d)
unfolding sources_at
all_sources m at d = then _ _ (a_list 103 at d refl) (one_or_more m at)

some_part : (s : Source) (at : List ℕ) (d : Data) → Refusing body_refusals (part_at s at d)
unfolding part_at
some_part s at null = either s.0.missing_bucket _ _ (value _) (refused 104 at refl)
some_part s at (boolean b) = then _ _ (a_value s.1 at (boolean b)) (λ p. value _)
some_part s at (number n) = then _ _ (a_value s.1 at (number n)) (λ p. value _)
some_part s at (string t) = then _ _ (a_value s.1 at (string t)) (λ p. value _)
some_part s at (array ds) = then _ _ (a_value s.1 at (array ds)) (λ p. value _)
some_part s at (object ms) = then _ _ (a_value s.1 at (object ms)) (λ p. value _)

a_part : (s : Option Source) (at k : List ℕ) (d : Data) (done : List (List ℕ × Key)) → Refusing body_refusals (part_of s at k d done)
a_part None at k d done = value done
a_part (Some s) at k d done = then _ _ (some_part s at d) (λ p. value _)

some_parts : (sources : List Source) (at : List ℕ) (done : List (List ℕ × Key)) (ms : Members) → Refusing body_refusals (parts_from sources at done ms)
unfolding parts_from
some_parts sources at done no_members = value done
some_parts sources at done (member k d ms) = then _ _ (a_part (source_of k sources) _ k d done) (λ next. some_parts sources at next ms)

an_after : (sources : List Source) (at : List ℕ) (d : Data) → Refusing body_refusals (after_at sources at d)
unfolding after_at
an_after sources at d = then _ _ (an_object 103 at d refl) (λ ms. then _ _ (some_parts sources at [] ms) (λ parts. value _))

after_names : (at : List ℕ) (sources : List Source) (after : Option After) → Refusing body_refusals (after_rule at sources after)
unfolding after_rule
after_names at sources None = value tt
after_names at sources (Some after) = either (has_names (source_names sources) after.1) _ _ (value tt) (refused 104 _ refl)

distinct_names : (at : List ℕ) (n : ℕ) (before all : List (List ℕ)) → Refusing body_refusals (distinct_from at n before all)
unfolding distinct_from
distinct_names at n before [] = value tt
distinct_names at n before (s ∷ all) = either (is_among before s) _ _ (refused 104 _ refl) (distinct_names at (n + 1) (before ++ s ∷ []) all)

composite_of : (sources : List Source) (at : List ℕ) (ms : Members) → Refusing body_refusals (composite_in sources at ms)
unfolding composite_in
composite_of sources at ms =
    then _ _ (maybe _ _ (get_member (codes "after") ms) (an_after sources)) (λ after.
    then _ _ (maybe (whole_at 1 65536) _ (get_member (codes "size") ms) (a_number _ _)) (λ size.
    then _ _ (after_names at sources after) (λ u. then _ _ (distinct_names _ 0 [] (source_names sources)) (λ u. value _))))

a_composite : (m : Mapping) (at : List ℕ) (d : Data) → Refusing body_refusals (composite_at m at d)
unfolding composite_at
a_composite m at d =
    then _ _ (an_object 103 at d refl) (λ ms. then _ _ (names 101 _ at ms refl) (λ u. then _ _ (a_member (codes "sources") at ms) (λ said.
    then _ _ (all_sources m _ said) (λ sources. composite_of sources at ms))))

-- metrics, and kinds of one bucket

with_missing : (f : ℕ × Field) (at : List ℕ) (ms : Members) → Refusing body_refusals (metered_in f at ms)
unfolding metered_in
with_missing f at ms = then _ _ (maybe _ _ (get_member (codes "missing") ms) (a_missing f.1.kind)) (λ missing. value _)

a_number_metric : (m : Mapping) (at : List ℕ) (d : Data) → Refusing body_refusals (number_metric_at m at d)
unfolding number_metric_at
a_number_metric m at d = then _ _ (an_object 103 at d refl) (λ ms. then _ _ (names 101 _ at ms refl) (λ u. then _ _ (a_whole_field m at ms) (λ f. with_missing f at ms)))

a_number_field : (m : Mapping) (at : List ℕ) (ms : Members) → Refusing body_refusals (number_field_in m at ms)
unfolding number_field_in
a_number_field m at ms = then _ _ (named_field m at ms) (λ f. either (is_number_kind f.1.kind) _ _ (value f) (refused 108 _ refl))

an_extreme : (m : Mapping) (at : List ℕ) (d : Data) → Refusing body_refusals (extreme_at m at d)
unfolding extreme_at
an_extreme m at d = then _ _ (an_object 103 at d refl) (λ ms. then _ _ (names 101 _ at ms refl) (λ u. then _ _ (a_number_field m at ms) (λ f. with_missing f at ms)))

any_metric : (m : Mapping) (at : List ℕ) (d : Data) → Refusing body_refusals (any_metric_at m at d)
unfolding any_metric_at
any_metric m at d = then _ _ (an_object 103 at d refl) (λ ms. then _ _ (names 101 _ at ms refl) (λ u. then _ _ (named_field m at ms) (λ f. with_missing f at ms)))

a_missing_kind : (m : Mapping) (at : List ℕ) (d : Data) → Refusing body_refusals (missing_kind_at m at d)
unfolding missing_kind_at
a_missing_kind m at d = then _ _ (an_object 103 at d refl) (λ ms. then _ _ (names 101 _ at ms refl) (λ u. then _ _ (named_field m at ms) (λ f. value _)))

a_global : (at : List ℕ) (d : Data) → Refusing body_refusals (global_at at d)
unfolding global_at
a_global at d = then _ _ (an_object 103 at d refl) (λ ms. then _ _ (names 101 _ at ms refl) (λ u. value _))

a_nested_context : (m : Mapping) (context : ℕ) (at : List ℕ) (d : Data) → Refusing body_refusals (nested_context_at m context at d)
unfolding nested_context_at
a_nested_context m context at d = then _ _ (an_object 103 at d refl) (λ ms. then _ _ (names 101 _ at ms refl) (λ u. then _ _ (a_path m context at ms) (λ p. value _)))

an_enclosing : (m : Mapping) (context : ℕ) (at path : List ℕ) → Refusing body_refusals (enclosing_at m context at path)
unfolding enclosing_at
an_enclosing m context at path = either (encloses m.nested path context) _ _ (then _ _ (found 109 at _ refl) (λ p. value _)) (refused 109 at refl)

an_outer : (m : Mapping) (context : ℕ) (at : List ℕ) (d : Option Data) → Refusing body_refusals (outer_of m context at d)
an_outer m context at None = either (context == 0) _ _ (refused 109 at refl) (value 0)
an_outer m context at (Some d) = then _ _ (a_text 103 _ d refl) (λ path. an_enclosing m context _ path)

an_outer_context : (m : Mapping) (context : ℕ) (at : List ℕ) (d : Data) → Refusing body_refusals (outer_context_at m context at d)
unfolding outer_context_at
an_outer_context m context at d =
    then _ _ (an_object 103 at d refl) (λ ms. then _ _ (names 101 _ at ms refl) (λ u. an_outer m context at (get_member (codes "path") ms)))

pub a_kind : (k : KindName) (m : Mapping) (context queries : ℕ) (at : List ℕ) (d : Data) → Refusing body_refusals (kind_at k m context queries at d)
unfolding kind_at
a_kind name.Terms m context queries at d = then _ _ (a_terms m at d) (λ k. value _)
a_kind name.Histogram m context queries at d = then _ _ (a_histogram m at d) (λ k. value _)
a_kind name.DateHistogram m context queries at d = then _ _ (a_date_histogram m at d) (λ k. value _)
a_kind name.Filters m context queries at d = then _ _ (all_filters m context queries at d) (λ f. value _)
a_kind name.Filter m context queries at d = then _ _ (a_top_query m context queries at d) (λ q. value _)
a_kind name.Missing m context queries at d = then _ _ (a_missing_kind m at d) (λ k. value _)
a_kind name.Global m context queries at d = then _ _ (a_global at d) (λ k. value _)
a_kind name.Nested m context queries at d = then _ _ (a_nested_context m context at d) (λ inner. value _)
a_kind name.ReverseNested m context queries at d = then _ _ (an_outer_context m context at d) (λ outer. value _)
a_kind name.Composite m context queries at d = then _ _ (a_composite m at d) (λ k. value _)
a_kind name.Sum m context queries at d = then _ _ (a_number_metric m at d) (λ f. value _)
a_kind name.Min m context queries at d = then _ _ (an_extreme m at d) (λ f. value _)
a_kind name.Max m context queries at d = then _ _ (an_extreme m at d) (λ f. value _)
a_kind name.Avg m context queries at d = then _ _ (a_number_metric m at d) (λ f. value _)
a_kind name.ValueCount m context queries at d = then _ _ (any_metric m at d) (λ f. value _)
