-- Kinds of aggregations that are read.
use Rattle.std.specs.Prelude.{◌≡◌, refl, ℕ, ◌+◌, ◌≤◌, ◌^◌, ℤ, List, [], ◌∷◌, ◌++◌, length, Option, Some, None, Result, Ok, Err, Bool, true, false, ◌&&◌, nat_le, nat_lt, IfOk, IfSome, if◌then◌else◌, codes, unwrap_or}
use Rattle.std.specs.List.{list_all}
use Rattle.std.specs.Option.{option_map_or}
use Rattle.std.proofs.Common.{◌∙◌, ap, arith, length-append}
use Rattle.std.proofs.lemmas.Bool.{false≢true, and_parts, and_from, le-leb}
use Rattle.std.proofs.lemmas.Bool.Decides.{nat_tests}
use Rattle.serde_json.specs.Data.{Data, null, boolean, number, string, array, object, Items, no_items, item, Members}
use Rattle.serde_json.specs.Find.{as_u64}
use Rattle.agg_model.specs.declared.mapping.Field.{Field}
use Rattle.agg_model.specs.declared.mapping.FieldKind.{FieldKind}
use Rattle.agg_model.specs.declared.mapping.FieldKind.TheVariants.{Long, Integer, Short, Byte, Keyword, Boolean, Date}
use Rattle.agg_model.specs.declared.mapping.Mapping.{Mapping}
use Rattle.agg_model.specs.declared.query.Probe.{Probe}
use Rattle.agg_model.specs.declared.query.Probe.TheVariants as probe
use Rattle.agg_model.specs.declared.row.Scalar.{Scalar}
use Rattle.agg_model.specs.declared.row.Scalar.TheVariants as scalar
use Rattle.agg_model.specs.declared.aggregation.Bounds.{Bounds}
use Rattle.agg_model.specs.declared.aggregation.Kind.{Kind}
use Rattle.agg_model.specs.declared.aggregation.Order.{Order}
use Rattle.agg_reading.specs.declared.names.KindName.{KindName}
use Rattle.agg_reading.specs.declared.names.KindName.TheVariants as name
use Rattle.agg_reading.specs.declared.parts.NamedOrder.{NamedOrder}
use Rattle.agg_reading.specs.Reading.{refuse, or_refuse}
use Rattle.agg_reading.specs.Pointer.{item_step}
use Rattle.agg_reading.specs.Json.{object_at, optional, known}
use Rattle.agg_reading.specs.Numbers.{number_at, in_range, whole_at, signed_at, truth_at, choice_at}
use Rattle.agg_reading.specs.Scalars.{may_be_stored, stored}
use Rattle.agg_model.specs.FieldKinds.{is_whole_kind, is_number_kind}
use Rattle.agg_reading.specs.Leaves.{value_at, field_in, values_at}
use Rattle.agg_reading.specs.Terms.{missing_at, term_members, term_lists_in, term_counts_in, term_sizes_in, terms_in, terms_at}
use Rattle.agg_reading.specs.Histogram.{whole_field_in, bounds_at, unbounded, histogram_members, histogram_ranges_in, histogram_counts_in, histogram_rules, histogram_in, histogram_at}
use Rattle.agg_model.specs.BoundsOrder.{is_at_most, lies_within}
use Rattle.agg_reading.specs.Metrics.{Metered, metered_in, number_metric_at, number_field_in, extreme_at, any_metric_at}
use Rattle.agg_reading.specs.Orders.{order_at, orders_from, item_count, orders_at, by_default, with_order}
use Rattle.agg_reading.specs.Aggregations as aggregations
use Rattle.agg_reading.proofs.Steps.{then_ok, next_ok, if_ok}
use Rattle.agg_reading.proofs.IndexLineLaws.{optional_of-ok}
use Rattle.agg_evaluation.specs.QueryFits.{field_is, are_probes}
use Rattle.agg_evaluation.specs.SearchFits.{is_stored, is_missing, order_fits, orders_fit, is_whole_field, is_interval, kind_fits, is_metric, is_top, handed}
use Rattle.fitting_laws.proofs.Queries.{IsFieldOf, Asked, AllAsked, field_in-is, of_field, value_asked, values_asked}

-- parts

pub weaken : {A E : Type 0} (P Q : A → Type 0) (r : Result A E) → IfOk r P → ((x : A) → P x → Q x) → IfOk r Q
weaken P Q (Ok x) p h = h x p
weaken P Q (Err e) p h = tt

abbrev pub Between : ℕ → ℕ → ℕ → Type 0
Between least most n = (least ≤ n) × (n ≤ most)

in_range-ok : (least most : ℕ) (at : List ℕ) (o : Option ℕ) → IfOk (in_range least most at o) (Between least most)
in_range-ok least most at None = tt
in_range-ok least most at (Some n) = if_ok (Between least most) (nat_le least n && nat_le n most) (Ok n) (refuse 104 at) (λ e. (grind (arith, nat_tests, e), grind (arith, nat_tests, e))) (λ e. tt)

pub whole_at-ok : (least most : ℕ) (at : List ℕ) (d : Data) → IfOk (whole_at least most at d) (Between least most)
unfolding whole_at
whole_at-ok least most at d = then_ok (Between least most) (number_at at d) _ (λ n. in_range-ok least most at (as_u64 n))

abbrev pub Stored : FieldKind → Scalar → Type 0
Stored k s = is_stored k s ≡ true

whole_stored : (k : FieldKind) (at : List ℕ) (z : ℤ) → ((z : ℤ) → is_stored k (scalar.Whole z) ≡ may_be_stored k z) → IfOk (or_refuse 104 at (stored k (probe.Whole z))) (Stored k)
whole_stored k at z same =
    elim (may_be_stored k z) as (λ b. may_be_stored k z ≡ b → IfOk (or_refuse 104 at (if b then Some (scalar.Whole z) else None)) (Stored k)) [ true ↦ λ e. same z ∙ e | false ↦ λ e. tt ] refl

stored_ok : (k : FieldKind) (at : List ℕ) (p : Probe) → Asked k p → IfOk (or_refuse 104 at (stored k p)) (Stored k)
stored_ok Keyword at (probe.Word w) a = refl
stored_ok Keyword at (probe.Whole w) a = absurd (false≢true a)
stored_ok Keyword at (probe.Flag w) a = absurd (false≢true a)
stored_ok Boolean at (probe.Flag w) a = refl
stored_ok Boolean at (probe.Whole w) a = absurd (false≢true a)
stored_ok Boolean at (probe.Word w) a = absurd (false≢true a)
stored_ok Long at (probe.Whole z) a = whole_stored Long at z (λ z. refl)
stored_ok Long at (probe.Word w) a = absurd (false≢true a)
stored_ok Long at (probe.Flag w) a = absurd (false≢true a)
stored_ok Integer at (probe.Whole z) a = whole_stored Integer at z (λ z. refl)
stored_ok Integer at (probe.Word w) a = absurd (false≢true a)
stored_ok Integer at (probe.Flag w) a = absurd (false≢true a)
stored_ok Short at (probe.Whole z) a = whole_stored Short at z (λ z. refl)
stored_ok Short at (probe.Word w) a = absurd (false≢true a)
stored_ok Short at (probe.Flag w) a = absurd (false≢true a)
stored_ok Byte at (probe.Whole z) a = whole_stored Byte at z (λ z. refl)
stored_ok Byte at (probe.Word w) a = absurd (false≢true a)
stored_ok Byte at (probe.Flag w) a = absurd (false≢true a)
stored_ok Date at (probe.Whole z) a = whole_stored Date at z (λ z. refl)
stored_ok Date at (probe.Word w) a = absurd (false≢true a)
stored_ok Date at (probe.Flag w) a = absurd (false≢true a)

pub missing_at-ok : (k : FieldKind) (at : List ℕ) (d : Data) → IfOk (missing_at k at d) (Stored k)
unfolding missing_at
missing_at-ok k at d = next_ok (Asked k) (Stored k) (value_at k at d) _ (value_asked k at d) (λ p a. stored_ok k at p a)

pub missing_is : (k : FieldKind) (o : Option Scalar) → IfSome o (Stored k) → is_missing k o ≡ true
missing_is k None h = refl
missing_is k (Some s) h = h

listed_is : (k : FieldKind) (o : Option (List Probe)) → IfSome o (AllAsked k) → option_map_or (are_probes k) o true ≡ true
listed_is k None h = refl
listed_is k (Some ps) h = h

listed_or_none : (k : FieldKind) (o : Option (List Probe)) → IfSome o (AllAsked k) → are_probes k (unwrap_or o []) ≡ true
listed_or_none k None h = refl
listed_or_none k (Some ps) h = h

abbrev pub IsWholeField : Mapping → ℕ × Field → Type 0
IsWholeField m f = IsFieldOf m f × (is_whole_kind f.1.kind ≡ true)

pub whole_field_in-is : (m : Mapping) (at : List ℕ) (ms : Members) → IfOk (whole_field_in m at ms) (IsWholeField m)
unfolding whole_field_in
whole_field_in-is m at ms = next_ok (IsFieldOf m) (IsWholeField m) (field_in m at ms) _ (field_in-is m at ms) (λ f there. if_ok (IsWholeField m) (is_whole_kind f.1.kind) (Ok f) _ (λ e. (there, e)) (λ e. tt))

abbrev IsNumberField : Mapping → ℕ × Field → Type 0
IsNumberField m f = IsFieldOf m f × (is_number_kind f.1.kind ≡ true)

number_field_in-is : (m : Mapping) (at : List ℕ) (ms : Members) → IfOk (number_field_in m at ms) (IsNumberField m)
unfolding number_field_in
number_field_in-is m at ms = next_ok (IsFieldOf m) (IsNumberField m) (field_in m at ms) _ (field_in-is m at ms) (λ f there. if_ok (IsNumberField m) (is_number_kind f.1.kind) (Ok f) _ (λ e. (there, e)) (λ e. tt))

-- metrics

abbrev MeteredIs : ℕ × Field → Metered → Type 0
MeteredIs f r = (r.0 ≡ f.0) × (is_missing f.1.kind r.1 ≡ true)

metered_ok : (f : ℕ × Field) (at : List ℕ) (ms : Members) → IfOk (metered_in f at ms) (MeteredIs f)
unfolding metered_in
metered_ok f at ms =
    next_ok (λ o. IfSome o (Stored f.1.kind)) (MeteredIs f) (optional (missing_at f.1.kind) (codes "missing") at ms) _ (optional_of-ok (Stored f.1.kind) (missing_at f.1.kind) _ _ (missing_at-ok f.1.kind)) (λ missing h.
    (refl, missing_is f.1.kind missing h))

pub number_metric_ok : (m : Mapping) (at : List ℕ) (d : Data) → IfOk (number_metric_at m at d) (λ r. is_whole_field m r.0 r.1 ≡ true)
unfolding number_metric_at
number_metric_ok m at d =
    let P : Metered → Type 0 = λ r. is_whole_field m r.0 r.1 ≡ true in
    then_ok P (object_at 103 at d) _ (λ ms.
    then_ok P (known 101 _ at ms) _ (λ _.
    next_ok (IsWholeField m) P (whole_field_in m at ms) _ (whole_field_in-is m at ms) (λ f there.
    weaken (MeteredIs f) P (metered_in f at ms) (metered_ok f at ms) (λ r h.
    ap (λ (n : ℕ). is_whole_field m n r.1) h.0 ∙ of_field m (λ k. is_whole_kind k && is_missing k r.1) f there.0 (and_from _ _ there.1 h.1)))))

pub extreme_ok : (m : Mapping) (at : List ℕ) (d : Data) → IfOk (extreme_at m at d) (λ r. field_is m (λ k. is_number_kind k && is_missing k r.1) r.0 ≡ true)
unfolding extreme_at
extreme_ok m at d =
    let P : Metered → Type 0 = λ r. field_is m (λ k. is_number_kind k && is_missing k r.1) r.0 ≡ true in
    then_ok P (object_at 103 at d) _ (λ ms.
    then_ok P (known 101 _ at ms) _ (λ _.
    next_ok (IsNumberField m) P (number_field_in m at ms) _ (number_field_in-is m at ms) (λ f there.
    weaken (MeteredIs f) P (metered_in f at ms) (metered_ok f at ms) (λ r h.
    ap (λ (n : ℕ). field_is m (λ k. is_number_kind k && is_missing k r.1) n) h.0 ∙ of_field m (λ k. is_number_kind k && is_missing k r.1) f there.0 (and_from _ _ there.1 h.1)))))

pub any_metric_ok : (m : Mapping) (at : List ℕ) (d : Data) → IfOk (any_metric_at m at d) (λ r. field_is m (λ k. is_missing k r.1) r.0 ≡ true)
unfolding any_metric_at
any_metric_ok m at d =
    let P : Metered → Type 0 = λ r. field_is m (λ k. is_missing k r.1) r.0 ≡ true in
    then_ok P (object_at 103 at d) _ (λ ms.
    then_ok P (known 101 _ at ms) _ (λ _.
    next_ok (IsFieldOf m) P (field_in m at ms) _ (field_in-is m at ms) (λ f there.
    weaken (MeteredIs f) P (metered_in f at ms) (metered_ok f at ms) (λ r h.
    ap (λ (n : ℕ). field_is m (λ k. is_missing k r.1) n) h.0 ∙ of_field m (λ k. is_missing k r.1) f there h.1))))

-- what is read of a kind: it fits with any orders that fit, in the number that was read, and stands where its name may stand

pub record KindRead (m : Mapping) (context : ℕ) (n : KindName) (k : Kind) (orders : ℕ) (within : ℕ) : Type 0 where
  pub ready : (children : List Kind) (os : List Order) → length os ≡ orders → list_all (order_fits children) os ≡ true → kind_fits m true context children (with_order os k) ≡ true
  pub metric : (os : List Order) → is_metric (with_order os k) ≡ aggregations.is_metric n
  pub top : (os : List Order) → is_top (with_order os k) ≡ aggregations.is_top_kind n
  pub within_is : (os : List Order) → handed context (with_order os k) ≡ within

-- orders

abbrev pub Few : List NamedOrder → Type 0
Few os = Between 1 4 (length os)

abbrev Number : ℕ → List NamedOrder → Type 0
Number n os = length os ≡ n

orders_from-number : (at : List ℕ) (n : ℕ) (done : List NamedOrder) (ds : Items) → IfOk (orders_from at n done ds) (Number (length done + item_count ds))
unfolding orders_from item_count
orders_from-number at n done no_items = omega arith
orders_from-number at n done (item d ds) =
    then_ok (Number (length done + (1 + item_count ds))) (object_at 103 (at ++ item_step n) d) _ (λ ms.
    then_ok (Number (length done + (1 + item_count ds))) (order_at (at ++ item_step n) ms) _ (λ o.
    let more = length-append done (o ∷ []) in
    weaken (Number (length (done ++ o ∷ []) + item_count ds)) (Number (length done + (1 + item_count ds))) (orders_from at (n + 1) (done ++ o ∷ []) ds) (orders_from-number at (n + 1) (done ++ o ∷ []) ds) (λ os e. omega (arith, e, more))))

pub orders_few : (at : List ℕ) (d : Data) → IfOk (orders_at at d) Few
unfolding orders_at
orders_few at (object ms) = then_ok Few (order_at at ms) _ (λ o. (omega arith, omega arith))
orders_few at (array ds) =
    if_ok Few (nat_le 1 (item_count ds) && nat_le (item_count ds) 4) (orders_from at 0 [] ds) (refuse 104 at)
    (λ e. let parts = and_parts (nat_le 1 (item_count ds)) (nat_le (item_count ds) 4) e in
    let low : 1 ≤ item_count ds = grind (arith, nat_tests, parts.0) in
    let high : item_count ds ≤ 4 = grind (arith, nat_tests, parts.1) in
    weaken (Number (0 + item_count ds)) Few (orders_from at 0 [] ds) (orders_from-number at 0 [] ds) (λ os n. (omega (arith, n, low), omega (arith, n, high)))) (λ e. tt)
orders_few at null = tt
orders_few at (boolean b) = tt
orders_few at (number b) = tt
orders_few at (string b) = tt

pub or_one : (o : Option (List NamedOrder)) (one : NamedOrder) → IfSome o Few → Few (unwrap_or o (one ∷ []))
or_one None one h = (omega arith, omega arith)
or_one (Some os) one h = h

pub fit_orders : (children : List Kind) (os : List Order) (n : ℕ) → Between 1 4 n → length os ≡ n → list_all (order_fits children) os ≡ true → orders_fit children os ≡ true
fit_orders children os n b e h = and_from (nat_le 1 (length os)) _ (grind (arith, nat_tests, b.0, e)) (and_from (nat_le (length os) 4) _ (grind (arith, nat_tests, b.1, e)) h)

-- terms

abbrev Lists : FieldKind → Option (List Probe) × Option (List Probe) → Type 0
Lists k r = IfSome r.0 (AllAsked k) × IfSome r.1 (AllAsked k)

term_lists_ok : (k : FieldKind) (at : List ℕ) (ms : Members) → IfOk (term_lists_in k at ms) (Lists k)
unfolding term_lists_in
term_lists_ok k at ms =
    then_ok (Lists k) (optional (choice_at _) (codes "collect_mode") at ms) _ (λ _.
    next_ok (λ o. IfSome o (AllAsked k)) (Lists k) (optional (values_at k) (codes "exclude") at ms) _ (optional_of-ok (AllAsked k) (values_at k) _ _ (values_asked k)) (λ exclude e.
    then_ok (Lists k) (optional (choice_at _) (codes "execution_hint") at ms) _ (λ _.
    next_ok (λ o. IfSome o (AllAsked k)) (Lists k) (optional (values_at k) (codes "include") at ms) _ (optional_of-ok (AllAsked k) (values_at k) _ _ (values_asked k)) (λ include i. (e, i)))))

or_least : (o : Option ℕ) (least most n : ℕ) → least ≤ n → IfSome o (Between least most) → least ≤ unwrap_or o n
or_least None least most n low h = low
or_least (Some x) least most n low h = h.0

abbrev Counts : FieldKind → ℕ × Option Scalar × List NamedOrder → Type 0
Counts k r = (1 ≤ r.0) × (is_missing k r.1 ≡ true) × Few r.2

term_counts_ok : (k : FieldKind) (at : List ℕ) (ms : Members) → IfOk (term_counts_in k at ms) (Counts k)
unfolding term_counts_in
term_counts_ok k at ms =
    next_ok (λ o. IfSome o (Between 1 9223372036854775807)) (Counts k) (optional (whole_at 1 9223372036854775807) (codes "min_doc_count") at ms) _ (optional_of-ok (Between 1 9223372036854775807) (whole_at 1 9223372036854775807) _ _ (whole_at-ok 1 9223372036854775807)) (λ least l.
    next_ok (λ o. IfSome o (Stored k)) (Counts k) (optional (missing_at k) (codes "missing") at ms) _ (optional_of-ok (Stored k) (missing_at k) _ _ (missing_at-ok k)) (λ missing s.
    next_ok (λ o. IfSome o Few) (Counts k) (optional orders_at (codes "order") at ms) _ (optional_of-ok Few orders_at _ _ orders_few) (λ order o.
    (or_least least 1 9223372036854775807 1 (omega arith) l, missing_is k missing s, or_one order (by_default (codes "_count") true) o))))

abbrev Sizes : ℕ × ℕ × Bool → Type 0
Sizes r = (1 ≤ r.0) × (r.0 ≤ r.1)

term_sizes_ok : (at : List ℕ) (ms : Members) → IfOk (term_sizes_in at ms) Sizes
unfolding term_sizes_in
term_sizes_ok at ms =
    then_ok Sizes (optional (whole_at 1 2147483647) (codes "shard_size") at ms) _ (λ shard.
    then_ok Sizes (optional truth_at (codes "show_term_doc_count_error") at ms) _ (λ show.
    next_ok (λ o. IfSome o (Between 1 2147483647)) Sizes (optional (whole_at 1 2147483647) (codes "size") at ms) _ (optional_of-ok (Between 1 2147483647) (whole_at 1 2147483647) _ _ (whole_at-ok 1 2147483647)) (λ size s.
    (or_least size 1 2147483647 10 (omega arith) s, omega arith))))

abbrev pub PairRead : Mapping → ℕ → KindName → Kind × List NamedOrder → Type 0
PairRead m context n k = KindRead m context n k.0 (length k.1) context

terms_in-read : (m : Mapping) (context : ℕ) (f : ℕ × Field) (at : List ℕ) (ms : Members) → IsFieldOf m f → IfOk (terms_in f at ms) (PairRead m context name.Terms)
unfolding terms_in with_order
terms_in-read m context f at ms there =
    let P = PairRead m context name.Terms in
    next_ok (Lists f.1.kind) P (term_lists_in f.1.kind at ms) _ (term_lists_ok f.1.kind at ms) (λ lists l.
    next_ok (Counts f.1.kind) P (term_counts_in f.1.kind at ms) _ (term_counts_ok f.1.kind at ms) (λ counts c.
    next_ok Sizes P (term_sizes_in at ms) _ (term_sizes_ok at ms) (λ sizes s.
    record {
      ready = λ children os e h.
          and_from _ _ (of_field m (λ k. option_map_or (are_probes k) lists.1 true && (are_probes k (unwrap_or lists.0 []) && is_missing k counts.1)) f there (and_from _ _ (listed_is f.1.kind lists.1 l.1) (and_from _ _ (listed_or_none f.1.kind lists.0 l.0) c.1)))
          (and_from _ _ (le-leb 1 sizes.0 s.0) (and_from _ _ (le-leb sizes.0 sizes.1 s.1) (and_from _ _ (le-leb 1 counts.0 c.0) (fit_orders children os (length counts.2) c.2 e h))));
      metric = λ os. refl;
      top = λ os. refl;
      within_is = λ os. refl;
    })))

pub terms_read : (m : Mapping) (context : ℕ) (at : List ℕ) (d : Data) → IfOk (terms_at m at d) (PairRead m context name.Terms)
unfolding terms_at
terms_read m context at d =
    let P = PairRead m context name.Terms in
    then_ok P (object_at 103 at d) _ (λ ms.
    then_ok P (known 101 term_members at ms) _ (λ _.
    next_ok (IsFieldOf m) P (field_in m at ms) _ (field_in-is m at ms) (λ f there. terms_in-read m context f at ms there)))

-- histograms

abbrev Ordered : Bounds → Type 0
Ordered b = is_at_most b.min b.max ≡ true

bounds_ordered : (at : List ℕ) (d : Data) → IfOk (bounds_at signed_at at d) Ordered
unfolding bounds_at
bounds_ordered at d =
    then_ok Ordered (object_at 103 at d) _ (λ ms.
    then_ok Ordered (known 101 _ at ms) _ (λ _.
    then_ok Ordered (optional signed_at (codes "max") at ms) _ (λ most.
    then_ok Ordered (optional signed_at (codes "min") at ms) _ (λ least.
    if_ok Ordered (is_at_most least most) (Ok (record { min = least; max = most })) (refuse 104 at) (λ e. e) (λ e. tt)))))

or_unbounded : (o : Option Bounds) → IfSome o Ordered → Ordered (unwrap_or o unbounded)
or_unbounded None h = refl
or_unbounded (Some b) h = h

abbrev Ranges : Bounds × Bounds × Option ℕ × Bool → Type 0
Ranges r = Ordered r.0 × Ordered r.1 × IfSome r.2 (Between 1 9223372036854775807)

ranges_ok : (at : List ℕ) (ms : Members) → IfOk (histogram_ranges_in at ms) Ranges
unfolding histogram_ranges_in
ranges_ok at ms =
    next_ok (λ o. IfSome o Ordered) Ranges (optional (bounds_at signed_at) (codes "extended_bounds") at ms) _ (optional_of-ok Ordered (bounds_at signed_at) _ _ bounds_ordered) (λ extended e.
    next_ok (λ o. IfSome o Ordered) Ranges (optional (bounds_at signed_at) (codes "hard_bounds") at ms) _ (optional_of-ok Ordered (bounds_at signed_at) _ _ bounds_ordered) (λ hard h.
    next_ok (λ o. IfSome o (Between 1 9223372036854775807)) Ranges (optional (whole_at 1 9223372036854775807) (codes "interval") at ms) _ (optional_of-ok (Between 1 9223372036854775807) (whole_at 1 9223372036854775807) _ _ (whole_at-ok 1 9223372036854775807)) (λ interval i.
    then_ok Ranges (optional truth_at (codes "keyed") at ms) _ (λ keyed. (or_unbounded extended e, or_unbounded hard h, i)))))

abbrev HistogramCounts : FieldKind → ℕ × Option Scalar × ℕ × List NamedOrder → Type 0
HistogramCounts k r = (is_missing k r.1 ≡ true) × Few r.3

histogram_counts_ok : (k : FieldKind) (at : List ℕ) (ms : Members) → IfOk (histogram_counts_in k at ms) (HistogramCounts k)
unfolding histogram_counts_in
histogram_counts_ok k at ms =
    then_ok (HistogramCounts k) (optional (whole_at 0 9223372036854775807) (codes "min_doc_count") at ms) _ (λ least.
    next_ok (λ o. IfSome o (Stored k)) (HistogramCounts k) (optional (missing_at k) (codes "missing") at ms) _ (optional_of-ok (Stored k) (missing_at k) _ _ (missing_at-ok k)) (λ missing s.
    then_ok (HistogramCounts k) (optional (whole_at 0 18446744073709551615) (codes "offset") at ms) _ (λ offset.
    next_ok (λ o. IfSome o Few) (HistogramCounts k) (optional orders_at (codes "order") at ms) _ (optional_of-ok Few orders_at _ _ orders_few) (λ order o.
    (missing_is k missing s, or_one order (by_default (codes "_key") false) o)))))

abbrev Rules : ℕ → ℕ → Bounds → Bounds → Type 0
Rules interval offset extended hard = (nat_lt offset interval ≡ true) × (lies_within extended hard ≡ true)

rules_ok : (at : List ℕ) (interval offset : ℕ) (extended hard : Bounds) → IfOk (histogram_rules at interval offset extended hard) (λ _. Rules interval offset extended hard)
unfolding histogram_rules
rules_ok at interval offset extended hard =
    if_ok (λ _. Rules interval offset extended hard) (nat_lt offset interval) _ _ (λ below. if_ok (λ _. Rules interval offset extended hard) (lies_within extended hard) _ _ (λ lies. (below, lies)) (λ e. tt)) (λ e. tt)

interval_is : (n : ℕ) → Between 1 9223372036854775807 n → is_interval n ≡ true
interval_is n h = let low = h.0 in let high = h.1 in and_from _ _ (le-leb 1 n h.0) (let e : nat_lt n (2 ^ 63) ≡ true = grind (arith, nat_tests, high) in e)

histogram_in-read : (m : Mapping) (context : ℕ) (f : ℕ × Field) (at : List ℕ) (ms : Members) → IsWholeField m f → IfOk (histogram_in f at ms) (PairRead m context name.Histogram)
unfolding histogram_in with_order
histogram_in-read m context f at ms there =
    let P = PairRead m context name.Histogram in
    next_ok Ranges P (histogram_ranges_in at ms) _ (ranges_ok at ms) (λ ranges r.
    next_ok (HistogramCounts f.1.kind) P (histogram_counts_in f.1.kind at ms) _ (histogram_counts_ok f.1.kind at ms) (λ counts c.
    next_ok (Between 1 9223372036854775807) P (or_refuse 102 at ranges.2) _ (given at ranges.2 r.2) (λ interval i.
    next_ok (λ _. Rules interval counts.2 ranges.0 ranges.1) P (histogram_rules at interval counts.2 ranges.0 ranges.1) _ (rules_ok at interval counts.2 ranges.0 ranges.1) (λ _ rules.
    record {
      ready = λ children os e h.
          and_from _ _ (of_field m (λ k. is_whole_kind k && is_missing k counts.1) f there.0 (and_from _ _ there.1 c.0))
          (and_from _ _ (and_from _ _ (interval_is interval i) rules.0) (and_from _ _ r.0 (and_from _ _ r.1 (and_from _ _ rules.1 (fit_orders children os (length counts.3) c.1 e h)))));
      metric = λ os. refl;
      top = λ os. refl;
      within_is = λ os. refl;
    }))))
  where
    given : (at : List ℕ) (o : Option ℕ) → IfSome o (Between 1 9223372036854775807) → IfOk (or_refuse 102 at o) (Between 1 9223372036854775807)
    given at None h = tt
    given at (Some n) h = h

pub histogram_read : (m : Mapping) (context : ℕ) (at : List ℕ) (d : Data) → IfOk (histogram_at m at d) (PairRead m context name.Histogram)
unfolding histogram_at
histogram_read m context at d =
    let P = PairRead m context name.Histogram in
    then_ok P (object_at 103 at d) _ (λ ms.
    then_ok P (known 101 histogram_members at ms) _ (λ _.
    next_ok (IsWholeField m) P (whole_field_in m at ms) _ (whole_field_in-is m at ms) (λ f there. histogram_in-read m context f at ms there)))
