-- Date histograms that are read: their periods, zones and bounds are such as there are.
use Rattle.std.specs.Prelude.{◌≡◌, refl, ℕ, zero, suc, ◌+◌, ◌*◌, ◌≤◌, ◌==◌, ℤ, pos, neg_ℤ, ◌≤ℤ◌, int_le, List, [], ◌∷◌, ◌++◌, length, take, drop, Option, Some, None, Ok, Bool, true, false, cond, not, ◌&&◌, nat_le, IfOk, IfSome, if◌then◌else◌, codes, unwrap_or, option_map}
use Rattle.std.specs.Char.{is_ascii_digit}
use Rattle.std.specs.List.{prefix_len}
use Rattle.std.specs.Option.{option_map_or}
use Rattle.std.specs.Char.{digit_value}
use Rattle.std.specs.Str.Parse.{digits_value, digits_value_after}
use Rattle.std.proofs.Common.{arith, mul-le-mul}
use Rattle.std.proofs.lemmas.Int.{ints}
use Rattle.std.proofs.lemmas.Bool.{false≢true, and_parts, and_from, le-leb, not-true}
use Rattle.std.proofs.lemmas.Bool.Decides.{nat_tests}
use Rattle.serde_json.specs.Data.{Data, null, boolean, number, string, array, object, Members}
use Rattle.date_spec.specs.declared.period.Period.{Period}
use Rattle.date_spec.specs.declared.period.Period.TheVariants.{Fixed, Week, Month, Quarter, Year}
use Rattle.date_spec.specs.DateTexts.{ahead_of, is_offset, minutes_of}
use Rattle.date_spec.specs.Instants.{is_in_range}
use Rattle.agg_model.specs.declared.mapping.Field.{Field}
use Rattle.agg_model.specs.declared.mapping.FieldKind.{FieldKind}
use Rattle.agg_model.specs.declared.mapping.Mapping.{Mapping}
use Rattle.agg_model.specs.declared.row.Scalar.{Scalar}
use Rattle.agg_model.specs.declared.aggregation.Bounds.{Bounds}
use Rattle.agg_model.specs.FieldKinds.{is_date_kind}
use Rattle.agg_model.specs.BoundsOrder.{is_at_most, lies_within}
use Rattle.agg_reading.specs.declared.names.KindName.TheVariants as name
use Rattle.agg_reading.specs.declared.parts.NamedOrder.{NamedOrder}
use Rattle.agg_reading.specs.Reading.{refuse, or_refuse}
use Rattle.agg_reading.specs.Json.{object_at, text_at, optional, known, is_among}
use Rattle.agg_reading.specs.Scalars.{instant}
use Rattle.agg_reading.specs.Numbers.{whole_at, truth_at}
use Rattle.agg_reading.specs.Leaves.{field_in}
use Rattle.agg_reading.specs.Terms.{missing_at}
use Rattle.agg_reading.specs.Orders.{orders_at, by_default, with_order}
use Rattle.agg_reading.specs.Histogram.{bounds_at, unbounded, bounds_rule}
use Rattle.agg_reading.specs.DateHistogram.{date_field_in, dated, instant_at, calendar_period, unit_millis, is_amount, fixed_of, fixed_period, zone_of, said_at, date_histogram_members, date_ranges_in, date_counts_in, period_in, date_histogram_in, date_histogram_at}
use Rattle.agg_reading.proofs.Steps.{then_ok, next_ok, if_ok}
use Rattle.agg_reading.proofs.IndexLineLaws.{optional_of-ok}
use Rattle.agg_evaluation.specs.SearchFits.{is_missing}
use Rattle.agg_evaluation.specs.Spacings.{is_period, is_zone, are_instants}
use Rattle.fitting_laws.proofs.Queries.{IsFieldOf, field_in-is, of_field}
use Rattle.fitting_laws.proofs.KindReads.{PairRead, Stored, Few, missing_at-ok, missing_is, orders_few, or_one, fit_orders}

-- periods

abbrev IsLegal : Period → Type 0
IsLegal p = is_period p ≡ true

either_legal : (b : Bool) (x y : Option Period) → IfSome x IsLegal → IfSome y IsLegal → IfSome (if b then x else y) IsLegal
either_legal true x y h g = h
either_legal false x y h g = g

calendar_legal : (s : List ℕ) → IfSome (calendar_period s) IsLegal
unfolding calendar_period
calendar_legal s =
    either_legal (is_among (codes "minute" ∷ codes "1m" ∷ []) s) _ _ refl (
    either_legal (is_among (codes "hour" ∷ codes "1h" ∷ []) s) _ _ refl (
    either_legal (is_among (codes "day" ∷ codes "1d" ∷ []) s) _ _ refl (
    either_legal (is_among (codes "week" ∷ codes "1w" ∷ []) s) _ _ refl (
    either_legal (is_among (codes "month" ∷ codes "1M" ∷ []) s) _ _ refl (
    either_legal (is_among (codes "quarter" ∷ codes "1q" ∷ []) s) _ _ refl (
    either_legal (is_among (codes "year" ∷ codes "1y" ∷ []) s) _ _ refl tt))))))

abbrev IsUnit : ℕ → Type 0
IsUnit millis = (1 ≤ millis) × (millis ≤ 86_400_000)

either_unit : (b : Bool) (x y : Option ℕ) → IfSome x IsUnit → IfSome y IsUnit → IfSome (if b then x else y) IsUnit
either_unit true x y h g = h
either_unit false x y h g = g

unit_is : (s : List ℕ) → IfSome (unit_millis s) IsUnit
unfolding unit_millis
unit_is s =
    either_unit (is_among (codes "ms" ∷ []) s) _ _ (omega arith, omega arith) (
    either_unit (is_among (codes "s" ∷ []) s) _ _ (omega arith, omega arith) (
    either_unit (is_among (codes "m" ∷ []) s) _ _ (omega arith, omega arith) (
    either_unit (is_among (codes "h" ∷ []) s) _ _ (omega arith, omega arith) (
    either_unit (is_among (codes "d" ∷ []) s) _ _ (omega arith, omega arith) tt))))

-- digits behind a number that is not 0 write one that is not either
more_digits : (n : ℕ) (ds : List ℕ) → 1 ≤ n → 1 ≤ digits_value_after 10 n ds
more_digits n [] h = h
more_digits n (d ∷ ds) h = more_digits (n * 10 + digit_value d) ds (omega (arith, h))

-- what is not `0` counts for something
digit_counts : (c : ℕ) → (c == 48) ≡ false → 1 ≤ digit_value c
digit_counts c e = grind (arith, nat_tests, e)

amount_is : (digits : List ℕ) → is_amount digits ≡ true → (1 ≤ digits_value 10 digits) × (digits_value 10 digits ≤ 2_147_483_647)
unfolding is_amount
amount_is [] h = absurd (false≢true h)
amount_is (first ∷ rest) h =
    let parts = and_parts (not (first == 48)) (nat_le (digits_value 10 (first ∷ rest)) 2_147_483_647) h in
    let high = parts.1 in
    let counts = digit_counts first (not-true (first == 48) parts.0) in
    (more_digits (0 * 10 + digit_value first) rest (omega (arith, counts)), grind (arith, nat_tests, high))

fixed_legal : (digits unit : List ℕ) → IfSome (fixed_of digits unit) IsLegal
unfolding fixed_of
fixed_legal digits unit =
    elim (is_amount digits) as (λ b. is_amount digits ≡ b → IfSome (if b then option_map (λ millis. Fixed (digits_value 10 digits * millis)) (unit_millis unit) else None) IsLegal) [
      | true ↦ λ e. of_unit (unit_millis unit) (unit_is unit) (amount_is digits e)
      | false ↦ λ e. tt
    ] refl
  where
    of_unit : (o : Option ℕ) → IfSome o IsUnit → (1 ≤ digits_value 10 digits) × (digits_value 10 digits ≤ 2_147_483_647)
        → IfSome (option_map (λ millis. Fixed (digits_value 10 digits * millis)) o) IsLegal
    of_unit None h amount = tt
    of_unit (Some millis) h amount =
        and_from _ _ (le-leb 1 (digits_value 10 digits * millis) (mul-le-mul amount.0 h.0))
        (le-leb (digits_value 10 digits * millis) 185_542_587_100_800_000 (mul-le-mul amount.1 h.1))

period_legal : (s : List ℕ) → IfSome (fixed_period s) IsLegal
unfolding fixed_period
period_legal s = fixed_legal (take (prefix_len is_ascii_digit s) s) (drop (prefix_len is_ascii_digit s) s)

-- zones

abbrev IsLegalZone : ℤ → Type 0
IsLegalZone zone = is_zone zone ≡ true

most_is : (a b : ℤ) → a ≤ℤ b → int_le a b ≡ true
most_is a b h = grind (arith, ints, h)

-- a sign before so many minutes
minutes_ahead : (minutes : ℕ) → minutes ≤ 1080 → is_zone (pos (minutes * 60_000)) ≡ true
minutes_ahead minutes h =
    and_from _ _ (most_is (neg_ℤ (pos 64_800_000)) (pos (minutes * 60_000)) (omega (arith, ints, h))) (most_is (pos (minutes * 60_000)) (pos 64_800_000) (omega (arith, ints, h)))

minutes_behind : (minutes : ℕ) → minutes ≤ 1080 → is_zone (neg_ℤ (pos (minutes * 60_000))) ≡ true
minutes_behind minutes h =
    and_from _ _ (most_is (neg_ℤ (pos 64_800_000)) (neg_ℤ (pos (minutes * 60_000))) (omega (arith, ints, h)))
    (most_is (neg_ℤ (pos (minutes * 60_000))) (pos 64_800_000) (omega (arith, ints, h)))

offset_few : (offset : List ℕ) → is_offset offset ≡ true → minutes_of offset ≤ 1080
unfolding is_offset
offset_few offset h = grind (arith, nat_tests, h)

either_zone : (b : Bool) (x y : Option ℤ) → (b ≡ true → IfSome x IsLegalZone) → IfSome y IsLegalZone → IfSome (if b then x else y) IsLegalZone
either_zone true x y h g = h refl
either_zone false x y h g = g

ahead_legal : (s : List ℕ) → IfSome (ahead_of s) IsLegalZone
unfolding ahead_of
ahead_legal [] = refl
ahead_legal (sign ∷ offset) =
    either_zone ((sign == 90) && (length offset == 0)) _ _ (λ e. refl) (
    either_zone ((sign == 43) && is_offset offset) _ _ (λ e. minutes_ahead (minutes_of offset) (offset_few offset (and_parts (sign == 43) (is_offset offset) e).1)) (
    either_zone ((sign == 45) && is_offset offset) _ _ (λ e. minutes_behind (minutes_of offset) (offset_few offset (and_parts (sign == 45) (is_offset offset) e).1)) tt))

zone_legal : (s : List ℕ) → IfSome (zone_of s) IsLegalZone
unfolding zone_of
zone_legal s = either_zone (is_among (codes "UTC" ∷ codes "Z" ∷ []) s) _ _ (λ e. refl) (either_zone (length s == 6) _ _ (λ e. ahead_legal s) tt)

-- what a text means
said_ok : {A : Type 0} (P : A → Type 0) (meaning : List ℕ → Option A) → ((s : List ℕ) → IfSome (meaning s) P) → (at : List ℕ) (d : Data) → IfOk (said_at meaning at d) P
unfolding said_at
said_ok P meaning h at d = then_ok P (text_at 103 at d) _ (λ s. found (meaning s) (h s))
  where
    found : (o : Option _) → IfSome o P → IfOk (or_refuse 104 at o) P
    found None h = tt
    found (Some x) h = h

-- bounds

abbrev InRange : ℤ → Type 0
InRange z = is_in_range z ≡ true

dated_ok : (at : List ℕ) (o : Option ℤ) → IfOk (dated at o) InRange
dated_ok at None = tt
dated_ok at (Some z) = if_ok InRange (is_in_range z) (Ok z) (refuse 104 at) (λ e. e) (λ e. tt)

instant_ok : (at : List ℕ) (d : Data) → IfOk (instant_at at d) InRange
unfolding instant_at
instant_ok at null = tt
instant_ok at (boolean b) = tt
instant_ok at (number n) = dated_ok at (instant (number n))
instant_ok at (string s) = dated_ok at (instant (string s))
instant_ok at (array ds) = tt
instant_ok at (object ms) = tt

bound_is : (o : Option ℤ) → IfSome o InRange → option_map_or is_in_range o true ≡ true
bound_is None h = refl
bound_is (Some z) h = h

abbrev AreDated : Bounds → Type 0
AreDated b = (is_at_most b.min b.max ≡ true) × (are_instants b ≡ true)

bounds_dated : (at : List ℕ) (d : Data) → IfOk (bounds_at instant_at at d) AreDated
unfolding bounds_at
bounds_dated at d =
    then_ok AreDated (object_at 103 at d) _ (λ ms.
    then_ok AreDated (known 101 _ at ms) _ (λ _.
    next_ok (λ o. IfSome o InRange) AreDated (optional instant_at (codes "max") at ms) _ (optional_of-ok InRange instant_at _ _ instant_ok) (λ most h.
    next_ok (λ o. IfSome o InRange) AreDated (optional instant_at (codes "min") at ms) _ (optional_of-ok InRange instant_at _ _ instant_ok) (λ least g.
    if_ok AreDated (is_at_most least most) (Ok (record { min = least; max = most })) (refuse 104 at) (λ e. (e, and_from _ _ (bound_is least g) (bound_is most h))) (λ e. tt)))))

or_unbounded : (o : Option Bounds) → IfSome o AreDated → AreDated (unwrap_or o unbounded)
or_unbounded None h = (refl, refl)
or_unbounded (Some b) h = h

-- the members

abbrev Ranges : Option Period × Option Period × Bounds × Bounds × Bool → Type 0
Ranges r = IfSome r.0 IsLegal × IfSome r.1 IsLegal × AreDated r.2 × AreDated r.3

ranges_ok : (at : List ℕ) (ms : Members) → IfOk (date_ranges_in at ms) Ranges
unfolding date_ranges_in
ranges_ok at ms =
    let calendar_at = said_at calendar_period in
    let fixed_at = said_at fixed_period in
    next_ok (λ o. IfSome o IsLegal) Ranges (optional calendar_at (codes "calendar_interval") at ms) _ (optional_of-ok IsLegal calendar_at _ _ (said_ok IsLegal calendar_period calendar_legal)) (λ calendar c.
    next_ok (λ o. IfSome o AreDated) Ranges (optional (bounds_at instant_at) (codes "extended_bounds") at ms) _ (optional_of-ok AreDated (bounds_at instant_at) _ _ bounds_dated) (λ extended e.
    next_ok (λ o. IfSome o IsLegal) Ranges (optional fixed_at (codes "fixed_interval") at ms) _ (optional_of-ok IsLegal fixed_at _ _ (said_ok IsLegal fixed_period period_legal)) (λ fixed f.
    next_ok (λ o. IfSome o AreDated) Ranges (optional (bounds_at instant_at) (codes "hard_bounds") at ms) _ (optional_of-ok AreDated (bounds_at instant_at) _ _ bounds_dated) (λ hard h.
    then_ok Ranges (optional truth_at (codes "keyed") at ms) _ (λ keyed. (c, f, or_unbounded extended e, or_unbounded hard h))))))

abbrev DateCounts : FieldKind → ℕ × Option Scalar × List NamedOrder × ℤ → Type 0
DateCounts k r = (is_missing k r.1 ≡ true) × Few r.2 × IsLegalZone r.3

or_utc : (o : Option ℤ) → IfSome o IsLegalZone → IsLegalZone (unwrap_or o (pos 0))
or_utc None h = refl
or_utc (Some zone) h = h

counts_ok : (k : FieldKind) (at : List ℕ) (ms : Members) → IfOk (date_counts_in k at ms) (DateCounts k)
unfolding date_counts_in
counts_ok k at ms =
    let zone_at = said_at zone_of in
    then_ok (DateCounts k) (optional (whole_at 0 9223372036854775807) (codes "min_doc_count") at ms) _ (λ least.
    next_ok (λ o. IfSome o (Stored k)) (DateCounts k) (optional (missing_at k) (codes "missing") at ms) _ (optional_of-ok (Stored k) (missing_at k) _ _ (missing_at-ok k)) (λ missing s.
    next_ok (λ o. IfSome o Few) (DateCounts k) (optional orders_at (codes "order") at ms) _ (optional_of-ok Few orders_at _ _ orders_few) (λ order o.
    next_ok (λ o. IfSome o IsLegalZone) (DateCounts k) (optional zone_at (codes "time_zone") at ms) _ (optional_of-ok IsLegalZone zone_at _ _ (said_ok IsLegalZone zone_of zone_legal)) (λ zone z.
    (missing_is k missing s, or_one order (by_default (codes "_key") false) o, or_utc zone z)))))

period_ok : (at : List ℕ) (calendar fixed : Option Period) → IfSome calendar IsLegal → IfSome fixed IsLegal → IfOk (period_in at calendar fixed) IsLegal
period_ok at None None c f = tt
period_ok at (Some period) None c f = c
period_ok at None (Some period) c f = f
period_ok at (Some period) (Some other) c f = tt

abbrev IsDateField : Mapping → ℕ × Field → Type 0
IsDateField m f = IsFieldOf m f × (is_date_kind f.1.kind ≡ true)

date_field_in-is : (m : Mapping) (at : List ℕ) (ms : Members) → IfOk (date_field_in m at ms) (IsDateField m)
unfolding date_field_in
date_field_in-is m at ms =
    next_ok (IsFieldOf m) (IsDateField m) (field_in m at ms) _ (field_in-is m at ms) (λ f there. if_ok (IsDateField m) (is_date_kind f.1.kind) (Ok f) _ (λ e. (there, e)) (λ e. tt))

date_histogram_in-read : (m : Mapping) (context : ℕ) (f : ℕ × Field) (at : List ℕ) (ms : Members) → IsDateField m f → IfOk (date_histogram_in f at ms) (PairRead m context name.DateHistogram)
unfolding date_histogram_in with_order
date_histogram_in-read m context f at ms there =
    let P = PairRead m context name.DateHistogram in
    next_ok Ranges P (date_ranges_in at ms) _ (ranges_ok at ms) (λ ranges r.
    next_ok (DateCounts f.1.kind) P (date_counts_in f.1.kind at ms) _ (counts_ok f.1.kind at ms) (λ counts c.
    next_ok IsLegal P (period_in at ranges.0 ranges.1) _ (period_ok at ranges.0 ranges.1 r.0 r.1) (λ period p.
    next_ok (λ _. lies_within ranges.2 ranges.3 ≡ true) P (bounds_rule at ranges.2 ranges.3) _ (lies at ranges.2 ranges.3) (λ _ within.
    record {
      ready = λ children os e h.
          and_from _ _ (of_field m (λ k. is_date_kind k && is_missing k counts.1) f there.0 (and_from _ _ there.1 c.0))
          (and_from _ _ (and_from _ _ p (and_from _ _ c.2 (and_from _ _ r.2.1 r.3.1)))
          (and_from _ _ r.2.0 (and_from _ _ r.3.0 (and_from _ _ within (fit_orders children os (length counts.2) c.1 e h)))));
      metric = λ os. refl;
      top = λ os. refl;
      within_is = λ os. refl;
    }))))
  where
    lies : (at : List ℕ) (extended hard : Bounds) → IfOk (bounds_rule at extended hard) (λ _. lies_within extended hard ≡ true)
    lies at extended hard = if_ok (λ _. lies_within extended hard ≡ true) (lies_within extended hard) _ _ (λ e. e) (λ e. tt)

pub date_histogram_read : (m : Mapping) (context : ℕ) (at : List ℕ) (d : Data) → IfOk (date_histogram_at m at d) (PairRead m context name.DateHistogram)
unfolding date_histogram_at
date_histogram_read m context at d =
    let P = PairRead m context name.DateHistogram in
    then_ok P (object_at 103 at d) _ (λ ms.
    then_ok P (known 101 date_histogram_members at ms) _ (λ _.
    next_ok (IsDateField m) P (date_field_in m at ms) _ (date_field_in-is m at ms) (λ f there. date_histogram_in-read m context f at ms there)))
