-- The keys of rows that fit: those of a histogram are starts of intervals near the range of its values, and those of a composite
-- have a part for each source.
use Rattle.std.specs.Prelude.{◌≡◌, refl, ℕ, suc, ◌^◌, ◌<◌, ◌==◌, ℤ, pos, negsuc, neg_ℤ, ◌-ℤ◌, ◌≤ℤ◌, ◌<ℤ◌, Bool, true, false, cond, ◌&&◌, T, List, [], ◌∷◌, ◌++◌, map, filter, flat_map, length, int_le, int_lt, Option}
use Rattle.std.specs.List.{list_all}
use Rattle.std.specs.Ordering.{int_eq, match_ordering}
use Rattle.std.specs.declared.cmp.Ordering.TheVariants.{Less, Equal, Greater}
use Rattle.std.proofs.Common.{sym, ◌∙◌, ap, subst, arith}
use Rattle.std.proofs.lemmas.Bool.{and_parts, and_from}
use Rattle.std.proofs.lemmas.Bool.Decides.{nat_tests}
use Rattle.std.proofs.lemmas.Cmp.{int_eq_equiv}
use Rattle.std.proofs.lemmas.Int.{ints}
use Rattle.date_spec.specs.declared.period.Period.{Period}
use Rattle.date_spec.specs.declared.range.TheConstants.{GREATEST_INSTANT, LEAST_INSTANT}
use Rattle.date_spec.specs.Instants.{is_in_range}
use Rattle.date_spec.specs.Periods.{IsPeriod, IsZone}
use Rattle.date_spec.proofs.KeyLemmas.{instant-place, key-begun, key-own, key-rises}
use Rattle.agg_model.specs.FieldKinds.{fits_below}
use Rattle.agg_model.specs.declared.aggregation.Bounds.{Bounds}
use Rattle.agg_model.specs.declared.aggregation.CompositeSource.{CompositeSource}
use Rattle.agg_model.specs.declared.aggregation.Spacing.{Spacing}
use Rattle.agg_model.specs.declared.aggregation.Spacing.TheVariants.{Numbers, Dates}
use Rattle.agg_model.specs.declared.key.Key.{Key}
use Rattle.agg_model.specs.declared.key.Key.TheVariants as key
use Rattle.agg_model.specs.declared.row.Scalar.{Scalar}
use Rattle.agg_model.specs.declared.row.Scalar.TheVariants.{Whole, Word, Flag}
use Rattle.agg_evaluation.specs.CompositeKeys.{has_parts, is_composite_of}
use Rattle.agg_evaluation.specs.Finishable.{is_near, is_histogram_key}
use Rattle.agg_evaluation.specs.KeyOrder.{key_cmp}
use Rattle.agg_evaluation.specs.Keys.{distinct_keys, values_or, interval_key, is_between, histogram_keys, combinations, source_keys, composite_keys}
use Rattle.agg_evaluation.specs.Rows.{PlacedRow}
use Rattle.agg_evaluation.specs.Spacings.{interval_start}
use Rattle.agg_evaluation.proofs.FoldLaws.{out-Many}
use Rattle.agg_evaluation.proofs.IntervalLaws.{interval_start-is, interval-unique}
use Rattle.agg_evaluation.proofs.SpacingLaws.{instant-is}
use Rattle.list_laws.specs.Sorting.{insert_once}
use Rattle.list_laws.proofs.Booleans.{and_left, and_right, both, holds}
use Rattle.fitting_laws.proofs.Measures.{is_number}

module _ (p : Key → Bool) where
  once_all : (k : Key) (ks : List Key) → T (p k) → T (list_all p ks) → T (list_all p (insert_once key_cmp k ks))
  once_all k [] here h = both _ _ here tt
  once_all k (j ∷ ks) here h =
      elim (key_cmp k j) as (λ o. T (list_all p (match_ordering o (k ∷ j ∷ ks) (j ∷ ks) (j ∷ insert_once key_cmp k ks)))) [
        | Less ↦ both _ _ here h
        | Equal ↦ h
        | Greater ↦ both _ _ (and_left _ _ h) (once_all k ks here (and_right _ _ h))
      ]

  -- what holds of keys holds of the distinct ones
  pub distinct_all : (ks : List Key) → T (list_all p ks) → T (list_all p (distinct_keys ks))
  distinct_all [] h = tt
  distinct_all (k ∷ ks) h = once_all k (distinct_keys ks) (and_left _ _ h) (distinct_all ks (and_right _ _ h))

  pub append_all : (js ks : List Key) → T (list_all p js) → T (list_all p ks) → T (list_all p (js ++ ks))
  append_all [] ks h g = g
  append_all (j ∷ js) ks h g = both _ _ (and_left _ _ h) (append_all js ks (and_right _ _ h) g)

-- histograms

-- whether a key is the start of an interval, and near
abbrev is_start : Spacing → Key → Bool
is_start spacing (key.Whole k) = int_eq (interval_start spacing k) k && is_near spacing k
is_start spacing key.Null = false
is_start spacing (key.Flag b) = false
is_start spacing (key.Word w) = false
is_start spacing (key.Fixed n) = false
is_start spacing (key.Many' n ks) = false

module _ (interval offset : ℕ) (some : 0 < interval) (near : interval < 2 ^ 63) where
  abbrev every : Spacing
  every = Numbers interval offset

  -- the start of an interval starts its own
  start_again : (n : ℤ) → interval_start every (interval_start every n) ≡ interval_start every n
  start_again n =
      let k = interval_start every n in
      let is = interval_start-is interval offset n some in
      interval-unique interval offset k (interval_start every k) k (interval_start-is interval offset k some)
      (record { times = is.times; multiple = is.multiple; at_most = omega (arith, ints); above = omega (arith, ints, some) })

  start_near : (n : ℤ) → fits_below (2 ^ 63) n ≡ true → is_near every (interval_start every n) ≡ true
  start_near n h =
      let k = interval_start every n in
      let is = interval_start-is interval offset n some in
      let parts = and_parts (int_le (neg_ℤ (pos (2 ^ 63))) n) (int_lt n (pos (2 ^ 63))) h in
      let least = low_of n parts.0 in
      let most = high_of n parts.1 in
      let below = is.at_most in
      let above = is.above in
      and_from _ _ (low_is k (omega (arith, ints, least, above, near))) (high_is k (omega (arith, ints, most, below)))
    where
      low_of : (n : ℤ) → int_le (neg_ℤ (pos (2 ^ 63))) n ≡ true → neg_ℤ (pos (2 ^ 63)) ≤ℤ n
      low_of (pos n) h = omega (arith, ints)
      low_of (negsuc n) h = let small : suc n < suc (2 ^ 63) = grind (arith, nat_tests, h) in omega (arith, ints, small)

      high_of : (n : ℤ) → int_lt n (pos (2 ^ 63)) ≡ true → n <ℤ pos (2 ^ 63)
      high_of (pos n) h = let small : n < 2 ^ 63 = grind (arith, nat_tests, h) in omega (arith, ints, small)
      high_of (negsuc n) h = omega (arith, ints)

      low_is : (k : ℤ) → (pos 0 -ℤ pos (2 ^ 65)) ≤ℤ k → int_le (pos 0 -ℤ pos (2 ^ 65)) k ≡ true
      low_is (pos k) h = refl
      low_is (negsuc k) h = let small : suc k < suc (2 ^ 65) = omega (arith, ints, h) in grind (arith, nat_tests, small)

      high_is : (k : ℤ) → k <ℤ pos (2 ^ 63) → int_lt k (pos (2 ^ 63)) ≡ true
      high_is (pos k) h = let small : k < 2 ^ 63 = omega (arith, ints, h) in grind (arith, nat_tests, small)
      high_is (negsuc k) h = refl

  pub number_starts : (n : ℤ) → fits_below (2 ^ 63) n ≡ true → is_start every (key.Whole (interval_start every n)) ≡ true
  number_starts n h =
      let k = interval_start every n in
      let same : int_eq (interval_start every k) k ≡ true = ap (λ (j : ℤ). int_eq j k) (start_again n) ∙ int_eq_equiv.refl k in
      and_from _ _ same (start_near n h)

module _ (period : Period) (zone : ℤ) (is : IsPeriod period) (zoned : IsZone zone) where
  abbrev each : Spacing
  each = Dates period zone

  most_is : (a b : ℤ) → a ≤ℤ b → int_le a b ≡ true
  most_is a b h = grind (arith, ints, h)

  pub instant_starts : (n : ℤ) → is_in_range n ≡ true → is_start each (key.Whole (interval_start each n)) ≡ true
  instant_starts n h =
      let k = interval_start each n in
      let instant = instant-is n h in
      let place = instant-place period zone n zoned instant.0 in
      let first = instant-place period zone LEAST_INSTANT zoned (let e : LEAST_INSTANT ≤ℤ LEAST_INSTANT = omega (arith, ints) in e) in
      let same : int_eq (interval_start each k) k ≡ true = ap (λ (j : ℤ). int_eq j k) (key-own period zone is n place) ∙ int_eq_equiv.refl k in
      let low = key-rises period zone is LEAST_INSTANT first n instant.0 in
      let begun = key-begun period zone is n place in
      let high = instant.1 in
      let last : k ≤ℤ GREATEST_INSTANT = omega (arith, ints, begun, high) in
      and_from _ _ same (and_from _ _ (most_is (interval_start each LEAST_INSTANT) k low) (most_is k GREATEST_INSTANT last))

-- Values of which each starts an interval: a test tells them.
module _ (spacing : Spacing) (test : ℤ → Bool) (each_starts : (n : ℤ) → test n ≡ true → is_start spacing (key.Whole (interval_start spacing n)) ≡ true) where
  starts : (vs : List Scalar) → list_all (is_number test) vs ≡ true → T (list_all (is_start spacing) (flat_map (interval_key spacing) vs))
  starts [] h = tt
  starts (Whole n ∷ vs) h = let parts = and_parts (test n) (list_all (is_number test) vs) h in both _ _ (holds _ (each_starts n parts.0)) (starts vs parts.1)
  starts (Word w ∷ vs) h = starts vs h
  starts (Flag b ∷ vs) h = starts vs h

  module _ (hard : Bounds) where
    one_key : (k : Key) → T (is_start spacing k) → is_between hard k ≡ true → T (is_histogram_key spacing hard k)
    one_key (key.Whole k) h e =
        let is = int_eq (interval_start spacing k) k in
        both is (is_near spacing k && is_between hard (key.Whole k)) (and_left is (is_near spacing k) h)
        (both (is_near spacing k) (is_between hard (key.Whole k)) (and_right is (is_near spacing k) h) (holds (is_between hard (key.Whole k)) e))
    one_key key.Null h e = absurd h
    one_key (key.Flag b) h e = absurd h
    one_key (key.Word w) h e = absurd h
    one_key (key.Fixed n) h e = absurd h
    one_key (key.Many' n ks) h e = absurd h

    between : (ks : List Key) → T (list_all (is_start spacing) ks) → T (list_all (is_histogram_key spacing hard) (filter (is_between hard) ks))
    between [] h = tt
    between (k ∷ ks) h =
        elim (is_between hard k) as (λ b. is_between hard k ≡ b → T (list_all (is_histogram_key spacing hard) (cond b (k ∷ filter (is_between hard) ks) (filter (is_between hard) ks)))) [
          | true ↦ λ e. both _ _ (one_key k (and_left _ _ h) e) (between ks (and_right _ _ h))
          | false ↦ λ e. between ks (and_right _ _ h)
        ] refl

    -- of a row with such values
    pub histogram_row : (field : ℕ) (missing : Option Scalar) (row : PlacedRow) → list_all (is_number test) (values_or field missing row) ≡ true
        → T (list_all (is_histogram_key spacing hard) (histogram_keys field spacing hard missing row))
    histogram_row field missing row h =
        between (distinct_keys (flat_map (interval_key spacing) (values_or field missing row)))
        (distinct_all (is_start spacing) (flat_map (interval_key spacing) (values_or field missing row)) (starts (values_or field missing row) h))

    pub histogram_rows : (field : ℕ) (missing : Option Scalar) (rows : List PlacedRow) → list_all (λ (r : PlacedRow). list_all (is_number test) (values_or field missing r)) rows ≡ true
        → T (list_all (is_histogram_key spacing hard) (flat_map (histogram_keys field spacing hard missing) rows))
    histogram_rows field missing [] h = tt
    histogram_rows field missing (r ∷ rows) h =
        let such = λ (r : PlacedRow). list_all (is_number test) (values_or field missing r) in
        let parts = and_parts (such r) (list_all such rows) h in
        append_all (is_histogram_key spacing hard) (histogram_keys field spacing hard missing r) (flat_map (histogram_keys field spacing hard missing) rows)
        (histogram_row field missing r parts.0) (histogram_rows field missing rows parts.1)

-- composites

abbrev are_long : ℕ → List (List Key) → Bool
are_long n kss = list_all (λ (ks : List Key). length ks == n) kss

ways_long : (n : ℕ) (ks : List Key) (kss : List (List Key)) → T (are_long n kss) → T (are_long (suc n) (flat_map (λ k. map (λ more. k ∷ more) kss) ks))
ways_long n [] kss h = tt
ways_long n (k ∷ ks) kss h = joined (map (λ more. k ∷ more) kss) (flat_map (λ k. map (λ more. k ∷ more) kss) ks) (begun kss h) (ways_long n ks kss h)
  where
    begun : (kss : List (List Key)) → T (are_long n kss) → T (are_long (suc n) (map (λ more. k ∷ more) kss))
    begun [] h = tt
    begun (ks ∷ kss) h =
        let here : T (length ks == n) = and_left (length ks == n) (are_long n kss) h in
        let longer : T (length (k ∷ ks) == suc n) = grind (arith, nat_tests, here) in
        both (length (k ∷ ks) == suc n) (are_long (suc n) (map (λ more. k ∷ more) kss)) longer (begun kss (and_right (length ks == n) (are_long n kss) h))

    joined : (xss yss : List (List Key)) → T (are_long (suc n) xss) → T (are_long (suc n) yss) → T (are_long (suc n) (xss ++ yss))
    joined [] yss h g = g
    joined (xs ∷ xss) yss h g = both _ _ (and_left _ _ h) (joined xss yss (and_right _ _ h) g)

combinations_long : (sources : List CompositeSource) (row : PlacedRow) → T (are_long (length sources) (combinations (map (source_keys row) sources)))
combinations_long [] row = tt
combinations_long (s ∷ ss) row = ways_long (length ss) (source_keys row s) (combinations (map (source_keys row) ss)) (combinations_long ss row)

many_long : (n : ℕ) (kss : List (List Key)) → T (are_long n kss) → T (list_all (is_composite_of n) (map key.Many kss))
many_long n [] h = tt
many_long n (ks ∷ kss) h = both _ _ (subst T (sym (ap (has_parts n) (out-Many ks))) (and_left _ _ h)) (many_long n kss (and_right _ _ h))

pub composite_rows : (sources : List CompositeSource) (rows : List PlacedRow) → T (list_all (is_composite_of (length sources)) (flat_map (composite_keys sources) rows))
composite_rows sources [] = tt
composite_rows sources (r ∷ rows) =
    let ways = combinations (map (source_keys r) sources) in
    append_all (is_composite_of (length sources)) (composite_keys sources r) (flat_map (composite_keys sources) rows)
    (distinct_all (is_composite_of (length sources)) (map key.Many ways) (many_long (length sources) ways (combinations_long sources r))) (composite_rows sources rows)
