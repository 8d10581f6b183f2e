-- How many keys the rows of a shard have at an aggregation at most, from how many values they have.
use Rattle.std.proofs.Common.{◌≡◌, refl, ℕ, suc, ◌+◌, ◌*◌, ◌<◌, ◌≤◌, Bool, true, false, List, [], ◌∷◌, ◌++◌, length, map, filter, take, get_or, sym, ◌∙◌, ap, arith, mul_assoc}
use Rattle.std.specs.Prelude.{ℤ, ◌&&◌, not, cond, max, flat_map, Option, Some, None, is_some, if◌then◌else◌}
use Rattle.std.specs.List.{list_any, enumerate_from}
use Rattle.std.specs.Ordering.{match_ordering}
use Rattle.std.specs.declared.cmp.Ordering.TheVariants.{Less, Equal, Greater}
use Rattle.std.proofs.lemmas.List.{length-append, length-map}
use Rattle.std.specs.Option.{option_map_or}
use Rattle.std.proofs.lemmas.List.{take_more}
use Rattle.std.proofs.Math.Nat.{mul-le-mul_left, mul-le-mul_right}
use Rattle.list_laws.specs.Sorting.{insert_once}
use Rattle.agg_model.specs.declared.aggregation.CompositeSource.{CompositeSource}
use Rattle.agg_evaluation.specs.Ceiling.{combination_count}
use Rattle.growth_laws.proofs.Combinations.{composite-count}
use Rattle.agg_model.specs.declared.key.Key.{Key}
use Rattle.agg_model.specs.declared.key.Key.TheVariants.{Fixed}
use Rattle.agg_model.specs.declared.aggregation.Kind.TheVariants as kind
use Rattle.agg_model.specs.declared.aggregation.Spacing.{Spacing}
use Rattle.agg_model.specs.declared.aggregation.Spacing.TheVariants.{Numbers, Dates}
use Rattle.date_spec.specs.declared.period.Period.{Period}
use Rattle.agg_model.specs.declared.query.Query.{Query}
use Rattle.agg_model.specs.declared.row.Scalar.{Scalar}
use Rattle.agg_model.specs.declared.row.Scalar.TheVariants as scalar
use Rattle.agg_model.specs.ValueKeys.{scalar_key}
use Rattle.agg_evaluation.specs.KeyOrder.{key_cmp}
use Rattle.agg_evaluation.specs.Keys.{distinct_keys, filter_keys, histogram_keys, interval_key, is_between, is_included, no_bounds, or_missing, or_null, source_keys, term_keys, values_or}
use Rattle.agg_evaluation.specs.Matching.{matches}
use Rattle.agg_evaluation.specs.Rows.{PlacedRow, row_of, values_of}
use Rattle.agg_cost.specs.Widths.{HasCombinationsAtMost, HasKeysAtMost, HasValuesAtMost}

once_length : (k : Key) (ks : List Key) → length (insert_once key_cmp k ks) ≤ suc (length ks)
once_length k [] = omega arith
once_length k (j ∷ ks) =
    let rest = once_length k ks in
    elim (key_cmp k j) as (λ o. length (match_ordering o (k ∷ j ∷ ks) (j ∷ ks) (j ∷ insert_once key_cmp k ks)) ≤ suc (suc (length ks))) [ Less ↦ omega arith | Equal ↦ omega arith | Greater ↦ omega (arith, rest) ]

distinct_length : (ks : List Key) → length (distinct_keys ks) ≤ length ks
distinct_length [] = omega arith
distinct_length (k ∷ ks) = omega (arith, once_length k (distinct_keys ks), distinct_length ks)

passing : {A : Type 0} (p : A → Bool) (xs : List A) → length (filter p xs) ≤ length xs
passing p [] = omega arith
passing p (x ∷ xs) = let rest = passing p xs in elim (p x) as (λ b. length (cond b (x ∷ filter p xs) (filter p xs)) ≤ suc (length xs)) [ true ↦ omega (arith, rest) | false ↦ omega (arith, rest) ]

at_least_one : (missing : Option Scalar) (vs : List Scalar) (most : ℕ) → length vs ≤ most → length (or_missing missing vs) ≤ max most 1
at_least_one None [] most low = omega arith
at_least_one (Some s) [] most low = omega arith
at_least_one missing (v ∷ vs) most low = omega (arith, low)

starts_length : (spacing : Spacing) (vs : List Scalar) → length (flat_map (interval_key spacing) vs) ≤ length vs
starts_length spacing [] = omega arith
starts_length spacing (scalar.Whole n ∷ vs) = omega (arith, starts_length spacing vs)
starts_length spacing (scalar.Word n ∷ vs) = omega (arith, starts_length spacing vs)
starts_length spacing (scalar.Flag n ∷ vs) = omega (arith, starts_length spacing vs)

module _ (rows : List PlacedRow) where
  few_values : (field : ℕ) (include : _) (exclude : _) (missing : Option Scalar) (most : ℕ)
      → HasValuesAtMost most field rows → (i : ℕ) → i < length rows → length (term_keys field include exclude missing (row_of rows i)) ≤ max most 1
  few_values field include exclude missing most few i below =
      let row = row_of rows i in
      let vs = values_or field missing row in
      let a = passing (is_included include exclude) (distinct_keys (map scalar_key vs)) in
      let b = distinct_length (map scalar_key vs) in
      let c = length-map vs scalar_key in
      let d = at_least_one missing (values_of field row) most (few i below) in
      omega (arith, a, b, c, d)

  pub few-terms : (field size shard_size min_doc_count : ℕ) (order : _) (include : _) (exclude : _) (missing : Option Scalar) (show_error : Bool) (most : ℕ)
      → HasValuesAtMost most field rows → HasKeysAtMost (max most 1) (kind.Terms field size shard_size min_doc_count order include exclude missing show_error) rows
  few-terms field size shard_size min_doc_count order include exclude missing show_error most few = few_values field include exclude missing most few

  few_starts : (field : ℕ) (spacing : Spacing) (hard : _) (missing : Option Scalar) (most : ℕ)
      → HasValuesAtMost most field rows → (i : ℕ) → i < length rows → length (histogram_keys field spacing hard missing (row_of rows i)) ≤ max most 1
  few_starts field spacing hard missing most few i below =
      let row = row_of rows i in
      let vs = values_or field missing row in
      let a = passing (is_between hard) (distinct_keys (flat_map (interval_key spacing) vs)) in
      let b = distinct_length (flat_map (interval_key spacing) vs) in
      let c = starts_length spacing vs in
      let d = at_least_one missing (values_of field row) most (few i below) in
      omega (arith, a, b, c, d)

  pub few-starts : (field interval offset min_doc_count : ℕ) (extended : _) (hard : _) (keyed : Bool) (order : _) (missing : Option Scalar) (most : ℕ)
      → HasValuesAtMost most field rows → HasKeysAtMost (max most 1) (kind.Histogram field interval offset min_doc_count extended hard keyed order missing) rows
  few-starts field interval offset min_doc_count extended hard keyed order missing most few = few_starts field (Numbers interval offset) hard missing most few

  pub few-periods : (field : ℕ) (period : Period) (zone : ℤ) (min_doc_count : ℕ) (extended : _) (hard : _) (keyed : Bool) (order : _) (missing : Option Scalar) (most : ℕ)
      → HasValuesAtMost most field rows → HasKeysAtMost (max most 1) (kind.DateHistogram field period zone min_doc_count extended hard keyed order missing) rows
  few-periods field period zone min_doc_count extended hard keyed order missing most few = few_starts field (Dates period zone) hard missing most few

  numbered : {A : Type 0} (n : ℕ) (xs : List A) → length (enumerate_from n xs) ≡ length xs
  numbered n [] = refl
  numbered n (x ∷ xs) = let rest = numbered (n + 1) xs in omega (arith, rest)

  other_key : (b : Bool) (n : ℕ) → length (if b then Fixed n ∷ [] else []) ≤ 1
  other_key true n = omega arith
  other_key false n = omega arith

  few_filters : (holds : Query → Bool) (filters : List Query) (other : Option (List ℕ)) → length (filter_keys holds filters other) ≤ length filters + 1
  few_filters holds filters other =
      let matching = filter (λ (q : ℕ × Query). holds q.1) (enumerate_from 0 filters) in
      let a = length-append (map (λ (q : ℕ × Query). Fixed q.0) matching) (if is_some other && not (list_any holds filters) then Fixed (length filters) ∷ [] else []) in
      let b = length-map matching (λ (q : ℕ × Query). Fixed q.0) in
      let c = passing (λ (q : ℕ × Query). holds q.1) (enumerate_from 0 filters) in
      let d = numbered 0 filters in
      let e = other_key (is_some other && not (list_any holds filters)) (length filters) in
      omega (arith, a, b, c, d, e)

  pub few-filters : (names : _) (filters : List Query) (other : Option (List ℕ)) → HasKeysAtMost (length filters + 1) (kind.Filters names filters other) rows
  few-filters names filters other i below = few_filters (λ q. matches rows q (row_of rows i)) filters other

  or_null_length : (missing_bucket : Bool) (ks : List Key) (most : ℕ) → length ks ≤ max most 1 → length (or_null missing_bucket ks) ≤ max most 1
  or_null_length true [] most low = omega arith
  or_null_length false [] most low = omega arith
  or_null_length missing_bucket (k ∷ ks) most low = low

  few-parts : (s : CompositeSource) (most : ℕ) → HasValuesAtMost most s.field rows → (i : ℕ) → i < length rows → length (source_keys (row_of rows i) s) ≤ max most 1
  few-parts s most few i below = or_null_length s.missing_bucket _ most (by_interval s.interval)
    where
      by_interval : (o : Option ℕ) → length (option_map_or (λ interval. histogram_keys s.field (Numbers interval 0) no_bounds None (row_of rows i)) o (term_keys s.field None [] None (row_of rows i))) ≤ max most 1
      by_interval (Some interval) = few_starts s.field (Numbers interval 0) no_bounds None most few i below
      by_interval None = few_values s.field None [] None most few i below

  one-more : (sources : List CompositeSource) (s : CompositeSource) (row : PlacedRow) → combination_count (sources ++ s ∷ []) row ≡ combination_count sources row * length (source_keys row s)
  one-more [] s row = omega arith
  one-more (t ∷ ts) s row =
      ap (λ (n : ℕ). length (source_keys row t) * n) (one-more ts s row) ∙ sym (mul_assoc (length (source_keys row t)) (combination_count ts row) (length (source_keys row s)))

  pub more-combinations : (sources : List CompositeSource) (j : ℕ) (s : CompositeSource) (before values keys after : ℕ) → j < length sources → s ≡ get_or sources j s
      → HasCombinationsAtMost before (take j sources) rows → HasValuesAtMost values s.field rows → keys ≡ max values 1 → after ≡ before * keys
      → HasCombinationsAtMost after (take (j + 1) sources) rows
  more-combinations sources j s before values keys after inside is so_far few is_keys is_after i below =
      let row = row_of rows i in
      let whole = ap (λ (ss : List CompositeSource). combination_count ss row) (take_more sources j s inside ∙ ap (λ (t : CompositeSource). take j sources ++ t ∷ []) (sym is)) ∙ one-more (take j sources) s row in
      let first = mul-le-mul_right (length (source_keys row s)) (so_far i below) in
      let part : length (source_keys row s) ≤ keys = omega (arith, few-parts s values few i below, is_keys) in
      let second = mul-le-mul_left before part in
      omega (arith, whole, first, second, is_after)

  pub few-composite : (sources : List CompositeSource) (size : ℕ) (after : _) (most : ℕ) → HasCombinationsAtMost most sources rows → HasKeysAtMost most (kind.Composite sources size after) rows
  few-composite sources size after most few i below = let count = composite-count sources (row_of rows i) in omega (arith, few i below, count)
