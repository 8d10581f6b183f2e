-- What an aggregation counts of counted rows is counted again, and has at most as many keys as the shard weighs.
use Rattle.std.specs.Prelude.{◌≡◌, refl, ℕ, suc, ◌+◌, ◌==◌, ◌≤◌, Bool, true, false, ◌&&◌, cond, List, [], ◌∷◌, map, filter, flat_map, length, sum_by, find, unwrap_or, option_map, Option, Some, None}
use Rattle.std.specs.List.{list_all, list_any}
use Rattle.std.specs.Ordering.{match_ordering}
use Rattle.std.specs.declared.cmp.Ordering.TheVariants.{Less, Equal, Greater}
use Rattle.std.proofs.Common.{sym, ◌∙◌, subst, arith}
use Rattle.std.proofs.lemmas.Bool.{false≢true, and_parts, and_from}
use Rattle.std.proofs.lemmas.List.{length-map}
use Rattle.std.proofs.lemmas.List.Folds.{list_all-append}
use Rattle.std.proofs.lemmas.List.Sums.{sum_by-cons}
use Rattle.agg_model.specs.declared.aggregation.Bounds.{Bounds}
use Rattle.agg_model.specs.declared.aggregation.Spacing.{Spacing}
use Rattle.agg_model.specs.declared.aggregation.Spacing.TheVariants.{Numbers, Dates}
use Rattle.agg_model.specs.declared.aggregation.Kind.{Kind}
use Rattle.agg_model.specs.declared.aggregation.Kind.TheVariants as kind
use Rattle.agg_model.specs.declared.key.Key.{Key}
use Rattle.agg_model.specs.declared.query.Probe.{Probe}
use Rattle.agg_model.specs.declared.row.FieldValues.{FieldValues}
use Rattle.agg_model.specs.declared.row.Scalar.{Scalar}
use Rattle.agg_model.specs.declared.row.Scalar.TheVariants as scalar
use Rattle.agg_evaluation.specs.Groups.{under, total_key_count}
use Rattle.agg_evaluation.specs.KeyOrder.{key_cmp}
use Rattle.agg_model.specs.ValueKeys.{scalar_key}
use Rattle.agg_evaluation.specs.Keys.{keys, distinct_keys, or_missing, values_or, term_keys, interval_key, histogram_keys, is_included, is_between}
use Rattle.agg_evaluation.specs.Rows.{PlacedRow, roots, beneath, enclosing, is_within, values_of}
use Rattle.list_laws.specs.Sorting.{insert_once}
use Rattle.list_laws.proofs.Lists.{sum_by-flat_map}
use Rattle.list_laws.proofs.Sums.{sum_by-at_most, sum_by-exchange, sum_by-where, sum_by-filter}
use Rattle.agg_evaluation.specs.RowsWeight.{row_weight, rows_weight}
use Rattle.agg_model.specs.Weight.{scalar_weight, field_weight}
use Rattle.agg_evaluation.specs.SearchFits.{handed}
use Rattle.agg_evaluation.specs.Counted.{is_by_value, is_around_row, IsApart, are_of_context, IsCounted}

kept_all : (p q : PlacedRow → Bool) (rows : List PlacedRow) → list_all p rows ≡ true → list_all p (filter q rows) ≡ true
kept_all p q [] h = refl
kept_all p q (r ∷ rows) h =
    let parts = and_parts (p r) (list_all p rows) h in
    elim (q r) as (λ b. list_all p (cond b (r ∷ filter q rows) (filter q rows)) ≡ true) [ true ↦ and_from _ _ parts.0 (kept_all p q rows parts.1) | false ↦ kept_all p q rows parts.1 ]

filtered_own : (context : ℕ) (q : PlacedRow → Bool) (rows : List PlacedRow) → are_of_context context (filter (λ r. (r.context == context) && q r) rows) ≡ true
filtered_own context q [] = refl
filtered_own context q (r ∷ rows) =
    elim ((r.context == context) && q r) as (λ b. ((r.context == context) && q r) ≡ b → are_of_context context (cond b (r ∷ filter (λ r. (r.context == context) && q r) rows) (filter (λ r. (r.context == context) && q r) rows)) ≡ true) [
      | true ↦ λ e. and_from _ _ (and_parts (r.context == context) (q r) e).0 (filtered_own context q rows)
      | false ↦ λ e. filtered_own context q rows
    ] refl

beneath_own : (all : List PlacedRow) (context : ℕ) (rows : List PlacedRow) → are_of_context context (flat_map (beneath all context) rows) ≡ true
beneath_own all context [] = refl
beneath_own all context (o ∷ rows) = list_all-append (λ (r : PlacedRow). r.context == context) (beneath all context o) (flat_map (beneath all context) rows) ∙ and_from _ _ (filtered_own context (λ r. is_within r o) all) (beneath_own all context rows)

-- rows that are filtered of counted ones
pub filter_counted : (all : List PlacedRow) (context : ℕ) (rows : List PlacedRow) (p : PlacedRow → Bool) → IsCounted all context rows → IsCounted all context (filter p rows)
filter_counted all context rows p h = record {
  within = λ f. let less = sum_by-filter f p rows in let more = h.within f in omega (arith, less, more);
  own = kept_all (λ r. r.context == context) p rows h.own;
}

at_most_one : (n : ℕ) (xs : List PlacedRow) → length xs ≤ 1 → sum_by (λ (x : PlacedRow). n) xs ≤ n
at_most_one n [] h = omega arith
at_most_one n (x ∷ []) h = let one = sum_by-cons (λ (x : PlacedRow). n) x [] in omega (arith, one)
at_most_one n (x ∷ y ∷ xs) h = absurd (omega (arith, h))

module _ (all : List PlacedRow) (context : ℕ) (inner : ℕ) (rows : List PlacedRow) (h : IsCounted all context rows) (apart : IsApart all) where
  -- what one row below adds for each row around it
  for_each : (f : PlacedRow → ℕ) (r : PlacedRow) (os : List PlacedRow) → are_of_context context os ≡ true
      → sum_by (λ (o : PlacedRow). cond ((r.context == inner) && is_within r o) (f r) 0) os ≤ sum_by (λ (o : PlacedRow). cond (is_around_row context r o) (f r) 0) os
  for_each f r [] own = omega arith
  for_each f r (o ∷ os) own =
      let parts = and_parts (o.context == context) (are_of_context context os) own in
      let left = sum_by-cons (λ (o : PlacedRow). cond ((r.context == inner) && is_within r o) (f r) 0) o os in
      let right = sum_by-cons (λ (o : PlacedRow). cond (is_around_row context r o) (f r) 0) o os in
      let rest = for_each f r os parts.1 in
      let first : cond ((r.context == inner) && is_within r o) (f r) 0 ≤ cond (is_around_row context r o) (f r) 0 =
      subst (λ b. cond ((r.context == inner) && is_within r o) (f r) 0 ≤ cond (b && is_within r o) (f r) 0) (sym parts.0) (less (r.context == inner) (is_within r o) (f r)) in
      omega (arith, left, right, rest, first)
    where
      less : (a b : Bool) (n : ℕ) → cond (a && b) n 0 ≤ cond b n 0
      less true b n = omega arith
      less false true n = omega arith
      less false false n = omega arith

  one_row : (f : PlacedRow → ℕ) (r : PlacedRow) → sum_by (λ (o : PlacedRow). cond ((r.context == inner) && is_within r o) (f r) 0) rows ≤ f r
  one_row f r =
      let a = for_each f r rows h.own in
      let b = h.within (λ (o : PlacedRow). cond (is_around_row context r o) (f r) 0) in
      let c = sum_by-where (λ (o : PlacedRow). f r) (is_around_row context r) all in
      let d = at_most_one (f r) (filter (is_around_row context r) all) (apart r context) in
      omega (arith, a, b, c, d)

  pub beneath_counted : IsCounted all inner (flat_map (beneath all inner) rows)
  beneath_counted = record {
    within = λ f.
        let a = sum_by-flat_map f (beneath all inner) rows in
        let b : sum_by (λ (o : PlacedRow). sum_by f (beneath all inner o)) rows ≡ sum_by (λ (o : PlacedRow). sum_by (λ (r : PlacedRow). cond ((r.context == inner) && is_within r o) (f r) 0) all) rows =
        (λ i. sum_by (λ (o : PlacedRow). sum_by-where f (λ r. (r.context == inner) && is_within r o) all i) rows) in
        let c = sum_by-exchange (λ (o r : PlacedRow). cond ((r.context == inner) && is_within r o) (f r) 0) rows all in
        let d = sum_by-at_most (λ (r : PlacedRow). sum_by (λ (o : PlacedRow). cond ((r.context == inner) && is_within r o) (f r) 0) rows) f all (one_row f) in
        omega (arith, a, b, c, d);
    own = beneath_own all inner rows;
  }

module _ (all : List PlacedRow) where
  pub roots_counted : IsCounted all 0 (roots all)
  roots_counted = record { within = λ f. sum_by-filter f (λ r. r.context == 0) all; own = roots_own all }
    where
      roots_own : (rows : List PlacedRow) → are_of_context 0 (roots rows) ≡ true
      roots_own [] = refl
      roots_own (r ∷ rows) = elim (r.context == 0) as (λ b. (r.context == 0) ≡ b → are_of_context 0 (cond b (r ∷ roots rows) (roots rows)) ≡ true) [ true ↦ λ e. and_from _ _ e (roots_own rows) | false ↦ λ e. roots_own rows ] refl

  pub enclosing_counted : (context : ℕ) (rows : List PlacedRow) → IsCounted all context (enclosing all context rows)
  enclosing_counted context rows = record {
    within = λ f. sum_by-filter f (λ r. (r.context == context) && list_any (λ i. is_within i r) rows) all;
    own = filtered_own context (λ r. list_any (λ i. is_within i r) rows) all;
  }

  -- what an aggregation counts of the rows that it is handed
  pub under_counted : (context : ℕ) (k : Kind) (rows : List PlacedRow) → IsApart all → IsCounted all context rows → IsCounted all (handed context k) (under all (roots all) k rows)
  under_counted context (kind.Nested inner) rows apart h = beneath_counted all context inner rows h apart
  under_counted context (kind.ReverseNested outer) rows apart h = enclosing_counted outer rows
  under_counted context kind.Global rows apart h = roots_counted
  under_counted context (kind.Terms a b c d n f g e i) rows apart h = h
  under_counted context (kind.Histogram a b c d n f g e i) rows apart h = h
  under_counted context (kind.DateHistogram a b c d n f g e i) rows apart h = h
  under_counted context (kind.Filters a b c) rows apart h = h
  under_counted context (kind.Filter a) rows apart h = h
  under_counted context (kind.Missing a) rows apart h = h
  under_counted context (kind.Composite a b c) rows apart h = h
  under_counted context (kind.Sum a b) rows apart h = h
  under_counted context (kind.Min a b) rows apart h = h
  under_counted context (kind.Max a b) rows apart h = h
  under_counted context (kind.Avg a b) rows apart h = h
  under_counted context (kind.ValueCount a b) rows apart h = h

-- the keys of a row

once_length : (k : Key) (ks : List Key) → length (insert_once key_cmp k ks) ≤ suc (length ks)
once_length k [] = omega arith
once_length k (j ∷ ks) =
    let rest = once_length k ks in
    elim (key_cmp k j) as (λ o. length (match_ordering o (k ∷ j ∷ ks) (j ∷ ks) (j ∷ insert_once key_cmp k ks)) ≤ suc (suc (length ks))) [ Less ↦ omega arith | Equal ↦ omega arith | Greater ↦ omega (arith, rest) ]

pub distinct_length : (ks : List Key) → length (distinct_keys ks) ≤ length ks
distinct_length [] = omega arith
distinct_length (k ∷ ks) = omega (arith, once_length k (distinct_keys ks), distinct_length ks)

filter_length : (p : Key → Bool) (ks : List Key) → length (filter p ks) ≤ length ks
filter_length p [] = omega arith
filter_length p (k ∷ ks) = let rest = filter_length p ks in elim (p k) as (λ b. length (cond b (k ∷ filter p ks) (filter p ks)) ≤ suc (length ks)) [ true ↦ omega (arith, rest) | false ↦ omega (arith, rest) ]

missing_length : (missing : Option Scalar) (vs : List Scalar) → length (or_missing missing vs) ≤ 1 + length vs
missing_length None [] = omega arith
missing_length (Some s) [] = omega arith
missing_length missing (v ∷ vs) = omega arith

values_light : (vs : List Scalar) → length vs ≤ sum_by scalar_weight vs
values_light [] = omega arith
values_light (scalar.Whole n ∷ vs) = omega (arith, sum_by-cons scalar_weight (scalar.Whole n) vs, values_light vs)
values_light (scalar.Flag b ∷ vs) = omega (arith, sum_by-cons scalar_weight (scalar.Flag b) vs, values_light vs)
values_light (scalar.Word w ∷ vs) = omega (arith, sum_by-cons scalar_weight (scalar.Word w) vs, values_light vs)

found_light : (field : ℕ) (fs : List FieldValues) → length (unwrap_or (option_map (λ (v : FieldValues). v.values) (find (λ (v : FieldValues). v.field == field) fs)) []) ≤ sum_by field_weight fs
found_light field [] = omega arith
found_light field (f ∷ fs) =
    let all = sum_by-cons field_weight f fs in
    let rest = found_light field fs in
    let here = values_light f.values in
    elim (f.field == field) as (λ b. length (unwrap_or (option_map (λ (v : FieldValues). v.values) (cond b (Some f) (find (λ (v : FieldValues). v.field == field) fs))) []) ≤ sum_by field_weight (f ∷ fs)) [ true ↦ omega (arith, all, here) | false ↦ omega (arith, all, rest) ]

pub values_or_light : (field : ℕ) (missing : Option Scalar) (row : PlacedRow) → length (values_or field missing row) ≤ row_weight row
values_or_light field missing row = let a = missing_length missing (values_of field row) in let b = found_light field row.values in omega (arith, a, b)

term_keys_light : (field : ℕ) (include : Option (List Probe)) (exclude : List Probe) (missing : Option Scalar) (row : PlacedRow) → length (term_keys field include exclude missing row) ≤ row_weight row
term_keys_light field include exclude missing row =
    let vs = values_or field missing row in
    let a = filter_length (is_included include exclude) (distinct_keys (map scalar_key vs)) in
    let b = distinct_length (map scalar_key vs) in
    let c = length-map vs scalar_key in
    let d = values_or_light field missing row in
    omega (arith, a, b, c, d)

interval_length : (spacing : Spacing) (vs : List Scalar) → length (flat_map (interval_key spacing) vs) ≤ length vs
interval_length spacing [] = omega arith
interval_length spacing (scalar.Whole n ∷ vs) = omega (arith, interval_length spacing vs)
interval_length spacing (scalar.Word n ∷ vs) = omega (arith, interval_length spacing vs)
interval_length spacing (scalar.Flag n ∷ vs) = omega (arith, interval_length spacing vs)

histogram_keys_light : (field : ℕ) (spacing : Spacing) (hard : Bounds) (missing : Option Scalar) (row : PlacedRow) → length (histogram_keys field spacing hard missing row) ≤ row_weight row
histogram_keys_light field spacing hard missing row =
    let vs = values_or field missing row in
    let a = filter_length (is_between hard) (distinct_keys (flat_map (interval_key spacing) vs)) in
    let b = distinct_length (flat_map (interval_key spacing) vs) in
    let c = interval_length spacing vs in
    let d = values_or_light field missing row in
    omega (arith, a, b, c, d)

one_light : (all : List PlacedRow) (k : Kind) → is_by_value k ≡ true → (row : PlacedRow) → length (keys all k row) ≤ row_weight row
one_light all (kind.Terms field size shard_size least order include exclude missing show) e row = term_keys_light field include exclude missing row
one_light all (kind.Histogram field interval offset least extended hard keyed order missing) e row = histogram_keys_light field (Numbers interval offset) hard missing row
one_light all (kind.DateHistogram field period zone least extended hard keyed order missing) e row = histogram_keys_light field (Dates period zone) hard missing row
one_light all (kind.Filters a b c) e row = absurd (false≢true e)
one_light all (kind.Filter a) e row = absurd (false≢true e)
one_light all (kind.Missing a) e row = absurd (false≢true e)
one_light all kind.Global e row = absurd (false≢true e)
one_light all (kind.Nested a) e row = absurd (false≢true e)
one_light all (kind.ReverseNested a) e row = absurd (false≢true e)
one_light all (kind.Composite a b c) e row = absurd (false≢true e)
one_light all (kind.Sum a b) e row = absurd (false≢true e)
one_light all (kind.Min a b) e row = absurd (false≢true e)
one_light all (kind.Max a b) e row = absurd (false≢true e)
one_light all (kind.Avg a b) e row = absurd (false≢true e)
one_light all (kind.ValueCount a b) e row = absurd (false≢true e)

pub key_counts_light : (all : List PlacedRow) (context : ℕ) (k : Kind) (rows : List PlacedRow) → is_by_value k ≡ true → IsCounted all context rows → total_key_count all k rows ≤ rows_weight all
key_counts_light all context k rows e h =
    let a = sum_by-at_most (λ (row : PlacedRow). length (keys all k row)) row_weight rows (one_light all k e) in
    let b = h.within row_weight in
    omega (arith, a, b)
