-- No number of a shard's answer is above the weight of the shard, where a metric's number is not.
use Rattle.std.specs.Prelude.{◌≡◌, refl, ℕ, ◌+◌, ◌-◌, ◌==◌, ◌≤◌, max, Bool, true, false, cond, T, List, [], ◌∷◌, map, flat_map, take, sum_by, length, slice_get, ◌&&◌, nat_le, if◌then◌else◌, Option, None, Some, unwrap_or}
use Rattle.std.specs.List.{list_all, last_or}
use Rattle.std.specs.Option.{option_map_or}
use Rattle.std.proofs.Common.{sym, ◌∙◌, ap, subst, arith}
use Rattle.std.proofs.lemmas.Bool.{and_parts}
use Rattle.std.proofs.lemmas.Bool.Decides.{nat_tests}
use Rattle.std.proofs.lemmas.List.Concat.{length-flat_map}
use Rattle.std.proofs.lemmas.List.Sums.{sum_by-cons}
use Rattle.agg_model.specs.declared.aggregation.Agg.{Agg, Agg', Row_of-Agg, end_of-Agg, more_of-Agg}
use Rattle.agg_model.specs.declared.aggregation.Kind.{Kind}
use Rattle.agg_model.specs.declared.aggregation.Kind.TheVariants as kind
use Rattle.agg_model.specs.Options.{TermsOptions, terms_kind}
use Rattle.agg_model.specs.declared.key.Key.{Key}
use Rattle.agg_model.specs.declared.mapping.Field.{Field}
use Rattle.agg_model.specs.declared.mapping.Mapping.{Mapping}
use Rattle.agg_model.specs.FieldKinds.{is_number_kind, is_whole_kind}
use Rattle.agg_model.specs.declared.partial.Bucket.{Bucket}
use Rattle.agg_model.specs.declared.partial.Metric.{Metric}
use Rattle.agg_model.specs.declared.partial.Node.{Node}
use Rattle.agg_model.specs.declared.partial.Node.TheVariants.{Keyed, Fixed, Number}
use Rattle.agg_model.specs.declared.row.Scalar.{Scalar}
use Rattle.agg_evaluation.specs.Counted.{IsApart, IsCounted}
use Rattle.agg_evaluation.specs.Folds.{fold_aggs}
use Rattle.agg_evaluation.specs.Groups.{under, group, all_keys, total_key_count}
use Rattle.agg_evaluation.specs.KeyOrder.{key_cmp, has_key}
use Rattle.agg_evaluation.specs.Keys.{keys, values_or}
use Rattle.agg_evaluation.specs.Orders.{bucket_key, bucket_count, bucket_cmp}
use Rattle.agg_evaluation.specs.Rows.{PlacedRow, roots}
use Rattle.agg_evaluation.specs.RowsWeight.{rows_weight}
use Rattle.agg_evaluation.specs.QueryFits.{field_is, are_probes}
use Rattle.agg_evaluation.specs.SearchFits.{kind_fits, Made, made_at, handed, agg_fits, is_missing, is_whole_field, orders_fit}
use Rattle.agg_evaluation.specs.Shard.{Collector, fixed_keys, is_terms, page, with_covered, metric_of, bucket_of, node_of, collector_of, collected_node}
use Rattle.agg_evaluation.specs.Whole.{Parts, parts, parts_at}
use Rattle.list_laws.specs.Sorting.{sorted}
use Rattle.agg_evaluation.proofs.AddUpLaws.{terms-add_up}
use Rattle.agg_evaluation.proofs.NodeForms.{out-Keyed, out-Fixed, out-Number}
use Rattle.list_laws.proofs.Booleans.{and_left, and_right, both}
use Rattle.list_laws.proofs.Lists.{sum_by-map}
use Rattle.list_laws.proofs.Occurrences.{all-sorted, all-take, all-map}
use Rattle.list_laws.proofs.Sums.{sum_by-sorted, sum_by-take}
use Rattle.fitting_laws.proofs.Counting.{under_counted, filter_counted, key_counts_light, distinct_length}
use Rattle.agg_evaluation.proofs.MadeSearches.{made_parts}
use Rattle.fitting_laws.proofs.Hits.{counted_light}
use Rattle.fitting_laws.proofs.Reach.{most_each, most_within, most_map, max_within, returned, bucket_reach, parts_reach, reach}

-- a field of whole numbers is one with the value of rows without one
pub whole_field : (m : Mapping) (field : ℕ) (missing : Option Scalar) → is_whole_field m field missing ≡ true → field_is m (λ k. is_missing k missing) field ≡ true
whole_field m field missing h =
    elim (slice_get m.fields field) as (λ o. option_map_or (λ (f : Field). is_whole_kind f.kind && is_missing f.kind missing) o false ≡ true → option_map_or (λ (f : Field). is_missing f.kind missing) o false ≡ true) [
      | None ↦ λ e. e
      | Some f ↦ λ e. (and_parts (is_whole_kind f.kind) (is_missing f.kind missing) e).1
    ] h

-- a field of whole numbers or dates likewise
pub number_field : (m : Mapping) (field : ℕ) (missing : Option Scalar) → field_is m (λ k. is_number_kind k && is_missing k missing) field ≡ true → field_is m (λ k. is_missing k missing) field ≡ true
number_field m field missing h =
    elim (slice_get m.fields field) as (λ o. option_map_or (λ (f : Field). is_number_kind f.kind && is_missing f.kind missing) o false ≡ true → option_map_or (λ (f : Field). is_missing f.kind missing) o false ≡ true) [
      | None ↦ λ e. e
      | Some f ↦ λ e. (and_parts (is_number_kind f.kind) (is_missing f.kind missing) e).1
    ] h

-- A bound on the numbers: the shard weighs no more.
module _ (number : Metric → ℕ) (bound : ℕ) (all : List PlacedRow) (heavy : rows_weight all ≤ bound) where
  abbrev Collects : ℕ → Collector → (Node → ℕ) → Type 0
  Collects context c f = (rows : List PlacedRow) → IsCounted all context rows → f (c.collect rows) ≤ bound

  abbrev EachCollects : ℕ → List Collector → List (Node → ℕ) → Type 0
  EachCollects context [] [] = Unit {0}
  EachCollects context (c ∷ cs) (f ∷ fs) = Collects context c f × EachCollects context cs fs
  EachCollects context _ _ = ⊥

  children_within : (context : ℕ) (cs : List Collector) (fs : List (Node → ℕ)) → EachCollects context cs fs → (rows : List PlacedRow) → IsCounted all context rows → most_each fs (map (λ c. c.collect rows) cs) ≤ bound
  children_within context [] [] h rows counted = omega arith
  children_within context [] (f ∷ fs) h rows counted = absurd h
  children_within context (c ∷ cs) [] h rows counted = absurd h
  children_within context (c ∷ cs) (f ∷ fs) h rows counted = max_within _ _ bound (h.0 rows counted) (children_within context cs fs h.1 rows counted)

  module _ (context : ℕ) (cs : List Collector) (fs : List (Node → ℕ)) (laws : EachCollects context cs fs) (k : Kind) (rows : List PlacedRow) (counted : IsCounted all context rows) where
    abbrev made : Key → Bucket
    made key = bucket_of true all (roots all) k cs rows key

    made_within : (key : Key) → bucket_reach fs (made key) ≤ bound
    made_within key =
        let here = filter_counted all context rows (λ row. has_key key (keys all k row)) counted in
        let light = counted_light all context (group all k rows key) here in
        let children = children_within context cs fs laws (group all k rows key) here in
        omega (arith, light, heavy, children)

    -- buckets by key that are not cut
    plain_within : (ks : List Key) → parts_reach number fs k (record { buckets = map made ks; error = 0; full = 0; cut = 0; metrics = [] }) ≤ max bound (returned k (map made ks))
    plain_within ks = let buckets = most_map (bucket_reach fs) bound made ks made_within in omega (arith, buckets)

    abbrev is_within_bound : Bucket → Bool
    is_within_bound b = nat_le (bucket_reach fs b) bound

    all_within : (ks : List Key) → T (list_all is_within_bound (map made ks))
    all_within ks = all-map is_within_bound made ks (λ key. let h = made_within key in grind (arith, nat_tests, h))

    -- the count of the last one is one of theirs
    last_within : (o : Option ℕ) (bs : List Bucket) → unwrap_or o 0 ≤ bound → T (list_all is_within_bound bs) → unwrap_or (last_or o (map bucket_count bs)) 0 ≤ bound
    last_within o [] g h = g
    last_within o (b ∷ bs) g h =
        let here : T (is_within_bound b) = and_left (is_within_bound b) (list_all is_within_bound bs) h in
        last_within (Some b.count) bs (grind (arith, nat_tests, here)) (and_right (is_within_bound b) (list_all is_within_bound bs) h)

    marked : (e : ℕ) → e ≤ bound → (bs : List Bucket) → T (list_all is_within_bound bs) → T (list_all is_within_bound (map (with_covered e) bs))
    marked e low [] h = tt
    marked e low (b ∷ bs) h =
        let here : T (is_within_bound b) = and_left (is_within_bound b) (list_all is_within_bound bs) h in
        let now : T (is_within_bound (with_covered e b)) = grind (arith, nat_tests, here, low) in
        both (is_within_bound (with_covered e b)) (list_all is_within_bound (map (with_covered e) bs)) now (marked e low bs (and_right (is_within_bound b) (list_all is_within_bound bs) h))

  bucket_lengths : (bs : List Bucket) → length bs ≡ sum_by (λ (b : Bucket). 1) bs
  bucket_lengths [] = refl
  bucket_lengths (b ∷ bs) = let cons = sum_by-cons (λ (b : Bucket). 1) b bs in let rest = bucket_lengths bs in omega (arith, cons, rest)

  key_lengths : (ks : List Key) → length ks ≡ sum_by (λ (k : Key). 1) ks
  key_lengths [] = refl
  key_lengths (k ∷ ks) = let cons = sum_by-cons (λ (k : Key). 1) k ks in let rest = key_lengths ks in omega (arith, cons, rest)

  -- there are at least so many buckets only where there are so many rows
  full_within : (n size : ℕ) → 1 ≤ size → n ≤ bound → (if n == size then 1 else 0) ≤ bound
  full_within n size some low = elim (n == size) as (λ b. (n == size) ≡ b → (if b then 1 else 0) ≤ bound) [ true ↦ λ e. grind (arith, nat_tests, e, some, low) | false ↦ λ e. omega arith ] refl

  error_within : (b : Bool) (n : ℕ) → n ≤ bound → (if b then n else 0) ≤ bound
  error_within true n h = h
  error_within false n h = omega arith

  module _ (context : ℕ) (cs : List Collector) (fs : List (Node → ℕ)) (laws : EachCollects context cs fs) (rows : List PlacedRow) (counted : IsCounted all context rows) where
    terms_within : (t : TermsOptions) → 1 ≤ t.shard_size → parts_reach number fs (terms_kind t) (parts (node_of true all (roots all) cs (terms_kind t) rows)) ≤ bound
    terms_within t some =
        let k = terms_kind t in
        let ks = all_keys all k rows in
        let bs = map (bucket_of true all (roots all) k cs rows) ks in
        let cmp = bucket_cmp (map (λ (c : Collector). c.kind) cs) t.order in
        let kept = take t.shard_size (sorted cmp bs) in
        let is_full = length kept == t.shard_size in
        let last = unwrap_or (last_or None (map bucket_count kept)) 0 in
        let error = if is_full then last else 0 in
        let by_key = sorted (λ (a b : Bucket). key_cmp (bucket_key a) (bucket_key b)) (map (with_covered error) kept) in
        let cut = total_key_count all k rows - sum_by bucket_count kept in
        let test = is_within_bound context cs fs laws k rows counted in
        let light = key_counts_light all context k rows refl counted in
        let each : T (list_all test kept) = all-take test t.shard_size (sorted cmp bs) (all-sorted cmp test bs (all_within context cs fs laws k rows counted ks)) in
        let low : error ≤ bound = error_within is_full last (last_within context cs fs laws k rows counted None kept (omega arith) each) in
        let buckets : T (list_all test by_key) = all-sorted (λ (a b : Bucket). key_cmp (bucket_key a) (bucket_key b)) test (map (with_covered error) kept) (marked context cs fs laws k rows counted error low kept each) in
        let below = most_within (bucket_reach fs) bound by_key buckets in
        let form : parts (node_of true all (roots all) cs k rows) ≡ record { buckets = by_key; error = error; full = if is_full then 1 else 0; cut = cut; metrics = [] } = ap parts_at (out-Keyed by_key error (if is_full then 1 else 0) cut) in
        let added : sum_by bucket_count by_key + cut ≡ total_key_count all k rows = sym (ap (λ (p : Parts). sum_by bucket_count p.buckets + p.cut) form) ∙ terms-add_up all (roots all) cs k refl rows in
        let a = bucket_lengths kept in
        let b = sum_by-take (λ (b : Bucket). 1) t.shard_size (sorted cmp bs) in
        let c = sum_by-sorted (λ (b : Bucket). 1) cmp bs in
        let d = sum_by-map (λ (b : Bucket). 1) (bucket_of true all (roots all) k cs rows) ks in
        let e = key_lengths ks in
        let f = distinct_length (flat_map (keys all k) rows) in
        let g = length-flat_map (keys all k) rows in
        let few : length kept ≤ bound = omega (arith, a, b, c, d, e, f, g, light, heavy) in
        let full = full_within (length kept) t.shard_size some few in
        let all_parts : parts_reach number fs k (record { buckets = by_key; error = error; full = if is_full then 1 else 0; cut = cut; metrics = [] }) ≤ bound = omega (arith, below, low, full, added, light, heavy) in
        subst (λ (p : Parts). parts_reach number fs k p ≤ bound) (sym form) all_parts

    plain : (k : Kind) (ks : List Key) → is_terms k ≡ false → parts_reach number fs k (parts (Keyed (map (bucket_of true all (roots all) k cs rows) ks) 0 0 0)) ≤ bound
    plain k ks e =
        let bs = map (bucket_of true all (roots all) k cs rows) ks in
        let within = plain_within context cs fs laws k rows counted ks in
        let none : returned k bs ≡ 0 = ap (λ b. cond b (sum_by bucket_count bs) 0) e in
        let all_parts : parts_reach number fs k (record { buckets = bs; error = 0; full = 0; cut = 0; metrics = [] }) ≤ bound = omega (arith, within, none) in
        subst (λ (p : Parts). parts_reach number fs k p ≤ bound) (sym (ap parts_at (out-Keyed bs 0 0 0))) all_parts

    started : (k : Kind) (ks : List Key) → is_terms k ≡ false → parts_reach number fs k (parts (Fixed (map (bucket_of true all (roots all) k cs rows) ks))) ≤ bound
    started k ks e =
        let bs = map (bucket_of true all (roots all) k cs rows) ks in
        let within = plain_within context cs fs laws k rows counted ks in
        let none : returned k bs ≡ 0 = ap (λ b. cond b (sum_by bucket_count bs) 0) e in
        let all_parts : parts_reach number fs k (record { buckets = bs; error = 0; full = 0; cut = 0; metrics = [] }) ≤ bound = omega (arith, within, none) in
        subst (λ (p : Parts). parts_reach number fs k p ≤ bound) (sym (ap parts_at (out-Fixed bs))) all_parts

    measured : (k : Kind) (x : Metric) → is_terms k ≡ false → number x ≤ bound → parts_reach number fs k (parts (Number x)) ≤ bound
    measured k x e low =
        let none : returned k [] ≡ 0 = ap (λ b. cond b 0 0) e in
        let all_parts : parts_reach number fs k (record { buckets = []; error = 0; full = 0; cut = 0; metrics = x ∷ [] }) ≤ bound = omega (arith, none, low) in
        subst (λ (p : Parts). parts_reach number fs k p ≤ bound) (sym (ap parts_at (out-Number x))) all_parts

  -- numbers of metrics over fields of the mapping
  module _ (m : Mapping) (numbers : (field : ℕ) (missing : Option Scalar) → field_is m (λ k. is_missing k missing) field ≡ true → (context : ℕ) (rows : List PlacedRow) → IsCounted all context rows
      → number (metric_of (flat_map (values_or field missing) rows)) ≤ bound) where
    node_within : (context : ℕ) (cs : List Collector) (fs : List (Node → ℕ)) → EachCollects context cs fs → (top : Bool) (outer : ℕ) (children : List Kind) (k : Kind) → kind_fits m top outer children k ≡ true
        → (rows : List PlacedRow) → IsCounted all context rows → parts_reach number fs k (parts (node_of true all (roots all) cs k rows)) ≤ bound
    node_within context cs fs laws top outer children (kind.Terms field size shard_size least order include exclude missing show) h rows counted =
        let t : TermsOptions = record { field = field; size = size; shard_size = shard_size; min_doc_count = least; order = order; include = include; exclude = exclude; missing = missing; show_error = show } in
        let first = and_parts (field_is m (λ k. option_map_or (are_probes k) include true && (are_probes k exclude && is_missing k missing)) field) (nat_le 1 size && (nat_le size shard_size && (nat_le 1 least && orders_fit children order))) h in
        let second = and_parts (nat_le 1 size) (nat_le size shard_size && (nat_le 1 least && orders_fit children order)) first.1 in
        let third = (and_parts (nat_le size shard_size) (nat_le 1 least && orders_fit children order) second.1).0 in
        let some = second.0 in
        terms_within context cs fs laws rows counted t (grind (arith, nat_tests, some, third))
    node_within context cs fs laws top outer children (kind.Histogram field interval offset least extended hard keyed order missing) h rows counted =
        let k = kind.Histogram field interval offset least extended hard keyed order missing in
        plain context cs fs laws rows counted k (all_keys all k rows) refl
    node_within context cs fs laws top outer children (kind.DateHistogram field period zone least extended hard keyed order missing) h rows counted =
        let k = kind.DateHistogram field period zone least extended hard keyed order missing in
        plain context cs fs laws rows counted k (all_keys all k rows) refl
    node_within context cs fs laws top outer children (kind.Composite sources size after) h rows counted =
        let k = kind.Composite sources size after in
        plain context cs fs laws rows counted k (page sources size after (all_keys all k rows)) refl
    node_within context cs fs laws top outer children (kind.Sum field missing) h rows counted = measured context cs fs laws rows counted (kind.Sum field missing) _ refl (numbers field missing (whole_field m field missing h) context rows counted)
    node_within context cs fs laws top outer children (kind.Min field missing) h rows counted = measured context cs fs laws rows counted (kind.Min field missing) _ refl (numbers field missing (number_field m field missing h) context rows counted)
    node_within context cs fs laws top outer children (kind.Max field missing) h rows counted = measured context cs fs laws rows counted (kind.Max field missing) _ refl (numbers field missing (number_field m field missing h) context rows counted)
    node_within context cs fs laws top outer children (kind.Avg field missing) h rows counted = measured context cs fs laws rows counted (kind.Avg field missing) _ refl (numbers field missing (whole_field m field missing h) context rows counted)
    node_within context cs fs laws top outer children (kind.ValueCount field missing) h rows counted = measured context cs fs laws rows counted (kind.ValueCount field missing) _ refl (numbers field missing h context rows counted)
    node_within context cs fs laws top outer children (kind.Filters a b c) h rows counted = started context cs fs laws rows counted (kind.Filters a b c) (fixed_keys (kind.Filters a b c)) refl
    node_within context cs fs laws top outer children (kind.Filter a) h rows counted = started context cs fs laws rows counted (kind.Filter a) (fixed_keys (kind.Filter a)) refl
    node_within context cs fs laws top outer children (kind.Missing a) h rows counted = started context cs fs laws rows counted (kind.Missing a) (fixed_keys (kind.Missing a)) refl
    node_within context cs fs laws top outer children kind.Global h rows counted = started context cs fs laws rows counted kind.Global (fixed_keys kind.Global) refl
    node_within context cs fs laws top outer children (kind.Nested a) h rows counted = started context cs fs laws rows counted (kind.Nested a) (fixed_keys (kind.Nested a)) refl
    node_within context cs fs laws top outer children (kind.ReverseNested a) h rows counted = started context cs fs laws rows counted (kind.ReverseNested a) (fixed_keys (kind.ReverseNested a)) refl

    module _ (apart : IsApart all) where
      mutual
        pub collected_within : (top : Bool) (context : ℕ) (a : Agg) → agg_fits m top context a ≡ true → (rows : List PlacedRow) → IsCounted all context rows → reach number a (collected_node true all (roots all) a rows) ≤ bound
        collected_within top context (Agg' name k n children) h rows counted =
            let made = made_parts m k (fold_aggs (made_at m) children) top context h in
            node_within (handed context k) (fold_aggs (collector_of true all (roots all)) children) (fold_aggs (λ a n. parts_reach number a.children a.kind (parts n)) children)
            (each_within (handed context k) children made.1) top context (map (λ (c : Made). c.kind) (fold_aggs (made_at m) children)) k made.0 (under all (roots all) k rows) (under_counted all context k rows apart counted)

        each_within : {n : _} (context : ℕ) (cs : Row_of-Agg n) → list_all (λ (c : Made). c.fits false context) (fold_aggs (made_at m) cs) ≡ true
            → EachCollects context (fold_aggs (collector_of true all (roots all)) cs) (fold_aggs (λ a n. parts_reach number a.children a.kind (parts n)) cs)
        each_within context end_of-Agg h = tt
        each_within context (more_of-Agg c rest) h =
            let both = and_parts (agg_fits m false context c) (list_all (λ (c : Made). c.fits false context) (fold_aggs (made_at m) rest)) h in
            (collected_within false context c both.0, each_within context rest both.1)
