-- A shard's answer has keys such as its aggregations make, and terms covered by its error.
use Rattle.std.specs.Prelude.{◌≡◌, refl, ℕ, ◌-◌, ◌==◌, ◌<◌, ◌^◌, Bool, true, false, cond, ◌&&◌, T, List, [], ◌∷◌, map, filter, flat_map, take, sum_by, length, nat_le, nat_lt, if◌then◌else◌, Option, None, unwrap_or}
use Rattle.std.specs.List.{list_all, last_or}
use Rattle.std.specs.Option.{option_map_or}
use Rattle.std.specs.Ordering.{is_gt}
use Rattle.std.proofs.Common.{sym, ap, subst, arith}
use Rattle.std.proofs.lemmas.Bool.{and_parts}
use Rattle.std.proofs.lemmas.Bool.Decides.{nat_tests}
use Rattle.date_spec.specs.Instants.{is_in_range}
use Rattle.agg_model.specs.FieldKinds.{fits_below}
use Rattle.agg_model.specs.Options.{TermsOptions, terms_kind}
use Rattle.agg_model.specs.BoundsOrder.{is_at_most, lies_within}
use Rattle.agg_model.specs.declared.aggregation.Agg.{Agg, Agg', Row_of-Agg, end_of-Agg, more_of-Agg}
use Rattle.agg_model.specs.declared.aggregation.CompositeSource.{CompositeSource}
use Rattle.agg_model.specs.declared.aggregation.Spacing.TheVariants.{Numbers, Dates}
use Rattle.agg_model.specs.declared.aggregation.Kind.{Kind}
use Rattle.agg_model.specs.declared.aggregation.Kind.TheVariants as kind
use Rattle.agg_model.specs.declared.key.Key.{Key}
use Rattle.agg_model.specs.declared.mapping.Mapping.{Mapping}
use Rattle.agg_model.specs.declared.partial.Bucket.{Bucket}
use Rattle.agg_model.specs.declared.partial.Metric.{Metric}
use Rattle.agg_model.specs.declared.partial.Node.{Node}
use Rattle.agg_model.specs.declared.partial.Node.TheVariants.{Keyed, Fixed, Number}
use Rattle.agg_evaluation.specs.Conditions.{is_spaced}
use Rattle.agg_evaluation.specs.Counted.{IsApart, IsCounted}
use Rattle.agg_evaluation.specs.Folds.{fold_aggs}
use Rattle.agg_evaluation.specs.Groups.{under, group, all_keys, total_key_count}
use Rattle.agg_evaluation.specs.KeyOrder.{key_cmp, has_key}
use Rattle.agg_evaluation.specs.Keys.{keys}
use Rattle.agg_evaluation.specs.Orders.{bucket_key, bucket_count, bucket_cmp, composite_cmp}
use Rattle.agg_evaluation.specs.PlacedFits.{rows_placed}
use Rattle.agg_evaluation.specs.Rows.{PlacedRow, roots}
use Rattle.agg_evaluation.specs.SearchFits.{kind_fits, Made, made_at, handed, agg_fits, is_whole_field, is_date_field, is_interval, orders_fit}
use Rattle.agg_evaluation.specs.Spacings.{is_period, is_zone, are_instants}
use Rattle.agg_evaluation.specs.Shard.{Collector, fixed_keys, is_terms, page, with_covered, bucket_of, node_of, collector_of, collected_node}
use Rattle.agg_evaluation.specs.Trees.{pass_each, have_children}
use Rattle.agg_evaluation.specs.Whole.{Parts, parts, parts_at}
use Rattle.list_laws.specs.Sorting.{sorted}
use Rattle.agg_evaluation.proofs.NodeForms.{out-Keyed, out-Fixed, out-Number}
use Rattle.list_laws.proofs.Booleans.{and_left, and_right, both}
use Rattle.list_laws.proofs.Occurrences.{all-sorted, all-take, all-map}
use Rattle.fitting_laws.proofs.BucketKeys.{distinct_all, number_starts, instant_starts, histogram_rows, composite_rows}
use Rattle.fitting_laws.proofs.Counting.{under_counted, filter_counted}
use Rattle.agg_evaluation.proofs.MadeSearches.{made_parts}
use Rattle.agg_evaluation.proofs.SpacingLaws.{period-is, zone-is}
use Rattle.fitting_laws.proofs.Measures.{counted_64, counted_dated}
use Rattle.fitting_laws.proofs.Owns.{is_made_key, made_keys, are_covered, owns_parts, owns}
use Rattle.fitting_laws.proofs.ReachShards.{whole_field}

-- what holds of keys holds of those of a page
pub page_all : (p : Key → Bool) (sources : List CompositeSource) (size : ℕ) (after : Option Key) (ks : List Key) → T (list_all p ks) → T (list_all p (page sources size after ks))
page_all p sources size after ks h =
    let order = composite_cmp sources in
    let beyond = λ (k : Key). option_map_or (λ a. is_gt (order k a)) after true in
    all-sorted key_cmp p (take size (filter beyond (sorted order ks))) (all-take p size (filter beyond (sorted order ks)) (kept beyond (sorted order ks) (all-sorted order p ks h)))
  where
    kept : (q : Key → Bool) (ks : List Key) → T (list_all p ks) → T (list_all p (filter q ks))
    kept q [] h = tt
    kept q (k ∷ ks) h = elim (q k) as (λ b. T (list_all p (cond b (k ∷ filter q ks) (filter q ks)))) [ true ↦ both _ _ (and_left _ _ h) (kept q ks (and_right _ _ h)) | false ↦ kept q ks (and_right _ _ h) ]

module _ (all : List PlacedRow) where
  abbrev Makes : ℕ → Collector → (Node → Bool) → Type 0
  Makes context c o = (rows : List PlacedRow) → IsCounted all context rows → T (o (c.collect rows))

  abbrev EachMakes : ℕ → List Collector → List (Node → Bool) → Type 0
  EachMakes context [] [] = Unit {0}
  EachMakes context (c ∷ cs) (o ∷ os) = Makes context c o × EachMakes context cs os
  EachMakes context _ _ = ⊥

  children_made : (context : ℕ) (cs : List Collector) (os : List (Node → Bool)) → EachMakes context cs os → (rows : List PlacedRow) → IsCounted all context rows → T (pass_each os (map (λ c. c.collect rows) cs))
  children_made context [] [] h rows counted = tt
  children_made context [] (o ∷ os) h rows counted = absurd h
  children_made context (c ∷ cs) [] h rows counted = absurd h
  children_made context (c ∷ cs) (o ∷ os) h rows counted = both _ _ (h.0 rows counted) (children_made context cs os h.1 rows counted)

  module _ (context : ℕ) (cs : List Collector) (os : List (Node → Bool)) (laws : EachMakes context cs os) (rows : List PlacedRow) (counted : IsCounted all context rows) where
    abbrev buckets_of : Kind → List Key → List Bucket
    buckets_of k ks = map (bucket_of true all (roots all) k cs rows) ks

    have : (k : Kind) (ks : List Key) → T (have_children os (buckets_of k ks))
    have k ks = all-map (λ b. pass_each os b.children) (bucket_of true all (roots all) k cs rows) ks (λ key.
        children_made context cs os laws (group all k rows key) (filter_counted all context rows (λ row. has_key key (keys all k row)) counted))

    keys_are : (k : Kind) (ks : List Key) → T (list_all (is_made_key k) ks) → T (made_keys k (buckets_of k ks))
    keys_are k [] h = tt
    keys_are k (key ∷ ks) h = both (is_made_key k key) _ (and_left (is_made_key k key) (list_all (is_made_key k) ks) h) (keys_are k ks (and_right (is_made_key k key) (list_all (is_made_key k) ks) h))

    -- buckets that are not cut
    plain : (k : Kind) (ks : List Key) → is_terms k ≡ false → T (list_all (is_made_key k) ks)
        → T (owns_parts os k (record { buckets = buckets_of k ks; error = 0; full = 0; cut = 0; metrics = [] }))
    plain k ks e h = both (made_keys k (buckets_of k ks)) _ (keys_are k ks h)
        (both (cond (is_terms k) (are_covered 0 (buckets_of k ks)) true) _ (subst (λ b. T (cond b (are_covered 0 (buckets_of k ks)) true)) (sym e) tt) (have k ks))

    keyed : (k : Kind) (ks : List Key) → is_terms k ≡ false → T (list_all (is_made_key k) ks) → T (owns_parts os k (parts (Keyed (buckets_of k ks) 0 0 0)))
    keyed k ks e h = subst (λ (p : Parts). T (owns_parts os k p)) (sym (ap parts_at (out-Keyed (buckets_of k ks) 0 0 0))) (plain k ks e h)

    started : (k : Kind) → is_terms k ≡ false → ((key : Key) → T (is_made_key k key)) → T (owns_parts os k (parts (Fixed (buckets_of k (fixed_keys k)))))
    started k e free = subst (λ (p : Parts). T (owns_parts os k p)) (sym (ap parts_at (out-Fixed (buckets_of k (fixed_keys k))))) (plain k (fixed_keys k) e (every (fixed_keys k)))
      where
        every : (ks : List Key) → T (list_all (is_made_key k) ks)
        every [] = tt
        every (q ∷ ks) = both (is_made_key k q) _ (free q) (every ks)

    number : (k : Kind) (x : Metric) → is_terms k ≡ false → T (owns_parts os k (parts (Number x)))
    number k x e = subst (λ (p : Parts). T (owns_parts os k p)) (sym (ap parts_at (out-Number x))) (subst (λ b. T (cond b (are_covered 0 []) true && true)) (sym e) tt)

    -- terms are covered by the error exactly, and cutting keeps the children
    terms : (t : TermsOptions) → T (owns_parts os (terms_kind t) (parts (node_of true all (roots all) cs (terms_kind t) rows)))
    terms t =
        let k = terms_kind t in
        let bs = buckets_of k (all_keys all k rows) in
        let cmp = bucket_cmp (map (λ (c : Collector). c.kind) cs) t.order in
        let kept = take t.shard_size (sorted cmp bs) in
        let is_full = length kept == t.shard_size in
        let error = if is_full then unwrap_or (last_or None (map bucket_count kept)) 0 else 0 in
        let in_order = λ (a b : Bucket). key_cmp (bucket_key a) (bucket_key b) in
        let by_key = sorted in_order (map (with_covered error) kept) in
        let cut = total_key_count all k rows - sum_by bucket_count kept in
        let child = λ (b : Bucket). pass_each os b.children in
        let each : T (list_all child kept) = all-take child t.shard_size (sorted cmp bs) (all-sorted cmp child bs (have k (all_keys all k rows))) in
        subst (λ (p : Parts). T (owns_parts os k p)) (sym (ap parts_at (out-Keyed by_key error (if is_full then 1 else 0) cut)))
        (both (made_keys k by_key) _ (free by_key) (both (are_covered error by_key) _ (all-sorted in_order (λ b. nat_le b.covered error) (map (with_covered error) kept) (marked error kept))
        (all-sorted in_order child (map (with_covered error) kept) (same error kept each))))
      where
        free : (bs : List Bucket) → T (list_all (λ (b : Bucket). true) bs)
        free [] = tt
        free (b ∷ bs) = free bs

        marked : (error : ℕ) (bs : List Bucket) → T (are_covered error (map (with_covered error) bs))
        marked error bs = all-map (λ b. nat_le b.covered error) (with_covered error) bs (λ b. grind (arith, nat_tests))

        same : (error : ℕ) (bs : List Bucket) → T (list_all (λ (b : Bucket). pass_each os b.children) bs) → T (list_all (λ (b : Bucket). pass_each os b.children) (map (with_covered error) bs))
        same error [] h = tt
        same error (b ∷ bs) h = both _ _ (and_left _ _ h) (same error bs (and_right _ _ h))

  module _ (m : Mapping) (placed : rows_placed m all ≡ true) where
    node_owns : (context : ℕ) (cs : List Collector) (os : List (Node → Bool)) → EachMakes context cs os → (top : Bool) (outer : ℕ) (children : List Kind) (k : Kind) → kind_fits m top outer children k ≡ true
        → (rows : List PlacedRow) → IsCounted all context rows → T (owns_parts os k (parts (node_of true all (roots all) cs k rows)))
    node_owns context cs os laws top outer children (kind.Terms field size shard_size least order include exclude missing show) h rows counted =
        terms context cs os laws rows counted (record { field = field; size = size; shard_size = shard_size; min_doc_count = least; order = order; include = include; exclude = exclude; missing = missing; show_error = show })
    node_owns context cs os laws top outer children (kind.Histogram field interval offset least extended hard is_keyed order missing) h rows counted =
        let k = kind.Histogram field interval offset least extended hard is_keyed order missing in
        let rest = is_at_most extended.min extended.max && (is_at_most hard.min hard.max && (lies_within extended hard && orders_fit children order)) in
        let first = and_parts (is_whole_field m field missing) ((is_interval interval && nat_lt offset interval) && rest) h in
        let second = and_parts (is_interval interval && nat_lt offset interval) rest first.1 in
        let third = and_parts (nat_le 1 interval) (nat_lt interval (2 ^ 63)) (and_parts (is_interval interval) (nat_lt offset interval) second.0).0 in
        let low = third.0 in
        let high = third.1 in
        let some : 0 < interval = grind (arith, nat_tests, low) in
        let near : interval < 2 ^ 63 = grind (arith, nat_tests, high) in
        let of_rows = histogram_rows (Numbers interval offset) (fits_below (2 ^ 63)) (number_starts interval offset some near) hard field missing rows
        (counted_64 all field missing m (whole_field m field missing first.0) placed context rows counted) in
        keyed context cs os laws rows counted k (all_keys all k rows) refl (distinct_all (is_made_key k) (flat_map (keys all k) rows) of_rows)
    node_owns context cs os laws top outer children (kind.DateHistogram field period zone least extended hard is_keyed order missing) h rows counted =
        let k = kind.DateHistogram field period zone least extended hard is_keyed order missing in
        let rest = is_at_most extended.min extended.max && (is_at_most hard.min hard.max && (lies_within extended hard && orders_fit children order)) in
        let first = and_parts (is_date_field m field missing) (is_spaced (Dates period zone) extended hard && rest) h in
        let second = and_parts (is_period period) (is_zone zone && (are_instants extended && are_instants hard)) (and_parts (is_spaced (Dates period zone) extended hard) rest first.1).0 in
        let zoned = (and_parts (is_zone zone) (are_instants extended && are_instants hard) second.1).0 in
        let of_rows = histogram_rows (Dates period zone) is_in_range (instant_starts period zone (period-is period second.0) (zone-is zone zoned)) hard field missing rows
        (counted_dated all field missing m first.0 placed context rows counted) in
        keyed context cs os laws rows counted k (all_keys all k rows) refl (distinct_all (is_made_key k) (flat_map (keys all k) rows) of_rows)
    node_owns context cs os laws top outer children (kind.Composite sources size after) h rows counted =
        let k = kind.Composite sources size after in
        keyed context cs os laws rows counted k (page sources size after (all_keys all k rows)) refl (page_all (is_made_key k) sources size after (all_keys all k rows) (distinct_all (is_made_key k) (flat_map (keys all k) rows) (composite_rows sources rows)))
    node_owns context cs os laws top outer children (kind.Filters a b c) h rows counted = started context cs os laws rows counted (kind.Filters a b c) refl (λ key. tt)
    node_owns context cs os laws top outer children (kind.Filter a) h rows counted = started context cs os laws rows counted (kind.Filter a) refl (λ key. tt)
    node_owns context cs os laws top outer children (kind.Missing a) h rows counted = started context cs os laws rows counted (kind.Missing a) refl (λ key. tt)
    node_owns context cs os laws top outer children kind.Global h rows counted = started context cs os laws rows counted kind.Global refl (λ key. tt)
    node_owns context cs os laws top outer children (kind.Nested a) h rows counted = started context cs os laws rows counted (kind.Nested a) refl (λ key. tt)
    node_owns context cs os laws top outer children (kind.ReverseNested a) h rows counted = started context cs os laws rows counted (kind.ReverseNested a) refl (λ key. tt)
    node_owns context cs os laws top outer children (kind.Sum a b) h rows counted = number context cs os laws rows counted (kind.Sum a b) _ refl
    node_owns context cs os laws top outer children (kind.Min a b) h rows counted = number context cs os laws rows counted (kind.Min a b) _ refl
    node_owns context cs os laws top outer children (kind.Max a b) h rows counted = number context cs os laws rows counted (kind.Max a b) _ refl
    node_owns context cs os laws top outer children (kind.Avg a b) h rows counted = number context cs os laws rows counted (kind.Avg a b) _ refl
    node_owns context cs os laws top outer children (kind.ValueCount a b) h rows counted = number context cs os laws rows counted (kind.ValueCount a b) _ refl

    module _ (apart : IsApart all) where
      mutual
        pub collected_owns : (top : Bool) (context : ℕ) (a : Agg) → agg_fits m top context a ≡ true → (rows : List PlacedRow) → IsCounted all context rows → T (owns a (collected_node true all (roots all) a rows))
        collected_owns top context (Agg' name k n children) h rows counted =
            let made = made_parts m k (fold_aggs (made_at m) children) top context h in
            node_owns (handed context k) (fold_aggs (collector_of true all (roots all)) children) (fold_aggs (λ a n. owns_parts a.children a.kind (parts n)) children)
            (each_owns (handed context k) children made.1) top context (map (λ (c : Made). c.kind) (fold_aggs (made_at m) children)) k made.0 (under all (roots all) k rows) (under_counted all context k rows apart counted)

        each_owns : {n : _} (context : ℕ) (cs : Row_of-Agg n) → list_all (λ (c : Made). c.fits false context) (fold_aggs (made_at m) cs) ≡ true
            → EachMakes context (fold_aggs (collector_of true all (roots all)) cs) (fold_aggs (λ a n. owns_parts a.children a.kind (parts n)) cs)
        each_owns context end_of-Agg h = tt
        each_owns context (more_of-Agg c rest) h =
            let two = and_parts (agg_fits m false context c) (list_all (λ (c : Made). c.fits false context) (fold_aggs (made_at m) rest)) h in
            (collected_owns false context c two.0, each_owns context rest two.1)
