-- The keys of a row at a composite aggregation: one for each combination of its values, with a part for each source.
use Rattle.std.specs.Prelude.{◌≡◌, refl, ℕ, suc, ◌+◌, ◌*◌, ◌==◌, Bool, true, false, T, List, [], ◌∷◌, ◌++◌, map, flat_map, length, Option, None, Some}
use Rattle.std.specs.List.{list_all}
use Rattle.std.specs.Option.{option_map_or}
use Rattle.std.specs.Cmp.{tied_itself}
use Rattle.std.specs.Cmp.Lexicographic.{slice_cmp}
use Rattle.std.specs.Ordering.{is_lt, ordering_then}
use Rattle.std.specs.declared.cmp.Ordering.{Ordering}
use Rattle.std.specs.declared.cmp.Ordering.TheVariants.{Less}
use Rattle.std.proofs.Common.{sym, ◌∙◌, ap, subst, arith, length-append}
use Rattle.agg_model.specs.declared.aggregation.Spacing.TheVariants.{Numbers}
use Rattle.agg_model.specs.declared.aggregation.CompositeSource.{CompositeSource}
use Rattle.agg_model.specs.declared.key.Key.{Key, out-Key}
use Rattle.agg_model.specs.declared.key.Key.TheOpen.{Key-F}
use Rattle.agg_model.specs.declared.key.Key.TheVariants.{Many}
use Rattle.agg_evaluation.specs.Ceiling.{combination_count}
use Rattle.agg_evaluation.specs.KeyOrder.{key_cmp, key_cmp_at}
use Rattle.agg_model.specs.ValueKeys.{scalar_key}
use Rattle.agg_evaluation.specs.Keys.{combinations, composite_keys, distinct_keys, histogram_keys, interval_key, is_between, is_included, no_bounds, or_null, source_keys, term_keys, values_or}
use Rattle.agg_evaluation.specs.Rows.{PlacedRow}
use Rattle.agg_evaluation.specs.Trees.{is_ascending}
use Rattle.agg_evaluation.proofs.Computing.{computing}
use Rattle.agg_evaluation.proofs.FoldLaws.{fold_key-Many, out-Many}
use Rattle.agg_evaluation.proofs.KeyCompare.{key_cmp_total}
use Rattle.agg_evaluation.proofs.KeyLists.{is_below, ascending-distinct_keys, ascending-filter, distinct_keys-ascending}
use Rattle.list_laws.proofs.Booleans.{and_left, and_right, both}
use Rattle.list_laws.proofs.Orders.{less_is}
use Rattle.list_laws.proofs.Lists.{map-append}
use Rattle.agg_evaluation.specs.CompositeKeys.{has_parts, is_composite_of}
use Rattle.evaluation_laws.proofs.KeyBounds.{Each, each-flat_map, each-map, each-all, each-then}

-- keys of parts compare part by part
many-cmp : (js ks : List Key) → key_cmp (Many js) (Many ks) ≡ slice_cmp key_cmp js ks
many-cmp js ks =
    (λ i. fold_key-Many {A = Key → Ordering} (λ j k. key_cmp_at j (out-Key k)) js i (Many ks))
    ∙ ap (key_cmp_at (Key-F.Many (map key_cmp js))) (out-Many ks) ∙ by_parts js ks
  where
    by_parts : (js ks : List Key) → slice_cmp (λ (j : Key → Ordering) (k : Key). j k) (map key_cmp js) ks ≡ slice_cmp key_cmp js ks
    by_parts [] [] = refl
    by_parts [] (k ∷ ks) = refl
    by_parts (j ∷ js) [] = refl
    by_parts (j ∷ js) (k ∷ ks) = ap (ordering_then (key_cmp j k)) (by_parts js ks)

-- the first part is the same
same-first : (k : Key) (xs ys : List Key) → key_cmp (Many (k ∷ xs)) (Many (k ∷ ys)) ≡ key_cmp (Many xs) (Many ys)
same-first k xs ys = many-cmp (k ∷ xs) (k ∷ ys) ∙ ap (λ o. ordering_then o (slice_cmp key_cmp xs ys)) (tied_itself key_cmp_total k) ∙ sym (many-cmp xs ys)

-- the first part is less
less-first : (j k : Key) (xs ys : List Key) → key_cmp j k ≡ Less → key_cmp (Many (j ∷ xs)) (Many (k ∷ ys)) ≡ Less
less-first j k xs ys e = many-cmp (j ∷ xs) (k ∷ ys) ∙ ap (λ o. ordering_then o (slice_cmp key_cmp xs ys)) e

-- a key below two lists is below both as one
below-append : (k : Key) (xs ys : List Key) → T (is_below k xs) → T (is_below k ys) → T (is_below k (xs ++ ys))
below-append k [] ys h g = g
below-append k (x ∷ xs) ys h g = both _ _ (and_left _ _ h) (below-append k xs ys (and_right _ _ h) g)

-- a front part before lists of parts
abbrev fronted : Key → List (List Key) → List Key
fronted k kss = map Many (map (λ ks. k ∷ ks) kss)

-- with the same first part, the other parts decide
below-same : (k : Key) (xs : List Key) (kss : List (List Key)) → T (is_below (Many xs) (map Many kss)) → T (is_below (Many (k ∷ xs)) (fronted k kss))
below-same k xs [] h = tt
below-same k xs (ys ∷ kss) h = both _ _ (subst (λ o. T (is_lt o)) (sym (same-first k xs ys)) (and_left _ _ h)) (below-same k xs kss (and_right _ _ h))

-- a lesser first part decides
below-later : (j k : Key) (xs : List Key) (kss : List (List Key)) → key_cmp j k ≡ Less → T (is_below (Many (j ∷ xs)) (fronted k kss))
below-later j k xs [] e = tt
below-later j k xs (ys ∷ kss) e = both _ _ (subst (λ o. T (is_lt o)) (sym (less-first j k xs ys e)) tt) (below-later j k xs kss e)

-- all ways to put one of the keys before one of the lists
abbrev ways : List Key → List (List Key) → List Key
ways ks kss = map Many (flat_map (λ k. map (λ more. k ∷ more) kss) ks)

-- the ways of one more key
ways-more : (k : Key) (ks : List Key) (kss : List (List Key)) → ways (k ∷ ks) kss ≡ fronted k kss ++ ways ks kss
ways-more k ks kss = map-append Many (map (λ more. k ∷ more) kss) (flat_map (λ k. map (λ more. k ∷ more) kss) ks)

-- a lesser first key comes before all ways of the others
below-ways : (j : Key) (xs : List Key) (ks : List Key) (kss : List (List Key)) → T (is_below j ks) → T (is_below (Many (j ∷ xs)) (ways ks kss))
below-ways j xs [] kss h = tt
below-ways j xs (k ∷ ks) kss h =
    subst (λ zs. T (is_below (Many (j ∷ xs)) zs)) (sym (ways-more k ks kss))
    (below-append (Many (j ∷ xs)) (fronted k kss) (ways ks kss) (below-later j k xs kss (less_is _ (and_left _ _ h))) (below-ways j xs ks kss (and_right _ _ h)))

-- the ways of one key ascend, and the others behind them
ascending-fronted : (k : Key) (kss : List (List Key)) (rest : List Key) → T (is_ascending (map Many kss)) → ((xs : List Key) → T (is_below (Many (k ∷ xs)) rest)) → T (is_ascending rest) → T (is_ascending (fronted k kss ++ rest))
ascending-fronted k [] rest up below up' = up'
ascending-fronted k (xs ∷ kss) rest up below up' =
    both _ _ (below-append (Many (k ∷ xs)) (fronted k kss) rest (below-same k xs kss (and_left _ _ up)) (below xs)) (ascending-fronted k kss rest (and_right _ _ up) below up')

-- all ways ascend
ascending-ways : (ks : List Key) (kss : List (List Key)) → T (is_ascending ks) → T (is_ascending (map Many kss)) → T (is_ascending (ways ks kss))
ascending-ways [] kss up up' = tt
ascending-ways (k ∷ ks) kss up up' =
    subst (λ zs. T (is_ascending zs)) (sym (ways-more k ks kss))
    (ascending-fronted k kss (ways ks kss) up' (λ xs. below-ways k xs ks kss (and_left _ _ up)) (ascending-ways ks kss (and_right _ _ up) up'))

-- a row has each of its keys at a source once, ascending
ascending-source : (row : PlacedRow) (s : CompositeSource) → T (is_ascending (source_keys row s))
ascending-source row s =
    or-null s.missing_bucket (option_map_or (λ interval. histogram_keys s.field (Numbers interval 0) no_bounds None row) s.interval (term_keys s.field None [] None row)) (by s.interval)
  where
    or-null : (missing : Bool) (ks : List Key) → T (is_ascending ks) → T (is_ascending (or_null missing ks))
    or-null true [] up = tt
    or-null false [] up = tt
    or-null missing (k ∷ ks) up = up

    by : (o : Option ℕ) → T (is_ascending (option_map_or (λ interval. histogram_keys s.field (Numbers interval 0) no_bounds None row) o (term_keys s.field None [] None row)))
    by None = ascending-filter (is_included None []) (distinct_keys (map scalar_key (values_or s.field None row))) (ascending-distinct_keys (map scalar_key (values_or s.field None row)))
    by (Some interval) =
        ascending-filter (is_between no_bounds) (distinct_keys (flat_map (interval_key (Numbers interval 0)) (values_or s.field None row))) (ascending-distinct_keys (flat_map (interval_key (Numbers interval 0)) (values_or s.field None row)))

-- the combinations of a row ascend as keys
ascending-combinations : (row : PlacedRow) (sources : List CompositeSource) → T (is_ascending (map Many (combinations (map (source_keys row) sources))))
ascending-combinations row [] = tt
ascending-combinations row (s ∷ ss) = ascending-ways (source_keys row s) (combinations (map (source_keys row) ss)) (ascending-source row s) (ascending-combinations row ss)

-- the keys are the combinations, in their order
pub composite-combinations : (sources : List CompositeSource) (row : PlacedRow) → composite_keys sources row ≡ map Many (combinations (map (source_keys row) sources))
composite-combinations sources row = distinct_keys-ascending (map Many (combinations (map (source_keys row) sources))) (ascending-combinations row sources)

-- as many as before
length-map : {A B : Type 0} (f : A → B) (xs : List A) → length (map f xs) ≡ length xs
length-map f [] = refl
length-map f (x ∷ xs) = ap suc (length-map f xs)

-- as many ways as keys times lists
length-ways : (ks : List Key) (kss : List (List Key)) → length (flat_map (λ k. map (λ more. k ∷ more) kss) ks) ≡ length ks * length kss
length-ways [] kss = omega arith
length-ways (k ∷ ks) kss =
    let whole = length-append (map (λ more. k ∷ more) kss) (flat_map (λ k. map (λ more. k ∷ more) kss) ks) in
    let first = length-map (λ more. k ∷ more) kss in
    let rest = length-ways ks kss in
    let product : suc (length ks) * length kss ≡ length kss + length ks * length kss = omega arith in
    omega arith

-- as many combinations as the definition counts
length-combinations : (sources : List CompositeSource) (row : PlacedRow) → length (combinations (map (source_keys row) sources)) ≡ combination_count sources row
length-combinations [] row = refl
length-combinations (s ∷ ss) row = length-ways (source_keys row s) (combinations (map (source_keys row) ss)) ∙ ap (λ n. length (source_keys row s) * n) (length-combinations ss row)

-- a row has as many keys as combinations
pub composite-count : (sources : List CompositeSource) (row : PlacedRow) → length (composite_keys sources row) ≡ combination_count sources row
composite-count sources row = ap length (composite-combinations sources row) ∙ length-map Many (combinations (map (source_keys row) sources)) ∙ length-combinations sources row

-- each combination has a part for each source
each-part : (sources : List CompositeSource) (row : PlacedRow) → Each (λ ks. length ks ≡ length sources) (combinations (map (source_keys row) sources))
each-part [] row = (refl, tt)
each-part (s ∷ ss) row =
    each-flat_map (λ ks. length ks ≡ suc (length ss)) (λ k. map (λ more. k ∷ more) (combinations (map (source_keys row) ss))) (source_keys row s)
    (each-all _ (λ k. each-map (λ ks. length ks ≡ suc (length ss)) (λ more. k ∷ more) (combinations (map (source_keys row) ss))
    (each-then _ _ (λ more e. ap suc e) (combinations (map (source_keys row) ss)) (each-part ss row))) (source_keys row s))

-- a number is itself
itself : (n : ℕ) → (n == n) ≡ true
itself n = grind arith

-- each key has a part for each source
pub composite-parts : (sources : List CompositeSource) (row : PlacedRow) → T (list_all (is_composite_of (length sources)) (composite_keys sources row))
composite-parts sources row =
    subst (λ ks. T (list_all (is_composite_of (length sources)) ks)) (sym (composite-combinations sources row)) (each (combinations (map (source_keys row) sources)) (each-part sources row))
  where
    each : (kss : List (List Key)) → Each (λ ks. length ks ≡ length sources) kss → T (list_all (is_composite_of (length sources)) (map Many kss))
    each [] h = tt
    each (ks ∷ kss) h = both _ _ (subst T (sym (ap (has_parts (length sources)) (out-Many ks) ∙ ap (λ n. n == length sources) h.0 ∙ itself (length sources))) tt) (each kss h.1)
