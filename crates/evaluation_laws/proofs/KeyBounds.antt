-- The keys of a shard's rows have at most the bytes that the ceiling counts.
use Rattle.std.specs.Prelude.{◌≡◌, refl, ℕ, zero, suc, ◌≤◌, Bool, true, false, cond, nat_lt, if◌then◌else◌, T, List, [], ◌∷◌, ◌++◌, map, filter, flat_map, sum, sum_by, take, Option, Some, None, option_to_list, slice_get}
use Rattle.std.specs.Option.{option_map_or}
use Rattle.std.specs.declared.cmp.Ordering.TheVariants.{Less, Equal, Greater}
use Rattle.std.specs.Ordering.{match_ordering}
use Rattle.std.proofs.Common.{◌∙◌, subst, arith}
use Rattle.std.proofs.lemmas.List.Sums.{sum_by-cons, sum-map}
use Rattle.agg_model.specs.declared.key.Key.{Key}
use Rattle.agg_model.specs.declared.key.Key.TheVariants as key
use Rattle.agg_model.specs.declared.mapping.FieldKind.{FieldKind}
use Rattle.agg_model.specs.declared.row.Scalar.{Scalar}
use Rattle.agg_model.specs.declared.row.Scalar.TheVariants as scalar
use Rattle.agg_model.specs.declared.aggregation.CompositeSource.{CompositeSource}
use Rattle.agg_model.specs.declared.aggregation.Spacing.{Spacing}
use Rattle.agg_model.specs.declared.aggregation.Spacing.TheVariants.{Numbers, Dates}
use Rattle.agg_model.specs.declared.aggregation.Kind.{Kind}
use Rattle.agg_model.specs.declared.aggregation.Kind.TheVariants as kind
use Rattle.agg_evaluation.specs.KeyOrder.{key_cmp}
use Rattle.agg_model.specs.ValueKeys.{scalar_key}
use Rattle.list_laws.specs.Sorting.{insert_once}
use Rattle.agg_evaluation.specs.Rows.{PlacedRow, values_of}
use Rattle.agg_evaluation.specs.Keys.{keys, distinct_keys, or_missing, values_or, is_included, is_between, interval_key, histogram_keys, term_keys, or_null, no_bounds, source_keys, combinations, composite_keys}
use Rattle.agg_evaluation.specs.Cost.{key_bytes, key_bytes_at}
use Rattle.agg_evaluation.specs.Ceiling.{greatest_of, least_bytes, field_bytes, part_bytes, key_bound}
use Rattle.agg_evaluation.specs.Whole.{Shape, by_key, from_start, shape_of}
use Rattle.agg_evaluation.proofs.FoldLaws.{fold_key-Many}

-- the fact holds of each item
abbrev pub Each : {A : Type 0} → (A → Type 0) → List A → Type 0
Each P [] = Unit {0}
Each P (x ∷ xs) = P x × Each P xs

pub each-append : {A : Type 0} (P : A → Type 0) (xs ys : List A) → Each P xs → Each P ys → Each P (xs ++ ys)
each-append P [] ys h g = g
each-append P (x ∷ xs) ys h g = (h.0, each-append P xs ys h.1 g)

pub each-first : {A : Type 0} (P : A → Type 0) (xs ys : List A) → Each P (xs ++ ys) → Each P xs
each-first P [] ys h = tt
each-first P (x ∷ xs) ys h = (h.0, each-first P xs ys h.1)

pub each-second : {A : Type 0} (P : A → Type 0) (xs ys : List A) → Each P (xs ++ ys) → Each P ys
each-second P [] ys h = h
each-second P (x ∷ xs) ys h = each-second P xs ys h.1

pub each-filter : {A : Type 0} (P : A → Type 0) (p : A → Bool) (xs : List A) → Each P xs → Each P (filter p xs)
each-filter P p [] h = tt
each-filter P p (x ∷ xs) h = elim (p x) as (λ b. Each P (cond b (x ∷ filter p xs) (filter p xs))) [ true ↦ (h.0, each-filter P p xs h.1) | false ↦ each-filter P p xs h.1 ]

pub each-take : {A : Type 0} (P : A → Type 0) (n : ℕ) (xs : List A) → Each P xs → Each P (take n xs)
each-take P zero xs h = tt
each-take P (suc n) [] h = tt
each-take P (suc n) (x ∷ xs) h = (h.0, each-take P n xs h.1)

pub each-map : {A B : Type 0} (P : B → Type 0) (f : A → B) (xs : List A) → Each (λ x. P (f x)) xs → Each P (map f xs)
each-map P f [] h = tt
each-map P f (x ∷ xs) h = (h.0, each-map P f xs h.1)

pub each-unmap : {A B : Type 0} (P : B → Type 0) (f : A → B) (xs : List A) → Each P (map f xs) → Each (λ x. P (f x)) xs
each-unmap P f [] h = tt
each-unmap P f (x ∷ xs) h = (h.0, each-unmap P f xs h.1)

pub each-all : {A : Type 0} (P : A → Type 0) → ((x : A) → P x) → (xs : List A) → Each P xs
each-all P h [] = tt
each-all P h (x ∷ xs) = (h x, each-all P h xs)

pub each-flat_map : {A B : Type 0} (P : B → Type 0) (f : A → List B) (xs : List A) → Each (λ x. Each P (f x)) xs → Each P (flat_map f xs)
each-flat_map P f [] h = tt
each-flat_map P f (x ∷ xs) h = each-append P (f x) (flat_map f xs) h.0 (each-flat_map P f xs h.1)

pub each-then : {A : Type 0} (P Q : A → Type 0) → ((x : A) → P x → Q x) → (xs : List A) → Each P xs → Each Q xs
each-then P Q f [] h = tt
each-then P Q f (x ∷ xs) h = (f x h.0, each-then P Q f xs h.1)

each-insert : (P : Key → Type 0) (k : Key) (ks : List Key) → P k → Each P ks → Each P (insert_once key_cmp k ks)
each-insert P k [] h g = (h, tt)
each-insert P k (j ∷ ks) h g =
    elim (key_cmp k j) as (λ r. Each P (match_ordering r (k ∷ j ∷ ks) (j ∷ ks) (j ∷ insert_once key_cmp k ks))) [
      | Less ↦ (h, g)
      | Equal ↦ g
      | Greater ↦ (g.0, each-insert P k ks h g.1)
    ]

each-distinct : (P : Key → Type 0) (ks : List Key) → Each P ks → Each P (distinct_keys ks)
each-distinct P [] h = tt
each-distinct P (k ∷ ks) h = each-insert P k (distinct_keys ks) h.0 (each-distinct P ks h.1)

each-greatest : (ns : List ℕ) → Each (λ n. n ≤ greatest_of ns) ns
each-greatest [] = tt
each-greatest (n ∷ ns) =
    elim (nat_lt n (greatest_of ns)) as (λ b. nat_lt n (greatest_of ns) ≡ b → Each (λ m. m ≤ (if b then greatest_of ns else n)) (n ∷ ns)) [
      | true ↦ λ e. (grind arith, each-greatest ns)
      | false ↦ λ e. ((let e : n ≤ n = omega arith in e), each-then _ _ (λ m h. let up : greatest_of ns ≤ n = grind arith in omega arith) ns (each-greatest ns))
    ] refl

-- at most so many bytes
abbrev pub Short : ℕ → Key → Type 0
Short n k = key_bytes k ≤ n

abbrev pub Small : ℕ → Scalar → Type 0
Small n v = key_bytes (scalar_key v) ≤ n

-- a row of the shard: what holds of all values of a field holds of its values
abbrev pub Known : List PlacedRow → PlacedRow → Type 0
Known all row = (field n : ℕ) → Each (Small n) (flat_map (values_of field) all) → Each (Small n) (values_of field row)

known-part : (all rows : List PlacedRow) → ((field n : ℕ) → Each (Small n) (flat_map (values_of field) all) → Each (Small n) (flat_map (values_of field) rows)) → Each (Known all) rows
known-part all [] h = tt
known-part all (r ∷ rows) h = (
  (λ field n e. each-first (Small n) (values_of field r) (flat_map (values_of field) rows) (h field n e)),
  known-part all rows (λ field n e. each-second (Small n) (values_of field r) (flat_map (values_of field) rows) (h field n e)),
)

pub known-all : (all : List PlacedRow) → Each (Known all) all
known-all all = known-part all all (λ field n e. e)

abbrev other_shape : Shape → Bool
other_shape by_key = false
other_shape _ = true

not_by_key : (s : Shape) → T (other_shape s) → s ≡ by_key → ⊥
not_by_key s h e = subst (λ s. T (other_shape s)) e h

module _ (kinds : List FieldKind) (all : List PlacedRow) where
  small-values : (field : ℕ) (missing : Option Scalar) → Each (Small (field_bytes kinds all field missing)) (option_to_list missing ++ flat_map (values_of field) all)
  small-values field missing =
      let values = option_to_list missing ++ flat_map (values_of field) all in
      let ns = map (λ v. key_bytes (scalar_key v)) values in
      each-unmap (λ n. n ≤ greatest_of (least_bytes (slice_get kinds field) ∷ ns)) (λ v. key_bytes (scalar_key v)) values (each-greatest (least_bytes (slice_get kinds field) ∷ ns)).1

  small-row : (row : PlacedRow) → Known all row → (field : ℕ) (missing : Option Scalar) → Each (Small (field_bytes kinds all field missing)) (values_or field missing row)
  small-row row known field missing =
      let n = field_bytes kinds all field missing in
      let given = small-values field missing in
      by-values n missing (values_of field row) (each-first (Small n) (option_to_list missing) (flat_map (values_of field) all) given)
      (known field n (each-second (Small n) (option_to_list missing) (flat_map (values_of field) all) given))
    where
      by-values : (n : ℕ) (missing : Option Scalar) (values : List Scalar) → Each (Small n) (option_to_list missing) → Each (Small n) values → Each (Small n) (or_missing missing values)
      by-values n missing [] h g = h
      by-values n missing (v ∷ vs) h g = g

  short-terms : (row : PlacedRow) → Known all row → (field : ℕ) (include : Option (List _)) (exclude : List _) (missing : Option Scalar) → Each (Short (field_bytes kinds all field missing)) (term_keys field include exclude missing row)
  short-terms row known field include exclude missing =
      let n = field_bytes kinds all field missing in
      each-filter (Short n) (is_included include exclude) (distinct_keys (map scalar_key (values_or field missing row)))
      (each-distinct (Short n) (map scalar_key (values_or field missing row)) (each-map (Short n) scalar_key (values_or field missing row) (small-row row known field missing)))

  short-interval : (spacing : Spacing) (v : Scalar) → Each (Short 8) (interval_key spacing v)
  short-interval spacing (scalar.Whole n) = ((let e : 8 ≤ 8 = omega arith in e), tt)
  short-interval spacing (scalar.Word w) = tt
  short-interval spacing (scalar.Flag b) = tt

  short-histogram : (row : PlacedRow) (field : ℕ) (spacing : Spacing) (hard : _) (missing : Option Scalar) → Each (Short 8) (histogram_keys field spacing hard missing row)
  short-histogram row field spacing hard missing =
      each-filter (Short 8) (is_between hard) (distinct_keys (flat_map (interval_key spacing) (values_or field missing row)))
      (each-distinct (Short 8) (flat_map (interval_key spacing) (values_or field missing row)) (each-flat_map (Short 8) (interval_key spacing) (values_or field missing row)
      (each-all (λ v. Each (Short 8) (interval_key spacing v)) (short-interval spacing) (values_or field missing row))))

  -- of a value that is small its interval is
  small-interval : (n : ℕ) (spacing : Spacing) (v : Scalar) → Small n v → Each (Short n) (interval_key spacing v)
  small-interval n spacing (scalar.Whole m) h = (h, tt)
  small-interval n spacing (scalar.Word w) h = tt
  small-interval n spacing (scalar.Flag b) h = tt

  small-histogram : (row : PlacedRow) → Known all row → (field : ℕ) (spacing : Spacing) → Each (Short (field_bytes kinds all field None)) (histogram_keys field spacing no_bounds None row)
  small-histogram row known field spacing =
      let n = field_bytes kinds all field None in
      each-filter (Short n) (is_between no_bounds) (distinct_keys (flat_map (interval_key spacing) (values_or field None row)))
      (each-distinct (Short n) (flat_map (interval_key spacing) (values_or field None row)) (each-flat_map (Short n) (interval_key spacing) (values_or field None row)
      (each-then (Small n) (λ v. Each (Short n) (interval_key spacing v)) (small-interval n spacing) (values_or field None row) (small-row row known field None))))

  short-source : (row : PlacedRow) → Known all row → (s : CompositeSource) → Each (Short (part_bytes kinds all s)) (source_keys row s)
  short-source row known s =
      let n = field_bytes kinds all s.field None in
      let bound = each-greatest (1 ∷ n ∷ []) in
      let wide : (k : Key) → Short n k → Short (part_bytes kinds all s) k = (λ k h. let b = bound.1.0 in omega arith) in
      let ks = option_map_or (λ interval. histogram_keys s.field (Numbers interval 0) no_bounds None row) s.interval (term_keys s.field None [] None row) in
      or-null s.missing_bucket ks bound.0 (by-interval s.interval wide)
    where
      or-null : {n : ℕ} (missing : Bool) (ks : List Key) → 1 ≤ n → Each (Short n) ks → Each (Short n) (or_null missing ks)
      or-null true [] h g = (h, tt)
      or-null false [] h g = tt
      or-null missing (k ∷ ks) h g = g

      by-interval : {n : ℕ} (o : Option ℕ) → ((k : Key) → Short (field_bytes kinds all s.field None) k → Short n k) → Each (Short n) (option_map_or (λ interval. histogram_keys s.field (Numbers interval 0) no_bounds None row) o (term_keys s.field None [] None row))
      by-interval None wide = each-then _ _ wide (term_keys s.field None [] None row) (short-terms row known s.field None [] None)
      by-interval (Some interval) wide = each-then _ _ wide (histogram_keys s.field (Numbers interval 0) no_bounds None row) (small-histogram row known s.field (Numbers interval 0))

  short-combinations : (row : PlacedRow) → Known all row → (sources : List CompositeSource) → Each (λ ks. sum_by key_bytes ks ≤ sum_by (part_bytes kinds all) sources) (combinations (map (source_keys row) sources))
  short-combinations row known [] = ((let e : 0 ≤ 0 = omega arith in e), tt)
  short-combinations row known (s ∷ ss) =
      let fits = λ (ks : List Key). sum_by key_bytes ks ≤ sum_by (part_bytes kinds all) (s ∷ ss) in
      let whole = sum_by-cons (part_bytes kinds all) s ss in
      each-flat_map fits (λ k. map (λ more. k ∷ more) (combinations (map (source_keys row) ss))) (source_keys row s)
      (each-then (Short (part_bytes kinds all s)) _ (λ k h. each-map fits (λ more. k ∷ more) (combinations (map (source_keys row) ss))
      (each-then (λ ks. sum_by key_bytes ks ≤ sum_by (part_bytes kinds all) ss) _ (λ more g. let made = sum_by-cons key_bytes k more in omega arith) (combinations (map (source_keys row) ss)) (short-combinations row known ss)))
      (source_keys row s) (short-source row known s))

  short-composite : (row : PlacedRow) → Known all row → (sources : List CompositeSource) → Each (Short (sum (map (part_bytes kinds all) sources))) (composite_keys sources row)
  short-composite row known sources =
      let n = sum (map (part_bytes kinds all) sources) in
      let total = sum-map (part_bytes kinds all) sources in
      each-distinct (Short n) (map key.Many (combinations (map (source_keys row) sources))) (each-map (Short n) key.Many (combinations (map (source_keys row) sources))
      (each-then _ (λ ks. Short n (key.Many ks)) (λ ks h. let made = fold_key-Many key_bytes_at ks ∙ sum-map key_bytes ks in omega arith) (combinations (map (source_keys row) sources)) (short-combinations row known sources)))

  -- the keys of rows at aggregations whose buckets come by key
  pub short-keys : (k : Kind) → shape_of k ≡ by_key → (row : PlacedRow) → Known all row → Each (Short (key_bound kinds all k)) (keys all k row)
  short-keys (kind.Terms field size shard_size min_doc_count order include exclude missing show_error) e row known = short-terms row known field include exclude missing
  short-keys (kind.Histogram field interval offset min_doc_count extended hard keyed order missing) e row known = short-histogram row field (Numbers interval offset) hard missing
  short-keys (kind.DateHistogram field period zone min_doc_count extended hard keyed order missing) e row known = short-histogram row field (Dates period zone) hard missing
  short-keys (kind.Composite sources size after) e row known = short-composite row known sources
  short-keys (kind.Filters names filters other) e row known = absurd (not_by_key from_start tt e)
  short-keys (kind.Filter query) e row known = absurd (not_by_key from_start tt e)
  short-keys (kind.Missing field) e row known = absurd (not_by_key from_start tt e)
  short-keys kind.Global e row known = absurd (not_by_key from_start tt e)
  short-keys (kind.Nested context) e row known = absurd (not_by_key from_start tt e)
  short-keys (kind.ReverseNested context) e row known = absurd (not_by_key from_start tt e)
  short-keys (kind.Sum field missing) e row known = tt
  short-keys (kind.Min field missing) e row known = tt
  short-keys (kind.Max field missing) e row known = tt
  short-keys (kind.Avg field missing) e row known = tt
  short-keys (kind.ValueCount field missing) e row known = tt
