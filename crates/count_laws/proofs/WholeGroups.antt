-- Where a shard's tree has the whole group of a key, or the shard has no row with the key: wherever all keys have their buckets,
-- and among terms where none was cut.
use Rattle.std.specs.Prelude.{◌≡◌, ◌≤◌, refl, ℕ, zero, suc, ◌-◌, ◌==◌, ◌||◌, Bool, true, false, cond, if◌then◌else◌, T, List, [], ◌∷◌, map, filter, flat_map, length, take, drop, sum_by, None, unwrap_or}
use Rattle.std.specs.List.{AllByRecursion, last_or}
use Rattle.std.specs.declared.cmp.Ordering.{Ordering}
use Rattle.std.specs.Ordering.{is_le}
use Rattle.std.proofs.Common.{sym, ◌∙◌, ap, subst, arith}
use Rattle.std.proofs.Math.Bool.{or-true}
use Rattle.std.proofs.lemmas.List.Sums.{sum_by-cons, sum_by-take-drop}
use Rattle.agg_model.specs.declared.key.Key.{Key}
use Rattle.agg_model.specs.declared.key.Key.TheVariants.{Null}
use Rattle.agg_model.specs.declared.partial.Bucket.{Bucket}
use Rattle.agg_model.specs.declared.aggregation.Kind.{Kind}
use Rattle.agg_model.specs.declared.aggregation.Order.{Order}
use Rattle.agg_evaluation.specs.KeyOrder.{key_cmp, key_eq, has_key}
use Rattle.agg_evaluation.specs.Rows.{PlacedRow, roots}
use Rattle.agg_evaluation.specs.Keys.{keys}
use Rattle.agg_evaluation.specs.Groups.{group, all_keys, total_key_count}
use Rattle.list_laws.specs.Sorting.{insert_sorted, sorted}
use Rattle.agg_evaluation.specs.Orders.{bucket_cmp, bucket_key, bucket_count}
use Rattle.agg_evaluation.specs.Shard.{Collector, bucket_of, trimmed_node, sorted_by_key, with_covered}
use Rattle.agg_evaluation.specs.Trees.{is_ascending}
use Rattle.agg_evaluation.specs.Whole.{parts, parts_at}
use Rattle.agg_evaluation.proofs.KeyLists.{filter-ascending, ascending-distinct_keys, has_key-distinct_keys, key_eq-self}
use Rattle.agg_evaluation.proofs.NodeForms.{out-Keyed}
use Rattle.agg_evaluation.proofs.UnionLaws.{has_key-append}
use Rattle.agg_evaluation.proofs.WholeLaws.{with_key}
use Rattle.list_laws.proofs.Lists.{filter-map, sum_by-map}
use Rattle.list_laws.proofs.Each.{each-drop, each-mapped, each-sorted, each-take, sum_by-sorted}
use Rattle.count_laws.proofs.TermsTotals.{groups-count}

-- a key that no row has, has no group
pub group-absent : (all : List PlacedRow) (k : Kind) (q : Key) (rows : List PlacedRow) → has_key q (flat_map (keys all k) rows) ≡ false → group all k rows q ≡ []
group-absent all k q [] e = refl
group-absent all k q (row ∷ rows) e =
    elim (has_key q (keys all k row)) as (λ c. (c || has_key q (flat_map (keys all k) rows)) ≡ false → cond c (row ∷ group all k rows q) (group all k rows q) ≡ []) [
      | true ↦ λ no. absurd (subst T no tt)
      | false ↦ λ no. group-absent all k q rows no
    ] (sym (has_key-append q (keys all k row) (flat_map (keys all k) rows)) ∙ e)

-- and one that a row has, has one of a row at least
group-present : (all : List PlacedRow) (k : Kind) (q : Key) (rows : List PlacedRow) → has_key q (flat_map (keys all k) rows) ≡ true → 1 ≤ length (group all k rows q)
group-present all k q [] e = absurd (subst T (sym e) tt)
group-present all k q (row ∷ rows) e =
    elim (has_key q (keys all k row)) as (λ c. (c || has_key q (flat_map (keys all k) rows)) ≡ true → 1 ≤ length (cond c (row ∷ group all k rows q) (group all k rows q))) [
      | true ↦ λ yes. omega arith
      | false ↦ λ yes. group-present all k q rows yes
    ] (sym (has_key-append q (keys all k row) (flat_map (keys all k) rows)) ∙ e)

pub no-items : {A : Type 0} (xs : List A) → length xs ≡ 0 → xs ≡ []
no-items [] e = refl
no-items (x ∷ xs) e = absurd (omega arith)

-- where one item at most passes a test, it is the one that passes once the list is sorted
module _ {A : Type 0} (cmp : A → A → Ordering) (p : A → Bool) where
  insert-fails : (x : A) (ys : List A) → p x ≡ false → filter p (insert_sorted cmp x ys) ≡ filter p ys
  insert-fails x [] e = ap (λ c. cond c (x ∷ []) []) e
  insert-fails x (y ∷ ys) e =
      elim (is_le (cmp x y)) as (λ b. filter p (if b then x ∷ y ∷ ys else (y ∷ insert_sorted cmp x ys)) ≡ filter p (y ∷ ys)) [
        | true ↦ ap (λ c. cond c (x ∷ filter p (y ∷ ys)) (filter p (y ∷ ys))) e
        | false ↦ ap (λ zs. cond (p y) (y ∷ zs) zs) (insert-fails x ys e)
      ]

  insert-passes : (x : A) (ys : List A) → p x ≡ true → filter p ys ≡ [] → filter p (insert_sorted cmp x ys) ≡ x ∷ []
  insert-passes x [] e none = ap (λ c. cond c (x ∷ []) []) e
  insert-passes x (y ∷ ys) e none =
      elim (is_le (cmp x y)) as (λ b. filter p (if b then x ∷ y ∷ ys else (y ∷ insert_sorted cmp x ys)) ≡ x ∷ []) [
        | true ↦ ap (λ c. cond c (x ∷ filter p (y ∷ ys)) (filter p (y ∷ ys))) e ∙ ap (λ zs. x ∷ zs) none
        | false ↦ elim (p y) as (λ c. cond c (y ∷ filter p ys) (filter p ys) ≡ [] → cond c (y ∷ filter p (insert_sorted cmp x ys)) (filter p (insert_sorted cmp x ys)) ≡ x ∷ []) [
          | true ↦ λ no. let f : suc (length (filter p ys)) ≡ 0 = ap length no in absurd (omega (arith, f))
          | false ↦ λ rest. insert-passes x ys e rest
        ] none
      ]

  pub filter-sorted : (xs : List A) → length (filter p xs) ≤ 1 → filter p (sorted cmp xs) ≡ filter p xs
  filter-sorted [] h = refl
  filter-sorted (x ∷ xs) h =
      elim (p x) as (λ c. p x ≡ c → length (cond c (x ∷ filter p xs) (filter p xs)) ≤ 1 → filter p (insert_sorted cmp x (sorted cmp xs)) ≡ cond c (x ∷ filter p xs) (filter p xs)) [
        | true ↦ λ e le. let none = no-items (filter p xs) (omega (arith, le)) in insert-passes x (sorted cmp xs) e (filter-sorted xs (omega (arith, le)) ∙ none) ∙ ap (λ ys. x ∷ ys) (sym none)
        | false ↦ λ e le. insert-fails x (sorted cmp xs) e ∙ filter-sorted xs le
      ] refl h

-- what is not cut behind n is within the first n
take-whole : {A : Type 0} (n : ℕ) (xs : List A) → drop n xs ≡ [] → take n xs ≡ xs
take-whole zero xs e = sym e
take-whole (suc n) [] e = refl
take-whole (suc n) (x ∷ xs) e = ap (λ ys. x ∷ ys) (take-whole n xs e)

-- buckets of rows add up to nothing only where there are none
none-left : (bs : List Bucket) → AllByRecursion (λ b. 1 ≤ bucket_count b) bs → sum_by bucket_count bs ≡ 0 → bs ≡ []
none-left [] h e = refl
none-left (b ∷ bs) h e = let no : ⊥ = omega (arith, h.0, e, sum_by-cons bucket_count b bs) in absurd no

one_at_most : {A : Type 0} (b : Bool) (x : A) → length (cond b (x ∷ []) []) ≤ 1
one_at_most true x = omega arith
one_at_most false x = omega arith

-- the buckets of a tree have the whole group of the key, or there is none
pub record HasAll (all : List PlacedRow) (k : Kind) (cs : List Collector) (counted : List PlacedRow) (q : Key) (bs : List Bucket) : Type 0 where
  pub covered : ℕ
  pub present : Bool
  pub found : with_key q bs ≡ cond present (with_covered covered (bucket_of true all (roots all) k cs counted q) ∷ []) []
  pub none : present ≡ false → group all k counted q ≡ []

module _ (all : List PlacedRow) (k : Kind) (cs : List Collector) (counted : List PlacedRow) (q : Key) where
  abbrev bucket : Key → Bucket
  bucket = bucket_of true all (roots all) k cs counted

  of_keys : (ks : List Key) → T (is_ascending ks) → with_key q (map bucket ks) ≡ cond (has_key q ks) (bucket q ∷ []) []
  of_keys ks up =
      filter-map (λ b. key_eq q (bucket_key b)) bucket ks
      ∙ ap (map bucket) (filter-ascending q ks up)
      ∙ elim (has_key q ks) as (λ c. map bucket (cond c (q ∷ []) []) ≡ cond c (bucket q ∷ []) []) [ true ↦ refl | false ↦ refl ]

  -- buckets of some keys, which the key is among where a row has it
  pub keys-have_all : (ks : List Key) → T (is_ascending ks) → (has_key q ks ≡ false → group all k counted q ≡ []) → HasAll all k cs counted q (map bucket ks)
  keys-have_all ks up none = record { covered = 0; present = has_key q ks; found = of_keys ks up; none = none }

  -- no row has a key that is not among all keys
  pub outside : has_key q (all_keys all k counted) ≡ false → group all k counted q ≡ []
  outside e = group-absent all k q counted (sym (has_key-distinct_keys q (flat_map (keys all k) counted)) ∙ e)

  pub all_keys-have_all : HasAll all k cs counted q (map bucket (all_keys all k counted))
  all_keys-have_all = keys-have_all (all_keys all k counted) (ascending-distinct_keys (flat_map (keys all k) counted)) outside

  positive-counts : (ks : List Key) → ((j : Key) → has_key j ks ≡ true → 1 ≤ length (group all k counted j)) → AllByRecursion (λ b. 1 ≤ bucket_count b) (map bucket ks)
  positive-counts [] h = tt
  positive-counts (j ∷ ks) h =
      (h j (ap (λ b. b || has_key j ks) (key_eq-self j)), positive-counts ks (λ i e. h i (ap (λ b. key_eq i j || b) e ∙ or-true (key_eq i j))))

  module _ (kinds : List Kind) (shard_size : ℕ) (order : List Order) where
    abbrev buckets : List Bucket
    buckets = map bucket (all_keys all k counted)

    abbrev ordered : List Bucket
    ordered = sorted (bucket_cmp kinds order) buckets

    abbrev kept : List Bucket
    kept = take shard_size ordered

    abbrev error : ℕ
    error = if length kept == shard_size then unwrap_or (last_or None (map bucket_count kept)) 0 else 0

    abbrev cut : ℕ
    cut = total_key_count all k counted - sum_by bucket_count kept

    parts_are : parts (trimmed_node kinds shard_size order (total_key_count all k counted) buckets) ≡ record { buckets = sorted_by_key (map (with_covered error) kept); error = error; full = if length kept == shard_size then 1 else 0; cut = cut; metrics = [] }
    parts_are = ap parts_at (out-Keyed (sorted_by_key (map (with_covered error) kept)) error (if length kept == shard_size then 1 else 0) cut)

    all_kept : cut ≡ 0 → kept ≡ ordered
    all_kept none =
        let counts : sum_by bucket_count buckets ≡ total_key_count all k counted = sum_by-map bucket_count bucket (all_keys all k counted) ∙ groups-count all k counted in
        let rows = positive-counts (all_keys all k counted) (λ j e. group-present all k j counted (sym (has_key-distinct_keys j (flat_map (keys all k) counted)) ∙ e)) in
        take-whole shard_size ordered (none-left (drop shard_size ordered)
        (each-drop (λ b. 1 ≤ bucket_count b) shard_size ordered (each-sorted (λ b. 1 ≤ bucket_count b) (bucket_cmp kinds order) buckets rows))
        (omega (arith, none, counts, sum_by-take-drop bucket_count ordered shard_size, sum_by-sorted (bucket_cmp kinds order) bucket_count buckets)))

    with_key-ordered : with_key q ordered ≡ cond (has_key q (all_keys all k counted)) (bucket q ∷ []) []
    with_key-ordered =
        let here = of_keys (all_keys all k counted) (ascending-distinct_keys (flat_map (keys all k) counted)) in
        filter-sorted (bucket_cmp kinds order) (λ b. key_eq q (bucket_key b)) buckets (subst (λ bs. length bs ≤ 1) (sym here) (one_at_most (has_key q (all_keys all k counted)) (bucket q))) ∙ here

    with_key-kept : cut ≡ 0 → with_key q (map (with_covered error) kept) ≡ cond (has_key q (all_keys all k counted)) (with_covered error (bucket q) ∷ []) []
    with_key-kept none =
        filter-map (λ b. key_eq q (bucket_key b)) (with_covered error) kept
        ∙ ap (λ bs. map (with_covered error) (with_key q bs)) (all_kept none)
        ∙ ap (map (with_covered error)) with_key-ordered
        ∙ elim (has_key q (all_keys all k counted)) as (λ c. map (with_covered error) (cond c (bucket q ∷ []) []) ≡ cond c (with_covered error (bucket q) ∷ []) []) [ true ↦ refl | false ↦ refl ]

    -- terms of which none was cut
    pub uncut-has_all : (parts (trimmed_node kinds shard_size order (total_key_count all k counted) buckets)).cut ≡ 0
        → HasAll all k cs counted q (parts (trimmed_node kinds shard_size order (total_key_count all k counted) buckets)).buckets
    uncut-has_all e =
        let none : cut ≡ 0 = sym (ap (λ p. p.cut) parts_are) ∙ e in
        let here = with_key-kept none in
        record {
          covered = error;
          present = has_key q (all_keys all k counted);
          found = ap (λ p. with_key q p.buckets) parts_are
              ∙ filter-sorted (λ a b. key_cmp (bucket_key a) (bucket_key b)) (λ b. key_eq q (bucket_key b)) (map (with_covered error) kept)
              (subst (λ bs. length bs ≤ 1) (sym here) (one_at_most (has_key q (all_keys all k counted)) (with_covered error (bucket q)))) ∙ here;
          none = outside;
        }

-- each bucket of terms counts a row at least
pub each-counted : (all : List PlacedRow) (k : Kind) (cs : List Collector) (counted : List PlacedRow) (kinds : List Kind) (shard_size : ℕ) (order : List Order)
    → AllByRecursion (λ b. 1 ≤ bucket_count b) (parts (trimmed_node kinds shard_size order (total_key_count all k counted) (map (bucket_of true all (roots all) k cs counted) (all_keys all k counted)))).buckets
each-counted all k cs counted kinds shard_size order =
    let P : Bucket → Type 0 = (λ b. 1 ≤ bucket_count b) in
    let q = Null in
    let ks = all_keys all k counted in
    let rows = positive-counts all k cs counted q ks (λ j e. group-present all k j counted (sym (has_key-distinct_keys j (flat_map (keys all k) counted)) ∙ e)) in
    let first = each-take P shard_size (ordered all k cs counted q kinds shard_size order) (each-sorted P (bucket_cmp kinds order) (buckets all k cs counted q kinds shard_size order) rows) in
    let e = error all k cs counted q kinds shard_size order in
    subst (λ p. AllByRecursion P p.buckets) (sym (parts_are all k cs counted q kinds shard_size order))
    (each-sorted P (λ a b. key_cmp (bucket_key a) (bucket_key b)) (map (with_covered e) (kept all k cs counted q kinds shard_size order))
    (each-mapped P P (with_covered e) (λ b h. h) (kept all k cs counted q kinds shard_size order) first))
