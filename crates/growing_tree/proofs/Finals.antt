-- What the buckets of keys are once all keys of more rows are put.
use Rattle.std.specs.Prelude.{◌≡◌, refl, ℕ, ℤ, ◌||◌, Bool, true, false, T, List, [], ◌∷◌, ◌++◌, map, flat_map, All}
use Rattle.std.specs.List.{IsDistinct, list_any}
use Rattle.std.specs.Ordering.{int_eq}
use Rattle.std.proofs.Common.{sym, ◌∙◌, ap, subst}
use Rattle.std.proofs.lemmas.Bool.{false≢true, or_parts}
use Rattle.std.proofs.lemmas.List.Elements.{All-filter, All-map}
use Rattle.list_laws.proofs.Booleans.{and_left, and_right}
use Rattle.list_laws.proofs.Lists.{filter-map}
use Rattle.agg_model.specs.declared.aggregation.Kind.{Kind}
use Rattle.agg_model.specs.declared.aggregation.Kind.TheVariants as kind
use Rattle.agg_model.specs.declared.key.Key.{Key}
use Rattle.agg_model.specs.declared.partial.Bucket.{Bucket}
use Rattle.agg_evaluation.specs.Groups.{all_keys, group}
use Rattle.agg_evaluation.specs.KeyOrder.{key_eq, has_key}
use Rattle.agg_evaluation.specs.Keys.{keys}
use Rattle.agg_evaluation.specs.Orders.{bucket_key}
use Rattle.agg_evaluation.specs.Rows.{PlacedRow, row_of}
use Rattle.agg_evaluation.specs.Trees.{is_ascending}
use Rattle.agg_evaluation.proofs.DistinctKeys.{ascending-keys}
use Rattle.agg_evaluation.proofs.KeyLists.{ascending-distinct_keys, below-absent, has_key-distinct_keys, key_eq-self}
use Rattle.growth_laws.proofs.Gathering.{group-one, keys-one}
use Rattle.growth_laws.specs.Gathering.{Gatherer, gathered_buckets, kept_buckets, put_groups, put_rows}
use Rattle.growing_tree.specs.Grouped.{AreApart, AreGroups, HasOwnKeys, pairs_of, rows_with}
use Rattle.growing_tree.specs.Shown.{put_all}
use Rattle.growing_tree.proofs.Grouping.{apart-keys, keys-of-pairs, rows-with-key}
use Rattle.growing_tree.proofs.Orderings.{any-order}
use Rattle.growing_tree.proofs.Putting.{first-absent, rest-distinct}

-- whether all buckets are kept
abbrev pub keeps_all : Kind → Bool
keeps_all (kind.Composite sources size after) = false
keeps_all _ = true

kept-all : (k : Kind) (bs : List Bucket) → keeps_all k ≡ true → kept_buckets k bs ≡ bs
kept-all (kind.Composite sources size after) bs h = absurd (false≢true h)
kept-all _ bs h = refl

pub groups-all : (rows_of : Key → List PlacedRow) (gs : List Gatherer) (k : Kind) (ks : List Key) (bs : List Bucket) → keeps_all k ≡ true → put_groups rows_of gs k ks bs ≡ put_all rows_of gs ks bs
groups-all rows_of gs k [] bs h = refl
groups-all rows_of gs k (key ∷ ks) bs h = ap (put_groups rows_of gs k ks) (kept-all k (put_rows gs (rows_of key) key bs) h) ∙ groups-all rows_of gs k ks (put_rows gs (rows_of key) key bs) h

-- the same rows for each of the keys
all-same : (f g : Key → List PlacedRow) (gs : List Gatherer) (ks : List Key) (bs : List Bucket) → ((q : Key) → has_key q ks ≡ true → f q ≡ g q) → put_all f gs ks bs ≡ put_all g gs ks bs
all-same f g gs [] bs h = refl
all-same f g gs (k ∷ ks) bs h =
    ap (λ rs. put_all f gs ks (put_rows gs rs k bs)) (h k (ap (λ b. b || has_key k ks) (key_eq-self k)))
    ∙ all-same f g gs ks (put_rows gs (g k) k bs) (λ q e. h q (ap (λ b. key_eq q k || b) e ∙ or-yes (key_eq q k)))
  where
    or-yes : (b : Bool) → (b || true) ≡ true
    or-yes true = refl
    or-yes false = refl

-- one row, at its own keys
pub one-row : (all : List PlacedRow) (gs : List Gatherer) (k : Kind) (row : PlacedRow) (bs : List Bucket) → keeps_all k ≡ true → put_all (λ q. row ∷ []) gs (keys all k row) bs ≡ gathered_buckets all gs k (row ∷ []) bs
one-row all gs k row bs h =
    all-same (λ q. row ∷ []) (group all k (row ∷ [])) gs (keys all k row) bs (λ q e. sym (group-one all k row q e))
    ∙ ap (λ ks. put_all (group all k (row ∷ [])) gs ks bs) (sym (keys-one all k row))
    ∙ sym (groups-all (group all k (row ∷ [])) gs k (all_keys all k (row ∷ [])) bs h)

pub ascending-apart : (ks : List Key) → T (is_ascending ks) → AreApart ks
ascending-apart [] up = tt
ascending-apart (k ∷ ks) up = (below-absent k ks (and_left _ _ up), ascending-apart ks (and_right _ _ up))

codes-apart : (key_of : ℤ → Key) → HasOwnKeys key_of → (cs : List ℤ) → IsDistinct int_eq cs → AreApart (map key_of cs)
codes-apart key_of own [] h = tt
codes-apart key_of own (c ∷ cs) h = (no-code cs (first-absent c cs h), codes-apart key_of own cs (rest-distinct c cs h))
  where
    no-code : (ds : List ℤ) → list_any (int_eq c) ds ≡ false → has_key (key_of c) (map key_of ds) ≡ false
    no-code [] e = refl
    no-code (d ∷ ds) e = let parts = or_parts (int_eq c d) (list_any (int_eq c) ds) e in λ i. apart-keys key_of own c d parts.0 i || no-code ds parts.1 i

module _ (all : List PlacedRow) (k : Kind) (rows : List ℕ) where
  abbrev keys_at : ℕ → List Key
  keys_at n = keys all k (row_of all n)

  -- the rows of a group are those that have its key
  group-is : (q : Key) → map (row_of all) (rows_with q (pairs_of keys_at rows)) ≡ group all k (map (row_of all) rows) q
  group-is q =
      ap (map (row_of all)) (rows-with-key keys_at (λ n. ascending-keys all k (row_of all n)) q rows)
      ∙ sym (filter-map (λ r. has_key q (keys all k r)) (row_of all) rows)

  module _ (key_of : ℤ → Key) (own : HasOwnKeys key_of) (codes : List ℤ) (groups : List (List ℕ)) (are : AreGroups key_of (pairs_of keys_at rows) codes groups) where
    pub groups-are : map (map (row_of all)) groups ≡ map (λ c. group all k (map (row_of all) rows) (key_of c)) codes
    groups-are = ap (map (map (row_of all))) are.groups_are ∙ each codes
      where
        each : (cs : List ℤ) → map (map (row_of all)) (map (λ c. rows_with (key_of c) (pairs_of keys_at rows)) cs) ≡ map (λ c. group all k (map (row_of all) rows) (key_of c)) cs
        each [] = refl
        each (c ∷ cs) = λ i. group-is (key_of c) i ∷ each cs i

    pub many-rows : IsDistinct int_eq codes → (gs : List Gatherer) (bs : List Bucket) → keeps_all k ≡ true → T (is_ascending (map bucket_key bs))
        → put_all (group all k (map (row_of all) rows)) gs (map key_of codes) bs ≡ gathered_buckets all gs k (map (row_of all) rows) bs
    many-rows distinct gs bs h up =
        any-order (group all k (map (row_of all) rows)) gs (map key_of codes) (all_keys all k (map (row_of all) rows)) bs (codes-apart key_of own codes distinct)
        (ascending-apart (all_keys all k (map (row_of all) rows)) (ascending-distinct_keys (flat_map (keys all k) (map (row_of all) rows))))
        (λ q. are.there q ∙ ap (has_key q) (keys-of-pairs keys_at rows ∙ flat-rows rows) ∙ sym (has_key-distinct_keys q (flat_map (keys all k) (map (row_of all) rows)))) up
        ∙ sym (groups-all (group all k (map (row_of all) rows)) gs k (all_keys all k (map (row_of all) rows)) bs h)
      where
        flat-rows : (ns : List ℕ) → flat_map keys_at ns ≡ flat_map (keys all k) (map (row_of all) ns)
        flat-rows [] = refl
        flat-rows (n ∷ ns) = ap (λ ks. keys_at n ++ ks) (flat-rows ns)

    -- the rows of a group are some of these
    pub groups-within : (P : ℕ → Type 0) → All P rows → All (All P) groups
    groups-within P h = subst (All (All P)) (sym are.groups_are) (each codes)
      where
        one : (c : ℤ) → All P (rows_with (key_of c) (pairs_of keys_at rows))
        one c = subst (All P) (sym (rows-with-key keys_at (λ n. ascending-keys all k (row_of all n)) (key_of c) rows)) (All-filter (λ n. has_key (key_of c) (keys_at n)) P rows h)

        each : (cs : List ℤ) → All (All P) (map (λ c. rows_with (key_of c) (pairs_of keys_at rows)) cs)
        each cs = All-map (All P) (λ c. rows_with (key_of c) (pairs_of keys_at rows)) cs (λ i d l. one _)
