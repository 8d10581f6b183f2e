-- Groups of rows, and the rows that paths reach: each group's rows are covered by paths, also after a step down the tree.
use Rattle.std.specs.Prelude.{◌≡◌, refl, ℕ, suc, ◌+◌, ◌*◌, ◌≤◌, ◌==◌, Bool, true, false, cond, ◌&&◌, ◌||◌, T, List, [], ◌∷◌, map, filter, flat_map, sum_by, length}
use Rattle.std.specs.List.{list_any}
use Rattle.std.specs.declared.cmp.Ordering.TheVariants.{Less, Equal, Greater}
use Rattle.std.specs.Ordering.{match_ordering}
use Rattle.std.proofs.Common.{◌∙◌, subst, arith, mul_assoc}
use Rattle.std.proofs.lemmas.List.Sums.{sum_by-cons, sum-map}
use Rattle.list_laws.proofs.Booleans.{or_false}
use Rattle.agg_model.specs.declared.key.Key.{Key}
use Rattle.agg_model.specs.declared.mapping.FieldKind.{FieldKind}
use Rattle.agg_model.specs.declared.aggregation.Kind.{Kind}
use Rattle.agg_model.specs.declared.aggregation.Kind.TheVariants as kind
use Rattle.agg_evaluation.specs.KeyOrder.{key_cmp, key_eq, has_key}
use Rattle.list_laws.specs.Sorting.{insert_once}
use Rattle.agg_evaluation.specs.Rows.{PlacedRow, is_within, beneath, enclosing}
use Rattle.agg_evaluation.specs.Keys.{keys, distinct_keys}
use Rattle.agg_evaluation.specs.Groups.{under, group}
use Rattle.agg_evaluation.specs.Trace.{is_global}
use Rattle.agg_evaluation.specs.Trees.{is_ascending}
use Rattle.agg_evaluation.specs.Ceiling.{Reached, path_count, counted_from}
use Rattle.agg_evaluation.proofs.KeyParts.{at_most_once}
use Rattle.list_laws.proofs.Lists.{append-nil, sum_by-flat_map, sum_by-map}
use Rattle.list_laws.proofs.Sums.{sum_by-either, sum_by-at_most, sum_by-plus, sum_by-zero, sum_by-times, sum_by-exchange, sum_by-where}

-- a number of each row, over groups and over paths
abbrev pub over_groups : (PlacedRow → ℕ) → List (List PlacedRow) → ℕ
over_groups f gs = sum_by (λ g. sum_by f g) gs

abbrev pub over_paths : (PlacedRow → ℕ) → List Reached → ℕ
over_paths f rs = sum_by (λ r. r.1 * f r.0) rs

-- whatever is counted of the rows, the groups have at most what the paths have
abbrev pub Covers : List (List PlacedRow) → List Reached → Type 0
Covers gs rs = (f : PlacedRow → ℕ) → over_groups f gs ≤ over_paths f rs

module _ (all : List PlacedRow) where
  abbrev step : Kind → PlacedRow → List PlacedRow
  step k r = under all (r ∷ []) k (r ∷ [])

  no_rows : (f : PlacedRow → ℕ) (p : PlacedRow → Bool) (xs : List PlacedRow) → sum_by f (filter (λ r. p r && false) xs) ≡ 0
  no_rows f p [] = refl
  no_rows f p (x ∷ xs) = elim (p x) as (λ b. sum_by f (cond (b && false) (x ∷ filter (λ r. p r && false) xs) (filter (λ r. p r && false) xs)) ≡ 0) [ true ↦ no_rows f p xs | false ↦ no_rows f p xs ]

  enclosing-covers : (f : PlacedRow → ℕ) (context : ℕ) (rows : List PlacedRow) → sum_by f (enclosing all context rows) ≤ sum_by (λ r. sum_by f (enclosing all context (r ∷ []))) rows
  enclosing-covers f context [] = let none = no_rows f (λ r. r.context == context) all in omega arith
  enclosing-covers f context (i ∷ rows) =
      let here = λ (r : PlacedRow). r.context == context in
      let split = sum_by-either f here (λ r. is_within i r) (λ r. list_any (λ j. is_within j r) rows) all in
      let rest = enclosing-covers f context rows in
      let cons = sum_by-cons (λ r. sum_by f (enclosing all context (r ∷ []))) i rows in
      let one : sum_by f (enclosing all context (i ∷ [])) ≡ sum_by f (filter (λ r. here r && is_within i r) all) = (λ j. sum_by f (filter (λ r. here r && or_false (is_within i r) j) all)) in
      omega arith

  nested-covers : (f : PlacedRow → ℕ) (context : ℕ) (rows : List PlacedRow) → sum_by f (flat_map (beneath all context) rows) ≤ sum_by (λ r. sum_by f (flat_map (beneath all context) (r ∷ []))) rows
  nested-covers f context rows =
      let whole = sum_by-flat_map f (beneath all context) rows in
      let each : sum_by (λ r. sum_by f (flat_map (beneath all context) (r ∷ []))) rows ≡ sum_by (λ r. sum_by f (beneath all context r)) rows = (λ i. sum_by (λ r. sum_by f (append-nil (beneath all context r) i)) rows) in
      omega arith

  same-covers : (f : PlacedRow → ℕ) (rows : List PlacedRow) → sum_by f rows ≤ sum_by (λ r. sum_by f (r ∷ [])) rows
  same-covers f rows = sum_by-at_most f (λ r. sum_by f (r ∷ [])) rows (λ r. omega arith)

  under-covers : (roots : List PlacedRow) (k : Kind) → is_global k ≡ false → (f : PlacedRow → ℕ) (rows : List PlacedRow) → sum_by f (under all roots k rows) ≤ sum_by (λ r. sum_by f (step k r)) rows
  under-covers roots (kind.Nested context) e f rows = nested-covers f context rows
  under-covers roots (kind.ReverseNested context) e f rows = enclosing-covers f context rows
  under-covers roots kind.Global e f rows = absurd (subst T e tt)
  under-covers roots (kind.Terms field size shard_size min_doc_count order include exclude missing show_error) e f rows = same-covers f rows
  under-covers roots (kind.Histogram field interval offset min_doc_count extended hard keyed order missing) e f rows = same-covers f rows
  under-covers roots (kind.DateHistogram field period zone min_doc_count extended hard keyed order missing) e f rows = same-covers f rows
  under-covers roots (kind.Filters names filters other) e f rows = same-covers f rows
  under-covers roots (kind.Filter query) e f rows = same-covers f rows
  under-covers roots (kind.Missing field) e f rows = same-covers f rows
  under-covers roots (kind.Composite sources size after) e f rows = same-covers f rows
  under-covers roots (kind.Sum field missing) e f rows = same-covers f rows
  under-covers roots (kind.Min field missing) e f rows = same-covers f rows
  under-covers roots (kind.Max field missing) e f rows = same-covers f rows
  under-covers roots (kind.Avg field missing) e f rows = same-covers f rows
  under-covers roots (kind.ValueCount field missing) e f rows = same-covers f rows

  pub over_paths-counted : (kinds : List FieldKind) (k : Kind) (f : PlacedRow → ℕ) (rs : List Reached) → over_paths f (counted_from kinds all k rs) ≡ over_paths (λ r. sum_by f (step k r)) rs
  over_paths-counted kinds k f rs =
      sum_by-flat_map (λ (r : Reached). r.1 * f r.0) (λ r. map (λ row. (row, r.1)) (step k r.0)) rs
      ∙ (λ i. sum_by (λ r. one r i) rs)
    where
      one : (r : Reached) → sum_by (λ (r : Reached). r.1 * f r.0) (map (λ row. (row, r.1)) (step k r.0)) ≡ r.1 * sum_by f (step k r.0)
      one r = sum_by-map (λ (r : Reached). r.1 * f r.0) (λ row. (row, r.1)) (step k r.0) ∙ sum_by-times r.1 f (step k r.0)

  -- one level down, to the rows that an aggregation counts
  pub counted-covers : (kinds : List FieldKind) (roots : List PlacedRow) (k : Kind) → is_global k ≡ false → (gs : List (List PlacedRow)) (rs : List Reached) → Covers gs rs
      → Covers (map (under all roots k) gs) (counted_from kinds all k rs)
  counted-covers kinds roots k e gs rs covers f =
      let made = sum_by-map (λ g. sum_by f g) (under all roots k) gs in
      let each = sum_by-at_most (λ g. sum_by f (under all roots k g)) (λ g. sum_by (λ r. sum_by f (step k r)) g) gs (λ g. under-covers roots k e f g) in
      let here = covers (λ r. sum_by f (step k r)) in
      let paths = over_paths-counted kinds k f rs in
      omega arith

  -- among ascending keys at most as many are a row's as it has keys
  keys-at_most : (n : ℕ) (js ks : List Key) → T (is_ascending ks) → sum_by (λ q. cond (has_key q js) n 0) ks ≤ length js * n
  keys-at_most n [] ks up = let none = sum_by-zero ks in omega arith
  keys-at_most n (j ∷ js) ks up =
      let each = sum_by-at_most (λ q. cond (key_eq q j || has_key q js) n 0) (λ q. cond (key_eq q j) n 0 + cond (has_key q js) n 0) ks (λ q. either (key_eq q j) (has_key q js)) in
      let both = sum_by-plus (λ q. cond (key_eq q j) n 0) (λ q. cond (has_key q js) n 0) ks in
      let one = at_most_once (λ b. 0) j n ks up in
      let rest = keys-at_most n js ks up in
      let product : suc (length js) * n ≡ n + length js * n = omega arith in
      omega arith
    where
      either : (b c : Bool) → cond (b || c) n 0 ≤ cond b n 0 + cond c n 0
      either true true = omega arith
      either true false = omega arith
      either false true = omega arith
      either false false = omega arith

  -- the groups of ascending keys
  groups-at_most : (k : Kind) (f : PlacedRow → ℕ) (rows : List PlacedRow) (ks : List Key) → T (is_ascending ks) → sum_by (λ q. sum_by f (group all k rows q)) ks ≤ sum_by (λ r. length (keys all k r) * f r) rows
  groups-at_most k f rows ks up =
      let tested : sum_by (λ q. sum_by f (group all k rows q)) ks ≡ sum_by (λ q. sum_by (λ r. cond (has_key q (keys all k r)) (f r) 0) rows) ks = (λ i. sum_by (λ q. sum_by-where f (λ r. has_key q (keys all k r)) rows i) ks) in
      let turned = sum_by-exchange (λ (q : Key) (r : PlacedRow). cond (has_key q (keys all k r)) (f r) 0) ks rows in
      let each = sum_by-at_most (λ r. sum_by (λ q. cond (has_key q (keys all k r)) (f r) 0) ks) (λ r. length (keys all k r) * f r) rows (λ r. keys-at_most (f r) (keys all k r) ks up) in
      omega arith

  abbrev pub handed : Kind → List Reached → List Reached
  handed k rs = map (λ r. (r.0, r.1 * length (keys all k r.0))) rs

  over_paths-handed : (k : Kind) (f : PlacedRow → ℕ) (rs : List Reached) → over_paths f (handed k rs) ≡ over_paths (λ r. length (keys all k r) * f r) rs
  over_paths-handed k f rs =
      sum_by-map (λ (r : Reached). r.1 * f r.0) (λ r. (r.0, r.1 * length (keys all k r.0))) rs
      ∙ (λ i. sum_by (λ r. times r.1 (length (keys all k r.0)) (f r.0) i) rs)
    where
      times : (a b c : ℕ) → (a * b) * c ≡ a * (b * c)
      times a b c = mul_assoc a b c

  -- one level down, to the groups of keys
  pub groups-cover : (k : Kind) (keys_of : List PlacedRow → List Key) → ((rows : List PlacedRow) → T (is_ascending (keys_of rows))) → (cs : List (List PlacedRow)) (rs : List Reached) → Covers cs rs
      → Covers (flat_map (λ rows. map (group all k rows) (keys_of rows)) cs) (handed k rs)
  groups-cover k keys_of up cs rs covers f =
      let made = sum_by-flat_map (λ g. sum_by f g) (λ rows. map (group all k rows) (keys_of rows)) cs in
      let each : sum_by (λ rows. sum_by (λ g. sum_by f g) (map (group all k rows) (keys_of rows))) cs ≡ sum_by (λ rows. sum_by (λ q. sum_by f (group all k rows q)) (keys_of rows)) cs
      = (λ i. sum_by (λ rows. sum_by-map (λ g. sum_by f g) (group all k rows) (keys_of rows) i) cs) in
      let bounded = sum_by-at_most (λ rows. sum_by (λ q. sum_by f (group all k rows q)) (keys_of rows)) (λ rows. sum_by (λ r. length (keys all k r) * f r) rows) cs (λ rows. groups-at_most k f rows (keys_of rows) (up rows)) in
      let here = covers (λ r. length (keys all k r) * f r) in
      let paths = over_paths-handed k f rs in
      omega arith

  pub path_count-handed : (k : Kind) (rs : List Reached) → path_count (handed k rs) ≡ over_paths (λ r. length (keys all k r)) rs
  path_count-handed k rs = sum-map (λ (r : Reached). r.1) (handed k rs) ∙ sum_by-map (λ (r : Reached). r.1) (λ r. (r.0, r.1 * length (keys all k r.0))) rs

-- of the distinct keys of a list no more is counted than of the list
pub distinct-at_most : (f : Key → ℕ) (ks : List Key) → sum_by f (distinct_keys ks) ≤ sum_by f ks
distinct-at_most f [] = omega arith
distinct-at_most f (k ∷ ks) =
    let whole = sum_by-cons f k ks in
    let rest = distinct-at_most f ks in
    let here = insert-at_most k (distinct_keys ks) in
    omega arith
  where
    insert-at_most : (k : Key) (ks : List Key) → sum_by f (insert_once key_cmp k ks) ≤ f k + sum_by f ks
    insert-at_most k [] = let one = sum_by-cons f k [] in omega arith
    insert-at_most k (j ∷ ks) =
        let whole = sum_by-cons f j ks in
        elim (key_cmp k j) as (λ r. sum_by f (match_ordering r (k ∷ j ∷ ks) (j ∷ ks) (j ∷ insert_once key_cmp k ks)) ≤ f k + sum_by f (j ∷ ks)) [
          | Less ↦ let made = sum_by-cons f k (j ∷ ks) in omega arith
          | Equal ↦ omega arith
          | Greater ↦ let made = sum_by-cons f j (insert_once key_cmp k ks) in let rest = insert-at_most k ks in omega arith
        ]
