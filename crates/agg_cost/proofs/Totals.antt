-- The aggregations of a search, and their bytes together.
use Rattle.std.proofs.Common.{◌≡◌, refl, ℕ, ◌+◌, ◌*◌, ◌-◌, ◌^◌, ◌≤◌, ◌<◌, Bool, true, false, List, [], ◌∷◌, length, get_or, map, take, sym, ◌∙◌, ap, arith, ⊎_elim, Some, None}
use Rattle.std.specs.Prelude.{◌||◌, nat_lt, sum, sum_by, if◌then◌else◌}
use Rattle.std.specs.List.{list_any}
use Rattle.std.proofs.lemmas.List.Folds.{list_any_at, list_any_more}
use Rattle.std.proofs.lemmas.List.{take_more, take_all}
use Rattle.std.proofs.Math.Logic.{∥∥₁_map}
use Rattle.std.proofs.lemmas.Bool.{and_parts}
use Rattle.std.proofs.lemmas.Bool.Decides.{nat_tests}
use Rattle.std.proofs.lemmas.List.Sums.{sum-map, sum_by-append, sum_by-cons}
use Rattle.agg_model.specs.declared.aggregation.Agg.{Agg, out-Agg}
use Rattle.agg_model.specs.declared.aggregation.Search.{Search}
use Rattle.agg_model.specs.declared.mapping.FieldKind.{FieldKind}
use Rattle.agg_evaluation.specs.Ceiling.{Reached, ceiling, ceiling_by, collected_roots, is_wide_at, node_bound, within_greatest}
use Rattle.agg_evaluation.specs.Matching.{matched_roots}
use Rattle.agg_evaluation.specs.Rows.{PlacedRow, roots, row_of}
use Rattle.agg_evaluation.specs.Trace.{is_global}
use Rattle.agg_evaluation.specs.QueryFits.{query_fits}
use Rattle.agg_evaluation.specs.SearchFits.{agg_fits}
use Rattle.column_query.proofs.PreparedCases.{all_at}
use Rattle.column_query.specs.Made.{IsMadeFor as IsQueryFor}
use Rattle.shard_columns.specs.Columns.{Columns}
use Rattle.agg_cost.specs.Capped.{capped, Alike}
use Rattle.agg_cost.specs.Paths.{reached_by}
use Rattle.agg_cost.specs.Roots.{once_each, collected_by}
use Rattle.agg_cost.specs.declared.paths.RowPaths.{RowPaths}
use Rattle.shard_columns.specs.Made.{IsAggFor, IsSearchFor}
use Rattle.agg_cost.proofs.Capping.{alike_capped, alike-mul, same_or_great}

pub query-made : (shard : Columns) (s : Search) → IsSearchFor shard s → IsQueryFor shard 0 s.query
query-made shard s made = ∥∥₁_map made (λ found. (found.0, (found.1.0, (and_parts (query_fits found.0 0 s.query) _ found.1.1).0)))

pub agg-made : (shard : Columns) (s : Search) (i : ℕ) (a : Agg) → IsSearchFor shard s → i < length s.aggs → a ≡ get_or s.aggs i a → IsAggFor shard a
agg-made shard s i a made below is =
    ∥∥₁_map made (λ found.
    let m = found.0 in
    (m, (true, (0, (found.1.0, all_at (agg_fits m true 0) s.aggs i a below is (and_parts (query_fits m 0 s.query) _ found.1.1).1)))))

great-none : (n : ℕ) → 2 ^ 64 - 1 ≤ n → within_greatest n ≡ None
great-none n great = let above : nat_lt (2 ^ 50) n ≡ true = grind (arith, nat_tests) in ap (λ (t : Bool). if t then None else Some n) above

within-alike : (a b : ℕ) → Alike a b → within_greatest a ≡ within_greatest b
within-alike a b e = ⊎_elim (λ same. ap within_greatest same) (λ great. great-none a great.0 ∙ sym (great-none b great.1)) (same_or_great a b e)

-- twice the bytes, unless that is too much
pub twice-within : (bytes twice total : ℕ) → bytes ≡ capped total → twice ≡ capped (bytes * 2) → within_greatest twice ≡ within_greatest (2 * total)
twice-within bytes twice total is doubled =
    let turned : total * 2 ≡ 2 * total = omega arith in
    within-alike twice (2 * total) (ap capped doubled ∙ (alike_capped (bytes * 2) ∙ (alike-mul bytes total 2 2 (ap capped is ∙ alike_capped total) refl ∙ ap capped turned)))

-- an aggregation's bytes, and whether a matched root is too wide for it
abbrev pub bytes_of : List FieldKind → List PlacedRow → Search → Agg → ℕ
bytes_of kinds rows s a = node_bound kinds rows a 1 (collected_roots s rows (out-Agg a).kind)

abbrev pub is_wide_agg : List PlacedRow → Search → Agg → Bool
is_wide_agg rows s a = is_wide_at (out-Agg a).kind (matched_roots rows s.query)

abbrev pub rows_in : List PlacedRow → List RowPaths → List PlacedRow
rows_in rows rs = map (λ r. row_of rows r.row) rs

module _ (rows : List PlacedRow) where
  unpaired : (rs : List RowPaths) → map (λ (r : Reached). r.0) (reached_by rows rs) ≡ rows_in rows rs
  unpaired [] = refl
  unpaired (r ∷ rs) = ap (λ (xs : List PlacedRow). row_of rows r.row ∷ xs) (unpaired rs)

  without_paths : (found : List PlacedRow) → map (λ (r : Reached). r.0) (once_each found) ≡ found
  without_paths [] = refl
  without_paths (x ∷ xs) = ap (λ (ys : List PlacedRow). x ∷ ys) (without_paths xs)

  pub same-rows : (rs : List RowPaths) (found : List PlacedRow) → reached_by rows rs ≡ once_each found → rows_in rows rs ≡ found
  same-rows rs found e = sym (unpaired rs) ∙ (ap (map (λ (r : Reached). r.0)) e ∙ without_paths found)

  collected : (global : Bool) (reached : List Reached) (found : List PlacedRow) → reached ≡ once_each found → collected_by global rows reached ≡ once_each (if global then roots rows else found)
  collected true reached found e = refl
  collected false reached found e = e

  -- the bytes of one aggregation
  pub one-bytes : (kinds : List FieldKind) (s : Search) (a : Agg) (rs : List RowPaths) → reached_by rows rs ≡ once_each (matched_roots rows s.query)
      → node_bound kinds rows a 1 (collected_by (is_global (out-Agg a).kind) rows (reached_by rows rs)) ≡ bytes_of kinds rows s a
  one-bytes kinds s a rs e = ap (λ (reached : List Reached). node_bound kinds rows a 1 reached) (collected (is_global (out-Agg a).kind) (reached_by rows rs) (matched_roots rows s.query) e)

pub sum-more : (f : Agg → ℕ) (xs : List Agg) (i : ℕ) (a : Agg) → i < length xs → a ≡ get_or xs i a → sum_by f (take (i + 1) xs) ≡ sum_by f (take i xs) + f a
sum-more f xs i a below is =
    let whole = ap (sum_by f) (take_more xs i a below) ∙ sum_by-append f (take i xs) (get_or xs i a ∷ []) in
    let one = sum_by-cons f (get_or xs i a) [] in
    let same = ap f is in
    omega arith

added : (bytes one both before n after : ℕ) → bytes ≡ capped before → one ≡ capped n → both ≡ capped (bytes + one) → after ≡ before + n → both ≡ capped after
added bytes one both before n after e f g h = omega arith

-- one aggregation more
pub total-more : (f : Agg → ℕ) (xs : List Agg) (i : ℕ) (a : Agg) (bytes one both : ℕ) → i < length xs → a ≡ get_or xs i a → bytes ≡ capped (4096 + sum_by f (take i xs)) → one ≡ capped (f a)
    → both ≡ capped (bytes + one) → both ≡ capped (4096 + sum_by f (take (i + 1) xs))
total-more f xs i a bytes one both below is before here sum =
    let more = sum-more f xs i a below is in
    let after : 4096 + sum_by f (take (i + 1) xs) ≡ (4096 + sum_by f (take i xs)) + f a = omega arith in
    added bytes one both (4096 + sum_by f (take i xs)) (f a) (4096 + sum_by f (take (i + 1) xs)) before here sum after

pub none-more : (w : Agg → Bool) (xs : List Agg) (i : ℕ) (a : Agg) → i < length xs → a ≡ get_or xs i a → list_any w (take i xs) ≡ false → w a ≡ false → list_any w (take (i + 1) xs) ≡ false
none-more w xs i a below is before here = list_any_more w xs i a below ∙ (λ j. before j || (ap w (sym is) ∙ here) j)

pub one-wide : (w : Agg → Bool) (xs : List Agg) (i : ℕ) (a : Agg) → i < length xs → a ≡ get_or xs i a → w a ≡ true → list_any w xs ≡ true
one-wide w xs i a below is here = list_any_at w xs i a below (ap w (sym is) ∙ here)

-- all aggregations together
pub whole-ceiling : (kinds : List FieldKind) (rows : List PlacedRow) (s : Search) (xs : List Agg) (n bytes twice : ℕ) → xs ≡ s.aggs → length xs ≤ n
    → bytes ≡ capped (4096 + sum_by (bytes_of kinds rows s) (take n xs)) → list_any (is_wide_agg rows s) (take n xs) ≡ false → twice ≡ capped (bytes * 2)
    → within_greatest twice ≡ ceiling kinds s rows
whole-ceiling kinds rows s xs n bytes twice is le before narrow doubled =
    let all = take_all n xs le ∙ is in
    twice-within bytes twice (4096 + sum_by (bytes_of kinds rows s) s.aggs) (before ∙ ap (λ (ys : List Agg). capped (4096 + sum_by (bytes_of kinds rows s) ys)) all) doubled
    ∙ (ap (λ (n : ℕ). within_greatest (2 * (4096 + n))) (sym (sum-map (bytes_of kinds rows s) s.aggs))
    ∙ ap (λ (b : Bool). ceiling_by b kinds s rows) (sym (sym (ap (list_any (is_wide_agg rows s)) all) ∙ narrow)))
