-- Searches that bounds on their aggregations show to have a ceiling.
use Rattle.std.proofs.Common.{◌≡◌, refl, ℕ, zero, suc, ◌+◌, ◌*◌, ◌^◌, ◌<◌, ◌≤◌, Bool, true, false, List, [], ◌∷◌, length, filter, take, get_or, sym, ◌∙◌, ap, subst, arith, Some, None}
use Rattle.std.specs.Prelude.{◌||◌, cond, nat_lt, sum_by, Option, IfSome, if◌then◌else◌, slice_get}
use Rattle.std.specs.List.{list_any}
use Rattle.std.proofs.lemmas.List.{take_all}
use Rattle.std.proofs.lemmas.List.Sums.{sum-map, sum_by-cons}
use Rattle.std.proofs.lemmas.Bool.{ltb-false}
use Rattle.std.proofs.lemmas.Bool.Decides.{nat_tests}
use Rattle.list_laws.proofs.Sums.{sum_by-filter}
use Rattle.agg_model.specs.declared.aggregation.Agg.{Agg, out-Agg}
use Rattle.agg_model.specs.declared.aggregation.CompositeSource.{CompositeSource}
use Rattle.agg_model.specs.declared.aggregation.Kind.{Kind}
use Rattle.agg_model.specs.declared.aggregation.Kind.TheVariants as kind
use Rattle.agg_model.specs.declared.aggregation.Search.{Search}
use Rattle.agg_model.specs.declared.mapping.FieldKind.{FieldKind}
use Rattle.agg_model.specs.declared.query.Query.{Query}
use Rattle.agg_evaluation.specs.Ceiling.{Reached, ceiling_by, collected_roots, combination_count, greatest_combinations, has_wide_row, is_wide_at, task_bound, within_greatest}
use Rattle.agg_evaluation.specs.Matching.{matched_roots, matches}
use Rattle.agg_evaluation.specs.Rows.{PlacedRow, roots, row_of}
use Rattle.agg_evaluation.specs.Trace.{is_global}
use Rattle.growth_laws.proofs.Combinations.{composite-count}
use Rattle.shard_columns.specs.Columns.{Columns}
use Rattle.shard_columns.specs.Index.{rows_by_shard}
use Rattle.agg_cost.specs.Paths.{over_paths}
use Rattle.agg_cost.specs.Roots.{once_each}
use Rattle.agg_cost.specs.Widths.{HasCeilingAtMost, HasKeysAtMost, HasSumAtMost, HoldsAtMost, IsNarrow, IsReachedAtMost}
use Rattle.agg_cost.proofs.Summing.{all-summed, first_sum, sum-next}
use Rattle.agg_cost.proofs.Totals.{bytes_of, is_wide_agg, none-more, sum-more}

none-any : (w : PlacedRow → Bool) (xs : List PlacedRow) → ((i : ℕ) → i < length xs → w (row_of xs i) ≡ false) → list_any w xs ≡ false
none-any w [] none = refl
none-any w (x ∷ xs) none =
    let here : w x ≡ false = none zero (omega arith) in
    let rest = none-any w xs (λ i below. none (suc i) (omega (arith, below))) in
    (λ j. here j || rest j)

none-filtered : (w p : PlacedRow → Bool) (xs : List PlacedRow) → list_any w xs ≡ false → list_any w (filter p xs) ≡ false
none-filtered w p [] none = refl
none-filtered w p (x ∷ xs) none = by_first (none-filtered w p xs) (w x) refl
  where
    by_first : (list_any w xs ≡ false → list_any w (filter p xs) ≡ false) → (b : Bool) → w x ≡ b → list_any w (cond (p x) (x ∷ filter p xs) (filter p xs)) ≡ false
    by_first rest true same = absurd (let no : true ≡ false = sym (ap (λ (b : Bool). b || list_any w xs) same) ∙ none in (let never : ⊥ = cc in never))
    by_first rest false same =
        let later = rest (sym (ap (λ (b : Bool). b || list_any w xs) same) ∙ none) in
        elim (p x) as (λ b. list_any w (cond b (x ∷ filter p xs) (filter p xs)) ≡ false) [ true ↦ (λ j. same j || later j) | false ↦ later ]

not-above : (n : ℕ) → n ≤ greatest_combinations → nat_lt greatest_combinations n ≡ false
not-above n low = grind (arith, nat_tests)

module _ (rows : List PlacedRow) where
  pub few-narrow : (sources : List CompositeSource) (size : ℕ) (after : _) (most : ℕ) → HasKeysAtMost most (kind.Composite sources size after) rows → most ≤ greatest_combinations
      → IsNarrow (kind.Composite sources size after) rows
  few-narrow sources size after most few low =
      none-any (λ row. nat_lt greatest_combinations (combination_count sources row)) rows (λ i below.
      let count = composite-count sources (row_of rows i) in
      let fewer = few i below in
      not-above (combination_count sources (row_of rows i)) (omega (arith, fewer, low, count)))

  pub narrow-matched : (k : Kind) (q : Query) → IsNarrow k rows → is_wide_at k (matched_roots rows q) ≡ false
  narrow-matched (kind.Composite sources size after) q none =
      let w = λ (row : PlacedRow). nat_lt greatest_combinations (combination_count sources row) in
      none-filtered w (matches rows q) (roots rows) (none-filtered w _ rows none)
  narrow-matched (kind.Terms field size shard_size min_doc_count order include exclude missing show_error) q none = refl
  narrow-matched (kind.Histogram field interval offset min_doc_count extended hard keyed order missing) q none = refl
  narrow-matched (kind.DateHistogram field period zone min_doc_count extended hard keyed order missing) q none = refl
  narrow-matched (kind.Filters names filters other) q none = refl
  narrow-matched (kind.Filter query) q none = refl
  narrow-matched (kind.Missing field) q none = refl
  narrow-matched kind.Global q none = refl
  narrow-matched (kind.Nested context) q none = refl
  narrow-matched (kind.ReverseNested context) q none = refl
  narrow-matched (kind.Sum field missing) q none = refl
  narrow-matched (kind.Min field missing) q none = refl
  narrow-matched (kind.Max field missing) q none = refl
  narrow-matched (kind.Avg field missing) q none = refl
  narrow-matched (kind.ValueCount field missing) q none = refl

  once : (f : PlacedRow → ℕ) (xs : List PlacedRow) → over_paths f (once_each xs) ≡ sum_by f xs
  once f [] = refl
  once f (x ∷ xs) =
      let whole = sum_by-cons (λ (r : Reached). r.1 * f r.0) (x, 1) (once_each xs) in
      let part = sum_by-cons f x xs in
      let rest = once f xs in
      omega arith

  collected-once : (q : Query) (global : Bool) → IsReachedAtMost 1 rows (once_each (if global then roots rows else matched_roots rows q))
  collected-once q true f =
      let same = once f (roots rows) in
      let low : sum_by f (roots rows) ≤ sum_by f rows = sum_by-filter f _ rows in
      omega (arith, same, low)
  collected-once q false f =
      let same = once f (matched_roots rows q) in
      let first : sum_by f (matched_roots rows q) ≤ sum_by f (roots rows) = sum_by-filter f (matches rows q) (roots rows) in
      let low : sum_by f (roots rows) ≤ sum_by f rows = sum_by-filter f _ rows in
      omega (arith, same, first, low)

  module _ (kinds : List FieldKind) (s : Search) where
    -- the aggregations so far
    pub record AreNarrow (bytes : ℕ) (aggs : List Agg) : Type 0 where
      pub low : 4096 + sum_by (bytes_of kinds rows s) aggs ≤ bytes
      pub narrow : list_any (is_wide_agg rows s) aggs ≡ false

    pub agg-more : (aggs : List Agg) (i : ℕ) (a : Agg) (bytes one both : ℕ) → i < length aggs → a ≡ get_or aggs i a → IsNarrow (out-Agg a).kind rows → HoldsAtMost one kinds rows a 1 1
        → both ≡ bytes + one → AreNarrow bytes (take i aggs) → AreNarrow both (take (i + 1) aggs)
    agg-more aggs i a bytes one both below is narrow holds sum before =
        let more = sum-more (bytes_of kinds rows s) aggs i a below is in
        let held : bytes_of kinds rows s a ≤ one = holds 1 (collected_roots s rows (out-Agg a).kind) (omega arith) (collected-once s.query (is_global (out-Agg a).kind)) in
        let was = before.low in
        record {
          low = omega (arith, more, held, was, sum);
          narrow = none-more (is_wide_agg rows s) aggs i a below is before.narrow (narrow-matched (out-Agg a).kind s.query narrow);
        }

    pub task-narrow : (aggs : List Agg) (n bytes twice : ℕ) → aggs ≡ s.aggs → length aggs ≤ n → AreNarrow bytes (take n aggs) → twice ≡ bytes * 2 → (o : Option ℕ) → o ≡ within_greatest twice
        → IfSome o (λ most. HasCeilingAtMost most kinds s rows)
    task-narrow aggs n bytes twice is le are doubled o same =
        let whole : AreNarrow bytes s.aggs = subst (AreNarrow bytes) (take_all n aggs le ∙ is) are in
        let sums = sum-map (bytes_of kinds rows s) s.aggs in
        let held = whole.low in
        let low : task_bound kinds s rows ≤ twice = omega (arith, held, sums, doubled) in
        subst (λ (o : Option ℕ). IfSome o (λ most. HasCeilingAtMost most kinds s rows)) (sym same) (by_test whole.narrow low (nat_lt (2 ^ 50) twice) refl)
      where
        by_test : has_wide_row s rows ≡ false → task_bound kinds s rows ≤ twice → (b : Bool) → nat_lt (2 ^ 50) twice ≡ b → IfSome (if b then None else Some twice) (λ most. HasCeilingAtMost most kinds s rows)
        by_test narrow low true above = tt
        by_test narrow low false above =
            let most = ltb-false (2 ^ 50) twice above in
            let under : nat_lt (2 ^ 50) (task_bound kinds s rows) ≡ false = grind (arith, nat_tests, most, low) in
            record {
              bytes = task_bound kinds s rows;
              is = ap (λ (b : Bool). ceiling_by b kinds s rows) narrow ∙ ap (λ (b : Bool). if b then None else Some (task_bound kinds s rows)) under;
              low = low;
            }

module _ (kinds : List FieldKind) (search : Search) where
  -- the ceilings of the first shards
  pub record FirstAtMost (most : ℕ) (shards : List Columns) (n : ℕ) : Type 0 where
    pub bytes : ℕ
    pub is : first_sum kinds search shards n ≡ Some bytes
    pub low : bytes ≤ most

  pub shard-more : (shards : List Columns) (i : ℕ) (s : Columns) (most more both : ℕ) → slice_get shards i ≡ Some s → HasCeilingAtMost more kinds search s.rows → both ≡ most + more
      → FirstAtMost most shards i → FirstAtMost both shards (i + 1)
  shard-more shards i s most more both at here sum before =
      let a = before.low in
      let b = here.low in
      record { bytes = before.bytes + here.bytes; is = sum-next kinds search shards i s at before.bytes here.bytes before.is here.is; low = omega (arith, a, b, sum) }

  pub search-narrow : (shards : List Columns) (n most : ℕ) → length shards ≤ n → FirstAtMost most shards n → (o : Option ℕ) → o ≡ within_greatest most
      → IfSome o (λ most. HasSumAtMost most kinds search (rows_by_shard shards))
  search-narrow shards n most le first o same = subst (λ (o : Option ℕ). IfSome o (λ most. HasSumAtMost most kinds search (rows_by_shard shards))) (sym same) (by_test (nat_lt (2 ^ 50) most) refl)
    where
      by_test : (b : Bool) → nat_lt (2 ^ 50) most ≡ b → IfSome (if b then None else Some most) (λ most. HasSumAtMost most kinds search (rows_by_shard shards))
      by_test true above = tt
      by_test false above =
          let low = ltb-false (2 ^ 50) most above in
          let fewer = first.low in
          let under : nat_lt (2 ^ 50) first.bytes ≡ false = grind (arith, nat_tests, low, fewer) in
          record {
            bytes = first.bytes;
            is = sym (all-summed kinds search shards n first.bytes le first.is) ∙ ap (λ (b : Bool). if b then None else Some first.bytes) under;
            low = fewer;
          }
