-- Rows of the roots of a block, listed one after another.
use Rattle.std.specs.Prelude.{◌≡◌, refl, ℕ, zero, suc, ◌+◌, ◌<◌, ◌≤◌, Bool, true, false, cond, if◌then◌else◌, nat_lt, List, [], ◌∷◌, ◌++◌, filter, length, slice_get, take, Some}
use Rattle.std.specs.List.{list_any}
use Rattle.std.proofs.Common.{sym, ◌∙◌, ap, subst, arith, length-append}
use Rattle.std.proofs.Math.ListN.{get_or}
use Rattle.std.proofs.lemmas.Bool.Decides.{nat_tests}
use Rattle.std.proofs.lemmas.List.{get_or_append_left, get_or_push}
use Rattle.std.proofs.lemmas.List.Elements.{All-push}
use Rattle.agg_evaluation.specs.Matching.{matches}
use Rattle.agg_evaluation.specs.Rows.{PlacedRow, roots, row_of}
use Rattle.agg_evaluation.specs.Trace.{global_roots, is_global}
use Rattle.agg_model.specs.declared.aggregation.Agg.{out-Agg}
use Rattle.agg_model.specs.declared.aggregation.Search.{Search}
use Rattle.growth_laws.specs.Amounts.{row_count}
use Rattle.shard_columns.specs.Columns.{Columns}
use Rattle.collect_tree.specs.Blocks.{IsBlock, phase_roots}
use Rattle.collect_tree.specs.Phases.{collected_before}
use Rattle.collect_tree.specs.declared.phase.Phase.{Phase}
use Rattle.collect_tree.specs.declared.phase.Phase.TheVariants.{Matched, Global}

module _ (shard : Columns) (search : Search) (phase : Phase) (first : ℕ) where
  pub block-none : IsBlock shard search phase first []
  block-none = record { in_range = λ k d below. absurd (omega arith); roots = λ n below. absurd (omega arith) }

  -- one more root
  pub block-more : (rows : List ℕ) (number : ℕ) → IsBlock shard search phase first rows → number < length shard.rows → slice_get (phase_roots search shard.rows phase) (first + length rows) ≡ Some (row_of shard.rows number)
      → IsBlock shard search phase first (rows ++ number ∷ [])
  block-more rows number block low here = record {
    in_range = All-push (λ r. r < length shard.rows) rows number block.in_range low;
    roots = λ n below.
        elim (nat_lt n (length rows)) as (λ b. nat_lt n (length rows) ≡ b → slice_get (phase_roots search shard.rows phase) (first + n) ≡ Some (row_of shard.rows (get_or (rows ++ number ∷ []) n 0))) [
          | true ↦ λ e.
              let within : n < length rows = grind (arith, nat_tests) in
              block.roots n within ∙ ap (λ r. Some (row_of shard.rows r)) (sym (get_or_append_left rows (number ∷ []) 0 n within))
          | false ↦ λ e.
              let all = length-append rows (number ∷ []) in
              let last : length rows ≡ n = (let above : length rows ≤ n = grind (arith, nat_tests) in omega (arith, all, below, above)) in
              subst (λ m. slice_get (phase_roots search shard.rows phase) (first + m) ≡ Some (row_of shard.rows number)) last here ∙ ap (λ r. Some (row_of shard.rows r)) (sym (get_or_push rows number 0 n last))
        ] refl;
  }

-- of the first items no more pass a test than of all
count-within : {A : Type 0} (p : A → Bool) (xs : List A) (n : ℕ) → length (filter p (take n xs)) ≤ length (filter p xs)
count-within p [] zero = omega arith
count-within p [] (suc n) = omega arith
count-within p (x ∷ xs) zero = omega arith
count-within p (x ∷ xs) (suc n) =
    let rest = count-within p xs n in
    elim (p x) as (λ b. length (cond b (x ∷ filter p (take n xs)) (filter p (take n xs))) ≤ length (cond b (x ∷ filter p xs) (filter p xs))) [ true ↦ omega arith | false ↦ omega arith ]

module _ (search : Search) (all : List PlacedRow) where
  pub matched-within : (place : ℕ) → collected_before search all Matched place ≤ row_count search all
  matched-within place = let few = count-within (matches all search.query) (roots all) place in omega arith

  -- where there is a global aggregation, all roots are collected once more
  pub all-global : list_any (λ a. is_global (out-Agg a).kind) search.aggs ≡ true → global_roots search all ≡ roots all
  all-global e = ap (λ b. if b then roots all else []) e

  pub global-within : list_any (λ a. is_global (out-Agg a).kind) search.aggs ≡ true → (place : ℕ) → place ≤ length (roots all) → collected_before search all Global place ≤ row_count search all
  global-within e place few = let many = ap (λ (rs : List PlacedRow). length rs) (all-global e) in omega arith

-- the rows of the matched roots that were listed
abbrev pub HasListed : Columns → Search → ℕ → ℕ → List ℕ → Type 0
HasListed shard search first count rows = record {
  block : IsBlock shard search Matched first rows;
  many : first + length rows ≡ count;
}
