-- One more row at a code whose counter is raised: what that makes of the buckets, and of what they cost.
use Rattle.std.specs.Prelude.{◌≡◌, ℕ, zero, suc, ℤ, pos, ◌+◌, ◌<◌, ◌≢◌, ◌==◌, Bool, true, false, List, [], ◌∷◌, length, map, sum_by}
use Rattle.std.proofs.Common.{sym, ◌∙◌, ap, arith}
use Rattle.std.proofs.Math.ListN.{set, get_or}
use Rattle.std.proofs.lemmas.Bool.{false≢true}
use Rattle.std.proofs.lemmas.Bool.Decides.{nat_tests}
use Rattle.agg_model.specs.declared.aggregation.Agg.{Agg, out-Agg}
use Rattle.agg_evaluation.specs.Cost.{key_bytes, node_cost}
use Rattle.agg_evaluation.specs.Rows.{PlacedRow}
use Rattle.agg_evaluation.specs.Whole.{empty_node}
use Rattle.evaluation_laws.proofs.CostLaws.{bytes}
use Rattle.growth_laws.specs.Gathering.{put_rows}
use Rattle.shard_columns.specs.Columns.{Columns}
use Rattle.growing_tree.specs.Gathered.{decoders, gatherers, key_at, shown_counted}
use Rattle.growing_tree.specs.Readiness.{IsReadyFor}
use Rattle.growing_tree.specs.declared.ready.Ready.{Ready, out-Ready}
use Rattle.growing_tree.proofs.Codes.{codes-own}
use Rattle.growing_tree.proofs.Counters.{raised-buckets, raised-bytes, rise, rise-first, rise-later}
use Rattle.growing_tree.proofs.Levels.{level-ready}

-- what the test of a counter tells
was-none : (n : ℕ) → true ≡ (n == 0) → n ≡ 0
was-none n e = grind (arith, nat_tests)

was-some : (n : ℕ) → false ≡ (n == 0) → n ≢ 0
was-some zero e none = absurd (false≢true e)
was-some (suc n) e none = absurd (omega (arith, none))

-- `first` says whether the counter was 0
module _ (shard : Columns) (a : Agg) (r : Ready) (ready : IsReadyFor shard a r) (code : ℤ) (place : ℕ) (code_is : code ≡ pos place)
    (old new : List ℕ) (within : place < length old) (raised : new ≡ set old place (get_or old place 0 + 1)) (first : Bool) (first_is : first ≡ (get_or old place 0 == 0)) where
  abbrev n : ℕ
  n = get_or old place 0

  abbrev HasOneMore : PlacedRow → Type 0
  HasOneMore row = shown_counted shard r new ≡ put_rows (gatherers shard (out-Agg a).children) (row ∷ []) (key_at shard r code) (shown_counted shard r old)

  one-more : (row : PlacedRow) → (n ≡ 0 → gatherers shard (out-Agg a).children ≡ []) → HasOneMore row
  one-more row none =
      let own = codes-own shard (out-Agg a).kind (out-Ready r).kind (level-ready shard a r ready).kind in
      ap (shown_counted shard r) raised
      ∙ raised-buckets (decoders shard (out-Ready r).children) (key_at shard r) own (gatherers shard (out-Agg a).children) row old place within none
      ∙ ap (λ k. put_rows (gatherers shard (out-Agg a).children) (row ∷ []) (key_at shard r k) (shown_counted shard r old)) (sym code_is)

  rose : (more : ℕ) → rise (key_at shard r) place n ≡ more → sum_by bytes (shown_counted shard r new) ≡ sum_by bytes (shown_counted shard r old) + more
  rose more is =
      ap (λ ns. sum_by bytes (shown_counted shard r ns)) raised ∙ raised-bytes (decoders shard (out-Ready r).children) (key_at shard r) old place within
      ∙ ap (λ m. sum_by bytes (shown_counted shard r old) + m) is

  -- the bucket was there
  pub later-row : first ≡ false → (row : PlacedRow) → HasOneMore row
  later-row later row = one-more row (λ none. absurd (was-some n (sym later ∙ first_is) none))

  pub later-cost : first ≡ false → sum_by bytes (shown_counted shard r new) ≡ sum_by bytes (shown_counted shard r old) + 0
  later-cost later = rose 0 (rise-later (key_at shard r) place n (was-some n (sym later ∙ first_is)))

  -- it begins, where nothing is below
  pub first-row : (out-Agg a).children ≡ [] → (row : PlacedRow) → HasOneMore row
  first-row none row = one-more row (λ e. ap (gatherers shard) none)

  pub first-cost : first ≡ true → (out-Agg a).children ≡ [] → (begun : ℕ) → begun ≡ 128 + key_bytes (key_at shard r code) + (out-Ready r).child_bytes
      → sum_by bytes (shown_counted shard r new) ≡ sum_by bytes (shown_counted shard r old) + begun
  first-cost is none begun begun_is =
      let child_bytes : (out-Ready r).child_bytes ≡ 0 = (level-ready shard a r ready).child_bytes ∙ ap (λ aggs. sum_by node_cost (map empty_node aggs)) none in
      let began = rise-first (key_at shard r) place n (was-none n (sym is ∙ first_is)) in
      let key = ap (λ k. key_bytes (key_at shard r k)) code_is in
      rose begun (omega (arith, began, begun_is, child_bytes, key))
