-- Rows that have the places of their buckets: what they make of the buckets, one more of them and one more bucket.
use Rattle.std.specs.Prelude.{◌≡◌, ◌≢◌, refl, ℕ, suc, ◌+◌, ◌<◌, ◌≤◌, ◌==◌, cond, List, [], ◌∷◌, ◌++◌, All, length}
use Rattle.std.proofs.Common.{sym, ◌∙◌, ap, arith, inl, inr, subst, T, eq-eqb}
use Rattle.std.proofs.Math.Facts.{eqb_yes}
use Rattle.std.proofs.Math.ListN.{set, get_or, get_or-append}
use Rattle.std.proofs.lemmas.Bool.{cases_Bool}
use Rattle.std.proofs.lemmas.List.{length-set, set-append_left}
use Rattle.std.proofs.lemmas.List.Sums.{fold-append}
use Rattle.agg_model.specs.declared.aggregation.Agg.{Agg}
use Rattle.agg_model.specs.declared.partial.Metric.{Metric}
use Rattle.agg_evaluation.specs.Rows.{PlacedRow}
use Rattle.growing_tree.specs.Placements.{counts_with, taken_with}
use Rattle.growing_tree.specs.Measures.{metrics_with}
use Rattle.growing_tree.specs.declared.placing.Placement.{Placement}

abbrev counted_one : List ℕ → ℕ → List ℕ
counted_one ns p = set ns p (get_or ns p 0 + 1)

pub counted-length : (placements : List Placement) (ns : List ℕ) → length (counts_with placements ns) ≡ length ns
counted-length [] ns = refl
counted-length (p ∷ placements) ns = counted-length placements (counted_one ns p.place) ∙ length-set ns p.place (get_or ns p.place 0 + 1)

-- one more row
pub counted-more : (placements : List Placement) (p : Placement) (ns : List ℕ) → counts_with (placements ++ p ∷ []) ns ≡ set (counts_with placements ns) p.place (get_or (counts_with placements ns) p.place 0 + 1)
counted-more placements p ns = fold-append (λ ms p. counted_one ms p.place) ns placements (p ∷ [])

-- one more bucket behind those of the rows
pub counted-begun : (placements : List Placement) (ns : List ℕ) → All (λ p. p.place < length ns) placements → counts_with placements (ns ++ 0 ∷ []) ≡ counts_with placements ns ++ 0 ∷ []
counted-begun [] ns below = refl
counted-begun (p ∷ placements) ns below =
    let here : p.place < length ns = below 0 p (omega arith) in
    let long = length-set ns p.place (get_or ns p.place 0 + 1) in
    ap (counts_with placements) (ap (λ k. set (ns ++ 0 ∷ []) p.place (k + 1)) (get_or-append ns (0 ∷ []) 0 p.place here) ∙ set-append_left ns (0 ∷ []) p.place (get_or ns p.place 0 + 1) here)
    ∙ counted-begun placements (counted_one ns p.place) (λ k d l. let next = below (suc k) d (omega (arith, l)) in omega (arith, next, long))

module _ (aggs : List Agg) (row_at : ℕ → PlacedRow) where
  abbrev taken_one : Placement → (ℕ → List Metric) → ℕ → List Metric
  taken_one p at n = cond (n == p.place) (metrics_with aggs (row_at p.row) (at n)) (at n)

  pub taken-more : (placements : List Placement) (p : Placement) (at : ℕ → List Metric) (n : ℕ) → taken_with aggs row_at (placements ++ p ∷ []) at n ≡ taken_one p (taken_with aggs row_at placements at) n
  taken-more [] p at n = refl
  taken-more (first ∷ placements) p at n = taken-more placements p (taken_one first at) n

  pub taken-same : (placements : List Placement) (at more : ℕ → List Metric) → ((n : ℕ) → more n ≡ at n) → (n : ℕ) → taken_with aggs row_at placements more n ≡ taken_with aggs row_at placements at n
  taken-same [] at more same n = same n
  taken-same (p ∷ placements) at more same n = taken-same placements (taken_one p at) (taken_one p more) (λ k i. cond (k == p.place) (metrics_with aggs (row_at p.row) (same k i)) (same k i)) n

  -- what is read at the place of the row, and elsewhere
  pub one-here : (p : Placement) (at : ℕ → List Metric) → taken_one p at p.place ≡ metrics_with aggs (row_at p.row) (at p.place)
  one-here p at = ap (λ b. cond b (metrics_with aggs (row_at p.row) (at p.place)) (at p.place)) (eq-eqb p.place p.place refl)

  pub one-other : (p : Placement) (at : ℕ → List Metric) (n : ℕ) → n ≢ p.place → taken_one p at n ≡ at n
  one-other p at n other = elim (cases_Bool (n == p.place)) [
    | inl same ↦ absurd (other (eqb_yes (subst T (sym same) tt)))
    | inr apart ↦ ap (λ b. cond b (metrics_with aggs (row_at p.row) (at n)) (at n)) apart
  ]

  -- a change at one place is all that one row makes
  pub one-is : (p : Placement) (at more : ℕ → List Metric) → more p.place ≡ metrics_with aggs (row_at p.row) (at p.place) → ((k : ℕ) → k ≢ p.place → more k ≡ at k) → (n : ℕ) → more n ≡ taken_one p at n
  one-is p at more here others n = elim (cases_Bool (n == p.place)) [
    | inl same ↦ let is : n ≡ p.place = eqb_yes (subst T (sym same) tt) in ap more is ∙ here ∙ sym (one-here p at) ∙ ap (taken_one p at) (sym is)
    | inr apart ↦ others n (λ e. absurd (cc (sym (eq-eqb n p.place e) ∙ apart))) ∙ ap (λ b. cond b (metrics_with aggs (row_at p.row) (at n)) (at n)) (sym apart)
  ]

  -- behind the places of the rows nothing changes
  pub taken-behind : (placements : List Placement) (at : ℕ → List Metric) (count n : ℕ) → All (λ p. p.place < count) placements → count ≤ n → taken_with aggs row_at placements at n ≡ at n
  taken-behind [] at count n below l = refl
  taken-behind (p ∷ placements) at count n below l =
      let here : p.place < count = below 0 p (omega arith) in
      taken-behind placements (taken_one p at) count n (λ k d m. below (suc k) d (omega (arith, m))) l ∙ one-other p at n (λ e. absurd (omega (arith, e, here, l)))
