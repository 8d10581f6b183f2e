-- The end of a merge, as the steps of the definitions.
use Rattle.std.specs.Prelude.{◌≡◌, refl, ℕ, zero, suc, ◌≤◌, ◌↔◌, Bool, true, false, IsTrue, List, [], ◌∷◌, length}
use Rattle.std.proofs.Common.{sym, ap, subst, arith}
use Rattle.agg_evaluation.specs.Cost.{cost}
use Rattle.agg_evaluation.specs.Whole.{whole}
use Rattle.agg_model.specs.declared.aggregation.Search.{Search}
use Rattle.agg_model.specs.declared.breaker.Limits.{Limits}
use Rattle.agg_model.specs.declared.breaker.Tripped.{Tripped}
use Rattle.agg_model.specs.declared.partial.Partial.{Partial}
use Rattle.agg_spec.specs.Charges.{Run, run}
use Rattle.agg_spec.specs.Reduction.{merge_steps, merged}
use Rattle.batch_reduce.specs.Parts.{AreParts, cost_of_parts}
use Rattle.batch_reduce.specs.Reduced.{IsMerged, IsRefused}
use Rattle.batch_reduce.specs.declared.reducing.ReduceEnd.TheVariants as end
use Rattle.breaker_words.specs.declared.view.View.{View}
use Rattle.solo_charges.proofs.Merges.{free-stands, merged-stands, refused-merge-ends}
use Rattle.solo_charges.specs.Ends.{IsEnded}
use Rattle.solo_charges.specs.Standing.{Before, StandsAt}

-- what is told of a reduction of these parts, between w and u
module _ (l : Limits) (w u : View) (search : Search) (before : Before) (r : Run) (stands : StandsAt before w r) where
  one-stands : (p q : Partial) → (end.Done q ≡ end.Done p) × (u ≡ w) → (StandsAt before u (run l r (merge_steps l search (p ∷ [])))) × ((q ∷ []) ≡ merged l search (p ∷ []))
  one-stands p q one = (subst (λ v. StandsAt before v r) (sym one.1) stands, (let same : q ≡ p = cc in ap (λ x. x ∷ []) same))

  pub merge-done : (parts : List Partial) (q : Partial) → 1 ≤ length parts → AreParts search parts
      → ((p : Partial) → parts ≡ p ∷ [] → (end.Done q ≡ end.Done p) × (u ≡ w)) → (cost_of_parts parts ≡ 0 → u ≡ w)
      → ((search : Search) → AreParts search parts → q ≡ whole search parts)
      → (2 ≤ length parts → 1 ≤ cost_of_parts parts → IsMerged l w (cost_of_parts parts) (cost q) u)
      → (StandsAt before u (run l r (merge_steps l search parts))) × ((q ∷ []) ≡ merged l search parts)
  merge-done [] q some are one free is many = absurd (omega arith)
  merge-done (p ∷ []) q some are one free is many = one-stands p q (one p refl)
  merge-done (p ∷ p2 ∷ rest) q some are one free is many = by_cost (cost_of_parts (p ∷ p2 ∷ rest)) refl
    where
      whole_is : q ≡ whole search (p ∷ p2 ∷ rest)
      whole_is = is search are

      by_cost : (n : ℕ) → cost_of_parts (p ∷ p2 ∷ rest) ≡ n → (StandsAt before u (run l r (merge_steps l search (p ∷ p2 ∷ rest)))) × ((q ∷ []) ≡ merged l search (p ∷ p2 ∷ rest))
      by_cost zero same = (subst (λ v. StandsAt before v (run l r (merge_steps l search (p ∷ p2 ∷ rest)))) (sym (free same)) (free-stands l before w r stands search p p2 rest same), ap (λ x. x ∷ []) whole_is)
      by_cost (suc n) same = (
        merged-stands l before w r stands search p p2 rest (cost q) u (omega arith) (ap cost whole_is) (many (omega arith) (omega arith)),
        ap (λ x. x ∷ []) whole_is,
      )

  pub merge-refused : (parts : List Partial) (t : Tripped) → w.cap ≡ w.total → 1 ≤ length parts
      → ((p : Partial) → parts ≡ p ∷ [] → (end.Refused t ≡ end.Done p) × (u ≡ w)) → (cost_of_parts parts ≡ 0 → ⊥)
      → IsRefused l w (cost_of_parts parts) t u → IsEnded before u (run l r (merge_steps l search parts)) t
  merge-refused [] t whole some one free refused = absurd (omega arith)
  merge-refused (p ∷ []) t whole some one free refused = absurd (let no = (one p refl).0 in let none : ⊥ = cc in none)
  merge-refused (p ∷ p2 ∷ rest) t whole some one free refused = by_cost (cost_of_parts (p ∷ p2 ∷ rest)) refl
    where
      by_cost : (n : ℕ) → cost_of_parts (p ∷ p2 ∷ rest) ≡ n → IsEnded before u (run l r (merge_steps l search (p ∷ p2 ∷ rest))) t
      by_cost zero same = absurd (free same)
      by_cost (suc n) same = refused-merge-ends l before w r stands search p p2 rest t u whole (omega arith) refused

pub some-parts : (parts : List Partial) (b : Bool) → (IsTrue b ↔ (parts ≡ [])) → b ≡ false → 1 ≤ length parts
some-parts [] b tells e = absurd (let yes : b ≡ true = tells.1 refl in let no : ⊥ = cc in no)
some-parts (p ∷ ps) b tells e = omega arith

pub merged-is : (l : Limits) (search : Search) (w u : View) (parts : List Partial) (q : Partial) → 1 ≤ length parts → AreParts search parts
    → ((p : Partial) → parts ≡ p ∷ [] → end.Done q ≡ end.Done p) → ((search : Search) → AreParts search parts → q ≡ whole search parts) → (q ∷ []) ≡ merged l search parts
merged-is l search w u [] q some are one is = absurd (omega arith)
merged-is l search w u (p ∷ []) q some are one is = let e = one p refl in let same : q ≡ p = cc in ap (λ x. x ∷ []) same
merged-is l search w u (p ∷ p2 ∷ rest) q some are one is = ap (λ x. x ∷ []) (is search are)
