-- A merge of results charges and gives back as the run of its steps does.
use Rattle.std.specs.Prelude.{◌≡◌, refl, ℕ, ◌+◌, ◌-◌, ◌*◌, ◌≤◌, ◌==◌, if◌then◌else◌, Bool, true, false, List, [], ◌∷◌, ◌++◌, map, sum}
use Rattle.std.proofs.Common.{◌∙◌, sym, ap, subst, arith}
use Rattle.std.proofs.lemmas.Bool.{eqb-true}
use Rattle.std.proofs.lemmas.List.Sums.{sum-map}
use Rattle.agg_evaluation.specs.Cost.{cost}
use Rattle.agg_evaluation.specs.Whole.{whole}
use Rattle.agg_model.specs.declared.aggregation.Search.{Search}
use Rattle.agg_model.specs.declared.breaker.Child.TheVariants as child
use Rattle.agg_model.specs.declared.breaker.Limits.{Limits}
use Rattle.agg_model.specs.declared.breaker.Tripped.{Tripped}
use Rattle.agg_model.specs.declared.breaker.Which.{Which}
use Rattle.agg_model.specs.declared.breaker.Which.TheVariants.{Request, Fielddata, Inflight, Parent}
use Rattle.agg_model.specs.declared.partial.Partial.{Partial}
use Rattle.agg_spec.specs.Charges.{Run, Step, charge, give_back, charge_of, return_of, run}
use Rattle.agg_spec.specs.Reduction.{merge_steps}
use Rattle.agg_spec.proofs.SoloLaws.{run-append, run-stopped}
use Rattle.batch_reduce.specs.Parts.{cost_of_parts}
use Rattle.batch_reduce.specs.Reduced.{IsMerged, IsRefused}
use Rattle.breaker_tree.specs.Charge.{IsGivenBack}
use Rattle.breaker_words.specs.Breakers.{amount_at as at_one}
use Rattle.breaker_words.specs.declared.view.View.{View}
use Rattle.solo_charges.specs.Standing.{Before, StandsAt}
use Rattle.solo_charges.specs.Ends.{IsEnded}
use Rattle.solo_charges.proofs.OneCharge.{charge-stands, some-charge, refusal-ends, return-stands}

at-zero : (x : Which) (n : ℕ) → n ≡ 0 → (at_one Parent n x + at_one Request n x) ≡ 0
at-zero Request n z = omega arith
at-zero Fielddata n z = omega arith
at-zero Inflight n z = omega arith
at-zero Parent n z = omega arith

module _ (l : Limits) where
  -- a return of 0 bytes is no step
  return_of-stands : (before : Before) (v u : View) (r : Run) (n : ℕ) → StandsAt before v r → IsGivenBack v child.Request n u → StandsAt before u (run l r (return_of child.Request n))
  return_of-stands before v u r n stands back = by_zero (n == 0) refl
    where
      steps : Bool → List Step
      steps b = if b then [] else give_back child.Request n ∷ []

      same : n ≡ 0 → StandsAt before u r
      same z = record {
        going = stands.going;
        holds = λ x. (let a = back.holds x in let b = stands.holds x in let c = at-zero x n z in omega arith);
        counts = record {
          granted_is = λ x. back.granted x ∙ stands.counts.granted_is x;
          trips_are = λ x. back.trips x ∙ stands.counts.trips_are x;
        };
      }

      by_zero : (b : Bool) → (n == 0) ≡ b → StandsAt before u (run l r (return_of child.Request n))
      by_zero true z = subst (λ b. StandsAt before u (run l r (steps b))) (sym z) (same (eqb-true n 0 z))
      by_zero false z = subst (λ b. StandsAt before u (run l r (steps b))) (sym z) (return-stands l before v r stands child.Request n u back)

  module _ (before : Before) (v : View) (r : Run) (stands : StandsAt before v r) (search : Search) (p q : Partial) (rest : List Partial) where
    abbrev parts : List Partial
    parts = p ∷ q ∷ rest

    abbrev costs : ℕ
    costs = sum (map cost parts)

    costs-are : costs ≡ cost_of_parts parts
    costs-are = sum-map cost parts

    -- where the parts cost nothing there is no step
    pub free-stands : cost_of_parts parts ≡ 0 → StandsAt before v (run l r (merge_steps l search parts))
    free-stands none =
        let nothing : costs ≡ 0 = costs-are ∙ none in
        let no_charge : charge_of child.Request costs ≡ [] = ap (charge_of child.Request) nothing in
        let no_return : return_of child.Request (2 * costs - cost (whole search parts)) ≡ [] =
        ap (λ n. return_of child.Request (2 * n - cost (whole search parts))) nothing
        ∙ ap (return_of child.Request) (let z : 2 * 0 - cost (whole search parts) ≡ 0 = omega arith in z) in
        subst (λ xs. StandsAt before v (run l r xs)) (sym (ap (λ xs. xs ++ return_of child.Request (2 * costs - cost (whole search parts))) no_charge ∙ no_return)) stands

    pub merged-stands : (m : ℕ) (u : View) → 1 ≤ cost_of_parts parts → m ≡ cost (whole search parts) → IsMerged l v (cost_of_parts parts) m u → StandsAt before u (run l r (merge_steps l search parts))
    merged-stands m u some same merged =
        let s = cost_of_parts parts in
        let now = run l r (charge child.Request s ∷ []) in
        let middle = charge-stands l before v r stands child.Request s merged.while_merging merged.charged in
        let last = return_of-stands before merged.while_merging u now (s + s - m) middle merged.given_back in
        let back : (s + s - m) ≡ 2 * costs - cost (whole search parts) = let e = costs-are in omega arith in
        let first : charge_of child.Request costs ≡ charge child.Request s ∷ [] = ap (charge_of child.Request) costs-are ∙ some-charge l child.Request s some in
        subst (StandsAt before u)
        (sym (run-append l r (charge_of child.Request costs) (return_of child.Request (2 * costs - cost (whole search parts)))
        ∙ ap (λ xs. run l (run l r xs) (return_of child.Request (2 * costs - cost (whole search parts)))) first
        ∙ ap (λ n. run l now (return_of child.Request n)) (sym back)))
        last

    pub refused-merge-ends : (t : Tripped) (u : View) → v.cap ≡ v.total → 1 ≤ cost_of_parts parts → IsRefused l v (cost_of_parts parts) t u → IsEnded before u (run l r (merge_steps l search parts)) t
    refused-merge-ends t u whole_cap some refused =
        let s = cost_of_parts parts in
        let now = run l r (charge child.Request s ∷ []) in
        let ends = refusal-ends l before v r stands child.Request s t refused.after_refusal whole_cap refused.tripped in
        let back = return_of child.Request (2 * costs - cost (whole search parts)) in
        let first : charge_of child.Request costs ≡ charge child.Request s ∷ [] = ap (charge_of child.Request) costs-are ∙ some-charge l child.Request s some in
        let after : IsEnded before u now t = record {
          refused = ends.refused;
          counts = record {
            granted_is = λ x. refused.given_back.granted x ∙ ends.counts.granted_is x;
            trips_are = λ x. refused.given_back.trips x ∙ ends.counts.trips_are x;
          };
        } in
        subst (λ w. IsEnded before u w t)
        (sym (run-append l r (charge_of child.Request costs) back ∙ ap (λ xs. run l (run l r xs) back) first ∙ run-stopped l now t ends.refused back))
        after
