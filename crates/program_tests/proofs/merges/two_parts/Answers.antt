use Rattle.std.proofs.Common.{◌≡◌, refl, sym, ◌∙◌, subst, List, [], ◌∷◌, ◌++◌, length}
use Rattle.agg_model.specs.declared.aggregation.Search.{Search}
use Rattle.agg_model.specs.declared.partial.Partial.{Partial}
use Rattle.program_tests.proofs.BatchSamples.{one, other, sample, two-cost, two-parts}
use Rattle.batch_reduce.specs.Parts.{AreParts, cost_of_parts}
use Rattle.program_tests.proofs.merges.two_parts.Goals as goal

pub returns : goal.returns
returns c =
    let e : c.push-2.new.self ≡ one ∷ other ∷ [] =
    c.in_ok-push-2.ensures.ok
    ∙ (λ i. c.in_ok-push.ensures.ok i ++ c.in_ok-part-2.ensures i ∷ [])
    ∙ (λ i. (c.new-parts.ensures i ++ c.in_ok-part.ensures i ∷ []) ++ other ∷ []) in
    subst (λ (ps : List Partial). ((search : Search) × AreParts search ps) × (length ps ≡ 2) × (cost_of_parts ps ≡ 1282)) (sym e) ((sample, two-parts), refl, two-cost)
