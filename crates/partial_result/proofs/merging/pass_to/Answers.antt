use Rattle.std.proofs.Common.{◌≡◌, ◌∙◌, ◌++◌, ◌∷◌, sym, ap, rules, [], unwrap_or, slice_index_or, append_assoc}
use Rattle.agg_evaluation.proofs.KeyCompare.{derived_is}
use Rattle.partial_result.specs.Merged.{joined, put_in}
use Rattle.partial_result.proofs.PassingLaws.{put_in-Less, put_in-Equal, put_in-Greater}
use Rattle.partial_result.proofs.merging.pass_to.Goals as goal

pub returns-in-Less : goal.returns-in-Less
returns-in-Less c = λ o next same.
    let bs = c.loop-first.rest.items in
    c.loop-first.invariant o next same
    ∙ ap (λ xs. c.loop-first.merged.items ++ xs)
    (put_in-Less c.args.key.now c.in-Some.first.now o next same bs c.in-Some.ensures.item.3.0 c.in-Some.ensures.lookup (sym (derived_is _ _) ∙ sym c.cmp.ensures ∙ c.in-Less.is))

pub returns-in-Equal : goal.returns-in-Equal
returns-in-Equal c = λ o next same.
    let bs = c.loop-first.rest.items in
    let b = c.in-Some.first.now in
    c.loop-first.invariant o next same
    ∙ ap (λ xs. c.loop-first.merged.items ++ xs)
    (put_in-Equal c.args.key.now b o next same bs c.in-Some.ensures.item.3.0 c.in-Some.ensures.lookup (sym (derived_is _ _) ∙ sym c.cmp.ensures ∙ c.in-Equal.is)
    ∙ (λ i. joined (sym (c.pop_front.ensures.value b (search rules)) i) o ∷ next (sym c.pop_front.ensures.rest i)))

pub loop-first-preserved : goal.loop-first-preserved
loop-first-preserved c = λ o next same.
    let bs = c.loop-first.rest.items in
    let b = c.in-Some.first.now in
    let step = put_in-Greater c.args.key.now b o next same bs c.in-Some.ensures.item.3.0 c.in-Some.ensures.lookup (sym (derived_is _ _) ∙ sym c.cmp.ensures ∙ c.in-Greater.is) in
    let same_bucket : slice_index_or bs 0 b ≡ c.unwrap.result = ap (λ x. unwrap_or x b) (sym (c.pop_front-in-Greater.ensures.value b (search rules)) ∙ c.unwrap.ensures) in
    let left = put_in o next c.pop_front-in-Greater.new.self.items in
    c.loop-first.invariant o next same ∙ ap (λ xs. c.loop-first.merged.items ++ xs) step
    ∙ (λ i. c.loop-first.merged.items ++ same_bucket i ∷ put_in o next (sym c.pop_front-in-Greater.ensures.rest i))
    ∙ sym (append_assoc c.loop-first.merged.items (c.unwrap.result ∷ []) left) ∙ ap (λ xs. xs ++ left) (sym c.in_ok-push-in-Greater.ensures.items)
