use Rattle.std.specs.Prelude.{◌≡◌, ◌≤◌, ◌+◌, ℕ, IfErr, IfOk, OnErr, OnOk, Option, length, map, option_to_list, sum_by}
use Rattle.std.proofs.Common.{◌∙◌, subst, sym}
use Rattle.agg_evaluation.specs.Cost.{cost}
use Rattle.agg_model.specs.declared.breaker.Tripped.{Tripped}
use Rattle.agg_model.specs.declared.breaker.Which.{Which}
use Rattle.agg_model.specs.declared.outcome.Outcome.{Outcome}
use Rattle.agg_model.specs.declared.partial.Partial.{Partial}
use Rattle.agg_spec.specs.Charges.{no_amounts}
use Rattle.agg_spec.specs.Failures.{unfailed}
use Rattle.agg_spec.specs.Outcome.{response_length}
use Rattle.agg_spec.specs.Rises.{merge_charge}
use Rattle.batch_reduce.specs.Parts.{cost_of_parts}
use Rattle.batch_reduce.specs.Reduced.{at_both}
use Rattle.breaker_words.specs.Views.{hold_of}
use Rattle.fitting_laws.specs.Indexes.{index_of}
use Rattle.wave_answers.specs.Charging.{HasPlace, IsRefusedCharge}
use Rattle.wave_answers.specs.Merged.{HasPlaceBeside}
use Rattle.wave_answers.specs.Rising.{HasRisen}
use Rattle.wave_answers.proofs.Ends.{line-length, place-beside, refused-then, still-kept}
use Rattle.wave_answers.proofs.Wholes.{charged-left, cost-of-left, left-whole, response-left, some-parts-left, unfailed-among, wholes-parts}
use Rattle.wave_answers.proofs.ending.answer_left.Goals as goal

pub merge_parts-requires-clause-parts : goal.merge_parts-requires-clause-parts
merge_parts-requires-clause-parts c =
    let index = c.args.index.now in
    let fs = c.args.failures.now in
    (c.args.search, wholes-parts index c.args.search c.requires.search.made (unfailed (index_of index) fs) c.args.parts (unfailed-among index fs) c.requires.parts)

pub returns-in-Err-clause-left : goal.returns-in-Err-clause-left
returns-in-Err-clause-left c =
    let index = c.args.index.now in
    some-parts-left (index_of index) c.args.search (unfailed (index_of index) c.args.failures.now) c.args.parts c.requires.parts
    (subst (λ r. OnErr r (1 ≤ length c.args.parts)) c.in-Err.is c.in_ok-merged.ensures.some)

pub outcome_of-requires-clause-whole : goal.outcome_of-requires-clause-whole
outcome_of-requires-clause-whole c =
    left-whole c.args.index.now c.args.search c.requires.search.made c.args.failures.now c.args.parts c.requires.parts c.in_ok-merged.merged c.in-Ok.whole c.in-Ok.is c.in_ok-merged.ensures.whole

pub returns-in-Ok-charged-clause-kept : goal.returns-in-Ok-charged-clause-kept
returns-in-Ok-charged-clause-kept c =
    let v = c.args.pass.now.view in
    let w = c.merge_parts.new.pass.view in
    let result = sum_by cost (option_to_list c.in-Ok.whole) in
    let held = subst (λ r. IfOk r (λ (o : Option Partial). (x : Which) → hold_of w x + at_both (cost_of_parts c.args.parts) x ≡ hold_of v x + at_both (sum_by cost (option_to_list o)) x)) c.in-Ok.is c.in_ok-merged.ensures.held in
    still-kept c.args.words.now.limits v w (cost_of_parts c.args.parts) result held c.charge_response.new.pass.view c.charge_response.ensures.kept

pub returns-in-Err-charged-clause-kept : goal.returns-in-Err-charged-clause-kept
returns-in-Err-charged-clause-kept c =
    let v = c.args.pass.now.view in
    let w = c.merge_parts.new.pass.view in
    let result = sum_by cost (option_to_list c.in-Ok.whole) in
    let held = subst (λ r. IfOk r (λ (o : Option Partial). (x : Which) → hold_of w x + at_both (cost_of_parts c.args.parts) x ≡ hold_of v x + at_both (sum_by cost (option_to_list o)) x)) c.in-Ok.is c.in_ok-merged.ensures.held in
    still-kept c.args.words.now.limits v w (cost_of_parts c.args.parts) result held c.charge_response.new.pass.view c.charge_response.ensures.kept

pub returns-in-Ok-charged-clause-place : goal.returns-in-Ok-charged-clause-place
returns-in-Ok-charged-clause-place c line is =
    let l = c.args.words.now.limits in
    let index = c.args.index.now in
    let search = c.args.search in
    let fs = c.args.failures.now in
    let left = unfailed (index_of index) fs in
    let v = c.args.pass.now.view in
    let w = c.merge_parts.new.pass.view in
    let o = c.in_ok-found.found.outcome in
    let result = sum_by cost (option_to_list c.in-Ok.whole) in
    let held = subst (λ r. IfOk r (λ (o : Option Partial). (x : Which) → hold_of w x + at_both (cost_of_parts c.args.parts) x ≡ hold_of v x + at_both (sum_by cost (option_to_list o)) x)) c.in-Ok.is c.in_ok-merged.ensures.held in
    let place = subst (λ r. OnOk r (HasPlace l w (response_length o))) c.in-Ok-charged.is c.in_ok-charged.ensures.place in
    let whole_is = left-whole index search c.requires.search.made fs c.args.parts c.requires.parts c.in_ok-merged.merged c.in-Ok.whole c.in-Ok.is c.in_ok-merged.ensures.whole in
    let some = response-left index search c.args.max_buckets fs c.requires.failures line (sym c.in_ok-found.ensures.outcome ∙ is) in
    subst (λ (n : ℕ). HasPlaceBeside l v n (length line)) (cost-of-left (index_of index) search left c.in-Ok.whole whole_is some)
    (subst (HasPlaceBeside l v result) (line-length o line is) (place-beside l v w (cost_of_parts c.args.parts) result held (response_length o) c.requires.held place))

pub returns-in-Err-charged-clause-refused : goal.returns-in-Err-charged-clause-refused
returns-in-Err-charged-clause-refused c =
    let l = c.args.words.now.limits in
    let parts = c.args.parts in
    let v = c.args.pass.now.view in
    let w = c.merge_parts.new.pass.view in
    let u = c.charge_response.new.pass.view in
    let o = c.in_ok-found.found.outcome in
    let result = sum_by cost (option_to_list c.in-Ok.whole) in
    let granted = merge_charge (map cost parts) in
    let t = c.in-Err-charged.tripped in
    let held = subst (λ r. IfOk r (λ (o : Option Partial). (x : Which) → hold_of w x + at_both (cost_of_parts parts) x ≡ hold_of v x + at_both (sum_by cost (option_to_list o)) x)) c.in-Ok.is c.in_ok-merged.ensures.held in
    let less = subst (λ r. IfOk r (λ (o : Option Partial). sum_by cost (option_to_list o) ≤ cost_of_parts parts)) c.in-Ok.is c.in_ok-merged.ensures.less in
    let risen = subst (λ r. OnOk r (HasRisen granted no_amounts v w)) c.in-Ok.is c.in_ok-merged.ensures.risen in
    let refused = subst (λ r. IfErr r (λ (t : Tripped). IsRefusedCharge l w (response_length o) 0 t u)) c.in-Err-charged.is c.in_ok-charged.ensures.refused in (
      granted,
      subst (λ (p : Outcome). IsRefusedCharge l v (cost_of_parts parts + response_length p) granted t u) c.in_ok-found.ensures.outcome
          (refused-then l v w (cost_of_parts parts) result held u (response_length o) granted t less risen refused),
    )

pub returns-in-Err-charged-clause-left : goal.returns-in-Err-charged-clause-left
returns-in-Err-charged-clause-left c =
    let some = subst (λ r. OnErr r (1 ≤ response_length c.in_ok-found.found.outcome)) c.in-Err-charged.is c.in_ok-charged.ensures.some in
    charged-left c.args.index.now c.args.search c.args.max_buckets c.args.failures.now c.requires.failures
    (subst (λ (p : Outcome). 1 ≤ response_length p) c.in_ok-found.ensures.outcome some)
