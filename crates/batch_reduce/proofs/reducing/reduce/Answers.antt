use Rattle.std.proofs.Common.{sym, ◌∙◌, arith}
use Rattle.agg_model.specs.declared.breaker.Which.TheVariants.{Request}
use Rattle.agg_evaluation.specs.Cost.{cost}
use Rattle.batch_reduce.proofs.Holding.{free-costs, merged-holds, one-costs, one-part, refused-holds, refused-is, same-holds}
use Rattle.batch_reduce.proofs.Joining.{merged-costs}
use Rattle.batch_reduce.specs.Parts.{cost_of_parts}
use Rattle.batch_reduce.proofs.reducing.reduce.Goals as goal
use Rattle.batch_reduce.proofs.reducing.reduce.Goals.{then-len-eq1-via-then-len-eq1, then-len-eq1-via-else-len-eq1+then-total-eq0}

pub returns-in-Ok-clause-holds : goal.returns-in-Ok-clause-holds
returns-in-Ok-clause-holds c =
    let m = c.in-Ok.merged in
    elim c.then-len-eq1.branch [
      | then-len-eq1-via-then-len-eq1 w ↦ same-holds c.args.pass.now.view (cost_of_parts c.args.parts) (cost m) (one-costs c.args.parts m (sym c.len.ensures ∙ w.if-len-eq1.true) (λ p e. (let same = c.in-Ok.ensures.one p e in cc)))
      | then-len-eq1-via-else-len-eq1+then-total-eq0 w ↦ same-holds c.args.pass.now.view (cost_of_parts c.args.parts) (cost m) (free-costs c.args.parts m c.requires.some c.requires.parts c.in-Ok.ensures.whole (sym c.cost_of_all-total.ensures ∙ w.if-total-eq0.true))
    ]

pub returns-in-Err-clause-holds : goal.returns-in-Err-clause-holds
returns-in-Err-clause-holds c =
    elim c.then-len-eq1.branch [
      | then-len-eq1-via-then-len-eq1 w ↦ (let one = one-part c.args.parts (sym c.len.ensures ∙ w.if-len-eq1.true) in let no = c.in-Err.ensures.one one.0 one.1 in cc)
      | then-len-eq1-via-else-len-eq1+then-total-eq0 w ↦ same-holds c.args.pass.now.view (cost_of_parts c.args.parts) 0 (sym w.if-total-eq0.true ∙ c.cost_of_all-total.ensures)
    ]

pub lower_to-requires-clause-held : goal.lower_to-requires-clause-held
lower_to-requires-clause-held c = let same = c.in-Err-charge.ensures.err.holds Request in let held = c.hold-held.ensures in omega arith

pub returns-in-Err-charge-clause-refused : goal.returns-in-Err-charge-clause-refused
returns-in-Err-charge-clause-refused c =
    let same = c.in-Err-charge.ensures.err.holds Request in let held = c.hold-held.ensures in let total = c.cost_of_all-total.ensures in
    refused-is c.args.words.now.limits c.args.pass.now.view c.charge.new.pass.view c.lower_to.new.pass.view (cost_of_parts c.args.parts) _ _ c.in-Err-charge.tripped total (omega arith)
    c.in-Err-charge.ensures.err c.lower_to.ensures.given

pub returns-in-Err-charge-clause-holds : goal.returns-in-Err-charge-clause-holds
returns-in-Err-charge-clause-holds c =
    refused-holds c.args.words.now.limits c.args.pass.now.view c.lower_to.new.pass.view (cost_of_parts c.args.parts) c.in-Err-charge.tripped (returns-in-Err-charge-clause-refused c)

pub cost-requires : goal.cost-requires
cost-requires c =
    let least = merged-costs c.requires.parts.0 c.args.parts c.in-Ok-merge_all.merged c.requires.some c.requires.parts.1 (c.in-Ok-merge_all.ensures.whole c.requires.parts.0 c.requires.parts.1) in
    let total = c.cost_of_all-total.ensures in
    (record { fits = omega arith })

pub overflow_add-others : goal.overflow_add-others
overflow_add-others c =
    let least = merged-costs c.requires.parts.0 c.args.parts c.in-Ok-merge_all.merged c.requires.some c.requires.parts.1 (c.in-Ok-merge_all.ensures.whole c.requires.parts.0 c.requires.parts.1) in
    let total = c.cost_of_all-total.ensures in let held = c.hold-held.ensures in let is = c.cost.ensures in
    omega arith

pub lower_to-requires-in-Ok-merge_all-clause-held : goal.lower_to-requires-in-Ok-merge_all-clause-held
lower_to-requires-in-Ok-merge_all-clause-held c =
    let least = merged-costs c.requires.parts.0 c.args.parts c.in-Ok-merge_all.merged c.requires.some c.requires.parts.1 (c.in-Ok-merge_all.ensures.whole c.requires.parts.0 c.requires.parts.1) in
    let total = c.cost_of_all-total.ensures in let held = c.hold-held.ensures in let is = c.cost.ensures in
    let raised = c.in_default.ensures.raised_child in
    omega arith

pub returns-in-Ok-merge_all-clause-holds : goal.returns-in-Ok-merge_all-clause-holds
returns-in-Ok-merge_all-clause-holds c =
    let least = merged-costs c.requires.parts.0 c.args.parts c.in-Ok-merge_all.merged c.requires.some c.requires.parts.1 (c.in-Ok-merge_all.ensures.whole c.requires.parts.0 c.requires.parts.1) in
    let total = c.cost_of_all-total.ensures in let held = c.hold-held.ensures in let is = c.cost.ensures in
    let raised = c.in_default.ensures.raised_child in
    merged-holds c.args.words.now.limits c.args.pass.now.view c.charge.new.pass.view c.lower_to-in-Ok-merge_all.new.pass.view (cost_of_parts c.args.parts) (cost c.in-Ok-merge_all.merged) _ _ total least
    (omega arith) c.in_default.ensures.ok c.lower_to-in-Ok-merge_all.ensures.given
