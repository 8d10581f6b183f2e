use Rattle.std.specs.Prelude.{◌^◌, refl, map}
use Rattle.std.proofs.Common.{◌∙◌, ap, sym, arith}
use Rattle.agg_evaluation.specs.Cost.{cost}
use Rattle.agg_model.specs.declared.breaker.Which.{Which}
use Rattle.agg_model.specs.declared.breaker.Which.TheVariants as which
use Rattle.agg_search.proofs.MergeEnds.{some-parts}
use Rattle.agg_spec.specs.Charges.{no_amounts}
use Rattle.agg_spec.specs.Rises.{merge_charge}
use Rattle.batch_reduce.proofs.Joining.{merged-costs}
use Rattle.batch_reduce.specs.Parts.{cost_of_parts}
use Rattle.breaker_words.specs.Passes.{PassModel}
use Rattle.breaker_words.specs.Views.{granted_of, hold_of, trips_of}
use Rattle.wave_answers.proofs.Charges.{done-risen, no-merge, refused-merge, kept-granted, kept-hold, kept-trips}
use Rattle.wave_answers.proofs.Rises.{rises-as, unchanged}
use Rattle.wave_answers.proofs.merging.merge_parts.Goals as goal

pub returns-then-is_empty-clause-risen : goal.returns-then-is_empty-clause-risen
returns-then-is_empty-clause-risen c =
    let v = c.args.pass.now.view in
    let u = c.look.new.pass.view in
    let same = c.look.ensures.same in
    rises-as 0 (merge_charge (map cost c.args.parts)) no_amounts no_amounts v u
    (unchanged c.args.words.now.limits v u c.look.ensures.bounded (λ (x : Which). ap (λ (p : PassModel). granted_of p.view x) same) (λ (x : Which). ap (λ (p : PassModel). trips_of p.view x) same))
    (sym (no-merge c.args.parts (c.is_empty.ensures.0 c.if-is_empty.true))) refl

pub returns-in-Done-clause-fielddata : goal.returns-in-Done-clause-fielddata
returns-in-Done-clause-fielddata c =
    ap (λ y. y.hold) (c.in-Done.ensures.untouched which.Fielddata (λ e. cc) (λ e. cc)) ∙ c.make_room.ensures.same which.Fielddata ∙ ap (λ (p : PassModel). hold_of p.view which.Fielddata) c.look.ensures.same

pub returns-in-Done-clause-inflight : goal.returns-in-Done-clause-inflight
returns-in-Done-clause-inflight c =
    ap (λ y. y.hold) (c.in-Done.ensures.untouched which.Inflight (λ e. cc) (λ e. cc)) ∙ c.make_room.ensures.same which.Inflight ∙ ap (λ (p : PassModel). hold_of p.view which.Inflight) c.look.ensures.same

pub returns-in-Done-clause-less : goal.returns-in-Done-clause-less
returns-in-Done-clause-less c =
    let are = c.requires.parts in
    let less = merged-costs are.0 c.args.parts c.in-Done.whole (some-parts c.args.parts c.is_empty.result c.is_empty.ensures c.if-is_empty.false) are.1 (c.in-Done.ensures.whole are.0 are.1) in
    omega (arith, less)

pub returns-in-Done-clause-risen : goal.returns-in-Done-clause-risen
returns-in-Done-clause-risen c =
    done-risen c.args.words.now.limits c.args.pass.now.view c.make_room.new.pass.view c.look.ensures.bounded
    (kept-hold c.args.pass.now c.look.new.pass c.make_room.new.pass c.look.ensures.same c.make_room.ensures.same)
    (kept-granted c.args.pass.now c.look.new.pass c.make_room.new.pass (2 ^ 63) c.look.ensures.same c.make_room.ensures.pass)
    (kept-trips c.args.pass.now c.look.new.pass c.make_room.new.pass (2 ^ 63) c.look.ensures.same c.make_room.ensures.pass)
    c.reduce.new.pass.view c.args.parts c.in-Done.whole (some-parts c.args.parts c.is_empty.result c.is_empty.ensures c.if-is_empty.false)
    (λ p e. ap (λ (q : PassModel). q.view) (c.in-Done.ensures.one p e).1) (λ none. ap (λ (q : PassModel). q.view) (c.in-Done.ensures.free none).1) c.in-Done.ensures.done

pub returns-in-Refused-clause-fielddata : goal.returns-in-Refused-clause-fielddata
returns-in-Refused-clause-fielddata c =
    ap (λ y. y.hold) (c.in-Refused.ensures.untouched which.Fielddata (λ e. cc) (λ e. cc)) ∙ c.make_room.ensures.same which.Fielddata ∙ ap (λ (p : PassModel). hold_of p.view which.Fielddata) c.look.ensures.same

pub returns-in-Refused-clause-inflight : goal.returns-in-Refused-clause-inflight
returns-in-Refused-clause-inflight c =
    ap (λ y. y.hold) (c.in-Refused.ensures.untouched which.Inflight (λ e. cc) (λ e. cc)) ∙ c.make_room.ensures.same which.Inflight ∙ ap (λ (p : PassModel). hold_of p.view which.Inflight) c.look.ensures.same

pub returns-in-Refused-clause-refused : goal.returns-in-Refused-clause-refused
returns-in-Refused-clause-refused c =
    refused-merge c.args.words.now.limits c.args.pass.now.view c.make_room.new.pass.view c.look.ensures.bounded
    (kept-hold c.args.pass.now c.look.new.pass c.make_room.new.pass c.look.ensures.same c.make_room.ensures.same)
    (kept-granted c.args.pass.now c.look.new.pass c.make_room.new.pass (2 ^ 63) c.look.ensures.same c.make_room.ensures.pass)
    (kept-trips c.args.pass.now c.look.new.pass c.make_room.new.pass (2 ^ 63) c.look.ensures.same c.make_room.ensures.pass)
    c.reduce.new.pass.view (cost_of_parts c.args.parts) c.in-Refused.tripped c.make_room.ensures.alone.whole c.in-Refused.ensures.refused

pub returns-in-Refused-clause-given : goal.returns-in-Refused-clause-given
returns-in-Refused-clause-given c =
    let h = c.in-Refused.ensures.holds which.Request in let s = c.make_room.ensures.same which.Request in let l = ap (λ (p : PassModel). hold_of p.view which.Request) c.look.ensures.same in
    omega (arith, h, s, l)

pub returns-in-Memory-clause-fielddata : goal.returns-in-Memory-clause-fielddata
returns-in-Memory-clause-fielddata c =
    ap (λ y. y.hold) (c.in-Memory.ensures.untouched which.Fielddata (λ e. cc) (λ e. cc)) ∙ c.make_room.ensures.same which.Fielddata ∙ ap (λ (p : PassModel). hold_of p.view which.Fielddata) c.look.ensures.same

pub returns-in-Memory-clause-inflight : goal.returns-in-Memory-clause-inflight
returns-in-Memory-clause-inflight c =
    ap (λ y. y.hold) (c.in-Memory.ensures.untouched which.Inflight (λ e. cc) (λ e. cc)) ∙ c.make_room.ensures.same which.Inflight ∙ ap (λ (p : PassModel). hold_of p.view which.Inflight) c.look.ensures.same
