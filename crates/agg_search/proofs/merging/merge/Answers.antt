use Rattle.std.proofs.Common.{ap, arith, ◌∙◌}
use Rattle.agg_model.specs.declared.breaker.Which.TheVariants as which
use Rattle.agg_search.proofs.MergeEnds.{merge-done, merge-refused, merged-is, some-parts}
use Rattle.agg_search.proofs.merging.merge.Goals as goal

pub reduce-requires-clause-room : goal.reduce-requires-clause-room
reduce-requires-clause-room c =
    let held = c.requires.held in let same = c.make_room.ensures.same which.Request in let low = c.make_room.ensures.held in let request = c.make_room.ensures.request in
    let cap = ap (λ p. p.view.cap) c.make_room.ensures.pass in omega arith

pub returns-in-Done-clause-stands : goal.returns-in-Done-clause-stands
returns-in-Done-clause-stands c search are before r stands =
    (merge-done c.args.words.now.limits c.make_room.new.pass.view c.reduce.new.pass.view search before r (c.make_room.ensures.stands before r stands)
    c.args.parts c.in-Done.whole (some-parts c.args.parts c.is_empty.result c.is_empty.ensures c.if-is_empty.false) are
    (λ p e. (let one = c.in-Done.ensures.one p e in (one.0, ap (λ q. q.view) one.1))) (λ none. ap (λ q. q.view) (c.in-Done.ensures.free none).1)
    c.in-Done.ensures.whole c.in-Done.ensures.done).0

pub returns-in-Refused-clause-fielddata : goal.returns-in-Refused-clause-fielddata
returns-in-Refused-clause-fielddata c =
    ap (λ y. y.hold) (c.in-Refused.ensures.untouched which.Fielddata (λ e. cc) (λ e. cc)) ∙ c.make_room.ensures.same which.Fielddata

pub returns-in-Refused-clause-inflight : goal.returns-in-Refused-clause-inflight
returns-in-Refused-clause-inflight c =
    ap (λ y. y.hold) (c.in-Refused.ensures.untouched which.Inflight (λ e. cc) (λ e. cc)) ∙ c.make_room.ensures.same which.Inflight

pub returns-in-Refused-clause-stops : goal.returns-in-Refused-clause-stops
returns-in-Refused-clause-stops c search are before r stands =
    merge-refused c.args.words.now.limits c.make_room.new.pass.view c.reduce.new.pass.view search before r (c.make_room.ensures.stands before r stands)
    c.args.parts c.in-Refused.tripped c.make_room.ensures.alone.whole (some-parts c.args.parts c.is_empty.result c.is_empty.ensures c.if-is_empty.false)
    (λ p e. (let one = c.in-Refused.ensures.one p e in (one.0, ap (λ q. q.view) one.1))) (λ none. (c.in-Refused.ensures.free none).0)
    c.in-Refused.ensures.refused

pub returns-in-Done-clause-fielddata : goal.returns-in-Done-clause-fielddata
returns-in-Done-clause-fielddata c =
    ap (λ y. y.hold) (c.in-Done.ensures.untouched which.Fielddata (λ e. cc) (λ e. cc)) ∙ c.make_room.ensures.same which.Fielddata

pub returns-in-Done-clause-inflight : goal.returns-in-Done-clause-inflight
returns-in-Done-clause-inflight c =
    ap (λ y. y.hold) (c.in-Done.ensures.untouched which.Inflight (λ e. cc) (λ e. cc)) ∙ c.make_room.ensures.same which.Inflight

pub returns-in-Done-clause-held : goal.returns-in-Done-clause-held
returns-in-Done-clause-held c =
    let held = c.in-Done.ensures.holds which.Request in let same = c.make_room.ensures.same which.Request in omega arith

pub returns-in-Memory-clause-fielddata : goal.returns-in-Memory-clause-fielddata
returns-in-Memory-clause-fielddata c =
    ap (λ y. y.hold) (c.in-Memory.ensures.untouched which.Fielddata (λ e. cc) (λ e. cc)) ∙ c.make_room.ensures.same which.Fielddata

pub returns-in-Memory-clause-inflight : goal.returns-in-Memory-clause-inflight
returns-in-Memory-clause-inflight c =
    ap (λ y. y.hold) (c.in-Memory.ensures.untouched which.Inflight (λ e. cc) (λ e. cc)) ∙ c.make_room.ensures.same which.Inflight

pub returns-in-Done-clause-merged : goal.returns-in-Done-clause-merged
returns-in-Done-clause-merged c search are =
    merged-is c.args.words.now.limits search c.make_room.new.pass.view c.reduce.new.pass.view
    c.args.parts c.in-Done.whole (some-parts c.args.parts c.is_empty.result c.is_empty.ensures c.if-is_empty.false) are
    (λ p e. (c.in-Done.ensures.one p e).0) c.in-Done.ensures.whole
