use Rattle.std.specs.Prelude.{◌^◌, refl}
use Rattle.std.proofs.Common.{◌∙◌, ap, sym}
use Rattle.agg_model.specs.declared.breaker.Which.{Which}
use Rattle.agg_model.specs.declared.breaker.Which.TheVariants as which
use Rattle.agg_spec.specs.Charges.{no_amounts}
use Rattle.agg_spec.specs.Outcome.{response_length}
use Rattle.breaker_words.specs.Passes.{PassModel}
use Rattle.breaker_words.specs.Views.{granted_of, trips_of}
use Rattle.wave_answers.proofs.Charges.{end-kept, end-others, end-place, end-refused, end-risen, no-charge-place, kept-granted, kept-hold, kept-trips}
use Rattle.wave_answers.proofs.Rises.{rises-as, unchanged}
use Rattle.wave_answers.proofs.charging.charge_response.Goals as goal

pub returns-then-bytes-eq0-clause-place : goal.returns-then-bytes-eq0-clause-place
returns-then-bytes-eq0-clause-place c =
    no-charge-place c.args.words.now.limits c.args.pass.now.view (response_length c.args.outcome.now) c.look.ensures.bounded c.requires.alone.rest c.cap-cap.ensures.live.own
    (sym c.bytes_of-bytes.ensures ∙ c.if-bytes-eq0.true)

pub returns-then-bytes-eq0-clause-risen : goal.returns-then-bytes-eq0-clause-risen
returns-then-bytes-eq0-clause-risen c =
    let v = c.args.pass.now.view in
    let u = c.look.new.pass.view in
    let same = c.look.ensures.same in
    rises-as 0 (response_length c.args.outcome.now) no_amounts no_amounts v u
    (unchanged c.args.words.now.limits v u c.look.ensures.bounded (λ (x : Which). ap (λ (p : PassModel). granted_of p.view x) same) (λ (x : Which). ap (λ (p : PassModel). trips_of p.view x) same))
    (sym (sym c.bytes_of-bytes.ensures ∙ c.if-bytes-eq0.true)) refl

pub returns-clause-fielddata : goal.returns-clause-fielddata
returns-clause-fielddata c =
    end-others c.args.words.now.limits c.args.pass.now.view c.make_room.new.pass.view c.look.ensures.bounded
    (kept-hold c.args.pass.now c.look.new.pass c.make_room.new.pass c.look.ensures.same c.make_room.ensures.same)
    (kept-granted c.args.pass.now c.look.new.pass c.make_room.new.pass (2 ^ 63) c.look.ensures.same c.make_room.ensures.pass)
    (kept-trips c.args.pass.now c.look.new.pass c.make_room.new.pass (2 ^ 63) c.look.ensures.same c.make_room.ensures.pass)
    c.charge.new.pass.view c.bytes_of-bytes.result c.charge.result c.charge.ensures.ok c.charge.ensures.err which.Fielddata (λ e. cc) (λ e. cc)

pub returns-clause-inflight : goal.returns-clause-inflight
returns-clause-inflight c =
    end-others c.args.words.now.limits c.args.pass.now.view c.make_room.new.pass.view c.look.ensures.bounded
    (kept-hold c.args.pass.now c.look.new.pass c.make_room.new.pass c.look.ensures.same c.make_room.ensures.same)
    (kept-granted c.args.pass.now c.look.new.pass c.make_room.new.pass (2 ^ 63) c.look.ensures.same c.make_room.ensures.pass)
    (kept-trips c.args.pass.now c.look.new.pass c.make_room.new.pass (2 ^ 63) c.look.ensures.same c.make_room.ensures.pass)
    c.charge.new.pass.view c.bytes_of-bytes.result c.charge.result c.charge.ensures.ok c.charge.ensures.err which.Inflight (λ e. cc) (λ e. cc)

pub returns-clause-kept : goal.returns-clause-kept
returns-clause-kept c =
    end-kept c.args.words.now.limits c.args.pass.now.view c.make_room.new.pass.view c.look.ensures.bounded
    (kept-hold c.args.pass.now c.look.new.pass c.make_room.new.pass c.look.ensures.same c.make_room.ensures.same)
    (kept-granted c.args.pass.now c.look.new.pass c.make_room.new.pass (2 ^ 63) c.look.ensures.same c.make_room.ensures.pass)
    (kept-trips c.args.pass.now c.look.new.pass c.make_room.new.pass (2 ^ 63) c.look.ensures.same c.make_room.ensures.pass)
    c.charge.new.pass.view c.bytes_of-bytes.result c.charge.result c.charge.ensures.ok c.charge.ensures.err

pub returns-clause-place : goal.returns-clause-place
returns-clause-place c =
    end-place c.args.words.now.limits c.args.pass.now.view c.make_room.new.pass.view c.look.ensures.bounded
    (kept-hold c.args.pass.now c.look.new.pass c.make_room.new.pass c.look.ensures.same c.make_room.ensures.same)
    (kept-granted c.args.pass.now c.look.new.pass c.make_room.new.pass (2 ^ 63) c.look.ensures.same c.make_room.ensures.pass)
    (kept-trips c.args.pass.now c.look.new.pass c.make_room.new.pass (2 ^ 63) c.look.ensures.same c.make_room.ensures.pass)
    c.charge.new.pass.view c.bytes_of-bytes.result (response_length c.args.outcome.now) c.bytes_of-bytes.ensures c.requires.alone.rest c.cap-cap.ensures.live.own c.charge.result c.charge.ensures.ok

pub returns-clause-risen : goal.returns-clause-risen
returns-clause-risen c =
    end-risen c.args.words.now.limits c.args.pass.now.view c.make_room.new.pass.view c.look.ensures.bounded
    (kept-hold c.args.pass.now c.look.new.pass c.make_room.new.pass c.look.ensures.same c.make_room.ensures.same)
    (kept-granted c.args.pass.now c.look.new.pass c.make_room.new.pass (2 ^ 63) c.look.ensures.same c.make_room.ensures.pass)
    (kept-trips c.args.pass.now c.look.new.pass c.make_room.new.pass (2 ^ 63) c.look.ensures.same c.make_room.ensures.pass)
    c.charge.new.pass.view c.bytes_of-bytes.result (response_length c.args.outcome.now) c.bytes_of-bytes.ensures c.charge.result c.charge.ensures.ok

pub returns-clause-refused : goal.returns-clause-refused
returns-clause-refused c =
    end-refused c.args.words.now.limits c.args.pass.now.view c.make_room.new.pass.view c.look.ensures.bounded
    (kept-hold c.args.pass.now c.look.new.pass c.make_room.new.pass c.look.ensures.same c.make_room.ensures.same)
    (kept-granted c.args.pass.now c.look.new.pass c.make_room.new.pass (2 ^ 63) c.look.ensures.same c.make_room.ensures.pass)
    (kept-trips c.args.pass.now c.look.new.pass c.make_room.new.pass (2 ^ 63) c.look.ensures.same c.make_room.ensures.pass)
    c.charge.new.pass.view c.bytes_of-bytes.result (response_length c.args.outcome.now) c.bytes_of-bytes.ensures c.make_room.ensures.alone.whole c.charge.result c.charge.ensures.err
