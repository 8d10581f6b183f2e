use Rattle.std.proofs.Common.{◌+◌, ◌≡◌, ℕ, List, [], ◌∷◌, ◌++◌, length, map, sym, ◌∙◌, ap, subst}
use Rattle.std.specs.Prelude.{Option, take}
use Rattle.std.proofs.lemmas.List.{map_more, take_all}
use Rattle.agg_model.specs.declared.breaker.Tripped.{Tripped}
use Rattle.agg_model.specs.declared.breaker.Which.TheVariants as which
use Rattle.wave_bodies.proofs.EachBody.{HasCharged, all-charged, body-charged}
use Rattle.wave_bodies.proofs.bodies.charge_bodies.Goals as goal

pub returns-in_err-push-clause-fielddata : goal.returns-in_err-push-clause-fielddata
returns-in_err-push-clause-fielddata c = c.charge_bytes-charged.ensures.others which.Fielddata (λ e. cc) (λ e. cc) ∙ c.loop-body.invariant.charged.stands.holds which.Fielddata

pub returns-in_err-push-clause-request : goal.returns-in_err-push-clause-request
returns-in_err-push-clause-request c = c.charge_bytes-charged.ensures.others which.Request (λ e. cc) (λ e. cc) ∙ c.loop-body.invariant.charged.stands.holds which.Request

pub loop-body-preserved : goal.loop-body-preserved
loop-body-preserved c =
    let l = c.args.words.now.limits in
    let old = c.args.pass.now.view in
    let u = c.charge_bytes-charged.new.pass.view in
    let items = c.as_slice-body-items.result.now in
    let i = c.loop-body.body-index in
    let n = c.len.result in
    let before = map length (take i items) in
    let ts = c.loop-body.refusals in
    let lengths : map length (take (i + 1) items) ≡ before ++ n ∷ [] =
    map_more length items i c.body-item.result c.loop-body-test.true ∙ ap (λ (k : ℕ). before ++ k ∷ []) (sym (c.len.ensures ∙ ap length c.body-item.is)) in
    record {
      alone = c.charge_bytes-charged.ensures.alone;
      charged = subst (λ (ns : List ℕ). HasCharged l old u ns c.push.new.self) (sym lengths)
          (subst (λ (found : List (Option Tripped)). HasCharged l old u (before ++ n ∷ []) found) (sym (c.in_ok-push.ensures.ok ∙ ap (λ (t : Option Tripped). ts ++ t ∷ []) c.err.ensures.value))
          (body-charged l old c.loop-body.pass.view u before ts c.loop-body.invariant.charged n c.charge_bytes-charged.result c.charge_bytes-charged.ensures.ends c.charge_bytes-charged.ensures.kept));
    }

pub returns-clause-fielddata : goal.returns-clause-fielddata
returns-clause-fielddata c = c.loop-body.invariant.charged.stands.holds which.Fielddata

pub returns-clause-request : goal.returns-clause-request
returns-clause-request c = c.loop-body.invariant.charged.stands.holds which.Request

pub returns-clause-charged : goal.returns-clause-charged
returns-clause-charged c settings index requests same bytes =
    let items = c.as_slice-body-items.result.now in
    let i = c.loop-body.body-index in
    let all : take i items ≡ c.args.bodies.now = take_all i items c.loop-body-test.false ∙ c.as_slice-body-items.ensures in
    all-charged c.args.words.now.limits c.args.pass.now.view c.loop-body.pass.view (map length (take i items)) c.loop-body.refusals c.look.ensures.bounded c.loop-body.invariant.charged
    settings index requests same (bytes ∙ sym (ap (map length) all))
