-- The format pads with zeros.
use Rattle.std.proofs.Common.{◌≡◌, ◌∙◌, ◌++◌, ◌/◌, ◌%◌, ap, subst, IfOk, string_bytes, arith}
use Rattle.std.specs.Prelude.{pos, ◌<ℤ◌, unsigned_abs, codes}
use Rattle.std.specs.Fmt.{styled_decimal}
use Rattle.std.proofs.lemmas.Int.{ints, to_z-of_z}
use mir.Syntax.{w64}
use Rattle.agg_spec.specs.InstantTexts.{hours_text}
use Rattle.date_text.proofs.Padding.{padded-two}
use Rattle.agg_response.proofs.InstantLaws.{ahead_of_utc, behind_utc, hours_written}
use Rattle.agg_response.proofs.instants.offset_text.Goals as goal

pub returns-then-zone-lt0 : goal.returns-then-zone-lt0
returns-then-zone-lt0 c =
    let zone = to_z-of_z w64 c.args.zone c.ranges.zone in
    let minutes = c.unsigned_abs-minutes.result / 60_000 in
    let all : minutes ≡ unsigned_abs c.args.zone / 60_000 = ap (λ n. n / 60_000) (c.unsigned_abs-minutes.ensures.value ∙ ap unsigned_abs zone) in
    let less : c.args.zone <ℤ pos 0 = omega (arith, ints, zone, c.if-zone-lt0.true) in
    let text = hours_written (styled_decimal c.laid_out.result (minutes / 60)) (styled_decimal c.laid_out-then-zone-lt0.result (minutes % 60)) minutes
    (ap (λ s. styled_decimal s (minutes / 60)) c.laid_out.ensures ∙ padded-two (minutes / 60))
    (ap (λ s. styled_decimal s (minutes % 60)) c.laid_out-then-zone-lt0.ensures ∙ padded-two (minutes % 60)) in
    subst (λ bs. IfOk c.format.result (λ s. string_bytes s ≡ bs))
    (ap (λ bs. codes "-" ++ bs) (text ∙ ap hours_text all) ∙ behind_utc c.args.zone less) c.format.ensures.ok

pub returns-then-zone-gt0 : goal.returns-then-zone-gt0
returns-then-zone-gt0 c =
    let zone = to_z-of_z w64 c.args.zone c.ranges.zone in
    let minutes = c.unsigned_abs-minutes.result / 60_000 in
    let all : minutes ≡ unsigned_abs c.args.zone / 60_000 = ap (λ n. n / 60_000) (c.unsigned_abs-minutes.ensures.value ∙ ap unsigned_abs zone) in
    let more : pos 0 <ℤ c.args.zone = omega (arith, ints, zone, c.if-zone-gt0.true) in
    let text = hours_written (styled_decimal c.laid_out-then-zone-gt0.result (minutes / 60))
    (styled_decimal c.laid_out-then-zone-gt0-2.result (minutes % 60)) minutes
    (ap (λ s. styled_decimal s (minutes / 60)) c.laid_out-then-zone-gt0.ensures ∙ padded-two (minutes / 60))
    (ap (λ s. styled_decimal s (minutes % 60)) c.laid_out-then-zone-gt0-2.ensures ∙ padded-two (minutes % 60)) in
    subst (λ bs. IfOk c.format-then-zone-gt0.result (λ s. string_bytes s ≡ bs))
    (ap (λ bs. codes "+" ++ bs) (text ∙ ap hours_text all) ∙ ahead_of_utc c.args.zone more) c.format-then-zone-gt0.ensures.ok
