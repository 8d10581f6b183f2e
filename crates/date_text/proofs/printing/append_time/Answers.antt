-- The format pads with zeros, and the time is that of the definition.
use Rattle.std.proofs.Common.{◌≡◌, ◌∙◌, ap, subst, OnOk, string_bytes, pos, ◌++◌, ◌/◌, ◌%◌, w64}
use Rattle.std.specs.Prelude.{unsigned_abs}
use Rattle.std.specs.Fmt.{styled_decimal}
use Rattle.std.specs.Int.{int_rem_euclid}
use Rattle.std.proofs.lemmas.Int.{to_z-of_z}
use Rattle.date_spec.specs.Instants.{time_after}
use Rattle.date_text.specs.ClockText.{time_text}
use Rattle.date_text.proofs.Padding.{padded-two, padded-three, time_written}
use Rattle.date_text.proofs.printing.append_time.Goals as goal

pub returns : goal.returns
returns c =
    let n = c.millis_at-millis.result in
    let millis = c.millis_at-millis.ensures.millis ∙ ap (λ z. unsigned_abs (int_rem_euclid z (pos 86_400_000))) (to_z-of_z w64 c.args.instant c.ranges.instant) in
    let text = time_written (styled_decimal c.laid_out.result (n / 3_600_000)) (styled_decimal c.laid_out-2.result (n / 60_000 % 60)) (styled_decimal c.laid_out-3.result (n / 1000 % 60)) (styled_decimal c.laid_out-4.result (n % 1000)) (time_after n)
    (ap (λ s. styled_decimal s (n / 3_600_000)) c.laid_out.ensures ∙ padded-two (n / 3_600_000))
    (ap (λ s. styled_decimal s (n / 60_000 % 60)) c.laid_out-2.ensures ∙ padded-two (n / 60_000 % 60))
    (ap (λ s. styled_decimal s (n / 1000 % 60)) c.laid_out-3.ensures ∙ padded-two (n / 1000 % 60))
    (ap (λ s. styled_decimal s (n % 1000)) c.laid_out-4.ensures ∙ padded-three (n % 1000)) in
    subst (λ bs. OnOk c.write.result (string_bytes c.write.new.self ≡ string_bytes c.args.text.now ++ bs)) (text ∙ ap (λ k. time_text (time_after k)) millis) c.write.ensures.bytes
