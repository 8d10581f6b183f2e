-- The format pads with zeros, and the date is that of the definition.
use Rattle.std.proofs.Common.{◌≡◌, ◌∙◌, ap, sym, subst, arith, OnOk, string_bytes, ◌++◌, w16, w64, to_z, of_z}
use Rattle.std.specs.Prelude.{unsigned_abs}
use Rattle.std.specs.Fmt.{styled_decimal}
use Rattle.std.proofs.lemmas.Int.{ints, to_z-of_z}
use Rattle.date_spec.specs.Calendar.{Date}
use Rattle.date_spec.specs.Instants.{date_at}
use Rattle.date_text.specs.ClockText.{date_text}
use Rattle.date_text.proofs.Padding.{padded-two, padded-four, date_written}
use Rattle.date_text.proofs.printing.append_date.Goals as goal

pub returns : goal.returns
returns c =
    let year : to_z w16 (of_z w16 c.date_at-date.result.year) ≡ c.date_at-date.result.year = omega (arith, ints, c.date_at-date.result.year_in) in
    let shown : Date = record { year = c.unsigned_abs-year.result; month = c.date_at-date.result.month; day = c.date_at-date.result.day } in
    let date : shown ≡ date_at c.args.instant =
    ap (λ y. record { year = y; month = c.date_at-date.result.month; day = c.date_at-date.result.day }) (c.unsigned_abs-year.ensures.value ∙ ap unsigned_abs year)
    ∙ sym c.date_at-date.ensures ∙ ap date_at (to_z-of_z w64 c.args.instant c.ranges.instant) in
    let text = date_written (styled_decimal c.laid_out.result c.unsigned_abs-year.result) (styled_decimal c.laid_out-2.result c.date_at-date.result.month) (styled_decimal c.laid_out-3.result c.date_at-date.result.day) shown
    (ap (λ s. styled_decimal s c.unsigned_abs-year.result) c.laid_out.ensures ∙ padded-four c.unsigned_abs-year.result)
    (ap (λ s. styled_decimal s c.date_at-date.result.month) c.laid_out-2.ensures ∙ padded-two c.date_at-date.result.month)
    (ap (λ s. styled_decimal s c.date_at-date.result.day) c.laid_out-3.ensures ∙ padded-two c.date_at-date.result.day) in
    subst (λ bs. OnOk c.write.result (string_bytes c.write.new.self ≡ string_bytes c.args.text.now ++ bs)) (text ∙ ap date_text date) c.write.ensures.bytes
