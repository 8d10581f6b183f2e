-- The parts are appended in their order.
use Rattle.std.proofs.Common.{◌∙◌, ap, string_bytes, w64, to_z, of_z}
use Rattle.std.proofs.lemmas.Int.{to_z-of_z}
use Rattle.date_spec.specs.Instants.{date_at, time_at}
use Rattle.date_spec.specs.DateTexts.{printed_with}
use Rattle.date_text.proofs.Padding.{clock_appended}
use Rattle.date_text.proofs.printing.print.Goals as goal

pub returns : goal.returns
returns c =
    let passed = to_z w64 (of_z w64 c.args.instant) in
    clock_appended (date_at passed) (time_at passed) c.args.offset.now (string_bytes c.in_ok-text.text) (string_bytes c.append_date.new.text) (string_bytes c.push_str.new.self) (string_bytes c.append_time.new.text) (string_bytes c.push_str-2.new.self) c.in_ok-text.ensures.bytes c.in_ok-append_date.ensures c.in_ok-push_str.ensures.bytes c.in_ok-append_time.ensures c.in_ok-push_str-2.ensures.bytes
    ∙ ap (λ z. printed_with c.args.offset.now z) (to_z-of_z w64 c.args.instant c.ranges.instant)
