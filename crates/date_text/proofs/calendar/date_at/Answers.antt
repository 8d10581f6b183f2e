-- The calendar crate has the days of the range, with the dates of the definitions.
use Rattle.std.proofs.Common.{◌≡◌, ◌∙◌, ap, arith, pos, w64}
use Rattle.std.specs.Int.{int_div_euclid}
use Rattle.std.proofs.lemmas.Bool.{false≢true}
use Rattle.std.proofs.lemmas.Int.{ints, to_z-of_z}
use Rattle.jiff_core.specs.Date.{epoch_day}
use Rattle.date_spec.specs.Calendar.{date_of}
use Rattle.date_spec.proofs.InstantLemmas.{has_day, day_of}
use Rattle.date_text.proofs.Days.{year_from_zero, date_of-epoch_day}
use Rattle.date_text.proofs.calendar.date_at.Goals as goal

pub unreachable-requires : goal.unreachable-requires
unreachable-requires c =
    let day = has_day c.args.instant c.requires in
    let same : c.day_at.result ≡ day_of c.args.instant = c.day_at.ensures ∙ ap (λ z. int_div_euclid z (pos 86_400_000)) (to_z-of_z w64 c.args.instant c.ranges.instant) in
    false≢true (c.in-Err.ensures.succeeds.1 (omega (arith, ints), omega (arith, ints)))

pub returns : goal.returns
returns c =
    let day = has_day c.args.instant c.requires in
    let same : c.day_at.result ≡ day_of c.args.instant = c.day_at.ensures ∙ ap (λ z. int_div_euclid z (pos 86_400_000)) (to_z-of_z w64 c.args.instant c.ranges.instant) in
    let value = c.in-Ok.ensures.value in
    let number : day_of c.args.instant ≡ epoch_day c.in-Ok.date = omega (arith, ints) in
    ap date_of number ∙ date_of-epoch_day c.in-Ok.date (year_from_zero c.in-Ok.date (omega (arith, ints)))
