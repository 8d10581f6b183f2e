-- What a clock and its offset name.
use Rattle.std.proofs.Common.{◌≡◌, ◌∙◌, sym, arith, to_z, of_z, w64}
use Rattle.std.proofs.lemmas.Int.{ints}
use Rattle.date_spec.specs.DateTexts.{shown_at, instant_of_clock}
use Rattle.date_spec.proofs.TextLemmas.{whole_clock-shape}
use Rattle.date_text.proofs.ClockLemmas.{not_a_clock, no_offset_of, offset_of}
use Rattle.date_text.proofs.reading.instant_of_clock.Goals as goal

pub returns-then-not-is_clock : goal.returns-then-not-is_clock
returns-then-not-is_clock c = not_a_clock c.args.clock.now c.args.offset.now (sym c.is_clock.ensures ∙ c.if-not-is_clock.true)

pub returns-in_err-ahead_of : goal.returns-in_err-ahead_of
returns-in_err-ahead_of c = cc (no_offset_of c.args.clock.now c.args.offset.now (sym c.ahead_of.ensures.ahead ∙ c.in_err-ahead_of.was))

pub shown_at-requires-clause-whole : goal.shown_at-requires-clause-whole
shown_at-requires-clause-whole c = rw c.whole.ensures (whole_clock-shape c.args.clock.now c.args.offset.now (sym c.is_clock.ensures ∙ c.if-not-is_clock.false))

pub returns : goal.returns
returns c =
    let same : to_z w64 (of_z w64 c.in_ok-ahead_of.field-0) ≡ c.in_ok-ahead_of.field-0 = omega (arith, ints, c.in_ok-ahead_of.ensures.bound) in
    let named = offset_of c.args.clock.now c.args.offset.now c.in_ok-ahead_of.field-0 (sym c.is_clock.ensures ∙ c.if-not-is_clock.false) (sym c.ahead_of.ensures.ahead ∙ c.in_ok-ahead_of.was) in
    let shown : shown_at c.whole.result (to_z w64 (of_z w64 c.in_ok-ahead_of.field-0)) ≡ instant_of_clock c.args.clock.now c.args.offset.now = rw (same, c.whole.ensures) named in
    c.shown_at.ensures ∙ shown
