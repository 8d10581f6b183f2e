-- What a text names, by its form.
use Rattle.std.proofs.Common.{◌≡◌, ◌∙◌, sym, ap, arith, take, drop, length, ℕ}
use Rattle.std.specs.Prelude.{min}
use Rattle.date_spec.specs.DateTexts.{ranged, read_date, clock_length, instant_of_clock, named_instant}
use Rattle.date_spec.proofs.ShapeLemmas.{has_shape-take}
use Rattle.date_spec.proofs.TextLemmas.{full_shape, named_instant-full, named_instant-millis, named_instant-clock}
use Rattle.date_text.proofs.MillisLemmas.{take_least, drop_least}
use Rattle.date_text.proofs.reading.read.Goals as goal

pub shown_at-requires-clause-whole : goal.shown_at-requires-clause-whole
shown_at-requires-clause-whole c = has_shape-take full_shape c.as_bytes-bytes.result.now 23 (sym c.has_shape.ensures.shape ∙ c.if-has_shape.true)

pub returns-then-has_shape : goal.returns-then-has_shape
returns-then-has_shape c =
    let full = named_instant-full c.as_bytes-bytes.result.now (sym c.has_shape.ensures.shape ∙ c.if-has_shape.true) in
    c.ranged.ensures ∙ ap ranged (c.shown_at.ensures ∙ sym full) ∙ ap read_date c.as_bytes-bytes.ensures.value

pub returns-then-is_millis : goal.returns-then-is_millis
returns-then-is_millis c =
    c.read_millis.ensures ∙ sym (ap ranged (named_instant-millis c.args.text.now (rw c.as_bytes-bytes.ensures.value at (sym c.is_millis.ensures ∙ c.if-is_millis.true))))

pub returns : goal.returns
returns c =
    let bytes = c.as_bytes-bytes.result.now in
    let named = named_instant-clock bytes (sym c.is_millis.ensures ∙ c.if-is_millis.false) in
    let mid : c.min.result ≡ min (clock_length bytes) (length bytes) = omega (arith, c.min.ensures, c.clock_length.ensures) in
    let front : c.split_at.result.0.now ≡ take (clock_length bytes) bytes = c.split_at.ensures.front ∙ ap (λ (k : ℕ). take k bytes) mid ∙ take_least (clock_length bytes) bytes in
    let behind : c.split_at.result.1.now ≡ drop (clock_length bytes) bytes = c.split_at.ensures.back ∙ ap (λ (k : ℕ). drop k bytes) mid ∙ drop_least (clock_length bytes) bytes in
    let inner : instant_of_clock c.split_at.result.0.now c.split_at.result.1.now ≡ named_instant bytes = rw (front, behind) (sym named) in
    c.ranged-2.ensures ∙ ap ranged (c.instant_of_clock.ensures ∙ inner) ∙ ap read_date c.as_bytes-bytes.ensures.value
