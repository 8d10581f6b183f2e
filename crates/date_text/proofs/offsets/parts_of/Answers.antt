-- Offsets by their shapes.
use Rattle.std.proofs.Common.{◌∙◌, sym, arith, refl, length, take, drop, ◌-◌}
use Rattle.std.specs.Prelude.{codes}
use Rattle.date_spec.proofs.ShapeLemmas.{digits_of_shape, has_shape-length}
use Rattle.date_text.proofs.ClockLemmas.{small, few}
use Rattle.date_text.proofs.OffsetLemmas.{front_digits, end_digits, hours_only, hours_and_minutes, hours_colon_minutes}
use Rattle.date_text.proofs.offsets.parts_of.Goals as goal

pub number-requires-clause-digits : goal.number-requires-clause-digits
number-requires-clause-digits c = digits_of_shape 2 c.args.offset.now (sym c.has_shape.ensures.shape ∙ c.if-has_shape.true)

pub number-requires-then-has_shape-2-clause-digits : goal.number-requires-then-has_shape-2-clause-digits
number-requires-then-has_shape-2-clause-digits c = front_digits (codes "0000") c.args.offset.now (sym c.has_shape-else-has_shape.ensures.shape ∙ c.if-has_shape-2.true) refl

pub number-requires-then-has_shape-2-2-clause-digits : goal.number-requires-then-has_shape-2-2-clause-digits
number-requires-then-has_shape-2-2-clause-digits c = end_digits (codes "0000") c.args.offset.now 2 (sym c.has_shape-else-has_shape.ensures.shape ∙ c.if-has_shape-2.true) refl

pub number-requires-then-has_shape-3-clause-digits : goal.number-requires-then-has_shape-3-clause-digits
number-requires-then-has_shape-3-clause-digits c = front_digits (codes "00:00") c.args.offset.now (sym c.has_shape-else-has_shape-2.ensures.shape ∙ c.if-has_shape-3.true) refl

pub number-requires-then-has_shape-3-2-clause-digits : goal.number-requires-then-has_shape-3-2-clause-digits
number-requires-then-has_shape-3-2-clause-digits c = end_digits (codes "00:00") c.args.offset.now 3 (sym c.has_shape-else-has_shape-2.ensures.shape ∙ c.if-has_shape-3.true) refl

pub returns-then-has_shape-clause-parts : goal.returns-then-has_shape-clause-parts
returns-then-has_shape-clause-parts c = hours_only c.args.offset.now c.number.result (sym c.has_shape.ensures.shape ∙ c.if-has_shape.true) c.number.ensures.value

pub returns-then-has_shape-2-clause-parts : goal.returns-then-has_shape-2-clause-parts
returns-then-has_shape-2-clause-parts c = hours_and_minutes c.args.offset.now c.number-then-has_shape-2.result c.number-then-has_shape-2-2.result (sym c.has_shape-else-has_shape.ensures.shape ∙ c.if-has_shape-2.true) c.number-then-has_shape-2.ensures.value c.number-then-has_shape-2-2.ensures.value

pub returns-then-has_shape-3-clause-parts : goal.returns-then-has_shape-3-clause-parts
returns-then-has_shape-3-clause-parts c = hours_colon_minutes c.args.offset.now c.number-then-has_shape-3.result c.number-then-has_shape-3-2.result (sym c.has_shape-else-has_shape-2.ensures.shape ∙ c.if-has_shape-3.true) c.number-then-has_shape-3.ensures.value c.number-then-has_shape-3-2.ensures.value

pub returns-then-has_shape-clause-bound : goal.returns-then-has_shape-clause-bound
returns-then-has_shape-clause-bound c =
    let shape = sym c.has_shape.ensures.shape ∙ c.if-has_shape.true in
    let below = small 2 c.args.offset.now c.number.result (digits_of_shape 2 c.args.offset.now shape) (omega (arith, has_shape-length (codes "00") c.args.offset.now shape)) c.number.ensures.value in
    (omega arith, omega arith)

pub returns-then-has_shape-2-clause-bound : goal.returns-then-has_shape-2-clause-bound
returns-then-has_shape-2-clause-bound c =
    let shape = sym c.has_shape-else-has_shape.ensures.shape ∙ c.if-has_shape-2.true in
    let long = has_shape-length (codes "0000") c.args.offset.now shape in
    let hours = small 2 (take 2 c.args.offset.now) c.number-then-has_shape-2.result (front_digits (codes "0000") c.args.offset.now shape refl) (few 2 c.args.offset.now) c.number-then-has_shape-2.ensures.value in
    let minutes = small 2 (take (length c.args.offset.now - 2) (drop 2 c.args.offset.now)) c.number-then-has_shape-2-2.result (end_digits (codes "0000") c.args.offset.now 2 shape refl) (omega (arith, few (length c.args.offset.now - 2) (drop 2 c.args.offset.now))) c.number-then-has_shape-2-2.ensures.value in
    (omega arith, omega arith)

pub returns-then-has_shape-3-clause-bound : goal.returns-then-has_shape-3-clause-bound
returns-then-has_shape-3-clause-bound c =
    let shape = sym c.has_shape-else-has_shape-2.ensures.shape ∙ c.if-has_shape-3.true in
    let long = has_shape-length (codes "00:00") c.args.offset.now shape in
    let hours = small 2 (take 2 c.args.offset.now) c.number-then-has_shape-3.result (front_digits (codes "00:00") c.args.offset.now shape refl) (few 2 c.args.offset.now) c.number-then-has_shape-3.ensures.value in
    let minutes = small 2 (take (length c.args.offset.now - 3) (drop 3 c.args.offset.now)) c.number-then-has_shape-3-2.result (end_digits (codes "00:00") c.args.offset.now 3 shape refl) (omega (arith, few (length c.args.offset.now - 3) (drop 3 c.args.offset.now))) c.number-then-has_shape-3-2.ensures.value in
    (omega arith, omega arith)
