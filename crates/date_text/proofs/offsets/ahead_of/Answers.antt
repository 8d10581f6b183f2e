-- What a sign says of the minutes behind it.
use Rattle.std.proofs.Common.{◌≡◌, ◌∙◌, sym, ap, arith, Some, ◌∷◌, length, ◌<◌}
use Rattle.std.proofs.lemmas.Int.{ints}
use Rattle.std.proofs.lemmas.Bool.{eqb-true, eqb-false}
use Rattle.date_spec.specs.DateTexts.{ahead_of}
use Rattle.date_text.proofs.OffsetLemmas.{none_at_all, lone_z, lone_other, no_offset, plus, minus, no_sign, empty}
use Rattle.date_text.proofs.offsets.ahead_of.Goals as goal

pub returns-in_default-clause-ahead : goal.returns-in_default-clause-ahead
returns-in_default-clause-ahead c = rw (empty c.args.offset.now c.in_default.ensures.cases) none_at_all

pub returns-then-sign-eq90-clause-ahead : goal.returns-then-sign-eq90-clause-ahead
returns-then-sign-eq90-clause-ahead c =
    let whole : c.args.offset.now ≡ c.in-Some.sign.now ∷ c.in-Some.hours.now = c.in-Some.ensures.cases.0 in
    let none = empty c.in-Some.hours.now (eqb-true (length c.in-Some.hours.now) 0 (sym c.is_empty.ensures ∙ c.if-is_empty.true)) in
    rw (whole, none, c.if-sign-eq90.true) lone_z

pub returns-else-sign-eq90-clause-ahead : goal.returns-else-sign-eq90-clause-ahead
returns-else-sign-eq90-clause-ahead c =
    let whole : c.args.offset.now ≡ c.in-Some.sign.now ∷ c.in-Some.hours.now = c.in-Some.ensures.cases.0 in
    let none = empty c.in-Some.hours.now (eqb-true (length c.in-Some.hours.now) 0 (sym c.is_empty.ensures ∙ c.if-is_empty.true)) in
    rw (whole, none) (lone_other c.in-Some.sign.now c.if-sign-eq90.false)

pub returns-in_err-minutes_of-clause-ahead : goal.returns-in_err-minutes_of-clause-ahead
returns-in_err-minutes_of-clause-ahead c =
    let whole : c.args.offset.now ≡ c.in-Some.sign.now ∷ c.in-Some.hours.now = c.in-Some.ensures.cases.0 in
    let apart = eqb-false (length c.in-Some.hours.now) 0 (sym c.is_empty.ensures ∙ c.if-is_empty.false) in
    let some : 0 < length c.in-Some.hours.now = omega arith in
    let no = no_offset c.in-Some.sign.now c.in-Some.hours.now some (sym c.in_err-minutes_of.was ∙ c.minutes_of.ensures.minutes) in
    cc (no, ap ahead_of whole)

pub returns-in-43-clause-ahead : goal.returns-in-43-clause-ahead
returns-in-43-clause-ahead c =
    let whole : c.args.offset.now ≡ c.in-Some.sign.now ∷ c.in-Some.hours.now = c.in-Some.ensures.cases.0 in
    rw (whole, c.in-43.is) (ap Some (omega (arith, ints, c.in_ok-minutes_of.ensures.bound)) ∙ plus c.in-Some.hours.now c.in_ok-minutes_of.field-0 (sym c.in_ok-minutes_of.was ∙ c.minutes_of.ensures.minutes))

pub returns-in-45-clause-ahead : goal.returns-in-45-clause-ahead
returns-in-45-clause-ahead c =
    let whole : c.args.offset.now ≡ c.in-Some.sign.now ∷ c.in-Some.hours.now = c.in-Some.ensures.cases.0 in
    rw (whole, c.in-45.is) (ap Some (omega (arith, ints, c.in_ok-minutes_of.ensures.bound)) ∙ minus c.in-Some.hours.now c.in_ok-minutes_of.field-0 (sym c.in_ok-minutes_of.was ∙ c.minutes_of.ensures.minutes))

pub returns-in_default-sign-clause-ahead : goal.returns-in_default-sign-clause-ahead
returns-in_default-sign-clause-ahead c =
    let whole : c.args.offset.now ≡ c.in-Some.sign.now ∷ c.in-Some.hours.now = c.in-Some.ensures.cases.0 in
    let apart = eqb-false (length c.in-Some.hours.now) 0 (sym c.is_empty.ensures ∙ c.if-is_empty.false) in
    let some : 0 < length c.in-Some.hours.now = omega arith in
    rw whole (no_sign c.in-Some.sign.now c.in-Some.hours.now some (λ e. omega arith) (λ e. omega arith))
