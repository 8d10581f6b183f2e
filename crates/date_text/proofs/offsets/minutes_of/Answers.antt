-- The minutes of an offset by its parts.
use Rattle.std.proofs.Common.{◌∙◌, sym, arith}
use Rattle.date_text.proofs.OffsetLemmas.{no_parts, in_range, beyond}
use Rattle.date_text.proofs.offsets.minutes_of.Goals as goal

pub returns-in_err-hours-clause-minutes : goal.returns-in_err-hours-clause-minutes
returns-in_err-hours-clause-minutes c = cc (no_parts c.args.offset.now (sym c.in_err-hours.was ∙ c.parts_of.ensures.parts))

pub returns-then-minutes-ge60-clause-minutes : goal.returns-then-minutes-ge60-clause-minutes
returns-then-minutes-ge60-clause-minutes c =
    beyond c.args.offset.now c.in_ok-hours.hours c.in_ok-hours.minutes (sym c.in_ok-hours.was ∙ c.parts_of.ensures.parts) (λ few. omega arith)

pub returns-then-in_all-gt-MAX_MINUTES-clause-minutes : goal.returns-then-in_all-gt-MAX_MINUTES-clause-minutes
returns-then-in_all-gt-MAX_MINUTES-clause-minutes c =
    beyond c.args.offset.now c.in_ok-hours.hours c.in_ok-hours.minutes (sym c.in_ok-hours.was ∙ c.parts_of.ensures.parts) (λ few. omega arith)

pub returns-clause-minutes : goal.returns-clause-minutes
returns-clause-minutes c =
    in_range c.args.offset.now c.in_ok-hours.hours c.in_ok-hours.minutes (sym c.in_ok-hours.was ∙ c.parts_of.ensures.parts) (omega arith) (omega arith)
