use Rattle.std.proofs.Common.{sym}
use Rattle.request_kinds.proofs.Amounts.{cut_behind_digits, front_digits}
use Rattle.request_kinds.proofs.periods.fixed_period.Goals as goal

pub split_at-requires : goal.split_at-requires
split_at-requires c = rw c.digit_count.ensures (cut_behind_digits c.args.text.now c.utf8.text)

pub fixed_of-requires : goal.fixed_of-requires
fixed_of-requires c = rw (c.split_at.ensures.front, c.digit_count.ensures) (front_digits c.args.text.now)
