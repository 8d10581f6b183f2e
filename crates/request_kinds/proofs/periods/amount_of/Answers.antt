use Rattle.std.proofs.Common.{refl}
use Rattle.std.proofs.lemmas.Str.Parse.{parse_digits}
use Rattle.request_kinds.proofs.Amounts.{own, no_amount}
use Rattle.request_kinds.proofs.periods.amount_of.Goals as goal

pub returns-in_default-parse-2-clause-amount : goal.returns-in_default-parse-2-clause-amount
returns-in_default-parse-2-clause-amount c =
    rw (no_amount c.args.digits.now (rw c.in_default-parse.is at (parse_digits own 64 c.args.digits.now c.parse.result c.parse.ensures.value.0 c.requires))) refl
