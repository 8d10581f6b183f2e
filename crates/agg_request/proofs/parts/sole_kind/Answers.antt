use Rattle.std.proofs.Common.{refl, sym, rules}
use Rattle.agg_request.proofs.parts.sole_kind.Goals as goal

pub returns-in_default : goal.returns-in_default
returns-in_default c = rw (sym (rw c.in_default.is at c.sole_besides.ensures)) (search rules)

pub returns : goal.returns
returns c = rw (sym c.in-Some.ensures) refl
