-- The number of a truth value.
use Rattle.std.proofs.Common.{◌≡◌, ◌≤◌, Bool, true, false, ◌&&◌, refl, arith}
use Rattle.arrival_moves.specs.Lists.{one_if}

-- it is at most 1
pub one_if_le : (b : Bool) → one_if b ≤ 1
one_if_le true = omega arith
one_if_le false = omega arith

-- it is 1 where the value is true alone
pub one_if_true : (b : Bool) → 1 ≤ one_if b → b ≡ true
one_if_true true h = refl
one_if_true false h = absurd (omega arith)

-- with a false condition it is 0
pub one_if_never : (b : Bool) → one_if (b && false) ≡ 0
one_if_never true = refl
one_if_never false = refl

-- and with a true one the same
pub one_if_always : (b : Bool) → one_if (b && true) ≡ one_if b
one_if_always true = refl
one_if_always false = refl

-- one condition more makes it no greater
pub one_if_fewer : (a b c : Bool) → one_if (a && b && c) ≤ one_if (a && b)
one_if_fewer true true true = omega arith
one_if_fewer true true false = omega arith
one_if_fewer true false c = omega arith
one_if_fewer false b c = omega arith
