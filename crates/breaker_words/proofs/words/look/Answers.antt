use Rattle.std.proofs.Common.{rules, arith}
use Rattle.breaker_words.proofs.Allowed.{allows_look}
use Rattle.breaker_words.proofs.words.look.Goals as goal

pub load-requires : goal.load-requires
load-requires c = (
  search rules,
  omega (arith, c.words.invariant.0, c.place_of.ensures.low),
  allows_look _ _ _ _ _ c.pass.inside.known c.pass.invariant.0 (search rules),
)
