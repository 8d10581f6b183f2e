use Rattle.std.proofs.Common.{rules, arith}
use Rattle.arrival_table.proofs.Allowed.{allows_claim_at}
use Rattle.arrival_table.proofs.table.Arrivals.claim_by.Goals as goal

pub fetch_add-found-requires : goal.fetch_add-found-requires
fetch_add-found-requires g c = (
  search rules,
  omega (arith, c.self.invariant.2),
  allows_claim_at _ _ c.self.inside.places c.self.invariant.1 _ g.Z.Given.plan _ _ c.desk.inside.seat.me c.self.invariant.0 (search rules) (search rules),
)
