use Rattle.std.proofs.Common.{rules, arith}
use Rattle.arrival_table.proofs.AllowedShare.{splits_at}
use Rattle.arrival_table.proofs.table.Arrivals.split_by.Goals as goal

pub split_seat-seat-requires : goal.split_seat-seat-requires
split_seat-seat-requires g c = (
  search rules,
  omega (arith, c.self.invariant.2),
  splits_at _ _ c.self.inside.places c.self.invariant.1 _ _ c.args.left g.Z.Given.claims c.desk.inside.seat.me.0 c.self.invariant.0 c.requires.claims (search rules),
)
