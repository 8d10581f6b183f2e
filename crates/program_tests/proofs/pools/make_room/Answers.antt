use Rattle.std.proofs.Common.{arith, subst, sym}
use Rattle.std.specs.Prelude.{◌+◌, ◌≤◌, sum}
use Rattle.agg_model.specs.declared.breaker.Which.TheVariants.{Parent}
use Rattle.breaker_words.specs.Passes.{PassModel}
use Rattle.breaker_words.specs.Views.{most_of}
use Rattle.program_tests.proofs.Rooms.{room-left}
use Rattle.program_tests.proofs.pools.make_room.Goals as goal

pub set_ceiling-requires-clause-held : goal.set_ceiling-requires-clause-held
set_ceiling-requires-clause-held c = omega (arith, c.requires.holds Parent)

pub returns-in-Some-clause-room : goal.returns-in-Some-clause-room
returns-in-Some-clause-room c x =
    let bytes = sum c.args.ceilings.now in
    subst (λ (p : PassModel). most_of p.view x + bytes ≤ p.view.cap) (sym c.set_ceiling.ensures)
    (room-left c.args.pass.now.view bytes x (c.requires.holds x) (omega (arith, c.in-Some.ensures, c.if-bytes.true)))
