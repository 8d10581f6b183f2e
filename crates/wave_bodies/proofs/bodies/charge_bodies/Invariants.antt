use Rattle.std.specs.Prelude.{length, map, take}
use Rattle.solo_charges.specs.Alone.{IsAlone}
use Rattle.wave_bodies.proofs.EachBody.{HasCharged}
use Rattle.wave_bodies.proofs.bodies.charge_bodies.Given as goal

abbrev pub invariant-loop-body : goal.invariant-loop-body
invariant-loop-body l = record {
  alone : IsAlone l.words l.pass;
  charged : HasCharged l.words.limits l.fn.pass.view l.pass.view (map length (take l.body-index l.body-items)) l.refusals;
}
