use Rattle.std.proofs.Common.{◌-◌, refl, take, drop, length, arith}
use Rattle.agg_base.proofs.WriteLemmas.{length_next, next_rest, next_taken}
use Rattle.agg_base.proofs.sink.write_all.Goals as goal

pub loop-rest-preserved : goal.loop-rest-preserved
loop-rest-preserved g c =
    let n = c.in_ok-taken.taken in
    let rest = c.loop-rest.rest.now in
    let next = take (length rest - n) (drop n rest) in
    let bytes = c.args.bytes.now in
    let within = c.loop-rest.invariant.within in
    let is = c.loop-rest.invariant.rest in
    let le = c.in_ok-taken.ensures.within in
    let len = length_next bytes rest next n within is le refl in
    record {
      rest = next_rest bytes rest next n within is le refl;
      within = omega (arith, len);
      taken = next_taken bytes rest next n within is le refl _ _ _ c.loop-rest.invariant.taken c.in_ok-taken.ensures.taken;
      never_falls = omega (arith, c.loop-rest.invariant.never_falls, c.in_ok-taken.ensures.never_falls);
    }
