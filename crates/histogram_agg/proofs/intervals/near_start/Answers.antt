use Rattle.std.proofs.Common.{◌≡◌, ◌∙◌, arith, to_z, of_z, w64}
use Rattle.std.specs.Prelude.{pos, ◌-ℤ◌}
use Rattle.std.specs.Int.{int_rem_euclid}
use Rattle.std.proofs.lemmas.Int.{ints}
use Rattle.histogram_agg.proofs.Starts.{euclid, rem-low, rem-high}
use Rattle.histogram_agg.proofs.intervals.near_start.Goals as goal

pub returns : goal.returns
returns c =
    let n = c.args.number in
    let o = c.args.offset in
    let i = c.args.interval in
    let distance : to_z w64 (of_z w64 c.in_ok-distance.distance) ≡ n -ℤ pos o = omega (arith, ints, c.in_ok-distance.ensures) in
    let step : to_z w64 i ≡ pos i = omega (arith, ints) in
    let rem : c.rem_euclid-beyond.result ≡ int_rem_euclid (n -ℤ pos o) (pos i) = c.rem_euclid-beyond.ensures.value ∙ (λ k. int_rem_euclid (distance k) (step k)) in
    let whole = euclid (n -ℤ pos o) i c.requires.positive in
    let least = rem-low (n -ℤ pos o) i c.requires.positive in
    let most = rem-high (n -ℤ pos o) i c.requires.positive in
    omega (arith, ints, rem, whole, least, most, c.from.ensures, c.from-2.ensures)
