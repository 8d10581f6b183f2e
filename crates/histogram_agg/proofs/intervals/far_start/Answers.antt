use Rattle.std.proofs.Common.{◌≡◌, ◌∙◌, arith, to_z, of_z}
use Rattle.std.specs.Prelude.{pos, ◌-ℤ◌}
use Rattle.std.specs.Int.{int_rem_euclid}
use Rattle.std.proofs.lemmas.Int.{ints}
use mir.Syntax.{w128}
use Rattle.histogram_agg.proofs.Starts.{euclid, rem-low, rem-high}
use Rattle.histogram_agg.proofs.intervals.far_start.Goals as goal

pub returns : goal.returns
returns c =
    let n = c.args.number in
    let o = c.args.offset in
    let i = c.args.interval in
    let above : to_z w128 (of_z w128 (to_z w128 (of_z w128 c.from-number.result) -ℤ to_z w128 (of_z w128 c.from-offset.result))) ≡ n -ℤ pos o = omega (arith, ints, c.from-number.ensures, c.from-offset.ensures) in
    let step : to_z w128 (of_z w128 c.from.result) ≡ pos i = omega (arith, ints, c.from.ensures) in
    let rem : c.rem_euclid.result ≡ int_rem_euclid (n -ℤ pos o) (pos i) = c.rem_euclid.ensures.value ∙ (λ k. int_rem_euclid (above k) (step k)) in
    let whole = euclid (n -ℤ pos o) i c.requires.positive in
    let least = rem-low (n -ℤ pos o) i c.requires.positive in
    let most = rem-high (n -ℤ pos o) i c.requires.positive in
    omega (arith, ints, rem, whole, least, most, c.from-number.ensures)
