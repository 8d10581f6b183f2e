use Rattle.std.proofs.Common.{◌≡◌, ◌^◌, sym, subst, arith, true}
use Rattle.std.specs.Prelude.{ℤ, pos, ◌-ℤ◌, ◌≤ℤ◌, ◌<ℤ◌}
use Rattle.std.proofs.lemmas.Int.{ints, to_z-of_z}
use mir.Syntax.{w64, w128}
use mir.Val.{to_z, of_z}
use Rattle.agg_evaluation.specs.Finishable.{is_near}
use Rattle.final_reduce.proofs.Grids.{bound-near, spacing-is}
use Rattle.final_reduce.proofs.grid.number_of_bound.Goals as goal

pub number_at-requires-clause-near : goal.number_at-requires-clause-near
number_at-requires-clause-near c =
    let g = c.args.grid in
    let bound = to_z-of_z w64 c.args.bound c.ranges.bound in
    let low : (pos 0 -ℤ pos (2 ^ 63)) ≤ℤ c.args.bound = omega (arith, ints, bound) in
    let high : c.args.bound <ℤ pos (2 ^ 63) = omega (arith, ints, bound) in
    let same : to_z w128 (of_z w128 c.from.result) ≡ c.args.bound = omega (arith, ints, c.from.ensures, bound) in
    subst (λ (v : ℤ). is_near g.spacing v ≡ true) (sym same) (bound-near g.spacing (spacing-is g.spacing g.extended g.hard c.requires.spaced) c.args.bound c.requires.bound low high)
