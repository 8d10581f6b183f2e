use Rattle.std.proofs.Common.{◌≡◌, ◌∙◌, ap, sym, arith}
use Rattle.std.specs.Prelude.{ℤ, pos, ◌+ℤ◌, ◌<ℤ◌}
use Rattle.std.proofs.lemmas.Int.{ints, to_z-of_z}
use mir.Syntax.{w64, w128}
use mir.Val.{to_z, of_z}
use Rattle.agg_evaluation.specs.Spacings.{number_at, start_at}
use Rattle.final_reduce.proofs.Grids.{bound-placed, spacing-is}
use Rattle.final_reduce.proofs.Intervals.{from-inside}
use Rattle.final_reduce.proofs.spans.number_from.Goals as goal

pub returns-then-start_at-from : goal.returns-then-start_at-from
returns-then-start_at-from c =
    let g = c.args.grid in
    let is = spacing-is g.spacing g.extended g.hard c.requires.spaced in
    let bound = to_z-of_z w64 c.args.bound c.ranges.bound in
    let low = c.number_of_bound-number.ensures.low in
    let high = c.number_of_bound-number.ensures.high in
    let own : to_z w128 (of_z w128 c.number_of_bound-number.result) ≡ c.number_of_bound-number.result = omega (arith, ints, low, high) in
    let number : c.number_of_bound-number.result ≡ number_at g.spacing c.args.bound = c.number_of_bound-number.ensures.number ∙ ap (number_at g.spacing) bound in
    let start = c.start_at.ensures ∙ ap (start_at g.spacing) (own ∙ number) in
    let less : start_at g.spacing (number_at g.spacing c.args.bound) <ℤ c.args.bound = omega (arith, ints, start, bound, c.from.ensures, c.if-start_at-from.true) in
    let next : to_z w128 (of_z w128 (to_z w128 (of_z w128 c.number_of_bound-number.result) +ℤ pos 1)) ≡ c.number_of_bound-number.result +ℤ pos 1 = omega (arith, ints, low, high) in
    next ∙ ap (λ (n : ℤ). n +ℤ pos 1) number ∙ sym (from-inside g.spacing is c.args.bound (bound-placed g.spacing is c.args.bound c.requires.bound) less)
