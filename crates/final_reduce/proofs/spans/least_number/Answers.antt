use Rattle.std.proofs.Common.{◌≡◌, refl, ◌∙◌, ap, sym, arith, rules, true}
use Rattle.std.specs.Prelude.{ℤ, Option, Some, None}
use Rattle.std.specs.Option.{IfSome, option_map_or}
use Rattle.std.specs.Int.{int_min}
use Rattle.std.proofs.lemmas.Int.{ints, to_z-of_z}
use mir.Syntax.{w64, w128}
use mir.Val.{SFits, to_z, of_z}
use Rattle.agg_evaluation.specs.Finishable.{is_near}
use Rattle.agg_evaluation.specs.Spacings.{number_at}
use Rattle.final_reduce.proofs.SpanLaws.{least-both, near-least}
use Rattle.final_reduce.proofs.spans.least_number.Goals as goal

of_one : (P : ℤ → Type 0) (one : Option ℤ) → ((r : ℤ) → one ≡ Some r → P r) → IfSome one P
of_one P None near = tt
of_one P (Some n) near = near n refl

pub number_of_key-own-requires-clause-near : goal.number_of_key-own-requires-clause-near
number_of_key-own-requires-clause-near c =
    let g = c.args.grid in
    of_one (λ k. is_near g.spacing k ≡ true) c.own_least.result
    (λ r e. near-least g.spacing g.extended g.hard c.requires.spaced c.args.buckets.now c.requires.keys r (sym c.own_least.ensures ∙ e))

pub returns-in-Some-clause-number : goal.returns-in-Some-clause-number
returns-in-Some-clause-number c =
    let g = c.args.grid in
    let b = c.in-Some.bound in
    let fits : SFits w64 b = search rules in
    let all : SFits w128 c.lesser.result = search rules in
    let low = c.number_of_bound.ensures.low in
    let high = c.number_of_bound.ensures.high in
    let own : to_z w128 (of_z w128 c.number_of_bound.result) ≡ c.number_of_bound.result = omega (arith, ints, low, high) in
    let other : to_z w128 (of_z w128 c.number_of_bound.result) ≡ number_at g.spacing b = own ∙ c.number_of_bound.ensures.number ∙ ap (number_at g.spacing) (to_z-of_z w64 b fits) in
    ap Some (to_z-of_z w128 c.lesser.result all ∙ c.lesser.ensures ∙ (λ i. option_map_or (λ n. int_min n (other i)) (c.number_of_key-own.ensures.number i) (other i)))
    ∙ least-both g.spacing g.extended g.hard c.requires.spaced c.args.buckets.now c.requires.keys c.own_least.result c.own_least.ensures b c.in-Some.is
