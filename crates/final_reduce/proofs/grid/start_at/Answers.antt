use Rattle.std.proofs.Common.{◌≡◌, ◌∙◌, ap, sym, subst, arith, rules}
use Rattle.std.specs.Prelude.{ℤ, ◌-ℤ◌}
use Rattle.std.proofs.lemmas.Int.{ints, to_z-of_z}
use mir.Syntax.{w64, w128}
use mir.Val.{SFits, to_z, of_z}
use Rattle.date_spec.specs.Periods.{start_of}
use Rattle.date_periods.specs.Reach.{IsCode}
use Rattle.agg_evaluation.specs.Spacings.{start_at}
use Rattle.final_reduce.specs.Steps.{IsNearNumber}
use Rattle.final_reduce.proofs.grid.start_at.Goals as goal

pub key_of_code-requires-clause-code : goal.key_of_code-requires-clause-code
key_of_code-requires-clause-code c =
    let d = c.in-Dates in
    let near = subst (λ s. IsNearNumber s c.args.number) d.is c.requires.near in
    let low = near.1.0 in
    let high = near.1.1 in
    let fits : SFits w64 d.zone = search rules in
    let zone = to_z-of_z w64 d.zone fits in
    let number : to_z w64 (of_z w64 (to_z w128 (of_z w128 c.args.number))) ≡ c.args.number = omega (arith, ints, low, high) in
    subst (λ (z : ℤ). IsCode d.period z (to_z w64 (of_z w64 (to_z w128 (of_z w128 c.args.number))))) (sym zone) (subst (IsCode d.period d.zone) (sym number) near.0)

pub returns-in-Dates : goal.returns-in-Dates
returns-in-Dates c =
    let d = c.in-Dates in
    let near = subst (λ s. IsNearNumber s c.args.number) d.is c.requires.near in
    let low = near.1.0 in
    let high = near.1.1 in
    let fits : SFits w64 d.zone = search rules in
    let zone = to_z-of_z w64 d.zone fits in
    let number : to_z w64 (of_z w64 (to_z w128 (of_z w128 c.args.number))) ≡ c.args.number = omega (arith, ints, low, high) in
    let key : to_z w128 (of_z w128 c.from-in-Dates.result) ≡ c.key_of_code.result = omega (arith, ints, c.from-in-Dates.ensures) in
    key ∙ c.key_of_code.ensures ∙ (λ i. start_of d.period (number i) -ℤ zone i) ∙ ap (λ s. start_at s c.args.number) (sym d.is)
