-- A code's period begins in reach.
use Rattle.std.proofs.Common.{arith, ◌≡◌, ℤ, ◌∙◌, ap, subst, to_z, of_z, w64}
use Rattle.std.proofs.lemmas.Int.{ints}
use Rattle.date_spec.specs.Periods.{start_of}
use Rattle.date_periods.specs.Reach.{IsLocal, IsNumber}
use Rattle.date_periods.proofs.ReachLemmas.{code-number, code-local, earliest-least}
use Rattle.date_periods.proofs.codes.key_of_code.Goals as goal

pub start_of-requires-clause-number : goal.start_of-requires-clause-number
start_of-requires-clause-number c =
    let same : c.args.code ≡ to_z w64 (of_z w64 c.args.code) = omega (arith, ints) in
    subst (IsNumber c.args.period) same (code-number c.args.period c.args.zone c.requires.period c.requires.zone c.args.code c.requires.code)

pub start_of-requires-clause-local : goal.start_of-requires-clause-local
start_of-requires-clause-local c =
    let same : c.args.code ≡ to_z w64 (of_z w64 c.args.code) = omega (arith, ints) in
    subst (λ (code : ℤ). IsLocal c.args.period (start_of c.args.period code)) same (code-local c.args.period c.args.zone c.requires.period c.requires.zone c.args.code c.requires.code)

pub overflow_sub-result : goal.overflow_sub-result
overflow_sub-result c =
    let local = code-local c.args.period c.args.zone c.requires.period c.requires.zone c.args.code c.requires.code in
    let low = earliest-least c.args.period (start_of c.args.period c.args.code) local.0 in
    let high = local.1 in
    let zone = c.requires.zone in
    let same : to_z w64 (of_z w64 c.args.code) ≡ c.args.code = omega (arith, ints) in
    let start = c.start_of.ensures ∙ ap (start_of c.args.period) same in
    omega (arith, ints)

pub returns : goal.returns
returns c =
    let local = code-local c.args.period c.args.zone c.requires.period c.requires.zone c.args.code c.requires.code in
    let low = earliest-least c.args.period (start_of c.args.period c.args.code) local.0 in
    let high = local.1 in
    let zone = c.requires.zone in
    let same : to_z w64 (of_z w64 c.args.code) ≡ c.args.code = omega (arith, ints) in
    let start = c.start_of.ensures ∙ ap (start_of c.args.period) same in
    omega (arith, ints)
