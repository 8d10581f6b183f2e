-- The difference of two numbers.
use Rattle.std.proofs.Common.{arith, ◌≡◌, ◌∙◌, ap, subst, to_z, of_z, w64, ◌+ℤ◌}
use Rattle.std.proofs.lemmas.Int.{ints}
use Rattle.date_spec.specs.Periods.{number_of}
use Rattle.date_periods.specs.Reach.{IsLocal}
use Rattle.date_periods.proofs.ReachLemmas.{key-local, earliest-least}
use Rattle.date_periods.proofs.keys.steps.Goals as goal

pub overflow_add-from : goal.overflow_add-from
overflow_add-from c =
    let local = key-local c.args.period c.args.zone c.requires.period c.requires.zone c.args.from c.requires.from in
    let low = earliest-least c.args.period (c.args.from +ℤ c.args.zone) local.0 in
    let high = local.1 in
    omega (arith, ints)

pub number_of-from-requires-clause-local : goal.number_of-from-requires-clause-local
number_of-from-requires-clause-local c =
    let local = key-local c.args.period c.args.zone c.requires.period c.requires.zone c.args.from c.requires.from in
    let low = earliest-least c.args.period (c.args.from +ℤ c.args.zone) local.0 in
    let high = local.1 in
    let same : c.args.from +ℤ c.args.zone ≡ to_z w64 (of_z w64 (to_z w64 (of_z w64 c.args.from) +ℤ to_z w64 (of_z w64 c.args.zone))) = omega (arith, ints) in
    subst (IsLocal c.args.period) same local

pub overflow_add-to : goal.overflow_add-to
overflow_add-to c =
    let local = key-local c.args.period c.args.zone c.requires.period c.requires.zone c.args.to c.requires.to in
    let low = earliest-least c.args.period (c.args.to +ℤ c.args.zone) local.0 in
    let high = local.1 in
    omega (arith, ints)

pub number_of-to-requires-clause-local : goal.number_of-to-requires-clause-local
number_of-to-requires-clause-local c =
    let local = key-local c.args.period c.args.zone c.requires.period c.requires.zone c.args.to c.requires.to in
    let low = earliest-least c.args.period (c.args.to +ℤ c.args.zone) local.0 in
    let high = local.1 in
    let same : c.args.to +ℤ c.args.zone ≡ to_z w64 (of_z w64 (to_z w64 (of_z w64 c.args.to) +ℤ to_z w64 (of_z w64 c.args.zone))) = omega (arith, ints) in
    subst (IsLocal c.args.period) same local

pub overflow_sub-to : goal.overflow_sub-to
overflow_sub-to c = omega (arith, ints, c.number_of-from.ensures.low, c.number_of-from.ensures.high, c.number_of-to.ensures.low, c.number_of-to.ensures.high)

pub returns : goal.returns
returns c =
    let from_least = c.number_of-from.ensures.low in
    let from_most = c.number_of-from.ensures.high in
    let to_least = c.number_of-to.ensures.low in
    let to_most = c.number_of-to.ensures.high in
    let from_local = key-local c.args.period c.args.zone c.requires.period c.requires.zone c.args.from c.requires.from in
    let from_low = earliest-least c.args.period (c.args.from +ℤ c.args.zone) from_local.0 in
    let from_high = from_local.1 in
    let to_local = key-local c.args.period c.args.zone c.requires.period c.requires.zone c.args.to c.requires.to in
    let to_low = earliest-least c.args.period (c.args.to +ℤ c.args.zone) to_local.0 in
    let to_high = to_local.1 in
    let at_from : to_z w64 (of_z w64 (to_z w64 (of_z w64 c.args.from) +ℤ to_z w64 (of_z w64 c.args.zone))) ≡ c.args.from +ℤ c.args.zone = omega (arith, ints) in
    let at_to : to_z w64 (of_z w64 (to_z w64 (of_z w64 c.args.to) +ℤ to_z w64 (of_z w64 c.args.zone))) ≡ c.args.to +ℤ c.args.zone = omega (arith, ints) in
    let from = c.number_of-from.ensures.number ∙ ap (number_of c.args.period) at_from in
    let to = c.number_of-to.ensures.number ∙ ap (number_of c.args.period) at_to in
    omega (arith, ints, c.unsigned_abs.ensures, from, to)
