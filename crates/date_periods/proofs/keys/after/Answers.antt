-- The code that lies so many further.
use Rattle.std.proofs.Common.{arith, ◌≡◌, ℤ, pos, ◌∙◌, ap, subst, to_z, of_z, w64, ◌+ℤ◌, ◌-ℤ◌}
use Rattle.std.proofs.lemmas.Int.{ints}
use Rattle.date_spec.specs.Periods.{number_of, start_of}
use Rattle.date_periods.specs.Reach.{IsCode, IsLocal}
use Rattle.date_periods.proofs.ReachLemmas.{key-local, earliest-least, after-code, code-high}
use Rattle.date_periods.proofs.keys.after.Goals as goal

pub overflow_add-key : goal.overflow_add-key
overflow_add-key c =
    let local = key-local c.args.period c.args.zone c.requires.period c.requires.zone c.args.key c.requires.key in
    let low = earliest-least c.args.period (c.args.key +ℤ c.args.zone) local.0 in
    let high = local.1 in
    omega (arith, ints)

pub number_of-requires-clause-local : goal.number_of-requires-clause-local
number_of-requires-clause-local c =
    let local = key-local c.args.period c.args.zone c.requires.period c.requires.zone c.args.key c.requires.key in
    let low = earliest-least c.args.period (c.args.key +ℤ c.args.zone) local.0 in
    let high = local.1 in
    let same : c.args.key +ℤ c.args.zone ≡ to_z w64 (of_z w64 (to_z w64 (of_z w64 c.args.key) +ℤ to_z w64 (of_z w64 c.args.zone))) = omega (arith, ints) in
    subst (IsLocal c.args.period) same local

pub overflow_cast-code : goal.overflow_cast-code
overflow_cast-code c =
    let local = key-local c.args.period c.args.zone c.requires.period c.requires.zone c.args.key c.requires.key in
    let low = earliest-least c.args.period (c.args.key +ℤ c.args.zone) local.0 in
    let high = local.1 in
    let same : to_z w64 (of_z w64 (to_z w64 (of_z w64 c.args.key) +ℤ to_z w64 (of_z w64 c.args.zone))) ≡ c.args.key +ℤ c.args.zone = omega (arith, ints) in
    let number = c.number_of.ensures.number ∙ ap (number_of c.args.period) same in
    let least = c.number_of.ensures.low in
    let code = after-code c.args.period c.args.zone c.requires.period c.requires.zone c.args.key c.args.n c.requires.key c.requires.reached in
    let most = code-high c.args.period c.args.zone c.requires.period c.requires.zone (number_of c.args.period (c.args.key +ℤ c.args.zone) +ℤ pos c.args.n) code in
    omega (arith, ints)

pub overflow_add-code : goal.overflow_add-code
overflow_add-code c =
    let local = key-local c.args.period c.args.zone c.requires.period c.requires.zone c.args.key c.requires.key in
    let low = earliest-least c.args.period (c.args.key +ℤ c.args.zone) local.0 in
    let high = local.1 in
    let same : to_z w64 (of_z w64 (to_z w64 (of_z w64 c.args.key) +ℤ to_z w64 (of_z w64 c.args.zone))) ≡ c.args.key +ℤ c.args.zone = omega (arith, ints) in
    let number = c.number_of.ensures.number ∙ ap (number_of c.args.period) same in
    let least = c.number_of.ensures.low in
    let code = after-code c.args.period c.args.zone c.requires.period c.requires.zone c.args.key c.args.n c.requires.key c.requires.reached in
    let most = code-high c.args.period c.args.zone c.requires.period c.requires.zone (number_of c.args.period (c.args.key +ℤ c.args.zone) +ℤ pos c.args.n) code in
    omega (arith, ints)

pub key_of_code-requires-clause-code : goal.key_of_code-requires-clause-code
key_of_code-requires-clause-code c =
    let local = key-local c.args.period c.args.zone c.requires.period c.requires.zone c.args.key c.requires.key in
    let low = earliest-least c.args.period (c.args.key +ℤ c.args.zone) local.0 in
    let high = local.1 in
    let same : to_z w64 (of_z w64 (to_z w64 (of_z w64 c.args.key) +ℤ to_z w64 (of_z w64 c.args.zone))) ≡ c.args.key +ℤ c.args.zone = omega (arith, ints) in
    let number = c.number_of.ensures.number ∙ ap (number_of c.args.period) same in
    let least = c.number_of.ensures.low in
    let code = after-code c.args.period c.args.zone c.requires.period c.requires.zone c.args.key c.args.n c.requires.key c.requires.reached in
    let most = code-high c.args.period c.args.zone c.requires.period c.requires.zone (number_of c.args.period (c.args.key +ℤ c.args.zone) +ℤ pos c.args.n) code in
    let sum : number_of c.args.period (c.args.key +ℤ c.args.zone) +ℤ pos c.args.n ≡ to_z w64 (of_z w64 (to_z w64 (of_z w64 c.number_of.result) +ℤ to_z w64 c.args.n)) = omega (arith, ints) in
    let zone : c.args.zone ≡ to_z w64 (of_z w64 c.args.zone) = omega (arith, ints) in
    subst (λ (z : ℤ). IsCode c.args.period z (to_z w64 (of_z w64 (to_z w64 (of_z w64 c.number_of.result) +ℤ to_z w64 c.args.n)))) zone (subst (IsCode c.args.period c.args.zone) sum code)

pub returns : goal.returns
returns c =
    let local = key-local c.args.period c.args.zone c.requires.period c.requires.zone c.args.key c.requires.key in
    let low = earliest-least c.args.period (c.args.key +ℤ c.args.zone) local.0 in
    let high = local.1 in
    let same : to_z w64 (of_z w64 (to_z w64 (of_z w64 c.args.key) +ℤ to_z w64 (of_z w64 c.args.zone))) ≡ c.args.key +ℤ c.args.zone = omega (arith, ints) in
    let number = c.number_of.ensures.number ∙ ap (number_of c.args.period) same in
    let least = c.number_of.ensures.low in
    let code = after-code c.args.period c.args.zone c.requires.period c.requires.zone c.args.key c.args.n c.requires.key c.requires.reached in
    let most = code-high c.args.period c.args.zone c.requires.period c.requires.zone (number_of c.args.period (c.args.key +ℤ c.args.zone) +ℤ pos c.args.n) code in
    let sum : to_z w64 (of_z w64 (to_z w64 (of_z w64 c.number_of.result) +ℤ to_z w64 c.args.n)) ≡ number_of c.args.period (c.args.key +ℤ c.args.zone) +ℤ pos c.args.n = omega (arith, ints) in
    let key = c.key_of_code.ensures ∙ ap (λ (k : ℤ). start_of c.args.period k -ℤ to_z w64 (of_z w64 c.args.zone)) sum in
    omega (arith, ints, key)
