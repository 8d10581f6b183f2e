-- The first code whose key does not lie before the bound.
use Rattle.std.proofs.Common.{◌≡◌, ℤ, pos, Option, true, sym, ◌∙◌, ap, subst, arith, to_z, of_z, w64, ◌+ℤ◌, ◌-ℤ◌, ◌≤ℤ◌, ◌<ℤ◌}
use Rattle.std.specs.Prelude.{int_le}
use Rattle.std.specs.Option.{option_map_or}
use Rattle.std.proofs.lemmas.Int.{ints}
use Rattle.date_spec.specs.Instants.{is_in_range}
use Rattle.date_spec.specs.Periods.{IsInstant, number_of, start_of}
use Rattle.date_periods.specs.Reach.{IsCode}
use Rattle.date_periods.proofs.ReachLemmas.{code-high}
use Rattle.agg_model.specs.declared.aggregation.Spacing.TheVariants.{Dates}
use Rattle.agg_evaluation.specs.Spacings.{number_at, start_at}
use Rattle.agg_evaluation.proofs.SpacingLaws.{instant-is}
use Rattle.date_agg.proofs.Bounds.{first-at, first-behind}
use Rattle.date_agg.proofs.Instants.{coded}
use Rattle.date_agg.proofs.preparing.first_code.Goals as goal

pub overflow_add-result : goal.overflow_add-result
overflow_add-result c =
    let zone : to_z w64 (of_z w64 c.args.zone) ≡ c.args.zone = omega (arith, ints) in
    let high = code-high c.args.period c.args.zone c.requires.period c.requires.zone c.code_of-code.result (subst (λ (z : ℤ). IsCode c.args.period z c.code_of-code.result) zone c.code_of-code.ensures.code) in
    omega (arith, ints, high)

pub returns-then-key_of_code-instant-clause-low : goal.returns-then-key_of_code-instant-clause-low
returns-then-key_of_code-instant-clause-low c =
    let zone : to_z w64 (of_z w64 c.args.zone) ≡ c.args.zone = omega (arith, ints) in
    let is = subst (λ (z : ℤ). IsCode c.args.period z c.code_of-code.result) zone c.code_of-code.ensures.code in
    let low = is.0 in
    let high = code-high c.args.period c.args.zone c.requires.period c.requires.zone c.code_of-code.result is in
    omega (arith, ints, low, high)

pub returns-then-key_of_code-instant-clause-codes : goal.returns-then-key_of_code-instant-clause-codes
returns-then-key_of_code-instant-clause-codes c code is-code =
    let p = c.args.period in
    let instant = c.in-Some.instant in
    let held : IsInstant instant = instant-is instant (ap (λ (o : Option ℤ). option_map_or is_in_range o true) (sym c.in-Some.is) ∙ c.requires.bound) in
    let n = number_at (Dates p c.args.zone) instant in
    let high = code-high p c.args.zone c.requires.period c.requires.zone n (coded p c.args.zone c.requires.period c.requires.zone instant held) in
    let zone : to_z w64 (of_z w64 c.args.zone) ≡ c.args.zone = omega (arith, ints) in
    let low = held.0 in
    let most = held.1 in
    let local : to_z w64 (of_z w64 instant) +ℤ to_z w64 (of_z w64 c.args.zone) ≡ instant +ℤ c.args.zone = omega (arith, ints, low, most) in
    let number : c.code_of-code.result ≡ n = c.code_of-code.ensures.number ∙ ap (number_of p) local in
    let plain : to_z w64 (of_z w64 c.code_of-code.result) ≡ n = let same : to_z w64 (of_z w64 c.code_of-code.result) ≡ c.code_of-code.result = omega (arith, ints) in same ∙ number in
    let start : c.key_of_code.result ≡ start_at (Dates p c.args.zone) n = c.key_of_code.ensures ∙ (λ i. start_of p (plain i) -ℤ zone i) in
    let before : start_at (Dates p c.args.zone) n <ℤ instant = omega (arith, ints, start, low, most, c.if-key_of_code-instant.true) in
    let sum : to_z w64 (of_z w64 (to_z w64 (of_z w64 c.code_of-code.result) +ℤ pos 1)) ≡ n +ℤ pos 1 = omega (arith, ints, number, high) in
    ap (λ (z : ℤ). int_le z code) sum ∙ first-behind p c.args.zone c.requires.period c.requires.zone instant held code is-code before
    ∙ ap (λ (o : Option ℤ). option_map_or (λ least. int_le least (start_at (Dates p c.args.zone) code)) o true) (sym c.in-Some.is)

pub returns-else-key_of_code-instant-clause-codes : goal.returns-else-key_of_code-instant-clause-codes
returns-else-key_of_code-instant-clause-codes c code is-code =
    let p = c.args.period in
    let instant = c.in-Some.instant in
    let held : IsInstant instant = instant-is instant (ap (λ (o : Option ℤ). option_map_or is_in_range o true) (sym c.in-Some.is) ∙ c.requires.bound) in
    let n = number_at (Dates p c.args.zone) instant in
    let zone : to_z w64 (of_z w64 c.args.zone) ≡ c.args.zone = omega (arith, ints) in
    let low = held.0 in
    let most = held.1 in
    let local : to_z w64 (of_z w64 instant) +ℤ to_z w64 (of_z w64 c.args.zone) ≡ instant +ℤ c.args.zone = omega (arith, ints, low, most) in
    let number : c.code_of-code.result ≡ n = c.code_of-code.ensures.number ∙ ap (number_of p) local in
    let plain : to_z w64 (of_z w64 c.code_of-code.result) ≡ n = let same : to_z w64 (of_z w64 c.code_of-code.result) ≡ c.code_of-code.result = omega (arith, ints) in same ∙ number in
    let start : c.key_of_code.result ≡ start_at (Dates p c.args.zone) n = c.key_of_code.ensures ∙ (λ i. start_of p (plain i) -ℤ zone i) in
    let begins : instant ≤ℤ start_at (Dates p c.args.zone) n = omega (arith, ints, start, low, most, c.if-key_of_code-instant.false) in
    ap (λ (z : ℤ). int_le z code) plain ∙ first-at p c.args.zone c.requires.period c.requires.zone instant held code is-code begins
    ∙ ap (λ (o : Option ℤ). option_map_or (λ least. int_le least (start_at (Dates p c.args.zone) code)) o true) (sym c.in-Some.is)
