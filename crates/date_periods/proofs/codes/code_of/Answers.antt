-- The number of an instant lies from that of the first to that of the last.
use Rattle.std.proofs.Common.{arith, ◌≡◌, sym, ◌∙◌, ap, subst, to_z, of_z, w64, ◌+ℤ◌}
use Rattle.std.proofs.lemmas.Int.{ints}
use Rattle.date_spec.specs.Periods.{number_of}
use Rattle.date_periods.specs.Reach.{IsCode}
use Rattle.date_periods.proofs.ReachLemmas.{instant-code}
use Rattle.date_periods.proofs.codes.code_of.Goals as goal

pub returns-clause-number : goal.returns-clause-number
returns-clause-number c =
    let instant = c.requires.instant in
    let zone = c.requires.zone in
    let local : to_z w64 (of_z w64 (to_z w64 (of_z w64 c.args.instant) +ℤ to_z w64 (of_z w64 c.args.zone))) ≡ c.args.instant +ℤ c.args.zone = omega (arith, ints) in
    let result : to_z w64 (of_z w64 c.number_of.result) ≡ c.number_of.result = omega (arith, ints) in
    result ∙ c.number_of.ensures.number ∙ ap (number_of c.args.period) local

pub returns-clause-code : goal.returns-clause-code
returns-clause-code c =
    subst (IsCode c.args.period c.args.zone) (sym (returns-clause-number c)) (instant-code c.args.period c.args.zone c.requires.period c.requires.zone c.args.instant c.requires.instant)
