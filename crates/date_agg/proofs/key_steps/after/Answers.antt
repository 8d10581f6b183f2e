use Rattle.std.proofs.Common.{◌≡◌, ◌∙◌, to_z, of_z, w64, arith}
use Rattle.std.proofs.lemmas.Int.{ints}
use Rattle.date_spec.specs.Periods.{key_after}
use Rattle.date_agg.proofs.Grid.{of-dates}
use Rattle.date_agg.proofs.key_steps.after.Goals as goal

pub returns : goal.returns
returns c =
    let grid = c.grid_of-period.result in
    let held = c.grid_of-period.ensures.zone in
    let zone : to_z w64 (of_z w64 grid.1) ≡ grid.1 = omega (arith, ints, held.0, held.1) in
    let key : to_z w64 (of_z w64 c.args.key) ≡ c.args.key = omega (arith, ints) in
    let reached : to_z w64 (of_z w64 c.after.result) ≡ c.after.result = omega (arith, ints) in
    of-dates (λ p z. to_z w64 (of_z w64 c.after.result) ≡ key_after p z c.args.key c.args.n) grid c.args.kind.now c.grid_of-period.ensures.kind
    (reached ∙ (c.after.ensures ∙ (λ i. key_after grid.0 (zone i) (key i) c.args.n)))
