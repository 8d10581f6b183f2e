use Rattle.std.proofs.Common.{◌≡◌, ◌<◌, ◌≤◌, ◌∙◌, ◌∷◌, sym, ap, arith, rules, length, take, drop, true}
use Rattle.std.specs.Prelude.{nat_le}
use Rattle.std.specs.List.{insert}
use Rattle.std.proofs.lemmas.Bool.Decides.{nat_tests}
use Rattle.std.proofs.lemmas.List.{length-append}
use Rattle.composite_agg.specs.Runs.{in_runs, place_in}
use Rattle.composite_agg.proofs.RunOrder.{some-runs}
use Rattle.composite_agg.proofs.runs.enter.Goals as goal

pub returns-then-held-size-clause-full : goal.returns-then-held-size-clause-full
returns-then-held-size-clause-full g c =
    let xs = in_runs c.args.runs.now.items in
    let at = place_in c.args.runs.now.items c.args.spot.run c.args.spot.at in
    let is : in_runs c.put_at.new.runs.items ≡ insert xs at c.args.item = search rules in
    let n = ap length is ∙ length-append (take at xs) (c.args.item ∷ drop at xs) in
    let some : 0 < length (in_runs c.put_at.new.runs.items) = omega (arith, n) in
    let most : c.args.size ≤ length xs = search rules in
    let full : nat_le c.args.size (length xs) ≡ true = grind (arith, nat_tests) in
    c.take_last.ensures.some (some-runs c.put_at.new.runs.items some) ∙ sym full
