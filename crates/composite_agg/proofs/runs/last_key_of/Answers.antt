use Rattle.std.proofs.Common.{◌<◌, ◌∙◌, Some, sym, ap, arith, length}
use Rattle.std.specs.Prelude.{option_copied, option_map}
use Rattle.composite_agg.proofs.PageSteps.{last-get}
use Rattle.composite_agg.proofs.runs.last_key_of.Goals as goal

pub returns-in-Some : goal.returns-in-Some
returns-in-Some g c =
    let xs = c.args.items.now in
    let some : 0 < length xs = omega (arith, c.in-Some.ensures.item.3.0) in
    let last = last-get xs some ∙ sym c.last.ensures.value ∙ ap option_copied c.in-Some.is in
    ap Some c.key.ensures ∙ sym (ap (option_map g.T.HasKey.key_of) last)
