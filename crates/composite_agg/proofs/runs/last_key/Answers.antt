use Rattle.std.proofs.Common.{◌<◌, ◌∙◌, None, sym, ap, arith, length}
use Rattle.std.specs.Prelude.{option_copied, option_map}
use Rattle.std.specs.List.{last_or}
use Rattle.composite_agg.proofs.PageSteps.{last-get}
use Rattle.composite_agg.proofs.RunOrder.{last-of-runs}
use Rattle.composite_agg.proofs.runs.last_key.Goals as goal

pub returns-in-Some : goal.returns-in-Some
returns-in-Some g c =
    let rs = c.args.runs.now in
    let some : 0 < length rs = omega (arith, c.in-Some.ensures.item.3.0) in
    let last = last-get rs some ∙ sym c.last.ensures.value ∙ ap option_copied c.in-Some.is in
    c.last_key_of.ensures ∙ ap (λ xs. option_map g.T.HasKey.key_of (last_or None xs)) c.as_slice.ensures.value ∙ sym (ap (option_map g.T.HasKey.key_of) (last-of-runs rs c.requires.filled c.in-Some.run'.now last))
