use Rattle.std.proofs.Common.{◌<◌, ◌∙◌, sym, ap, arith, true, length}
use Rattle.std.specs.Prelude.{option_copied}
use Rattle.std.specs.Option.{option_map_or}
use Rattle.std.specs.Ordering.{is_lt}
use Rattle.composite_agg.specs.InOrder.{page_cmp}
use Rattle.composite_agg.proofs.PageSteps.{last-get}
use Rattle.composite_agg.proofs.places.ends_before.Goals as goal

pub returns-in-Some : goal.returns-in-Some
returns-in-Some g c =
    let p = (λ (x : g.row.T.Denot). is_lt (page_cmp c.args.sources.now (g.T.HasKey.key_of x) (g.K.Sought.sought c.args.key.now))) in
    let xs = c.args.items.now in
    let some : 0 < length xs = omega (arith, c.in-Some.ensures.item.3.0) in
    let last = last-get xs some ∙ sym c.last.ensures.value ∙ ap option_copied c.in-Some.is in
    c.is_before.ensures ∙ ap (λ k. is_lt (page_cmp c.args.sources.now k (g.K.Sought.sought c.args.key.now))) c.key.ensures ∙ sym (ap (λ o. option_map_or p o true) last)
