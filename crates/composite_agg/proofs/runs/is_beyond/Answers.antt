use Rattle.std.proofs.Common.{◌∙◌, sym, ap, true}
use Rattle.std.specs.Option.{option_map_or}
use Rattle.std.specs.Ordering.{is_gt}
use Rattle.composite_agg.specs.InOrder.{page_cmp}
use Rattle.composite_agg.proofs.Shown.{beyond-back}
use Rattle.composite_agg.proofs.runs.is_beyond.Goals as goal

pub returns-in-Some : goal.returns-in-Some
returns-in-Some g c =
    let sources = c.args.sources.now in
    let k = g.K.Sought.sought c.args.key.now in
    c.is_before.ensures ∙ beyond-back sources c.in-Some.after k
    ∙ sym (ap (λ o. option_map_or (λ a. is_gt (page_cmp sources k a)) o true) c.in-Some.is)
