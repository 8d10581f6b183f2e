use Rattle.std.proofs.Common.{◌<◌, ◌∙◌, sym, ap, arith, true, length}
use Rattle.std.specs.Prelude.{option_copied, None}
use Rattle.std.specs.List.{last_or}
use Rattle.std.specs.Option.{option_map_or}
use Rattle.std.specs.Ordering.{is_lt}
use Rattle.composite_agg.specs.InOrder.{page_cmp}
use Rattle.composite_agg.specs.Runs.{in_runs}
use Rattle.composite_agg.proofs.InOrder.{last-decides}
use Rattle.composite_agg.proofs.PageSteps.{last-get}
use Rattle.composite_agg.proofs.RunOrder.{last-of-runs}
use Rattle.composite_agg.proofs.runs.comes_last.Goals as goal

pub returns-in-Some : goal.returns-in-Some
returns-in-Some g c =
    let p = (λ (x : g.row.T.Denot). is_lt (page_cmp c.args.sources.now (g.T.HasKey.key_of x) (g.K.Sought.sought c.args.key.now))) in
    let rs = c.args.runs.now in
    let some : 0 < length rs = omega (arith, c.in-Some.ensures.item.3.0) in
    let last = last-get rs some ∙ sym c.last.ensures.value ∙ ap option_copied c.in-Some.is in
    c.ends_before.ensures ∙ ap (λ xs. option_map_or p (last_or None xs) true) c.as_slice.ensures.value
    ∙ sym (last-decides g.T.HasKey.key_of c.args.sources.now (g.K.Sought.sought c.args.key.now) (in_runs rs) c.requires.order ∙ ap (λ o. option_map_or p o true) (last-of-runs rs c.requires.filled c.in-Some.run'.now last))
