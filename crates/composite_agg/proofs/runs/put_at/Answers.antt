use Rattle.std.proofs.Common.{◌≡◌, ◌<◌, ◌∙◌, ap, rules, length, slice_set}
use Rattle.std.specs.List.{insert}
use Rattle.composite_agg.specs.Runs.{in_runs}
use Rattle.composite_agg.proofs.InRuns.{insert-in, same-in}
use Rattle.composite_agg.proofs.runs.put_at.Goals as goal

pub returns-in_err-insert-clause-err : goal.returns-in_err-insert-clause-err
returns-in_err-insert-clause-err g c =
    let rs = c.args.runs.now.items in
    let v = c.index_mut.result.now in
    let some : 0 < length rs = search rules in
    let kept : c.insert.new.self.items ≡ v.items = search rules in
    let same : in_runs (slice_set rs c.args.spot.run c.insert.new.self) ≡ in_runs rs =
    same-in rs c.args.spot.run c.args.spot.at v (c.requires.spot some).there c.insert.new.self (kept ∙ ap (λ w. w.items) c.index_mut.ensures.value) in
    search (rules, same)

pub returns-clause-items : goal.returns-clause-items
returns-clause-items g c =
    let rs = c.args.runs.now.items in
    let v = c.index_mut.result.now in
    let some : 0 < length rs = search rules in
    let more : c.insert.new.self.items ≡ insert v.items c.args.spot.at c.args.item = search rules in
    c.part_long.ensures.items
    ∙ insert-in rs c.args.spot.run c.args.spot.at v (c.requires.spot some).there c.insert.new.self c.args.item ((c.requires.spot some).fits v)
    (more ∙ ap (λ w. insert w.items c.args.spot.at c.args.item) c.index_mut.ensures.value)
