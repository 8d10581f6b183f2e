use Rattle.std.proofs.Common.{◌≡◌, ◌≤◌, ◌∙◌, ◌+◌, sym, ap, arith, rules, get_or, slice_set}
use Rattle.std.specs.List.{insert}
use Rattle.composite_agg.specs.Runs.{in_runs}
use Rattle.composite_agg.proofs.InRuns.{parted-in, same-in}
use Rattle.composite_agg.proofs.runs.part_long.Goals as goal

pub returns-in-Ok-clause-items : goal.returns-in-Ok-clause-items
returns-in-Ok-clause-items g c =
    let rs = c.args.runs.now.items in
    let r = c.args.run in
    let v = c.index_mut.result.now in
    let room : c.reserve.new.self.len + 1 ≤ c.reserve.new.self.cap = search rules in
    let ok = c.insert.ensures.succeeds (omega (arith, room)) in
    let done : c.insert.new.self.items ≡ insert (slice_set c.reserve.new.self.items r c.take_half.new.run) (r + 1) c.in-Ok.tail = search (rules, ok) in
    let is : v ≡ get_or rs r v = c.index_mut.ensures.value ∙ ap (λ xs. get_or xs r v) c.reserve.ensures.items in
    ap in_runs (done ∙ ap (λ xs. insert (slice_set xs r c.take_half.new.run) (r + 1) c.in-Ok.tail) c.reserve.ensures.items)
    ∙ parted-in rs r v c.take_half.new.run c.in-Ok.tail c.requires.within (sym (ap (λ w. w.items) is) ∙ c.in-Ok.ensures.parts)

pub returns-in_default-clause-items : goal.returns-in_default-clause-items
returns-in_default-clause-items g c =
    let rs = c.args.runs.now.items in
    let r = c.args.run in
    let v = c.index_mut.result.now in
    let same : c.take_half.new.run.items ≡ c.index_mut.result.now.items = search rules in
    let is : v ≡ get_or rs r v = c.index_mut.ensures.value ∙ ap (λ xs. get_or xs r v) c.reserve.ensures.items in
    ap (λ xs. in_runs (slice_set xs r c.take_half.new.run)) c.reserve.ensures.items
    ∙ same-in rs r 0 v c.requires.within c.take_half.new.run (same ∙ ap (λ w. w.items) is)
