use Rattle.std.proofs.Common.{◌-◌, ◌∙◌, ap, arith}
use Rattle.bulk_items.specs.Items.{refusal_in}
use Rattle.bulk_items.proofs.Ending.{kept-set, last-set}
use Rattle.bulk_items.proofs.Keeping.{length-is}
use Rattle.bulk_items.proofs.items.Items.set_last_end.Goals as goal

pub overflow_sub-last : goal.overflow_sub-last
overflow_sub-last c =
    let inside = c.self.inside in
    omega (arith, c.requires, length-is (refusal_in inside.refusals) inside.ids inside.marks.items c.self.invariant c.args.self.now c.self.view_is, c.len-last.ensures, inside.marks.ok.0)

pub index_mut-requires : goal.index_mut-requires
index_mut-requires c =
    let inside = c.self.inside in
    omega (arith, c.requires, length-is (refusal_in inside.refusals) inside.ids inside.marks.items c.self.invariant c.args.self.now c.self.view_is, c.len-last.ensures, inside.marks.ok.0)

pub invariant_of-self-2 : goal.invariant_of-self-2
invariant_of-self-2 c =
    let inside = c.self.inside in
    kept-set (refusal_in inside.refusals) (refusal_in c.settle.new.refusals) inside.ids inside.marks.items c.self.invariant c.args.self.now c.self.view_is (c.len-last.result - 1) c.requires (ap (λ n. n - 1) (c.len-last.ensures ∙ inside.marks.ok.0))
    c.index_mut.result.now c.in_ok-applied.applied c.args.end c.index_mut.ensures.value c.settle.ensures.others c.in_ok-applied.ensures.end

pub returns-clause-items : goal.returns-clause-items
returns-clause-items c =
    let inside = c.self.inside in
    last-set (refusal_in inside.refusals) (refusal_in c.settle.new.refusals) inside.ids inside.marks.items c.self.invariant c.args.self.now c.self.view_is (c.len-last.result - 1) c.requires (ap (λ n. n - 1) (c.len-last.ensures ∙ inside.marks.ok.0))
    c.index_mut.result.now c.in_ok-applied.applied c.args.end c.index_mut.ensures.value c.settle.ensures.others c.in_ok-applied.ensures.end
