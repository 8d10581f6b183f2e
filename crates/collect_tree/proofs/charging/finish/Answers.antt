use Rattle.std.proofs.Common.{ℕ, ◌+◌, pos, List, take, sym, ◌∙◌, ap, subst, arith}
use Rattle.std.specs.Prelude.{◌-ℤ◌, Some, sum_by}
use Rattle.agg_model.specs.declared.partial.Node.{Node}
use Rattle.agg_evaluation.specs.Cost.{node_cost}
use Rattle.growth_laws.specs.Amounts.{amounts, row_count}
use Rattle.task_charges.specs.Charged.{HasPaid}
use Rattle.collect_tree.proofs.Amounting.{all-amounts, held-sum, last-amount, paid-next, refused-next}
use Rattle.collect_tree.proofs.Rooms.{answer-room, low, tree-room}
use Rattle.collect_tree.proofs.Tops.{grown-bytes}
use Rattle.collect_tree.proofs.charging.finish.Goals as goal

pub overflow_add-held : goal.overflow_add-held
overflow_add-held c =
    let shard = c.args.shard.now in
    let search = c.args.search.now in
    let n = row_count search shard.rows in
    let is = grown-bytes shard search n c.args.growth c.requires.grown in
    let tree = tree-room shard search c.requires.made c.requires.held.ceiling c.requires.held.is n in
    let top = low shard search c.requires.made c.requires.held.ceiling c.requires.held.is in
    omega (arith, is, tree, top)

pub returns-in_default-clause-stopped : goal.returns-in_default-clause-stopped
returns-in_default-clause-stopped c =
    let shard = c.args.shard.now in
    let search = c.args.search.now in
    let n = row_count search shard.rows in
    let is = grown-bytes shard search n c.args.growth c.requires.grown in
    λ v paid. (n + 1, c.give_up.ensures.up v (take (n + 1) (amounts search shard.rows)) paid (ap (λ (b : ℕ). pos (4096 + b)) is ∙ held-sum search shard.rows n (omega arith)))

pub cost-requires : goal.cost-requires
cost-requires c =
    let shard = c.args.shard.now in
    let search = c.args.search.now in
    let same = ap (λ (ns : List Node). sum_by node_cost ns) c.in-Ok.ensures in
    let answer = answer-room shard search c.requires.made c.requires.held.ceiling c.requires.held.is in
    let top = low shard search c.requires.made c.requires.held.ceiling c.requires.held.is in
    (record { fits = omega (arith, same, answer, top) })

pub settle-requires-clause-room : goal.settle-requires-clause-room
settle-requires-clause-room c =
    let shard = c.args.shard.now in
    let search = c.args.search.now in
    let n = row_count search shard.rows in
    let same = ap (λ (ns : List Node). sum_by node_cost ns) c.in-Ok.ensures in
    let is = grown-bytes shard search n c.args.growth c.requires.grown in
    let tree = tree-room shard search c.requires.made c.requires.held.ceiling c.requires.held.is n in
    let answer = answer-room shard search c.requires.made c.requires.held.ceiling c.requires.held.is in
    omega (arith, same, is, tree, answer, c.cost.ensures, c.requires.held.fits)

pub returns-in-Ok-settle-clause-paid : goal.returns-in-Ok-settle-clause-paid
returns-in-Ok-settle-clause-paid c =
    let shard = c.args.shard.now in
    let search = c.args.search.now in
    let n = row_count search shard.rows in
    let l = c.args.words.now.limits in
    let wanted = c.cost.ensures ∙ ap (λ (ns : List Node). sum_by node_cost ns) c.in-Ok.ensures in
    let is = grown-bytes shard search n c.args.growth c.requires.grown in
    let here = last-amount search shard.rows ∙ (λ i. Some (pos (sym wanted i) -ℤ pos (4096 + sym is i))) in
    λ v paid. subst (HasPaid l v c.settle.new.pass.view) (all-amounts search shard.rows)
    (paid-next l c.args.pass.now.view c.settle.new.pass.view (amounts search shard.rows) (n + 1) (4096 + c.args.growth.bytes) c.cost.result here c.in-Ok-settle.ensures.ok v paid)

pub returns-in-Err-clause-stopped : goal.returns-in-Err-clause-stopped
returns-in-Err-clause-stopped c =
    let shard = c.args.shard.now in
    let search = c.args.search.now in
    let n = row_count search shard.rows in
    let wanted = c.cost.ensures ∙ ap (λ (ns : List Node). sum_by node_cost ns) c.in-Ok.ensures in
    let is = grown-bytes shard search n c.args.growth c.requires.grown in
    let here = last-amount search shard.rows ∙ (λ i. Some (pos (sym wanted i) -ℤ pos (4096 + sym is i))) in
    refused-next c.args.words.now.limits c.args.pass.now.view c.settle.new.pass.view (amounts search shard.rows) (n + 1) (4096 + c.args.growth.bytes) c.cost.result here c.in-Err.tripped c.in-Err.ensures.err
    (ap (λ (b : ℕ). pos (4096 + b)) is ∙ held-sum search shard.rows n (omega arith))
