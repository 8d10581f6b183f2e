use Rattle.std.proofs.Common.{ℕ, ◌+◌, pos, take, ◌∙◌, ap, subst, arith}
use Rattle.growth_laws.specs.Amounts.{amounts}
use Rattle.task_charges.specs.Charged.{HasPaid}
use Rattle.collect_tree.proofs.Amounting.{held-sum, paid-next, refused-next}
use Rattle.collect_tree.proofs.RootlessShards.{rootless-amount, rootless-amounts, rootless-answer}
use Rattle.collect_tree.proofs.Rooms.{low, tree-room}
use Rattle.collect_tree.proofs.rootless.answer_at_once.Goals as goal

pub overflow_add-held : goal.overflow_add-held
overflow_add-held c =
    let shard = c.args.shard.now in
    let search = c.args.search.now in
    let tree = tree-room shard search c.requires.made c.requires.held.ceiling c.requires.held.is 0 in
    let top = low shard search c.requires.made c.requires.held.ceiling c.requires.held.is in
    omega (arith, c.requires.bytes, tree, top)

pub returns-in_default-clause-stopped : goal.returns-in_default-clause-stopped
returns-in_default-clause-stopped c =
    let search = c.args.search.now in
    let rows = c.args.shard.now.rows in
    λ v paid. (1, c.give_up.ensures.up v (take 1 (amounts search rows)) paid (ap (λ (b : ℕ). pos (4096 + b)) c.requires.bytes ∙ held-sum search rows 0 (omega arith)))

pub settle-requires-clause-room : goal.settle-requires-clause-room
settle-requires-clause-room c =
    let tree = tree-room c.args.shard.now c.args.search.now c.requires.made c.requires.held.ceiling c.requires.held.is 0 in
    omega (arith, tree, c.requires.bytes, c.requires.held.fits)

pub returns-in-Ok-settle-clause-answer : goal.returns-in-Ok-settle-clause-answer
returns-in-Ok-settle-clause-answer c =
    (λ i. record { hits = 0; nodes = c.in-Ok.ensures i }) ∙ rootless-answer c.args.shard.now c.args.search.now c.requires.made c.requires.none

pub returns-in-Ok-settle-clause-paid : goal.returns-in-Ok-settle-clause-paid
returns-in-Ok-settle-clause-paid c =
    let shard = c.args.shard.now in
    let search = c.args.search.now in
    let l = c.args.words.now.limits in
    let here = rootless-amount shard search c.requires.made c.requires.none c.args.bytes c.requires.bytes in
    λ v paid. subst (HasPaid l v c.settle.new.pass.view) (rootless-amounts shard search c.requires.made c.requires.none)
    (paid-next l c.args.pass.now.view c.settle.new.pass.view (amounts search shard.rows) 1 (4096 + c.args.bytes) c.args.bytes here c.in-Ok-settle.ensures.ok v paid)

pub returns-in-Err-clause-stopped : goal.returns-in-Err-clause-stopped
returns-in-Err-clause-stopped c =
    let shard = c.args.shard.now in
    let search = c.args.search.now in
    let here = rootless-amount shard search c.requires.made c.requires.none c.args.bytes c.requires.bytes in
    refused-next c.args.words.now.limits c.args.pass.now.view c.settle.new.pass.view (amounts search shard.rows) 1 (4096 + c.args.bytes) c.args.bytes here c.in-Err.tripped c.in-Err.ensures.err
    (ap (λ (b : ℕ). pos (4096 + b)) c.requires.bytes ∙ held-sum search shard.rows 0 (omega arith))
