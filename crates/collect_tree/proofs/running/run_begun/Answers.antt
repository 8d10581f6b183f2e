use Rattle.std.proofs.Common.{◌≡◌, ℕ, ◌+◌, pos, take, sym, ◌∙◌, ap, subst, arith}
use Rattle.growth_laws.specs.Amounts.{amounts}
use Rattle.collect_tree.specs.Room.{HoldsTask}
use Rattle.collect_tree.proofs.Amounting.{held-sum}
use Rattle.collect_tree.proofs.Rooms.{low, tree-room}
use Rattle.collect_tree.proofs.Tops.{grown-bytes}
use Rattle.collect_tree.proofs.running.run_begun.Goals as goal

pub overflow_add-held : goal.overflow_add-held
overflow_add-held c =
    let shard = c.args.shard.now in
    let search = c.args.search.now in
    let tree = tree-room shard search c.requires.made c.requires.held.ceiling c.requires.held.is 0 in
    let top = low shard search c.requires.made c.requires.held.ceiling c.requires.held.is in
    omega (arith, c.requires.bytes, tree, top)

pub returns-in_default-clause-stopped : goal.returns-in_default-clause-stopped
returns-in_default-clause-stopped c =
    let search = c.args.search.now in
    let rows = c.args.shard.now.rows in
    λ v paid. (1, c.give_up.ensures.up v (take 1 (amounts search rows)) paid (ap (λ (b : ℕ). pos (4096 + b)) c.requires.bytes ∙ held-sum search rows 0 (omega arith)))

pub collect_and_finish-requires-clause-held : goal.collect_and_finish-requires-clause-held
collect_and_finish-requires-clause-held c =
    let shard = c.args.shard.now in
    let search = c.args.search.now in
    let same : c.args.bytes ≡ c.in-Ok.growth.bytes = c.requires.bytes ∙ sym (grown-bytes shard search 0 c.in-Ok.growth c.in-Ok.ensures.grown) in
    subst (λ (b : ℕ). HoldsTask shard search (4096 + b) c.args.pass.now.view) same c.requires.held
