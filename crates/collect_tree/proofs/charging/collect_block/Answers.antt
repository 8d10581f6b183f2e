use Rattle.std.proofs.Common.{◌≡◌, ◌+◌, ℕ, List, pos, length, take, sym, ◌∙◌, ap, subst, arith}
use Rattle.std.proofs.lemmas.Result.{err_from_is_err_and}
use Rattle.agg_evaluation.specs.Cost.{cost}
use Rattle.agg_evaluation.specs.Trace.{built}
use Rattle.growth_laws.specs.Amounts.{amounts}
use Rattle.collect_tree.specs.Blocks.{AreCosts, before_root}
use Rattle.collect_tree.specs.Room.{HoldsTask}
use Rattle.collect_tree.specs.Stops.{PaysOn}
use Rattle.collect_tree.proofs.Amounting.{held-sum}
use Rattle.collect_tree.proofs.Rooms.{low, tree-room}
use Rattle.collect_tree.proofs.Tops.{grown-bytes}
use Rattle.collect_tree.proofs.charging.collect_block.Goals as goal

pub overflow_add-held : goal.overflow_add-held
overflow_add-held c =
    let shard = c.args.shard.now in
    let search = c.args.search.now in
    let n = before_root search shard.rows c.args.phase c.args.first in
    let is = grown-bytes shard search n c.args.growth.now c.requires.grown in
    let tree = tree-room shard search c.requires.made c.requires.held.ceiling c.requires.held.is n in
    let top = low shard search c.requires.made c.requires.held.ceiling c.requires.held.is in
    omega (arith, is, tree, top)

pub collect-requires-clause-ceiling : goal.collect-requires-clause-ceiling
collect-requires-clause-ceiling c = (c.requires.held.ceiling, c.requires.held.is)

pub returns-in_default-clause-stopped : goal.returns-in_default-clause-stopped
returns-in_default-clause-stopped c =
    let shard = c.args.shard.now in
    let search = c.args.search.now in
    let n = before_root search shard.rows c.args.phase c.args.first in
    let is = grown-bytes shard search n c.args.growth.now c.requires.grown in
    λ v paid. (n + 1, c.give_up.ensures.up v (take (n + 1) (amounts search shard.rows)) paid (ap (λ (b : ℕ). pos (4096 + b)) is ∙ held-sum search shard.rows n (omega (arith, c.requires.within))))

pub charge_block-requires-clause-before : goal.charge_block-requires-clause-before
charge_block-requires-clause-before c =
    let n = before_root c.args.search.now c.args.shard.now.rows c.args.phase c.args.first in
    ap (λ (b : ℕ). 4096 + b) (grown-bytes c.args.shard.now c.args.search.now n c.args.growth.now c.requires.grown)

pub charge_block-requires-clause-costs : goal.charge_block-requires-clause-costs
charge_block-requires-clause-costs c =
    let all = c.args.shard.now.rows in
    let search = c.args.search.now in
    let n = before_root search all c.args.phase c.args.first in
    let costs = c.in-Ok.ensures.costs in
    subst (λ (xs : List ℕ). AreCosts search all n (length xs) xs) (sym c.as_slice.ensures.value) (subst (λ (m : ℕ). AreCosts search all n m c.in-Ok.costs.items) (sym costs.many) costs)

pub charge_block-requires-clause-within : goal.charge_block-requires-clause-within
charge_block-requires-clause-within c =
    let costs = c.in-Ok.ensures.costs in
    let many = costs.many in
    let same = ap (λ (xs : List ℕ). length xs) c.as_slice.ensures.value in
    omega (arith, many, same, c.requires.within)

pub returns-clause-grown : goal.returns-clause-grown
returns-clause-grown c = c.in-Ok.ensures.grown

pub returns-clause-held : goal.returns-clause-held
returns-clause-held c =
    let shard = c.args.shard.now in
    let search = c.args.search.now in
    let n = before_root search shard.rows c.args.phase c.args.first in
    let grown = c.in-Ok.ensures.grown in
    let costs = c.in-Ok.ensures.costs in
    let many : length c.as_slice.result.now ≡ length c.args.rows.now = ap (λ (xs : List ℕ). length xs) c.as_slice.ensures.value ∙ costs.many in
    subst (λ (h : ℕ). HoldsTask shard search h c.charge_block.new.pass.view)
    (ap (λ (k : ℕ). 4096 + cost (built search shard.rows (n + k))) many ∙ ap (λ (b : ℕ). 4096 + b) (sym (grown-bytes shard search (n + length c.args.rows.now) c.collect.new.self grown))) c.in_ok-charge_block.ensures.held

pub returns-clause-paid : goal.returns-clause-paid
returns-clause-paid c =
    let shard = c.args.shard.now in
    let search = c.args.search.now in
    let n = before_root search shard.rows c.args.phase c.args.first in
    let costs = c.in-Ok.ensures.costs in
    let many : length c.as_slice.result.now ≡ length c.args.rows.now = ap (λ (xs : List ℕ). length xs) c.as_slice.ensures.value ∙ costs.many in
    subst (λ (k : ℕ). PaysOn c.args.words.now.limits (amounts search shard.rows) n (n + k) c.args.pass.now.view c.charge_block.new.pass.view) many c.in_ok-charge_block.ensures.paid

pub returns-in_err-charge_block-clause-stopped : goal.returns-in_err-charge_block-clause-stopped
returns-in_err-charge_block-clause-stopped c =
    let p = err_from_is_err_and c.from_residual.result c.from_residual.ensures.1 in
    rw (p.1, p.2) (λ v paid. c.in_err-charge_block.ensures.stopped v paid)
