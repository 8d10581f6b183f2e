use Rattle.std.proofs.Common.{◌≡◌, ◌+◌, ◌≤◌, ℕ, List, pos, length, take, sym, ◌∙◌, ap, subst, arith}
use Rattle.std.proofs.lemmas.Result.{err_from_is_err_and}
use Rattle.growth_laws.specs.Amounts.{amounts, row_count}
use Rattle.collect_tree.specs.Blocks.{IsBlock}
use Rattle.collect_tree.specs.Grown.{HasGrown}
use Rattle.collect_tree.specs.Phases.{collected_before}
use Rattle.collect_tree.specs.Stops.{PaysOn}
use Rattle.collect_tree.specs.declared.phase.Phase.TheVariants.{Global}
use Rattle.collect_tree.proofs.Amounting.{held-sum}
use Rattle.collect_tree.proofs.Listing.{global-within}
use Rattle.collect_tree.proofs.Rooms.{low, tree-room}
use Rattle.collect_tree.proofs.Tops.{grown-bytes, on-ok}
use Rattle.collect_tree.proofs.charging.collect_global_block.Goals as goal

pub overflow_add-held : goal.overflow_add-held
overflow_add-held c =
    let shard = c.args.shard.now in
    let search = c.args.search.now in
    let n = collected_before search shard.rows Global c.args.start in
    let is = grown-bytes shard search n c.args.growth.now c.requires.grown in
    let tree = tree-room shard search c.requires.made c.requires.held.ceiling c.requires.held.is n in
    let top = low shard search c.requires.made c.requires.held.ceiling c.requires.held.is in
    omega (arith, is, tree, top)

pub returns-then-is_err-clause-stopped : goal.returns-then-is_err-clause-stopped
returns-then-is_err-clause-stopped c =
    let shard = c.args.shard.now in
    let search = c.args.search.now in
    let n = collected_before search shard.rows Global c.args.start in
    let is = grown-bytes shard search n c.args.growth.now c.requires.grown in
    let within : n ≤ row_count search shard.rows = global-within search shard.rows c.requires.global c.args.start (omega (arith, c.requires.order, c.requires.within)) in
    λ v paid. (n + 1, c.give_up.ensures.up v (take (n + 1) (amounts search shard.rows)) paid (ap (λ (b : ℕ). pos (4096 + b)) is ∙ held-sum search shard.rows n within))

pub collect_block-requires-clause-block : goal.collect_block-requires-clause-block
collect_block-requires-clause-block c =
    let listed = on-ok c.list_roots.result (sym c.is_err.ensures.value ∙ c.if-is_err.false) c.list_roots.ensures.block in
    subst (λ (xs : List ℕ). IsBlock c.args.shard.now c.args.search.now Global c.args.start xs) (sym c.as_slice.ensures.value) listed

pub collect_block-requires-clause-within : goal.collect_block-requires-clause-within
collect_block-requires-clause-within c =
    let many = on-ok c.list_roots.result (sym c.is_err.ensures.value ∙ c.if-is_err.false) c.list_roots.ensures.many in
    let same = ap (λ (xs : List ℕ). length xs) c.as_slice.ensures.value in
    let few = global-within c.args.search.now c.args.shard.now.rows c.requires.global c.args.end c.requires.within in
    omega (arith, many, same, few)

pub returns-clause-grown : goal.returns-clause-grown
returns-clause-grown c =
    let shard = c.args.shard.now in
    let search = c.args.search.now in
    let many = on-ok c.list_roots.result (sym c.is_err.ensures.value ∙ c.if-is_err.false) c.list_roots.ensures.many in
    let is = ap (λ (xs : List ℕ). length xs) c.as_slice.ensures.value in
    let end : collected_before search shard.rows Global c.args.start + length c.as_slice.result.now ≡ collected_before search shard.rows Global c.args.end = omega (arith, is, many) in
    subst (λ (n : ℕ). HasGrown shard search n c.collect_block.new.growth) end c.in_ok-collect_block.ensures.grown

pub returns-clause-paid : goal.returns-clause-paid
returns-clause-paid c =
    let shard = c.args.shard.now in
    let search = c.args.search.now in
    let many = on-ok c.list_roots.result (sym c.is_err.ensures.value ∙ c.if-is_err.false) c.list_roots.ensures.many in
    let is = ap (λ (xs : List ℕ). length xs) c.as_slice.ensures.value in
    let end : collected_before search shard.rows Global c.args.start + length c.as_slice.result.now ≡ collected_before search shard.rows Global c.args.end = omega (arith, is, many) in
    subst (λ (n : ℕ). PaysOn c.args.words.now.limits (amounts search shard.rows) (collected_before search shard.rows Global c.args.start) n c.args.pass.now.view c.collect_block.new.pass.view) end c.in_ok-collect_block.ensures.paid

pub returns-in_err-collect_block-clause-stopped : goal.returns-in_err-collect_block-clause-stopped
returns-in_err-collect_block-clause-stopped c =
    let p = err_from_is_err_and c.from_residual.result c.from_residual.ensures.1 in
    rw (p.1, p.2) (λ v paid. c.in_err-collect_block.ensures.stopped v paid)
