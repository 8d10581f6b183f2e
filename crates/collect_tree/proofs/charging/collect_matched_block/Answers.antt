use Rattle.std.proofs.Common.{◌≡◌, ◌+◌, ◌≤◌, ℕ, List, pos, length, take, sym, ◌∙◌, ap, subst, arith}
use Rattle.std.proofs.lemmas.Result.{err_from_is_err_and}
use Rattle.agg_evaluation.specs.Matching.{matches}
use Rattle.agg_evaluation.specs.Rows.{roots}
use Rattle.growth_laws.specs.Amounts.{amounts, row_count}
use Rattle.collect_tree.specs.Blocks.{IsBlock}
use Rattle.collect_tree.specs.Grown.{HasGrown}
use Rattle.collect_tree.specs.Stops.{PaysOn}
use Rattle.collect_tree.specs.declared.phase.Phase.TheVariants.{Matched}
use Rattle.collect_tree.proofs.Amounting.{held-sum}
use Rattle.collect_tree.proofs.Counting.{count-few}
use Rattle.collect_tree.proofs.Listing.{matched-within}
use Rattle.collect_tree.proofs.Rooms.{low, tree-room}
use Rattle.collect_tree.proofs.Tops.{grown-bytes, on-ok}
use Rattle.collect_tree.proofs.charging.collect_matched_block.Goals as goal

pub overflow_add-held : goal.overflow_add-held
overflow_add-held c =
    let shard = c.args.shard.now in
    let search = c.args.search.now in
    let is = grown-bytes shard search c.args.hits c.args.growth.now c.requires.grown in
    let tree = tree-room shard search c.requires.made c.requires.held.ceiling c.requires.held.is c.args.hits in
    let top = low shard search c.requires.made c.requires.held.ceiling c.requires.held.is in
    omega (arith, is, tree, top)

pub returns-then-is_err-clause-stopped : goal.returns-then-is_err-clause-stopped
returns-then-is_err-clause-stopped c =
    let shard = c.args.shard.now in
    let search = c.args.search.now in
    let n = c.args.hits in
    let is = grown-bytes shard search n c.args.growth.now c.requires.grown in
    let within : n ≤ row_count search shard.rows = (let few = matched-within search shard.rows c.args.start in omega (arith, few, c.requires.hits)) in
    λ v paid. (n + 1, c.give_up.ensures.up v (take (n + 1) (amounts search shard.rows)) paid (ap (λ (b : ℕ). pos (4096 + b)) is ∙ held-sum search shard.rows n within))

pub collect_block-requires-clause-block : goal.collect_block-requires-clause-block
collect_block-requires-clause-block c =
    let shard = c.args.shard.now in
    let search = c.args.search.now in
    let listed = on-ok c.list_matched.result (sym c.is_err.ensures.value ∙ c.if-is_err.false) c.list_matched.ensures.block in
    subst (λ (xs : List ℕ). IsBlock shard search Matched c.args.hits xs) (sym c.as_slice.ensures.value) (subst (λ (h : ℕ). IsBlock shard search Matched h c.list_matched.new.rows.items) (sym c.requires.hits) listed)

pub collect_block-requires-clause-within : goal.collect_block-requires-clause-within
collect_block-requires-clause-within c =
    let many = on-ok c.list_matched.result (sym c.is_err.ensures.value ∙ c.if-is_err.false) c.list_matched.ensures.many in
    let same = ap (λ (xs : List ℕ). length xs) c.as_slice.ensures.value in
    let few = matched-within c.args.search.now c.args.shard.now.rows c.args.end in
    omega (arith, many, same, few, c.requires.hits)

pub overflow_add-more : goal.overflow_add-more
overflow_add-more c =
    let many = on-ok c.list_matched.result (sym c.is_err.ensures.value ∙ c.if-is_err.false) c.list_matched.ensures.many in
    let few = count-few (matches c.args.shard.now.rows c.args.search.now.query) (roots c.args.shard.now.rows) c.args.end in
    omega (arith, many, few, c.requires.hits, c.len.ensures, c.list_matched.new.rows.ok)

pub returns-clause-hits : goal.returns-clause-hits
returns-clause-hits c =
    let many = on-ok c.list_matched.result (sym c.is_err.ensures.value ∙ c.if-is_err.false) c.list_matched.ensures.many in
    omega (arith, many, c.requires.hits, c.len.ensures, c.list_matched.new.rows.ok)

pub returns-clause-grown : goal.returns-clause-grown
returns-clause-grown c =
    let same : length c.as_slice.result.now ≡ c.len.result = (let is = ap (λ (xs : List ℕ). length xs) c.as_slice.ensures.value in omega (arith, is, c.len.ensures, c.list_matched.new.rows.ok)) in
    subst (λ (n : ℕ). HasGrown c.args.shard.now c.args.search.now (c.args.hits + n) c.collect_block.new.growth) same c.in_ok-collect_block.ensures.grown

pub returns-clause-paid : goal.returns-clause-paid
returns-clause-paid c =
    let same : length c.as_slice.result.now ≡ c.len.result = (let is = ap (λ (xs : List ℕ). length xs) c.as_slice.ensures.value in omega (arith, is, c.len.ensures, c.list_matched.new.rows.ok)) in
    subst (λ (n : ℕ). PaysOn c.args.words.now.limits (amounts c.args.search.now c.args.shard.now.rows) c.args.hits (c.args.hits + n) c.args.pass.now.view c.collect_block.new.pass.view) same c.in_ok-collect_block.ensures.paid

pub returns-in_err-collect_block-clause-stopped : goal.returns-in_err-collect_block-clause-stopped
returns-in_err-collect_block-clause-stopped c =
    let p = err_from_is_err_and c.from_residual.result c.from_residual.ensures.1 in
    rw (p.1, p.2) (λ v paid. c.in_err-collect_block.ensures.stopped v paid)
