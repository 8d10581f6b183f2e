use Rattle.std.proofs.Common.{◌∙◌, ap, subst, arith, ◌<◌, ◌++◌, ℕ, List, map, length, get_or, take}
use Rattle.agg_model.specs.declared.key.Key.{Key}
use Rattle.std.proofs.lemmas.Option.{slice_get-get_or}
use Rattle.agg_evaluation.specs.Keys.{keys}
use Rattle.agg_evaluation.specs.Rows.{row_of}
use Rattle.growing_tree.specs.Codes.{code_key}
use Rattle.growing_tree.specs.Grouped.{AreGroups, pairs_of}
use Rattle.growing_tree.proofs.Codes.{codes-own}
use Rattle.growing_tree.proofs.Grouping.{rows-more}
use Rattle.growing_tree.proofs.groups.group_rows.Goals as goal

pub loop-row-preserved : goal.loop-row-preserved
loop-row-preserved c =
    let shard = c.args.shard.now in
    let kind = c.args.kind.now in
    let items = c.args.rows.now in
    let i = c.loop-row.row-index in
    let row = get_or items i 0 in
    let key_of = code_key shard c.args.ready.now in
    let own = codes-own shard kind c.args.ready.now c.requires.ready in
    let l : i < length items = omega (arith, c.loop-row-test.true) in
    let keys_of : ℕ → List Key = λ n. keys shard.rows kind (row_of shard.rows n) in
    let now = c.in_ok-add_all.ensures.groups key_of own _ c.loop-row.invariant in
    subst (λ ps. AreGroups key_of ps c.add_all.new.places c.add_all.new.groups.items)
    (ap (λ ks. pairs_of keys_of (take i items) ++ map (λ k. (k, row)) ks) (ap (map key_of) c.as_slice.ensures.value ∙ c.in_ok-row_codes.ensures) ∙ rows-more keys_of items i row (slice_get-get_or items i 0 l)) now
