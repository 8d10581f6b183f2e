use Rattle.std.proofs.Common.{◌≡◌, refl, ◌<◌, List, sym, ◌∙◌, ap, subst, arith, length, get_or}
use Rattle.std.specs.Prelude.{slice_get}
use Rattle.std.proofs.lemmas.Option.{slice_get_read}
use Rattle.agg_model.specs.declared.aggregation.Agg.{Agg}
use Rattle.agg_evaluation.specs.Whole.{empty_node}
use Rattle.shard_columns.specs.Made.{IsAggFor}
use Rattle.collect_tree.specs.Tops.{IsTopFor, top_node}
use Rattle.collect_tree.proofs.Tops.{Each, each-pushed}
use Rattle.collect_tree.proofs.growth.begin_trees.Goals as goal

pub begin-requires-clause-made : goal.begin-requires-clause-made
begin-requires-clause-made c =
    let place = c.loop-place.place in
    let aggs = c.args.aggs.now in
    let a = c.index-as_slice-place.result in
    let below : place < length aggs = omega (arith, c.loop-place-test.true, c.len-place-end.ensures) in
    let is : a ≡ get_or aggs place a = c.index-as_slice-place.is ∙ ap (λ (xs : List Agg). get_or xs place a) c.as_slice.ensures in
    subst (IsAggFor c.args.shard.now) (sym is) (c.requires.made place a below)

pub loop-place-preserved : goal.loop-place-preserved
loop-place-preserved c =
    let shard = c.args.shard.now in
    let place = c.loop-place.place in
    let aggs = c.args.aggs.now in
    let trees = c.loop-place.trees.items in
    let a = c.index-as_slice-place.result in
    let many : length trees ≡ place = c.loop-place.invariant.many in
    let below : place < length aggs = omega (arith, c.loop-place-test.true, c.len-place-end.ensures) in
    let is : a ≡ get_or aggs place a = c.index-as_slice-place.is ∙ ap (λ (xs : List Agg). get_or xs place a) c.as_slice.ensures in
    let at = ap (slice_get aggs) many ∙ slice_get_read aggs (length aggs) place a refl below is in
    (record {
      ready = subst (Each (λ n b t. IsTopFor shard b t) aggs) (sym c.in_ok-push.ensures.items)
          (each-pushed (λ n b t. IsTopFor shard b t) aggs trees a c.in_ok-tree.tree at c.in_ok-tree.ensures.ready c.loop-place.invariant.ready);
      nodes = subst (Each (λ n b t. top_node shard t ≡ empty_node b) aggs) (sym c.in_ok-push.ensures.items)
          (each-pushed (λ n b t. top_node shard t ≡ empty_node b) aggs trees a c.in_ok-tree.tree at c.in_ok-tree.ensures.node c.loop-place.invariant.nodes);
      many = let l = c.in_ok-push.ensures.len in let o = c.push.new.self.ok in let b = c.loop-place.trees.ok in omega (arith, l, o, b, many);
    })
