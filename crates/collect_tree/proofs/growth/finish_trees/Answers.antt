use Rattle.std.proofs.Common.{◌≡◌, refl, ◌+◌, ◌<◌, ◌++◌, ◌∷◌, [], List, sym, ◌∙◌, ap, arith, length, get_or, drop}
use Rattle.std.specs.Vec.Iter.{into_iter_items}
use Rattle.std.proofs.lemmas.Option.{slice_get_read}
use Rattle.agg_model.specs.declared.aggregation.Agg.{Agg}
use Rattle.agg_model.specs.declared.partial.Node.{Node}
use Rattle.collect_tree.specs.Tops.{cut_tops}
use Rattle.collect_tree.specs.declared.top_tree.TopTree.{TopTree}
use Rattle.collect_tree.proofs.Tops.{cut-more, drop-first}
use Rattle.collect_tree.proofs.growth.finish_trees.Goals as goal

pub finish-requires-clause-ready : goal.finish-requires-clause-ready
finish-requires-clause-ready c =
    let place = c.loop-place.place in
    let aggs = c.args.aggs.now in
    let a = c.index-as_slice-place.result in
    let below : place < length aggs = omega (arith, c.loop-place-test.true, c.len-place-end.ensures) in
    let is : a ≡ get_or aggs place a = c.index-as_slice-place.is ∙ ap (λ (xs : List Agg). get_or xs place a) c.as_slice.ensures in
    let first = drop-first c.args.trees.items place c.in-Some.top (into_iter_items c.next.new.self) (sym c.loop-place.invariant.left ∙ c.in-Some.ensures.items) in
    c.requires.ready.each place a c.in-Some.top (slice_get_read aggs (length aggs) place a refl below is) first.0

pub loop-place-preserved : goal.loop-place-preserved
loop-place-preserved c =
    let shard = c.args.shard.now in
    let place = c.loop-place.place in
    let aggs = c.args.aggs.now in
    let nodes = c.loop-place.nodes in
    let a = c.index-as_slice-place.result in
    let below : place < length aggs = omega (arith, c.loop-place-test.true, c.len-place-end.ensures) in
    let is : a ≡ get_or aggs place a = c.index-as_slice-place.is ∙ ap (λ (xs : List Agg). get_or xs place a) c.as_slice.ensures in
    let at = slice_get_read aggs (length aggs) place a refl below is in
    let next = into_iter_items c.next.new.self in
    let first = drop-first c.args.trees.items place c.in-Some.top next (sym c.loop-place.invariant.left ∙ c.in-Some.ensures.items) in
    (record {
      rest =
          ap (λ (xs : List Node). xs ++ cut_tops shard (drop (place + 1) aggs) next) (c.in_ok-push.ensures.ok ∙ ap (λ (x : Node). nodes ++ x ∷ []) c.in_ok-node.ensures.node)
          ∙ cut-more shard nodes aggs place a c.in-Some.top next at
          ∙ ap (λ (ts : List TopTree). nodes ++ cut_tops shard (drop place aggs) ts) (sym c.in-Some.ensures.items) ∙ c.loop-place.invariant.rest;
      left = sym first.1;
    })
