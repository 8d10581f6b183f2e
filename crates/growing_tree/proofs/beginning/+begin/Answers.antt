use Rattle.std.proofs.Common.{◌∙◌, sym, ap, subst, arith, ⊎_elim, ◌≡◌, ◌<◌, ◌++◌, ◌∷◌, [], List, length, map, get_or}
use Rattle.std.specs.Prelude.{All, slice_get}
use Rattle.std.proofs.lemmas.List.Elements.{All-push}
use Rattle.list_laws.proofs.Lists.{map-append}
use Rattle.agg_model.specs.declared.aggregation.Agg.{out-Agg}
use Rattle.agg_model.specs.declared.partial.Node.{Node}
use Rattle.agg_model.specs.declared.partial.Node.TheVariants.{Fixed, Number}
use Rattle.agg_evaluation.specs.Whole.{empty_node}
use Rattle.agg_evaluation.proofs.NodeForms.{out-Keyed, out-Fixed, out-Number}
use Rattle.growing_tree.specs.Codes.{code_key}
use Rattle.growing_tree.specs.Decoded.{decoded, decoded_children}
use Rattle.growing_tree.specs.Shown.{AreEmpty, IsEmptyBucket}
use Rattle.growing_tree.specs.declared.ready.Ready.{out-Ready}
use Rattle.growing_tree.proofs.Children.{child-begun, decoded-nil}
use Rattle.growing_tree.proofs.Empties.{empty-level, fixed-empty}
use Rattle.growing_tree.proofs.Levels.{decoded-out}
use Rattle.growing_tree.proofs.Steps.{item-at, mapped-at, take-more}
use Rattle.growing_tree.proofs.beginning.+begin.Goals as goal

pub begin_trees-loop-place-init : goal.begin_trees-loop-place-init
begin_trees-loop-place-init t c = record {
  trees = λ shard. ap (decoded_children (map (decoded shard) c.args.ready.now)) c.in_ok-trees.ensures.items ∙ decoded-nil (map (decoded shard) c.args.ready.now);
  many = ap (λ (ns : List Node). length ns) c.in_ok-trees.ensures.items;
}

pub begin_trees-loop-place-preserved : goal.begin_trees-loop-place-preserved
begin_trees-loop-place-preserved t c =
    let place = c.loop-place.place in
    let aggs = c.args.aggs.now in
    let ready = c.args.ready.now in
    let trees = c.loop-place.trees.items in
    let many : length trees ≡ place = c.loop-place.invariant.many in
    let below : place < length aggs = omega (arith, c.loop-place-test.true, c.len-place-end.ensures) in
    let within : place < length ready = omega (arith, below, c.if-len.false, c.len.ensures, c.len-2.ensures) in
    let a = c.index-as_slice-place.result in
    let r = c.index-as_slice-place-in-loop-place.result in
    let a_is = item-at aggs place a below (c.index-as_slice-place.is ∙ ap (λ xs. get_or xs place a) c.as_slice.ensures) in
    let r_is = c.index-as_slice-place-in-loop-place.is ∙ ap (λ xs. get_or xs place r) c.as_slice-in-loop-place.ensures in
    (record {
      trees = λ shard.
          ap (decoded_children (map (decoded shard) ready)) c.in_ok-push.ensures.items
          ∙ child-begun (map (decoded shard) ready) trees c.in_ok-tree.tree (decoded shard r) (ap (λ n. slice_get (map (decoded shard) ready) n) many ∙ mapped-at (decoded shard) ready place r within r_is)
          ∙ (λ i. c.loop-place.invariant.trees shard i ++ c.in_ok-tree.ensures shard i ∷ [])
          ∙ sym (ap (map empty_node) (take-more aggs place a a_is) ∙ map-append empty_node _ (a ∷ []));
      many = let l = c.in_ok-push.ensures.len in let o = c.push.new.self.ok in let b = c.loop-place.trees.ok in omega (arith, l, o, b, many);
    })

pub begin_buckets-loop-alloc-preserved : goal.begin_buckets-loop-alloc-preserved
begin_buckets-loop-alloc-preserved t c = record {
  buckets = λ shard.
      let P = IsEmptyBucket (map (decoded shard) c.args.ready.now) (map empty_node c.args.aggs.now) in
      subst (All P) (sym c.in_ok-push.ensures.items) (All-push P c.loop-alloc.buckets.items c.in_ok-bucket.bucket (c.loop-alloc.invariant.buckets shard) (record { count = c.in_ok-bucket.ensures.count; children_are = c.in_ok-bucket.ensures.children shard }));
  few = let l = c.in_ok-push.ensures.len in let o = c.push.new.self.ok in let b = c.loop-alloc.buckets.ok in omega (arith, l, o, b, c.loop-alloc-test.true, c.len.ensures);
}

pub begin-returns-in_ok-level-in-Terms : goal.begin-returns-in_ok-level-in-Terms
begin-returns-in_ok-level-in-Terms t c shard =
    ap (decoded shard c.args.ready.now) c.in_ok-level-in-Terms.ensures.node ∙ decoded-out shard c.args.ready.now _ _ (out-Keyed [] 0 0 0)
    ∙ sym (⊎_elim (λ h. empty-level c.args.agg.now _ h.9) (⊎_elim (λ h. empty-level c.args.agg.now _ h.9) (⊎_elim (λ h. empty-level c.args.agg.now _ h.9) (λ h. empty-level c.args.agg.now _ h.3))) c.in-Terms.is)

pub begin-returns-in-Sum : goal.begin-returns-in-Sum
begin-returns-in-Sum t c shard =
    let a = c.args.agg.now in
    ap (λ m. decoded shard c.args.ready.now (Number m)) c.new.ensures ∙ decoded-out shard c.args.ready.now _ _ (out-Number _)
    ∙ sym (⊎_elim (λ h. empty-level a _ h.2) (⊎_elim (λ h. empty-level a _ h.2) (⊎_elim (λ h. empty-level a _ h.2) (⊎_elim (λ h. empty-level a _ h.2) (λ h. empty-level a _ h.2)))) c.in-Sum.is)

pub begin-returns-in_ok-buckets-in-Filter : goal.begin-returns-in_ok-buckets-in-Filter
begin-returns-in_ok-buckets-in-Filter t c shard =
    let a = c.args.agg.now in
    let r = c.args.ready.now in
    decoded-out shard r _ _ (out-Fixed _)
    ∙ ap Fixed (fixed-empty (map (decoded shard) (out-Ready r).children) (code_key shard (out-Ready r).kind) (map empty_node (out-Agg a).children) 1 c.in_ok-buckets-in-Filter.buckets.items (c.in_ok-buckets-in-Filter.ensures shard))
    ∙ sym (⊎_elim (λ h. empty-level a _ h.1) (⊎_elim (λ h. empty-level a _ h.1) (⊎_elim (λ h. empty-level a _ h) (⊎_elim (λ h. empty-level a _ h.1) (λ h. empty-level a _ h.1)))) c.in-Filter.is)

pub begin-returns-in_ok-buckets-in-Filters : goal.begin-returns-in_ok-buckets-in-Filters
begin-returns-in_ok-buckets-in-Filters t c shard =
    let a = c.args.agg.now in
    let r = c.args.ready.now in
    decoded-out shard r _ _ (out-Fixed _)
    ∙ ap Fixed (fixed-empty (map (decoded shard) (out-Ready r).children) (code_key shard (out-Ready r).kind) (map empty_node (out-Agg a).children) _ c.in_ok-buckets-in-Filters.buckets.items
    (subst (λ n. AreEmpty (map (decoded shard) (out-Ready r).children) (map empty_node (out-Agg a).children) n c.in_ok-buckets-in-Filters.buckets.items) c.in_ok-count-in-Filters.ensures (c.in_ok-buckets-in-Filters.ensures shard)))
    ∙ sym (empty-level a _ c.in-Filters.is)
