use Rattle.std.proofs.Common.{◌≡◌, ◌<◌, ◌≤◌, ◌+◌, ◌∙◌, ◌∷◌, [], ◌++◌, List, sym, ap, subst, arith, rules, length, map, drop, get_or, IfOk, w64, to_z, of_z}
use Rattle.std.specs.Vec.Iter.{into_iter_items}
use Rattle.std.proofs.lemmas.Int.{to_z-of_z}
use Rattle.std.specs.Prelude.{sum_by}
use Rattle.list_laws.proofs.Lists.{append-nil}
use Rattle.agg_evaluation.specs.Orders.{bucket_count}
use Rattle.agg_model.specs.declared.aggregation.Agg.{out-Agg}
use Rattle.agg_model.specs.declared.key.Key.TheVariants as key
use Rattle.agg_model.specs.declared.partial.Bucket.{Bucket}
use Rattle.agg_model.specs.declared.partial.Node.{Node}
use Rattle.agg_model.specs.declared.partial.Node.TheVariants.{Keyed, Fixed, Number}
use Rattle.agg_evaluation.specs.Shard.{sorted_by_key}
use Rattle.growth_laws.specs.Cutting.{cut_tree}
use Rattle.terms_agg.specs.Trim.{trimmed_some}
use Rattle.growing_tree.specs.Codes.{code_key}
use Rattle.growing_tree.specs.Decoded.{decoded}
use Rattle.growing_tree.specs.Finished.{finished_bucket, finished_children, finished_with}
use Rattle.growing_tree.specs.CodedBuckets.{code_order, coded_bucket}
use Rattle.growing_tree.specs.Trees.{IsAligned, coded_buckets, counter_buckets, level_node, measured_buckets, numbered_buckets}
use Rattle.growing_tree.specs.declared.ready.Ready.{out-Ready}
use Rattle.growing_tree.specs.declared.tree.Level.TheVariants.{Keyed as KeyedLevel, Measured as MeasuredLevel}
use Rattle.growing_tree.specs.Measures.{measures_of}
use Rattle.growing_tree.proofs.AggSizes.{children_less, item-most}
use Rattle.growing_tree.proofs.Codes.{codes-own}
use Rattle.growing_tree.proofs.CountersChosen.{counted-apart}
use Rattle.growing_tree.proofs.Cuts.{child-finished, drop-full, fixed-finished, keyed-finished, number-finished, numbered-more}
use Rattle.growing_tree.proofs.Levels.{children-ready, level-ready}
use Rattle.growing_tree.proofs.Frequents.{chosen-within, finished-rows, suffices-cut, terms-cut}
use Rattle.growing_tree.proofs.Reordered.{finished-more, keys-apart}
use Rattle.growing_tree.proofs.Steps.{item-at}
use Rattle.growing_tree.proofs.finishing.+finish.Goals as goal

pub finish_children-finish-requires : goal.finish_children-finish-requires
finish_children-finish-requires t c =
    let place = c.loop-place.place in
    let aggs = c.args.aggs.now in
    let ready = c.args.ready.now in
    let a = c.index-as_slice-place.result in
    let r = c.index-as_slice-place-in-loop-place.result in
    let below : place < length aggs = omega (arith, c.loop-place-test.true, c.len-place-end.ensures) in
    let within : place < length ready = omega (arith, below, c.if-len.false, c.len.ensures, c.len-2.ensures) in
    let a_get = c.index-as_slice-place.is ∙ ap (λ xs. get_or xs place a) c.as_slice.ensures in
    let r_get = c.index-as_slice-place-in-loop-place.is ∙ ap (λ xs. get_or xs place r) c.as_slice-in-loop-place.ensures in
    let less = item-most aggs place a below a_get in
    (omega (arith, c.decreases, less), (c.requires.ready place a r (item-at aggs place a below a_get) (item-at ready place r within r_get), c.requires.built))

pub finish_children-loop-place-preserved : goal.finish_children-loop-place-preserved
finish_children-loop-place-preserved t c =
    let shard = c.args.shard.now in
    let place = c.loop-place.place in
    let aggs = c.args.aggs.now in
    let ready = c.args.ready.now in
    let nodes = c.loop-place.nodes in
    let a = c.index-as_slice-place.result in
    let r = c.index-as_slice-place-in-loop-place.result in
    let below : place < length aggs = omega (arith, c.loop-place-test.true, c.len-place-end.ensures) in
    let within : place < length ready = omega (arith, below, c.if-len.false, c.len.ensures, c.len-2.ensures) in
    let a_get = item-at aggs place a below (c.index-as_slice-place.is ∙ ap (λ xs. get_or xs place a) c.as_slice.ensures) in
    let r_get = item-at ready place r within (c.index-as_slice-place-in-loop-place.is ∙ ap (λ xs. get_or xs place r) c.as_slice-in-loop-place.ensures) in
    let next = into_iter_items c.next.new.self in
    let steps = c.in-Some.ensures.items in
    (record {
      rest =
          ap (λ xs. xs ++ finished_children shard (drop (place + 1) aggs) (drop (place + 1) ready) next) (c.in_ok-push.ensures.ok ∙ ap (λ (x : Node). nodes ++ x ∷ []) c.in_ok-node.ensures.node)
          ∙ child-finished shard nodes aggs ready place a r c.in-Some.tree next a_get r_get
          ∙ ap (λ ns. nodes ++ finished_children shard (drop place aggs) (drop place ready) ns) (sym steps) ∙ c.loop-place.invariant.rest;
      many = omega (arith, ap (λ (ns : List Node). length ns) steps, c.loop-place.invariant.many);
    })

pub finish_children-returns : goal.finish_children-returns
finish_children-returns t c =
    let shard = c.args.shard.now in
    let place = c.loop-place.place in
    let aggs = c.args.aggs.now in
    let ready = c.args.ready.now in
    let nodes = c.loop-place.nodes in
    let left = into_iter_items c.loop-place.left in
    let all : length aggs ≤ place = omega (arith, c.loop-place-test.false, c.len-place-end.ensures) in
    let both : length ready ≤ place = omega (arith, all, c.if-len.false, c.len.ensures, c.len-2.ensures) in
    let none : length left ≤ 0 = omega (arith, all, c.loop-place.invariant.many) in
    (record {
      nodes =
          sym (append-nil nodes)
          ∙ sym (λ j. nodes ++ finished_children shard (drop-full aggs place all j) (drop-full ready place both j) (drop-full left 0 none j)) ∙ c.loop-place.invariant.rest;
    })

pub finish_coded-loop-coded-preserved : goal.finish_coded-loop-coded-preserved
finish_coded-loop-coded-preserved t c =
    let shard = c.args.shard.now in
    let a = c.args.agg.now in
    let r = c.args.ready.now in
    let done = c.loop-coded.finished.items in
    let coded = c.in-Some.coded in
    let next = into_iter_items c.next.new.self in
    let finish = finished_bucket shard a r in
    let kind = (out-Ready r).kind in
    let same : to_z w64 (of_z w64 coded.code) ≡ coded.code = to_z-of_z w64 coded.code (search rules) in
    let key_is : c.in_ok-key.key ≡ code_key shard kind coded.code = c.in_ok-key.ensures ∙ ap (code_key shard kind) same in
    (record {
      next = tt;
      finite = tt;
      rest =
          ap (λ xs. xs ++ map finish (map coded_bucket next)) (c.in_ok-push.ensures.items ∙ ap (λ (b : Bucket). done ++ b ∷ []) (c.in_ok-finish_bucket.ensures ∙ ap (λ k. finished_with shard a r k coded.bucket) key_is))
          ∙ finished-more shard a r done coded.code coded.bucket next ∙ ap (λ cs. done ++ map finish (map coded_bucket cs)) (sym c.in-Some.ensures.steps.0) ∙ c.loop-coded.invariant.rest;
    })

pub finish_fixed-loop-bucket-preserved : goal.finish_fixed-loop-bucket-preserved
finish_fixed-loop-bucket-preserved t c =
    let shard = c.args.shard.now in
    let a = c.args.agg.now in
    let r = c.args.ready.now in
    let done = c.loop-bucket.finished in
    let bucket = c.in-Some.bucket in
    let next = into_iter_items c.next.new.self in
    let finish = finished_bucket shard a r in
    let key_is : c.in_ok-key.key ≡ key.Fixed (length done) = c.in_ok-key.ensures ∙ ap key.Fixed c.len.ensures in
    (record {
      next = tt;
      finite = tt;
      rest =
          ap (λ xs. xs ++ map finish (numbered_buckets (length xs) next)) (c.in_ok-push.ensures.ok ∙ ap (λ (b : Bucket). done ++ b ∷ []) (c.in_ok-finish_bucket.ensures ∙ ap (λ k. finished_with shard a r k bucket) key_is))
          ∙ numbered-more shard a r done bucket next ∙ ap (λ gs. done ++ map finish (numbered_buckets (length done) gs)) (sym c.in-Some.ensures.steps.0) ∙ c.loop-bucket.invariant.rest;
    })

pub finish_bucket-finish_children-requires : goal.finish_bucket-finish_children-requires
finish_bucket-finish_children-requires t c =
    (omega (arith, c.decreases, children_less c.args.agg.now), (children-ready c.args.shard.now c.args.agg.now c.args.ready.now c.requires.ready, c.requires.built))

pub finish_coded-key_of_code-requires : goal.finish_coded-key_of_code-requires
finish_coded-key_of_code-requires t c = let h = (level-ready c.args.shard.now c.args.agg.now c.args.ready.now c.requires.ready).kind in record { ready = h }

pub finish-returns-in_ok-finish_fixed-in-Fixed : goal.finish-returns-in_ok-finish_fixed-in-Fixed
finish-returns-in_ok-finish_fixed-in-Fixed t c =
    let a = c.args.agg.now in
    let r = c.args.ready.now in
    let shard = c.args.shard.now in
    let bs = numbered_buckets 0 c.in-Fixed.buckets.items in
    let tree_is : Fixed bs ≡ c.args.tree = sym (ap level_node c.in-Fixed.is) ∙ c.tree.view_is in
    record { node = ap Fixed c.in_ok-finish_fixed-in-Fixed.ensures ∙ sym (fixed-finished shard a r bs) ∙ ap (λ n. cut_tree a (decoded shard r n)) tree_is }

pub finish-returns-in-Number : goal.finish-returns-in-Number
finish-returns-in-Number t c =
    let a = c.args.agg.now in
    let r = c.args.ready.now in
    let shard = c.args.shard.now in
    let tree_is : Number c.in-Number.taken ≡ c.args.tree = sym (ap level_node c.in-Number.is) ∙ c.tree.view_is in
    record { node = ap Number c.metric.ensures ∙ sym (number-finished shard a r c.in-Number.taken) ∙ ap (λ n. cut_tree a (decoded shard r n)) tree_is }

pub finish_chosen-finish_level-requires : goal.finish_chosen-finish_level-requires
finish_chosen-finish_level-requires t c =
    let finish = finished_bucket c.args.shard.now c.args.agg.now c.args.ready.now in
    let by = code_order (out-Agg c.args.agg.now).kind in
    let made = ap (sum_by bucket_count) (c.in_ok-buckets.ensures ∙ ap (λ cs. map finish (map coded_bucket cs)) c.in_ok-sort_by_code.ensures) in
    let rows = finished-rows c.args.shard.now c.args.agg.now c.args.ready.now by c.args.chosen.coded.items in
    let within = c.requires.within in
    omega (arith, rows, made, within)

pub finish_chosen-trim_some-requires : goal.finish_chosen-trim_some-requires
finish_chosen-trim_some-requires t c =
    let finish = finished_bucket c.args.shard.now c.args.agg.now c.args.ready.now in
    let by = code_order (out-Agg c.args.agg.now).kind in
    let made = ap (sum_by bucket_count) (c.in_ok-buckets.ensures ∙ ap (λ cs. map finish (map coded_bucket cs)) c.in_ok-sort_by_code.ensures) in
    let rows = finished-rows c.args.shard.now c.args.agg.now c.args.ready.now by c.args.chosen.coded.items in
    let within = c.requires.within in
    omega (arith, rows, made, within)

pub finish_chosen-returns-then-is_terms : goal.finish_chosen-returns-then-is_terms
finish_chosen-returns-then-is_terms t c = record {
  node = λ all chosen apart.
      let a = c.args.agg.now in
      let r = c.args.ready.now in
      let shard = c.args.shard.now in
      let kept = c.args.chosen.coded.items in
      let total = c.args.chosen.total in
      let finish = finished_bucket shard a r in
      let by = code_order (out-Agg a).kind in
      let made = c.in_ok-buckets.ensures ∙ ap (λ cs. map finish (map coded_bucket cs)) c.in_ok-sort_by_code.ensures in
      let is : trimmed_some a total c.in_ok-buckets.buckets.items ≡ cut_tree a (decoded shard r (Keyed all 0 0 0)) =
      ap (trimmed_some a total) made
      ∙ terms-cut shard a r all kept apart chosen.suffices by total (sym c.is_terms.ensures ∙ c.if-is_terms.true)
      ∙ suffices-cut shard a r all kept apart chosen.suffices by total
      ∙ ap (λ n. trimmed_some a n (sorted_by_key (map finish all))) chosen.total_is ∙ sym (keyed-finished shard a r all) in
      subst (λ (m : Node). IfOk c.trim_some.result (λ n. n ≡ m)) is c.trim_some.ensures;
}

pub finish_chosen-returns : goal.finish_chosen-returns
finish_chosen-returns t c = record {
  node = λ all chosen apart.
      let a = c.args.agg.now in
      let r = c.args.ready.now in
      let shard = c.args.shard.now in
      let kept = c.args.chosen.coded.items in
      let total = c.args.chosen.total in
      let finish = finished_bucket shard a r in
      let by = code_order (out-Agg a).kind in
      let made = c.in_ok-buckets.ensures ∙ ap (λ cs. map finish (map coded_bucket cs)) c.in_ok-sort_by_code.ensures in
      let is : trimmed_some a total (sorted_by_key c.in_ok-buckets.buckets.items) ≡ cut_tree a (decoded shard r (Keyed all 0 0 0)) =
      ap (λ bs. trimmed_some a total (sorted_by_key bs)) made
      ∙ suffices-cut shard a r all kept apart chosen.suffices by total
      ∙ ap (λ n. trimmed_some a n (sorted_by_key (map finish all))) chosen.total_is ∙ sym (keyed-finished shard a r all) in
      subst (λ (m : Node). IfOk c.finish_level.result (λ n. n ≡ m)) is c.finish_level.ensures;
}

pub finish-finish_chosen-requires : goal.finish-finish_chosen-requires
finish-finish_chosen-requires t c =
    let within = chosen-within (out-Agg c.args.agg.now).kind (coded_buckets c.in-Keyed.keyed.places c.in-Keyed.keyed.buckets.items) c.in_ok-chosen-in-Keyed.chosen c.in_ok-chosen-in-Keyed.ensures in
    (omega (arith, c.decreases), (c.requires.ready, (c.requires.built, within)))

pub finish-finish_chosen-requires-in-Measured : goal.finish-finish_chosen-requires-in-Measured
finish-finish_chosen-requires-in-Measured t c =
    let m = c.in-Measured.measured in
    let within = chosen-within (out-Agg c.args.agg.now).kind (measured_buckets m.places (measures_of m)) c.in_ok-chosen-in-Measured.chosen c.in_ok-chosen-in-Measured.ensures in
    (omega (arith, c.decreases), (c.requires.ready, (c.requires.built, within)))

pub finish-finish_chosen-requires-in-Counts : goal.finish-finish_chosen-requires-in-Counts
finish-finish_chosen-requires-in-Counts t c =
    let within = chosen-within (out-Agg c.args.agg.now).kind (counter_buckets 0 c.in-Counts.counts) c.in_ok-chosen-in-Counts.chosen c.in_ok-chosen-in-Counts.ensures in
    (omega (arith, c.decreases), (c.requires.ready, (c.requires.built, within)))

pub finish-returns-in_ok-chosen-in-Keyed : goal.finish-returns-in_ok-chosen-in-Keyed
finish-returns-in_ok-chosen-in-Keyed t c =
    let a = c.args.agg.now in
    let r = c.args.ready.now in
    let shard = c.args.shard.now in
    let k = c.in-Keyed.keyed in
    let all = coded_buckets k.places k.buckets.items in
    let own = codes-own shard (out-Agg a).kind (out-Ready r).kind (level-ready shard a r c.requires.ready).kind in
    let aligned : IsAligned (KeyedLevel k) = subst IsAligned c.in-Keyed.is c.tree.invariant in
    let apart = keys-apart shard a r (λ g. g.count) (λ g. g.children.items) own k.places k.buckets.items aligned.distinct in
    let tree_is : Keyed all 0 0 0 ≡ c.args.tree = sym (ap level_node c.in-Keyed.is) ∙ c.tree.view_is in
    record { node = subst (λ n. IfOk c.finish_chosen.result (λ m. m ≡ cut_tree a (decoded shard r n))) tree_is (c.finish_chosen.ensures.node all c.in_ok-chosen-in-Keyed.ensures apart) }

pub finish-returns-in_ok-chosen-in-Measured : goal.finish-returns-in_ok-chosen-in-Measured
finish-returns-in_ok-chosen-in-Measured t c =
    let a = c.args.agg.now in
    let r = c.args.ready.now in
    let shard = c.args.shard.now in
    let m = c.in-Measured.measured in
    let all = measured_buckets m.places (measures_of m) in
    let own = codes-own shard (out-Agg a).kind (out-Ready r).kind (level-ready shard a r c.requires.ready).kind in
    let aligned : IsAligned (MeasuredLevel m) = subst IsAligned c.in-Measured.is c.tree.invariant in
    let apart = keys-apart shard a r (λ g. g.count) (λ g. map Number g.metrics) own m.places (measures_of m) aligned.distinct in
    let tree_is : Keyed all 0 0 0 ≡ c.args.tree = sym (ap level_node c.in-Measured.is) ∙ c.tree.view_is in
    record { node = subst (λ n. IfOk c.finish_chosen-in-Measured.result (λ m. m ≡ cut_tree a (decoded shard r n))) tree_is (c.finish_chosen-in-Measured.ensures.node all c.in_ok-chosen-in-Measured.ensures apart) }

pub finish-returns-in_ok-chosen-in-Counts : goal.finish-returns-in_ok-chosen-in-Counts
finish-returns-in_ok-chosen-in-Counts t c =
    let a = c.args.agg.now in
    let r = c.args.ready.now in
    let shard = c.args.shard.now in
    let all = counter_buckets 0 c.in-Counts.counts in
    let own = codes-own shard (out-Agg a).kind (out-Ready r).kind (level-ready shard a r c.requires.ready).kind in
    let apart = counted-apart shard a r own 0 c.in-Counts.counts in
    let tree_is : Keyed all 0 0 0 ≡ c.args.tree = sym (ap level_node c.in-Counts.is) ∙ c.tree.view_is in
    record { node = subst (λ n. IfOk c.finish_chosen-in-Counts.result (λ m. m ≡ cut_tree a (decoded shard r n))) tree_is (c.finish_chosen-in-Counts.ensures.node all c.in_ok-chosen-in-Counts.ensures apart) }
